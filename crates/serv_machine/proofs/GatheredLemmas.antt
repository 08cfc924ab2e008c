-- What was acted on, the replies to it that are written, and those that are not yet.
use Rattle.std.proofs.Common.{◌≡◌, ℕ, ◌+◌, ◌≤◌, List, [], ◌∷◌, ◌++◌, length, refl, sym, ap, subst, ◌∙◌, inl, inr, ⊎_elim, arith, append-nil, append_assoc, length-append}
use Rattle.std.specs.Prelude.{Option}
use Rattle.std.proofs.KnownBytes.{Appends-nil, Appends-trans}
use Rattle.std.proofs.lemmas.List.{same_from_push}
use Rattle.svc_world.specs.World.{Accepted}
use Rattle.serv_disk.specs.Faults.{AppendsPart, IsProperPrefix}
use Rattle.serv_machine.specs.declared.faults.Stop.{Stop}
use Rattle.serv_machine.specs.declared.faults.Stop.TheVariants.{WriteFault, DiskFault, OutOfMemory}
use Rattle.serv_machine.specs.History.{History, IsKeptBut, IsNear, Stand, stand, Running}
use Rattle.serv_machine.specs.OnDisk.{IsTorn, OnDisk}
use Rattle.serv_machine.specs.Sayings.{Saying, reply_to, history_after, history_after_all, bound_of, commands_of, IsFresh, bound_of_all, replies_to, MovesAll, Sticks}
use Rattle.serv_machine.specs.Answering.{AnsweredBut, Gathered, HasNone, IsHeldBack, IsReplied, IsStopped, IsWrittenBut, Leaves, NextHasNone, Writes}
use Rattle.serv_machine.proofs.NextLemmas.{no_more}
use Rattle.serv_machine.proofs.OnDiskLemmas.{disk_more}
use Rattle.serv_machine.proofs.SayingLemmas.{replies_to-push, bound_of_all-push, moves_all-append, fresh_grows, fresh_one, next_alone, history_after_all-append, store_moves, store_starves}
use Rattle.serv_disk.specs.Disks.{View}

-- ---- with what is left on a disk

module _ {D : Type 0} (view : D → View) where
  pub writes_as : (old new : D) (P Q : List Accepted → List ℕ → Type 0) (h h' : History) (held held' : Option (List ℕ)) → ((pending : List Accepted) (written : List ℕ) → P pending written → Q pending written)
      → Writes view old new P h h' held held' → Writes view old new Q h h' held held'
  writes_as old new P Q h h' held held' then w = record { pending = w.pending; written = w.written; wrote = w.wrote; says_so = then w.pending w.written w.says_so; disk = w.disk }

  -- the disk's calls before what was written
  pub writes_after : (old mid new : D) (P : List Accepted → List ℕ → Type 0) (h h1 h2 : History) (held held' : Option (List ℕ)) → OnDisk view old mid h h1 []
      → Writes view mid new P h1 h2 held held' → Writes view old new P h h2 held held'
  writes_after old mid new P h h1 h2 held held' first w =
      record { pending = w.pending; written = w.written; wrote = w.wrote; says_so = w.says_so; disk = disk_more view old mid new h h1 h2 w.pending first w.disk }

  -- what was written, and then more
  pub writes_more : (old mid new : D) (P Q R : List Accepted → List ℕ → Type 0) (h h1 h2 : History) (held held1 held2 : Option (List ℕ))
      (first : Writes view old mid P h h1 held held1) → first.pending ≡ [] → (second : Writes view mid new Q h1 h2 held1 held2)
      → R second.pending (first.written ++ second.written) → Writes view old new R h h2 held held2
  writes_more old mid new P Q R h h1 h2 held held1 held2 first none second says = record {
    pending = second.pending;
    written = first.written ++ second.written;
    wrote = Appends-trans held held1 held2 first.written second.written first.wrote second.wrote;
    says_so = says;
    disk = disk_more view old mid new h h1 h2 second.pending (subst (λ p. OnDisk view old mid h h1 p) none first.disk) second.disk;
  }

-- ---- where less is known of what comes first

module _ (First Wider : List Saying → List Saying → Type 0) (then : (done ahead : List Saying) → First done ahead → Wider done ahead) (waiting : ℕ) (s s' : Stand) where
  but_wider : (why : Stop) (pending : List Accepted) (written : List ℕ) → AnsweredBut why First waiting s s' pending written → AnsweredBut why Wider waiting s s' pending written
  but_wider why pending written is = record {
    done = is.done;
    ahead = is.ahead;
    first = then is.done is.ahead is.first;
    mid = is.mid;
    moved = is.moved;
    next = is.next;
    rest = is.rest;
    text = is.text;
    few = is.few;
  }

  pub stopped_wider : (why : Stop) (pending : List Accepted) (written : List ℕ) → IsStopped why First waiting s s' pending written → IsStopped why Wider waiting s s' pending written
  stopped_wider WriteFault pending written is =
      let cut = is.1 in
      (is.0, record { done = cut.done; last = cut.last; first = then cut.done (cut.last ∷ []) cut.first; moved = cut.moved; cut = cut.cut; late = cut.late })
  stopped_wider DiskFault pending written is = but_wider DiskFault pending written is
  stopped_wider OutOfMemory pending written is = but_wider OutOfMemory pending written is

  -- a run of the disk's calls, and the call that stops
  pub stops_after : {D : Type 0} (view : D → View) (old mid new : D) (why : Stop) (h h1 h2 : History) (held held' : Option (List ℕ))
      → OnDisk view old mid h h1 [] → Writes view mid new (IsStopped why First waiting s s') h1 h2 held held'
      → Writes view old new (IsStopped why Wider waiting s s') h h2 held held'
  stops_after view old mid new why h h1 h2 held held' first stops =
      writes_after view old mid new (IsStopped why Wider waiting s s') h h1 h2 held held' first
      (writes_as view mid new (IsStopped why First waiting s s') (IsStopped why Wider waiting s s') h1 h2 held held' (stopped_wider why) stops)

  pub stops_wider : {D : Type 0} (view : D → View) (old new : D) (why : Stop) (h h' : History) (held held' : Option (List ℕ))
      → Writes view old new (IsStopped why First waiting s s') h h' held held' → Writes view old new (IsStopped why Wider waiting s s') h h' held held'
  stops_wider view old new why h h' held held' stops = writes_as view old new (IsStopped why First waiting s s') (IsStopped why Wider waiting s s') h h' held held' (stopped_wider why) stops

-- ---- lists and texts

-- what was said last
record Ending (said : List Saying) : Type 0 where
  done : List Saying
  last : Saying
  said_are : said ≡ done ++ last ∷ []

last_of : (said : List Saying) → (said ≡ [] → ⊥) → Ending said
last_of [] some = absurd (some refl)
last_of (x ∷ []) some = record { done = []; last = x; said_are = refl }
last_of (x ∷ (y ∷ more)) some =
    let rest = last_of (y ∷ more) (λ none. cc) in
    record { done = x ∷ rest.done; last = rest.last; said_are = ap (λ l. x ∷ l) rest.said_are }

-- more is written: no less of it is late
longer : (n w : ℕ) (written part : List ℕ) → n ≤ length written + w → n ≤ length (written ++ part) + w
longer n w written part le = omega (arith, le, length-append written part)

-- a part of a text that stands after what is written
further : (written text part rest all : List ℕ) → written ++ text ≡ all → text ≡ part ++ rest → all ≡ (written ++ part) ++ rest
further written text part rest all joined is = sym joined ∙ ap (λ x. written ++ x) is ∙ sym (append_assoc written part rest)

cut_further : (written text all part : List ℕ) → written ++ text ≡ all → IsProperPrefix part text → IsProperPrefix (written ++ part) all
cut_further written text all part joined cut = record { rest = cut.rest; some = cut.some; joined = further written text part cut.rest all joined cut.joined }

-- nothing is missing where there is no reply
none_cut : (h : History) (said : List Saying) (written text part : List ℕ) → written ++ text ≡ replies_to h said → IsProperPrefix part text → said ≡ [] → ⊥
none_cut h said written text part joined cut none =
    let all : length (written ++ text) ≡ 0 = ap length joined ∙ ap (λ l. length (replies_to h l)) none in
    omega (arith, all, length-append written text, ap length cut.joined, length-append part cut.rest, cut.some)

-- none yet
pub gathered_none : (waiting : ℕ) (s : Stand) (t : Running) (held : Option (List ℕ)) (text : List ℕ) → text ≡ [] → t.held ≡ s.history → t.kept ≡ t.held → t.steps ≤ s.steps → Gathered waiting [] s t held held text
gathered_none waiting s t held text none same kept cost = record {
  moved = (same, omega (arith, cost));
  written = [];
  wrote = Appends-nil held;
  gathered = none;
  late = λ done last is. absurd (omega (arith, ap length is, length-append done (last ∷ [])));
  kept = inl kept;
}

module _ (waiting : ℕ) (said : List Saying) (s : Stand) {t : Running} {held held' : Option (List ℕ)} {text : List ℕ} (g : Gathered waiting said s t held held' text) where
  -- ---- what is begun is committed, and what is not written yet is, or a front part of it

  pub gone : (t' : Running) (held'' : Option (List ℕ)) (text' : List ℕ) → t'.held ≡ t.held → t'.kept ≡ t'.held → t'.steps ≡ t.steps → IsWrittenBut held' held'' text text' → Gathered waiting said s t' held held'' text'
  gone t' held'' text' same kept steps w = record {
    moved = (same ∙ g.moved.0, omega (arith, steps, g.moved.1));
    written = g.written ++ w.part;
    wrote = Appends-trans held held' held'' g.written w.part g.wrote w.wrote;
    gathered = sym (further g.written text w.part text' (replies_to s.history said) g.gathered w.joined);
    late = λ done last is. longer (length (replies_to s.history done)) waiting g.written w.part (g.late done last is);
    kept = inl kept;
  }

  -- the write is cut
  pub cut_short : (h' : History) (held'' : Option (List ℕ)) → h' ≡ t.held → (part : AppendsPart held' held'' text) → IsStopped WriteFault (λ done ahead. said ≡ done ++ ahead) waiting s (stand h' t.steps) [] (g.written ++ part.part)
  cut_short h' held'' same part =
      let end = last_of said (none_cut s.history said g.written text part.part g.gathered part.partial) in (
        refl,
        record {
          done = end.done;
          last = end.last;
          first = end.said_are;
          moved = subst (λ l. MovesAll l s (stand h' t.steps)) end.said_are (same ∙ g.moved.0, g.moved.1);
          cut = subst (λ l. IsProperPrefix (g.written ++ part.part) (replies_to s.history l)) end.said_are (cut_further g.written text (replies_to s.history said) part.part g.gathered part.partial);
          late = longer (length (replies_to s.history end.done)) waiting g.written part.part (g.late end.done end.last end.said_are);
        },
      )

  -- the disk fails: the command of the last one was perhaps being appended
  module _ (back : IsHeldBack waiting said s.history t.kept g.written) where
    held_is : t.held ≡ history_after t.kept back.last
    held_is = g.moved.0 ∙ ap (λ l. history_after_all s.history l) back.said_are ∙ history_after_all-append s.history back.done (back.last ∷ []) ∙ ap (λ h. history_after h back.last) (sym back.kept_is)

    held_more : t.held.commands ≡ t.kept.commands ++ commands_of back.last
    held_more = ap (λ (h : History). h.commands) held_is ∙ fresh_grows t.kept back.last back.fresh

    -- as if all steps before the last one were taken
    abbrev all_before : Stand
    all_before = stand t.kept (s.steps + bound_of_all s.history back.done)

    stuck_back : (h' : History) (next : Accepted) (rest : List Accepted) → h' ≡ t.kept → t.held.commands ≡ t.kept.commands ++ next ∷ rest → Sticks back.last all_before (stand h' t.steps) (next ∷ [])
    stuck_back h' next rest same torn =
        let cost : t.steps ≤ s.steps + bound_of_all s.history (back.done ++ back.last ∷ []) = subst (λ l. t.steps ≤ s.steps + bound_of_all s.history l) back.said_are g.moved.1 in
        let grown : bound_of_all s.history (back.done ++ back.last ∷ []) ≡ bound_of_all s.history back.done + bound_of t.kept back.last =
        bound_of_all-push s.history back.done back.last ∙ ap (λ h. bound_of_all s.history back.done + bound_of h back.last) (sym back.kept_is) in
        record {
          fresh = back.fresh;
          pending_is = next_alone t.kept.commands (commands_of back.last) rest next (fresh_one t.kept back.last back.fresh) (sym held_more ∙ torn);
          same = same;
          cost = omega (arith, cost, grown);
        }

  pub held_up : (h' : History) (next : Accepted) (rest : List Accepted) → h' ≡ t.kept → t.held.commands ≡ t.kept.commands ++ next ∷ rest
      → IsStopped DiskFault (λ done ahead. said ≡ done ++ ahead) waiting s (stand h' t.steps) (next ∷ []) g.written
  held_up h' next rest same torn =
      ⊎_elim (λ all. absurd (no_more t.kept.commands rest next (ap (λ (h : History). h.commands) all ∙ torn)))
      (λ back. record {
        done = back.done;
        ahead = back.last ∷ [];
        first = back.said_are;
        mid = all_before back;
        moved = (back.kept_is, omega arith);
        next = stuck_back back h' next rest same torn;
        rest = back.rest;
        text = back.text;
        few = back.few;
      }) g.kept

  -- with what is left on a disk
  module _ {D : Type 0} (view : D → View) (old new : D) (h' : History) where
    pub cut_stops : (held'' : Option (List ℕ)) → h' ≡ t.held → AppendsPart held' held'' text → OnDisk view old new t.kept t.held []
        → Writes view old new (IsStopped WriteFault (λ done ahead. said ≡ done ++ ahead) waiting s (stand h' t.steps)) t.kept h' held held''
    cut_stops held'' same part run = record {
      pending = [];
      written = g.written ++ part.part;
      wrote = Appends-trans held held' held'' g.written part.part g.wrote part.wrote;
      says_so = cut_short h' held'' same part;
      disk = subst (λ (h : History). OnDisk view old new t.kept h []) (sym same) run;
    }

    pub torn_stops : h' ≡ t.kept → IsTorn view old new t.kept t.held
        → Writes view old new (IsStopped DiskFault (λ done ahead. said ≡ done ++ ahead) waiting s (stand h' t.steps)) t.kept h' held held'
    torn_stops same torn = record {
      pending = torn.next ∷ [];
      written = g.written;
      wrote = g.wrote;
      says_so = held_up h' torn.next torn.rest same torn.all_are;
      disk = subst (λ (h : History). OnDisk view old new t.kept h (torn.next ∷ [])) (sym same) torn.disk;
    }

  -- no memory is there, and of the replies so many bytes may wait
  pub starved : (First : List Saying → List Saying → Type 0) → First said [] → t.kept ≡ t.held → length text ≤ waiting → IsStopped OutOfMemory First waiting s (stand t.kept t.steps) [] g.written
  starved First first all few = record {
    done = said;
    ahead = [];
    first = first;
    mid = stand t.held t.steps;
    moved = g.moved;
    next = (refl, refl, (all, omega arith));
    rest = text;
    text = sym g.gathered;
    few = few;
  }

  -- all are written
  pub all_gathered : t.kept ≡ t.held → text ≡ [] → (g.written ≡ replies_to s.history said) × MovesAll said s (stand t.kept t.steps)
  all_gathered all none = (sym (append-nil g.written) ∙ ap (λ x. g.written ++ x) (sym none) ∙ g.gathered, (all ∙ g.moved.0, g.moved.1))

  -- ---- one request more

  text_with : (last : Saying) (text' : List ℕ) → text' ≡ text ++ reply_to t.held last → g.written ++ text' ≡ replies_to s.history (said ++ last ∷ [])
  text_with last text' added =
      ap (λ x. g.written ++ x) added ∙ sym (append_assoc g.written text (reply_to t.held last)) ∙ ap (λ x. x ++ reply_to t.held last) g.gathered
      ∙ ap (λ h. replies_to s.history said ++ reply_to h last) g.moved.0 ∙ sym (replies_to-push s.history said last)

  -- where all is kept, and of the replies no more waits than may
  module _ (all : t.kept ≡ t.held) (few : length text ≤ waiting) where
    late_with : (last : Saying) (done : List Saying) (x : Saying) → said ++ last ∷ [] ≡ done ++ x ∷ [] → length (replies_to s.history done) ≤ length g.written + waiting
    late_with last done x is =
        let same : length (replies_to s.history done) ≡ length (replies_to s.history said) = ap (λ l. length (replies_to s.history l)) (sym (same_from_push said done last x is).0) in
        omega (arith, same, ap length g.gathered, length-append g.written text, few)

    pub one_more : (last : Saying) (t' : Running) (text' : List ℕ) → IsReplied last t t' text text' → Gathered waiting (said ++ last ∷ []) s t' held held' text'
    one_more last t' text' replied = record {
      moved = moves_all-append said (last ∷ []) s (stand t.held t.steps) (stand t'.held t'.steps) g.moved (replied.after, omega (arith, replied.cost));
      written = g.written;
      wrote = g.wrote;
      gathered = text_with last text' replied.added;
      late = late_with last;
      kept = ⊎_elim (λ same. inl same)
          (λ begun. inr (record {
            done = said;
            last = last;
            said_are = refl;
            kept_is = begun.1 ∙ g.moved.0;
            fresh = subst (λ h. IsFresh h last) (sym begun.1) begun.0;
            rest = text;
            text = sym g.gathered;
            few = few;
          })) replied.held;
    }

    -- it has no reply: of the others a front part is written
    module _ (last : Saying) (s' : Stand) (held'' : Option (List ℕ)) (left : List ℕ) (f : IsWrittenBut held' held'' text left) where
      answered_but : (why : Stop) (pending : List Accepted) → HasNone why last (stand t.held t.steps) s' pending → AnsweredBut why (λ done ahead. (done ≡ said) × (ahead ≡ last ∷ [])) waiting s s' pending (g.written ++ f.part)
      answered_but why pending none = record {
        done = said;
        ahead = last ∷ [];
        first = (refl, refl);
        mid = stand t.held t.steps;
        moved = g.moved;
        next = none;
        rest = left;
        text = further g.written text f.part left (replies_to s.history said) g.gathered f.joined;
        few = omega (arith, few, ap length f.joined, length-append f.part left);
      }

      stopped_at : (why : Stop) (pending : List Accepted) → HasNone why last (stand t.held t.steps) s' pending → IsStopped why (λ done ahead. (done ≡ said) × (ahead ≡ last ∷ [])) waiting s s' pending (g.written ++ f.part)
      stopped_at WriteFault pending none = absurd none
      stopped_at DiskFault pending none = answered_but DiskFault pending none
      stopped_at OutOfMemory pending none = answered_but OutOfMemory pending none

      pub given_up : {D : Type 0} (view : D → View) (old new : D) (why : Stop) → Leaves view old new (HasNone why last (stand t.held t.steps) s') t.held s'.history
          → Writes view old new (IsStopped why (λ done ahead. (done ≡ said) × (ahead ≡ last ∷ [])) waiting s s') t.kept s'.history held held''
      given_up view old new why none = record {
        pending = none.pending;
        written = g.written ++ f.part;
        wrote = Appends-trans held held' held'' g.written f.part g.wrote f.wrote;
        says_so = stopped_at why none.pending none.says_so;
        disk = subst (λ (h : History). OnDisk view old new h s'.history none.pending) (sym all) none.disk;
      }

-- ---- what has no reply

module _ {D : Type 0} (view : D → View) (said : Saying) (s : Stand) where
  -- the disk failed while its command was being appended
  pub none_stuck : (old new : D) (kept' : History) (steps : ℕ) → IsFresh s.history said → kept' ≡ s.history → steps ≤ s.steps + bound_of s.history said → OnDisk view old new s.history s.history (commands_of said)
      → Leaves view old new (HasNone DiskFault said s (stand kept' steps)) s.history kept'
  none_stuck old new kept' steps fresh same cost disk = record {
    pending = commands_of said;
    says_so = record { fresh = fresh; pending_is = refl; same = same; cost = cost };
    disk = subst (λ (h : History). OnDisk view old new s.history h (commands_of said)) (sym same) disk;
  }

  -- no memory was there; then a command that is begun is committed
  module _ (old mid new : D) (t : Running) (kept' : History) (near : IsNear s.history (history_after s.history said) t.held) (cost : t.steps ≤ s.steps + bound_of s.history said)
      (first : OnDisk view old mid s.history t.kept []) where
    pub none_starved : kept' ≡ t.held → OnDisk view mid new t.kept t.held [] → Leaves view old new (HasNone OutOfMemory said s (stand kept' t.steps)) s.history kept'
    none_starved same run = record {
      pending = [];
      says_so = (refl, record { near = subst (IsNear s.history (history_after s.history said)) (sym same) near; cost = cost });
      disk = subst (λ (h : History). OnDisk view old new s.history h []) (sym same) (disk_more view old mid new s.history t.kept t.held [] first run);
    }

    torn_stuck : (next : Accepted) (rest : List Accepted) → IsNear s.history (history_after s.history said) t.held → IsKeptBut (IsFresh s.history said) s.history t.held t.kept → kept' ≡ t.kept → t.held.commands ≡ t.kept.commands ++ next ∷ rest
        → Sticks said s (stand kept' t.steps) (next ∷ [])
    torn_stuck next rest near (inl all) same torn = absurd (no_more t.kept.commands rest next (ap (λ (h : History). h.commands) all ∙ torn))
    torn_stuck next rest (inl none) (inr begun) same torn = absurd (no_more t.kept.commands rest next (ap (λ (h : History). h.commands) (begun.1 ∙ sym none) ∙ torn))
    torn_stuck next rest (inr after) (inr begun) same torn =
        let here : s.history.commands ++ commands_of said ≡ s.history.commands ++ next ∷ rest =
        sym (fresh_grows s.history said begun.0) ∙ ap (λ (h : History). h.commands) (sym after) ∙ torn ∙ ap (λ (h : History). h.commands ++ next ∷ rest) begun.1 in
        record {
          fresh = begun.0;
          pending_is = next_alone s.history.commands (commands_of said) rest next (fresh_one s.history said begun.0) here;
          same = same ∙ begun.1;
          cost = cost;
        }

    pub none_torn : IsKeptBut (IsFresh s.history said) s.history t.held t.kept → kept' ≡ t.kept → IsTorn view mid new t.kept t.held → Leaves view old new (HasNone DiskFault said s (stand kept' t.steps)) s.history kept'
    none_torn kept same torn = record {
      pending = torn.next ∷ [];
      says_so = torn_stuck torn.next torn.rest near kept same torn.all_are;
      disk = subst (λ (h : History). OnDisk view old new s.history h (torn.next ∷ [])) (sym same) (disk_more view old mid new s.history t.kept t.kept (torn.next ∷ []) first torn.disk);
    }

-- ---- where commands are kept stays the same

store_none : (why : Stop) (said : Saying) (s s' : Stand) (pending : List Accepted) → HasNone why said s s' pending → s'.history.store ≡ s.history.store
store_none WriteFault said s s' pending is = absurd is
store_none DiskFault said s s' pending is = ap (λ (h : History). h.store) is.same
store_none OutOfMemory said s s' pending is = store_starves said s s' is.1

store_next : (why : Stop) (ahead : List Saying) (s s' : Stand) (pending : List Accepted) → NextHasNone why ahead s s' pending → s'.history.store ≡ s.history.store
store_next why [] s s' pending is = ap (λ (h : History). h.store) is.2.0
store_next why (next ∷ []) s s' pending is = store_none why next s s' pending is
store_next why (next ∷ (other ∷ more)) s s' pending is = absurd is

store_but : (why : Stop) (First : List Saying → List Saying → Type 0) (waiting : ℕ) (s s' : Stand) (pending : List Accepted) (written : List ℕ) → AnsweredBut why First waiting s s' pending written → s'.history.store ≡ s.history.store
store_but why First waiting s s' pending written is = store_next why is.ahead is.mid s' pending is.next ∙ store_moves is.done s is.mid is.moved

pub store_stopped : (why : Stop) (First : List Saying → List Saying → Type 0) (waiting : ℕ) (s s' : Stand) (pending : List Accepted) (written : List ℕ) → IsStopped why First waiting s s' pending written → s'.history.store ≡ s.history.store
store_stopped WriteFault First waiting s s' pending written is = store_moves (is.1.done ++ is.1.last ∷ []) s s' is.1.moved
store_stopped DiskFault First waiting s s' pending written is = store_but DiskFault First waiting s s' pending written is
store_stopped OutOfMemory First waiting s s' pending written is = store_but OutOfMemory First waiting s s' pending written is
