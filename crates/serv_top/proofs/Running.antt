-- A run in its course: what it has taken, accepted and written so far, and what that is where it ends.
use Rattle.std.proofs.Common.{◌≡◌, ◌≢◌, ℕ, ◌+◌, ◌<◌, ◌≤◌, List, [], ◌∷◌, ◌++◌, length, refl, sym, subst, arith, inl, inr, ⊎_elim, append-nil, length-append}
use Rattle.std.specs.Prelude.{Option}
use Rattle.std.specs.Io.KnownBytes.{Consumes, IsAtEnd, Appends}
use Rattle.std.proofs.KnownBytes.{Consumes-nil, Consumes-trans, Appends-nil}
use Rattle.svc_world.specs.World.{Accepted}
use Rattle.svc_world.specs.Judging.{IsHistory}
use Rattle.svc_core.proofs.CoreLemmas.{empty_history}
use Rattle.serv_machine.specs.History.{History, nothing, Stand, stand, Running}
use Rattle.serv_machine.specs.OnDisk.{OnDisk}
use Rattle.serv_machine.proofs.OnDiskLemmas.{disk_more}
use Rattle.serv_machine.specs.declared.faults.Stop.{Stop}
use Rattle.serv_machine.specs.declared.faults.Stop.TheVariants as stop
use Rattle.serv_texts.specs.declared.status.Status.{Status}
use Rattle.serv_texts.specs.declared.status.Status.TheVariants as status
use Rattle.serv_machine.specs.Sayings.{Saying, Say, SaidFirst, AreFirst}
use Rattle.serv_machine.specs.Answering.{Answers, IsStopped, Leaves, NextHasNone, Writes}
use Rattle.serv_machine.proofs.SayingLemmas.{said_all}
use Rattle.serv_machine.proofs.AnsweringLemmas.{first_all}
use Rattle.serv_machine.proofs.GatheredLemmas.{all_gathered}
use Rattle.serv_top.specs.Lines.{Says, lines_of, ended_lines}
use Rattle.serv_top.specs.Outcome.{AreStopped, Ended, Ran, Served}
use Rattle.serv_texts.specs.Input.{Exchanges, input_limit}
use Rattle.serv_texts.specs.Status.{status_of}
use Rattle.serv_top.proofs.ServedLemmas.{served_none}
use Rattle.serv_top.proofs.SoundLemmas.{nothing_sound, begun_sound}
use Rattle.serv_disk.specs.Disks.{View}

-- the bytes taken are served
pub record Course (waiting : ℕ) (s : Stand) (t : Running) (left left' held held' : Option (List ℕ)) (line text : List ℕ) (count : ℕ) : Type 0 where
  pub taken : List ℕ
  pub took : Consumes left left' taken
  pub served : Served waiting taken s t held held' line text
  pub count_is : count ≡ length taken

pub course_none : (waiting : ℕ) (s : Stand) (t : Running) (left held : Option (List ℕ)) (line text : List ℕ) → line ≡ [] → text ≡ [] → t.held ≡ s.history → t.kept ≡ t.held → t.steps ≤ s.steps
    → Course waiting s t left left held held line text 0
course_none waiting s t left held line text no_line no_text same kept cost =
    record { taken = []; took = Consumes-nil left; served = served_none waiting s t held line text no_line no_text same kept cost; count_is = refl }

-- the end of the input
pub end_took : {waiting : ℕ} {s : Stand} {t : Running} {left left' held held' : Option (List ℕ)} {line text : List ℕ} {count : ℕ} (run : Course waiting s t left left' held held' line text count)
    (left'' : Option (List ℕ)) → Consumes left' left'' [] → Consumes left left'' run.taken
end_took {left} {left'} run left'' took = subst (Consumes left left'') (append-nil run.taken) (Consumes-trans left left' left'' run.taken [] run.took took)

-- the status by which nothing further is answered
ends_stopped : (waiting : ℕ) (why : Stop) (s s' : Stand) (pending : List Accepted) (left left' held held' : Option (List ℕ))
    → Exchanges (λ taken written. AreStopped why waiting s s' pending taken left' written) left left' held held' → Ended waiting (status_of why) s s' pending left left' held held'
ends_stopped waiting stop.WriteFault s s' pending left left' held held' is = is
ends_stopped waiting stop.DiskFault s s' pending left left' held held' is = is
ends_stopped waiting stop.OutOfMemory s s' pending left left' held held' is = is

-- all lines that ended are answered, where no reply waits
all_answered : {waiting : ℕ} {bytes : List ℕ} {s : Stand} {t : Running} {held held' : Option (List ℕ)} {line text : List ℕ} (run : Served waiting bytes s t held held' line text) → text ≡ [] → t.kept ≡ t.held
    → Answers (Say Says (ended_lines bytes)) s (stand t.kept t.steps) run.gathers.written
all_answered {waiting} {s = s} run none kept =
    let all = all_gathered waiting run.said s run.gathers kept none in
    record { said = run.said; whole = run.say; text = all.0; moved = all.1 }

module _ {D : Type 0} (view : D → View) (old mid new : D) {waiting : ℕ} {s : Stand} {t : Running}
    {left left' held held' : Option (List ℕ)} {line text : List ℕ} {count : ℕ} (run : Course waiting s t left left' held held' line text count) (s' : Stand) (left'' held'' : Option (List ℕ)) where
  -- it stops at one of the bytes that were taken last
  pub ends_at_bytes : (bytes : List ℕ) (n : ℕ) → length bytes ≡ n → count + n ≤ input_limit → Consumes left' left'' bytes → OnDisk view old mid s.history t.kept []
      → (why : Stop) → Writes view mid new (IsStopped why (AreFirst (SaidFirst Says (ended_lines (run.taken ++ bytes)))) waiting s s') t.kept s'.history held held''
      → Leaves view old new (λ pending. Ended waiting (status_of why) s s' pending left left'' held held'') s.history s'.history
  ends_at_bytes bytes n long within took first why stops =
      let counted = run.count_is in
      let joined = length-append run.taken bytes in
      let small : length (run.taken ++ bytes) ≤ input_limit = omega arith in
      record {
        pending = stops.pending;
        says_so = ends_stopped waiting why s s' stops.pending left left'' held held''
            (record { taken = run.taken ++ bytes; written = stops.written; took = Consumes-trans left left' left'' run.taken bytes run.took took; wrote = stops.wrote; says = (small, inl stops.says_so) });
        disk = disk_more view old mid new s.history t.kept s'.history stops.pending first stops.disk;
      }

  -- it stops at the last piece
  pub ends_at_end : count < input_limit → Consumes left' left'' [] → IsAtEnd left'' → OnDisk view old mid s.history t.kept []
      → (why : Stop) → Writes view mid new (IsStopped why (AreFirst (SaidFirst Says (lines_of run.taken))) waiting s s') t.kept s'.history held held''
      → Leaves view old new (λ pending. Ended waiting (status_of why) s s' pending left left'' held held'') s.history s'.history
  ends_at_end below took end first why stops =
      let counted = run.count_is in
      let small : length run.taken ≤ input_limit = omega arith in
      record {
        pending = stops.pending;
        says_so = ends_stopped waiting why s s' stops.pending left left'' held held''
            (record { taken = run.taken; written = stops.written; took = end_took run left'' took; wrote = stops.wrote; says = (small, inr (end, stops.says_so)) });
        disk = disk_more view old mid new s.history t.kept s'.history stops.pending first stops.disk;
      }

  -- all lines are answered
  pub ends_done : count < input_limit → Consumes left' left'' [] → IsAtEnd left'' → OnDisk view old mid s.history t.kept []
      → OnDisk view mid new t.kept s'.history [] → (written : List ℕ) × Appends held held'' written × Answers (Say Says (lines_of run.taken)) s s' written
      → Leaves view old new (λ pending. Ended waiting status.Done s s' pending left left'' held held'') s.history s'.history
  ends_done below took end first second all =
      let counted = run.count_is in
      record {
        pending = [];
        says_so = record { taken = run.taken; written = all.0; took = end_took run left'' took; wrote = all.1; says = (refl, end, omega arith, all.2) };
        disk = disk_more view old mid new s.history t.kept s'.history [] first second;
      }

module _ {D : Type 0} (view : D → View) (old new : D) {waiting : ℕ} {s : Stand} {t : Running}
    {left left' held held' : Option (List ℕ)} {line text : List ℕ} {count : ℕ} (run : Course waiting s t left left' held held' line text count) (none : text ≡ []) (kept : t.kept ≡ t.held)
    (disk : OnDisk view old new s.history t.kept []) where
  -- a read failed: what was taken before is served
  pub ends_unread : (left'' : Option (List ℕ)) → count < input_limit → left'' ≡ left' → Leaves view old new (λ pending. Ended waiting status.ReadFault s (stand t.kept t.steps) pending left left'' held held') s.history t.kept
  ends_unread left'' below same =
      let counted = run.count_is in
      record {
        pending = [];
        says_so = record {
          taken = run.taken;
          written = run.served.gathers.written;
          took = subst (λ x. Consumes left x run.taken) (sym same) run.took;
          wrote = run.served.gathers.wrote;
          says = (refl, omega arith, all_answered run.served none kept);
        };
        disk = disk;
      }

  -- too much was taken
  pub ends_full : count ≤ input_limit → input_limit ≤ count → Leaves view old new (λ pending. Ended waiting (status.TooMuch count) s (stand t.kept t.steps) pending left left' held held') s.history t.kept
  ends_full within full =
      let counted = run.count_is in
      let all : count ≡ input_limit = omega (arith, within, full) in
      record {
        pending = [];
        says_so = record { taken = run.taken; written = run.served.gathers.written; took = run.took; wrote = run.served.gathers.wrote; says = (refl, counted, all, all_answered run.served none kept) };
        disk = disk;
      }

-- a run in memory that takes nothing
pub ran_nothing : (waiting steps : ℕ) (left held : Option (List ℕ)) → Ran waiting status.OutOfMemory steps steps left left held held
ran_nothing waiting steps left held = record {
  after = nothing;
  sound = nothing_sound;
  ended = record {
    taken = [];
    written = [];
    took = Consumes-nil left;
    wrote = Appends-nil held;
    says = (
      omega arith,
      inl (record {
        done = [];
        ahead = [];
        first = first_all (SaidFirst Says []) [] (said_all Says [] [] tt);
        mid = stand nothing steps;
        moved = (refl, omega arith);
        next = (refl, refl, (refl, omega arith));
        rest = [];
        text = refl;
        few = omega arith;
      }),
    );
  };
}

-- where memory was short, no command was being appended
next_starved : (ahead : List Saying) (s s' : Stand) (pending : List Accepted) → NextHasNone stop.OutOfMemory ahead s s' pending → NextHasNone stop.OutOfMemory ahead s s' []
next_starved [] s s' pending is = (refl, refl, is.2)
next_starved (next ∷ []) s s' pending is = (refl, is.1)
next_starved (next ∷ (other ∷ more)) s s' pending is = absurd is

none_starved : (First : List Saying → List Saying → Type 0) (waiting : ℕ) (s s' : Stand) (pending : List Accepted) (written : List ℕ) → IsStopped stop.OutOfMemory First waiting s s' pending written → IsStopped stop.OutOfMemory First waiting s s' [] written
none_starved First waiting s s' pending written is =
    record { done = is.done; ahead = is.ahead; first = is.first; mid = is.mid; moved = is.moved; next = next_starved is.ahead is.mid s' pending is.next; rest = is.rest; text = is.text; few = is.few }

-- a run over a machine that begins with nothing
none_pending : (waiting : ℕ) (st : Status) (s s' : Stand) (pending : List Accepted) (left left' held held' : Option (List ℕ)) → st ≢ status.DiskFault → Ended waiting st s s' pending left left' held held'
    → Ended waiting st s s' [] left left' held held'
none_pending waiting status.Done s s' pending left left' held held' calm e = record { taken = e.taken; written = e.written; took = e.took; wrote = e.wrote; says = (refl, e.says.1, e.says.2, e.says.3) }
none_pending waiting status.ReadFault s s' pending left left' held held' calm e = record { taken = e.taken; written = e.written; took = e.took; wrote = e.wrote; says = (refl, e.says.1, e.says.2) }
none_pending waiting status.WriteFault s s' pending left left' held held' calm e =
    record { taken = e.taken; written = e.written; took = e.took; wrote = e.wrote; says = (e.says.0, ⊎_elim (λ ended. inl (refl, ended.1)) (λ all. inr (all.0, (refl, all.1.1))) e.says.1) }
none_pending waiting status.DiskFault s s' pending left left' held held' calm e = absurd (calm refl)
none_pending waiting (status.TooMuch n) s s' pending left left' held held' calm e = record { taken = e.taken; written = e.written; took = e.took; wrote = e.wrote; says = (refl, e.says.1, e.says.2, e.says.3) }
none_pending waiting status.OutOfMemory s s' pending left left' held held' calm e = record {
  taken = e.taken;
  written = e.written;
  took = e.took;
  wrote = e.wrote;
  says = (e.says.0, ⊎_elim (λ ended. inl (none_starved _ waiting s s' pending e.written ended)) (λ all. inr (all.0, none_starved _ waiting s s' pending e.written all.1)) e.says.1);
}
none_pending waiting other s s' pending left left' held held' calm e = absurd e.says

pub ran_serving : {D : Type 0} (view : D → View) (old new : D) (waiting : ℕ) (st : Status) (h h' : History) (steps steps' : ℕ)
    (left left' held held' : Option (List ℕ)) → h ≡ nothing → st ≢ status.DiskFault → Leaves view old new (λ pending. Ended waiting st (stand h steps) (stand h' steps') pending left left' held held') h h'
    → Ran waiting st steps steps' left left' held held'
ran_serving view old new waiting st h h' steps steps' left left' held held' none calm ends = record {
  after = h';
  sound = begun_sound h'.commands (ends.disk.fresh (subst (λ (x : History). IsHistory x.commands) (sym none) empty_history)).0;
  ended = subst (λ x. Ended waiting st (stand x steps) (stand h' steps') [] left left' held held') none (none_pending waiting st (stand h steps) (stand h' steps') ends.pending left left' held held' calm ends.says_so);
}
