-- Responses that are gathered, and what is said where no further request is acted on.
use Rattle.std.proofs.Common.{◌≡◌, ℕ, ◌+◌, ◌-◌, ◌≤◌, List, [], ◌∷◌, ◌++◌, length, refl, sym, ap, subst, ◌∙◌, arith, append-nil, length-append}
use Rattle.std.specs.Prelude.{Option}
use Rattle.svc_world.specs.World.{Accepted}
use Rattle.serv_disk.specs.Stamps.{Stamp}
use Rattle.serv_http.specs.declared.ask.Ask.{Ask}
use Rattle.serv_machine.specs.Answering.{AreReplies, Gathered, IsStopped, Writes}
use Rattle.serv_machine.specs.History.{History, Stand, stand, Running}
use Rattle.serv_machine.specs.OnDisk.{OnDisk, Upholds}
use Rattle.serv_machine.specs.Sayings.{Saying, SaidFirst, AreFirst, replies_to, MovesAll}
use Rattle.serv_machine.specs.declared.faults.Stop.{Stop}
use Rattle.serv_machine.specs.declared.faults.Stop.TheVariants.{WriteFault, DiskFault, OutOfMemory}
use Rattle.serv_machine.proofs.AnsweringLemmas.{first_more, first_said, replies_wider, upheld_call}
use Rattle.serv_machine.proofs.GatheredLemmas.{gathered_none, stops_after}
use Rattle.serv_machine.proofs.SayingLemmas.{say-push, said_all, said_more}
use Rattle.serv_links.specs.Meanings.{Says}
use Rattle.serv_links.specs.Outcomes.{AreGathered, ComeFirst, IsAnswered}
use Rattle.serv_links.proofs.RoundLemmas.{all_stopped, come_then}
use Rattle.serv_disk.specs.Disks.{View}

-- where neither a write nor the disk failed, no memory was there
pub for_memory : (why : Stop) → (why ≡ WriteFault → ⊥) → (why ≡ DiskFault → ⊥) → why ≡ OutOfMemory
for_memory WriteFault write disk = absurd (write refl)
for_memory DiskFault write disk = absurd (disk refl)
for_memory OutOfMemory write disk = refl

pub no_length : (text : List ℕ) → length text ≤ 0 → text ≡ []
no_length [] few = refl
no_length (x ∷ text) few = absurd (omega (arith, few))

-- of more requests they are upheld too
pub first_upheld : (asks more : List Ask) (view : View) (now h : History) (held : Option (List ℕ)) (log log' : Option (List Stamp)) → Upholds (AreReplies (SaidFirst Says asks) h) view now held log log'
    → Upholds (AreReplies (SaidFirst Says (asks ++ more)) h) view now held log log'
first_upheld asks more view now h held log log' up = replies_wider (SaidFirst Says asks) (SaidFirst Says (asks ++ more)) view now h held log log' (λ done. first_more Says asks more done []) up

-- none yet
pub none_gathered : (n : ℕ) (s : Stand) (t : Running) (held : Option (List ℕ)) (text : List ℕ) → n ≡ 0 → text ≡ [] → t.held ≡ s.history → t.kept ≡ t.held → t.steps ≤ s.steps → AreGathered n [] s t held held text
none_gathered n s t held text none empty same kept cost = record { count = none; saids = []; say = tt; gathered = gathered_none 0 s t held text empty same kept cost }

module _ (n : ℕ) (asks : List Ask) (s : Stand) (t : Running) (held held' : Option (List ℕ)) (text : List ℕ) (are : AreGathered n asks s t held held' text) where
  -- a call is told of all that is said
  abbrev Told : (List Saying → Type 0) → Type 0
  Told Then = (saids : List Saying) → Gathered 0 saids s t held held' text → Then saids

  -- the same requests
  pub gathered_as : (m : ℕ) (t' : Running) (held'' : Option (List ℕ)) (text' : List ℕ) → m ≡ n → Told (λ saids. Gathered 0 saids s t' held held'' text') → AreGathered m asks s t' held held'' text'
  gathered_as m t' held'' text' same call = record { count = same ∙ are.count; saids = are.saids; say = are.say; gathered = call are.saids are.gathered }

  -- one request more
  pub gathered_more : (m : ℕ) (a : Ask) (said : Saying) (t' : Running) (held'' : Option (List ℕ)) (text' : List ℕ) → Says a said → m ≡ n + 1 → Told (λ saids. Gathered 0 (saids ++ said ∷ []) s t' held held'' text')
      → AreGathered m (asks ++ a ∷ []) s t' held held'' text'
  gathered_more m a said t' held'' text' says count call = record {
    count = (let is = are.count in omega (arith, count, is, length-append asks (a ∷ [])));
    saids = are.saids ++ said ∷ [];
    say = say-push Says asks are.saids a said are.say says;
    gathered = call are.saids are.gathered;
  }

  -- ---- it stops

  module _ {D : Type 0} (view : D → View) (new : D) (why : Stop) (h h' : History) (s' : Stand) (held'' : Option (List ℕ)) where
    -- at the last of them
    pub last_stops : (old : D) (m : ℕ) → m ≡ n - 1 → (why ≡ OutOfMemory → ⊥) → Told (λ saids. Writes view old new (IsStopped why (λ done ahead. saids ≡ done ++ ahead) 0 s s') h h' held held'')
        → Writes view old new (IsStopped why (ComeFirst m asks) 0 s s') h h' held held''
    last_stops old m count memory call =
        let stops = call are.saids are.gathered in
        record {
          pending = stops.pending;
          written = stops.written;
          wrote = stops.wrote;
          says_so = all_stopped why m asks are.saids s s' stops.pending stops.written are.say (count ∙ ap (λ k. k - 1) are.count) memory stops.says_so;
          disk = stops.disk;
        }

    -- at one more, which has no response
    pub one_stops : (old mid : D) (h1 : History) (a : Ask) (said : Saying) → Says a said → OnDisk view old mid h h1 []
        → Told (λ saids. Writes view mid new (IsStopped why (λ done ahead. (done ≡ saids) × (ahead ≡ said ∷ [])) 0 s s') h1 h' held held'')
        → Writes view old new (IsStopped why (ComeFirst n (asks ++ a ∷ [])) 0 s s') h h' held held''
    one_stops old mid h1 a said says run call =
        stops_after (λ done ahead. (done ≡ are.saids) × (ahead ≡ said ∷ [])) (ComeFirst n (asks ++ a ∷ []))
        (λ done ahead these. subst (λ l. ComeFirst n (asks ++ a ∷ []) l ahead) (sym these.0) (subst (λ l. ComeFirst n (asks ++ a ∷ []) are.saids l) (sym these.1) first)) 0 s s'
        view old mid new why h h1 h' held held'' run (call are.saids are.gathered)
      where
        first : ComeFirst n (asks ++ a ∷ []) are.saids (said ∷ [])
        first = come_then n asks (a ∷ []) are.saids (said ∷ []) are.say are.count (said_all Says (asks ++ a ∷ []) (are.saids ++ said ∷ []) (say-push Says asks are.saids a said are.say says))

  -- ---- once all is kept and written

  module _ (empty : text ≡ []) (kept : t.kept ≡ t.held) where
    text_whole : are.gathered.written ≡ replies_to s.history are.saids
    text_whole = sym (append-nil are.gathered.written) ∙ (ap (λ x. are.gathered.written ++ x) (sym empty) ∙ are.gathered.gathered)

    moved_kept : MovesAll are.saids s (stand t.kept t.steps)
    moved_kept = subst (λ (h : History). MovesAll are.saids s (stand h t.steps)) (sym kept) are.gathered.moved

    -- no memory is there for one more request
    unread_stopped : (a : Ask) → IsStopped OutOfMemory (ComeFirst n (asks ++ a ∷ [])) 0 s (stand t.kept t.steps) [] are.gathered.written
    unread_stopped a = record {
      done = are.saids;
      ahead = [];
      first = come_then n asks (a ∷ []) are.saids [] are.say are.count
          (subst (SaidFirst Says (asks ++ a ∷ [])) (sym (append-nil are.saids)) (said_more Says asks (a ∷ []) are.saids (said_all Says asks are.saids are.say)));
      mid = stand t.kept t.steps;
      moved = moved_kept;
      next = (refl, refl, (refl, omega arith));
      rest = [];
      text = sym text_whole ∙ sym (append-nil are.gathered.written);
      few = omega arith;
    }

    module _ {D : Type 0} (view : D → View) (old new : D) (h : History) (disk : OnDisk view old new h t.kept []) where
      pub all_answered : Writes view old new (λ pending w. (pending ≡ []) × IsAnswered n asks s (stand t.kept t.steps) w) h t.kept held held'
      all_answered = record {
        pending = [];
        written = are.gathered.written;
        wrote = are.gathered.wrote;
        says_so = (refl, record { count = are.count; answers = record { said = are.saids; whole = are.say; text = text_whole; moved = moved_kept } });
        disk = disk;
      }

      pub unread_stops : (a : Ask) → Writes view old new (IsStopped OutOfMemory (ComeFirst n (asks ++ a ∷ [])) 0 s (stand t.kept t.steps)) h t.kept held held'
      unread_stops a = record { pending = []; written = are.gathered.written; wrote = are.gathered.wrote; says_so = unread_stopped a; disk = disk }

  -- ---- the writes of a call

  module _ (now h : History) (log log' : Option (List Stamp)) where
    -- those of all requests so far
    pub told_upheld : (view : View) → Told (λ saids. Upholds (AreReplies (λ all. all ≡ saids) h) view now held log log') → Upholds (AreReplies (SaidFirst Says asks) h) view now held log log'
    told_upheld view call =
        replies_wider (λ all. all ≡ are.saids) (SaidFirst Says asks) view now h held log log'
        (λ done. first_said Says asks asks [] are.saids (sym (append-nil asks)) are.say done []) (call are.saids are.gathered)

  module _ {D : Type 0} (view : D → View) (old new : D) (now now' h : History) (log log' log'' : Option (List Stamp)) where
    -- what was upheld of them, and those of a call that was told of one more
    pub more_upheld : (more : List Ask) → Told (λ saids. (pending : List Accepted) × OnDisk view old new now now' pending)
        → Upholds (AreReplies (SaidFirst Says asks) h) (view old) now held log log' → Told (λ saids. Upholds (AreReplies (λ all. all ≡ saids) h) (view new) now' held log' log'')
        → Upholds (AreReplies (SaidFirst Says (asks ++ more)) h) (view new) now' held log log''
    more_upheld more run before call =
        let disk = run are.saids are.gathered in
        upheld_call view old new now now' disk.0 disk.1 (λ all. all ≡ are.saids) (SaidFirst Says (asks ++ more)) h held log log' log''
        (λ done. first_said Says (asks ++ more) asks more are.saids refl are.say done [])
        (first_upheld asks more (view old) now h held log log' before) (call are.saids are.gathered)

-- what was upheld before a call, and the writes of a call that was told of the first of some requests
module _ {D : Type 0} (view : D → View) (old new : D) (asks first more : List Ask) (parts : asks ≡ first ++ more) (now now' h : History) (held : Option (List ℕ)) (log log' log'' : Option (List Stamp)) where
  pub call_upheld : (pending : List Accepted) → OnDisk view old new now now' pending
      → Upholds (AreReplies (SaidFirst Says asks) h) (view old) now held log log' → Upholds (AreReplies (SaidFirst Says first) h) (view new) now' held log' log''
      → Upholds (AreReplies (SaidFirst Says asks) h) (view new) now' held log log''
  call_upheld pending disk before after =
      upheld_call view old new now now' pending disk (SaidFirst Says first) (SaidFirst Says asks) h held log log' log''
      (λ done x. subst (λ l. AreFirst (SaidFirst Says l) done []) (sym parts) (first_more Says first more done [] x)) before after

  -- also one that stopped
  pub stop_upheld : (why : Stop) (n : ℕ) (s s' : Stand) (held' : Option (List ℕ)) → Writes view old new (IsStopped why (ComeFirst n first) 0 s s') now now' held held'
      → Upholds (AreReplies (SaidFirst Says asks) h) (view old) now held log log' → Upholds (AreReplies (SaidFirst Says first) h) (view new) now' held log' log''
      → Upholds (AreReplies (SaidFirst Says asks) h) (view new) now' held log log''
  stop_upheld why n s s' held' stops before after = call_upheld stops.pending stops.disk before after
