-- What is written to a link in answer to its requests, and the commands that these bring.
use Rattle.std.proofs.Common.{◌≡◌, ℕ, ◌+◌, List, [], ◌++◌, length, refl, sym, ap, subst, ◌∙◌, inl, ⊎_elim, arith, append-nil, append_assoc}
use Rattle.std.specs.Prelude.{Option, Some}
use Rattle.std.specs.Io.KnownBytes.{Appends}
use Rattle.std.proofs.KnownBytes.{Appends-nil}
use Rattle.svc_world.specs.World.{Accepted}
use Rattle.serv_disk.specs.Stamps.{Stamp, Notes}
use Rattle.serv_http.specs.declared.ask.Ask.{Ask}
use Rattle.serv_http.specs.Streams.{AsksTo}
use Rattle.serv_http.proofs.StepLemmas.{nothing-more, nothing-open}
use Rattle.serv_http.proofs.StreamLemmas.{asks-grow}
use Rattle.serv_machine.specs.Answering.{AreReplies, IsStopped, Writes}
use Rattle.serv_machine.specs.History.{History, Stand}
use Rattle.serv_machine.specs.OnDisk.{OnDisk, Upholds}
use Rattle.serv_machine.specs.Sayings.{SaidFirst}
use Rattle.serv_machine.specs.declared.faults.Stop.{Stop}
use Rattle.serv_machine.specs.declared.faults.Stop.TheVariants.{WriteFault, OutOfMemory}
use Rattle.serv_machine.proofs.StoppedLemmas.{replies_then, stopped_covered}
use Rattle.serv_machine.proofs.UpheldLemmas.{commands_left, upheld_none, upheld_wider, upheld_later, upheld_then, upheld_written}
use Rattle.serv_links.specs.Meanings.{Says, last_text}
use Rattle.serv_links.specs.Outcomes.{IsAnswered, ComeFirst, AreRead, AreInFront, AreAnswers, AreAnswersOf}
use Rattle.serv_links.proofs.RoundLemmas.{none_stopped}
use Rattle.serv_disk.specs.Disks.{View}

-- ---- requests after others

-- no bytes have no request
pub asks_none : AsksTo [] [] (Some [])
asks_none = (inl (nothing-more, nothing-open), refl)

pub front_none : AreInFront [] []
front_none = record { front = []; more = []; parted = refl; left = Some []; asked = asks_none }

-- those of a piece, with those of the bytes before it
pub front_grows : (asks more : List Ask) (taken rest piece : List ℕ) → AsksTo taken asks (Some rest) → AreRead (rest ++ piece) more → AreInFront (taken ++ piece) (asks ++ more)
front_grows asks more taken rest piece asked known =
    ⊎_elim
    (λ none. record { front = taken; more = piece; parted = refl; left = Some rest; asked = subst (λ l. AsksTo taken l (Some rest)) (sym (ap (λ l. asks ++ l) none ∙ append-nil asks)) asked })
    (λ all. record { front = taken ++ piece; more = []; parted = sym (append-nil (taken ++ piece)); left = all.0; asked = asks-grow asks more taken rest piece all.0 asked all.1 })
    known

-- of more bytes these are the first too
front_wider : (taken more : List ℕ) (asks : List Ask) → AreInFront taken asks → AreInFront (taken ++ more) asks
front_wider taken more asks is = record { front = is.front; more = is.more ++ more; parted = ap (λ l. l ++ more) is.parted ∙ append_assoc is.front is.more more; left = is.left; asked = is.asked }

answers_wider : (Known Wider : List Ask → Type 0) → ((asks : List Ask) → Known asks → Wider asks) → (h : History) (bytes : ℕ) (commands : List Accepted) → AreAnswersOf Known h bytes commands → AreAnswersOf Wider h bytes commands
answers_wider Known Wider then h bytes commands is = record { asks = is.asks; known = then is.asks is.known; answers = is.answers }

-- replies alone are answers: nothing is written last
pub answers_alone : (asks : List Ask) (h : History) (bytes : ℕ) (commands : List Accepted) → AreReplies (SaidFirst Says asks) h bytes commands → AreAnswers asks h bytes commands
answers_alone asks h bytes commands is = record { before = bytes; replies = is; why = WriteFault; bytes_are = omega arith }

answers_then : (n : ℕ) (xs ys : List Ask) (s t : Stand) (wrote : List ℕ) (bytes : ℕ) (commands : List Accepted) → IsAnswered n xs s t wrote → AreAnswers ys t.history bytes commands
    → AreAnswers (xs ++ ys) s.history (length wrote + bytes) commands
answers_then n xs ys s t wrote bytes commands first is = record {
  before = length wrote + is.before;
  replies = replies_then Says xs ys s t wrote is.before commands first.answers is.replies;
  why = is.why;
  bytes_are = (let all = is.bytes_are in omega (arith, all));
}

answers_of : (n : ℕ) (asks : List Ask) (s t : Stand) (wrote taken rest piece : List ℕ) (bytes : ℕ) (commands : List Accepted) → AsksTo taken asks (Some rest) → IsAnswered n asks s t wrote
    → AreAnswersOf (AreRead (rest ++ piece)) t.history bytes commands → AreAnswersOf (AreInFront (taken ++ piece)) s.history (length wrote + bytes) commands
answers_of n asks s t wrote taken rest piece bytes commands asked first is = record {
  asks = asks ++ is.asks;
  known = front_grows asks is.asks taken rest piece asked is.known;
  answers = answers_then n asks is.asks s t wrote bytes commands first is.answers;
}

-- ---- what is written last, while the disk is as it is

module _ {D : Type 0} (view : D → View) (d : D) (only : (c : List ℕ) → (view d).since (view d).moment c → (view d).images c) where
  -- after what was written of some requests
  pub last_upheld : (old : D) (why : Stop) (n : ℕ) (asks : List Ask) (s s' : Stand) (held held' : Option (List ℕ)) (log log' log'' : Option (List Stamp))
      → Writes view old d (IsStopped why (ComeFirst n asks) 0 s s') s.history s'.history held held'
      → Upholds (AreReplies (SaidFirst Says asks) s.history) (view d) s'.history held log log' → ((x : List ℕ) → held' ≡ Some x → Notes (view d).moment (length x + length (last_text why)) log' log'')
      → Upholds (AreAnswers asks s.history) (view d) s'.history held log log''
  last_upheld old why n asks s s' held held' log log' log'' stops up notes =
      let covered = stopped_covered (SaidFirst Says asks) (ComeFirst n asks) (λ done ahead first. first.1) 0 s s' stops.pending stops.written why stops.says_so in
      let enough = covered.enough in
      upheld_written view d only (AreAnswers asks s.history) s'.history covered.commands covered.grown.0 covered.grown.1
      (commands_left (view d).images covered.commands s'.history covered.grown.0 stops.pending covered.grown.1 stops.disk.left) (covered.bytes + length (last_text why))
      (record { before = covered.bytes; replies = covered.replies; why = why; bytes_are = refl })
      held held' stops.written (last_text why) log log' log'' stops.wrote (omega (arith, enough))
      (upheld_wider (AreReplies (SaidFirst Says asks) s.history) (AreAnswers asks s.history) (view d) s'.history (answers_alone asks s.history) held log log' up) notes

-- ---- one run after another

module _ {D : Type 0} (view : D → View) (mid new : D) (n : ℕ) (s t t' : Stand) (pending : List Accepted)
    (disk : OnDisk view mid new t.history t'.history pending) (held held' : Option (List ℕ)) (wrote : List ℕ) (appends : Appends held held' wrote) (log log' log'' : Option (List Stamp)) where
  -- the requests of a piece after those of the bytes before it
  pub piece_upheld : (asks : List Ask) (taken rest piece : List ℕ) → AsksTo taken asks (Some rest) → IsAnswered n asks s t wrote
      → Upholds (AreAnswersOf (AreInFront taken) s.history) (view mid) t.history held log log'
      → Upholds (AreAnswersOf (AreRead (rest ++ piece)) t.history) (view new) t'.history held' log' log''
      → Upholds (AreAnswersOf (AreInFront (taken ++ piece)) s.history) (view new) t'.history held log log''
  piece_upheld asks taken rest piece asked first before after =
      upheld_then (AreAnswersOf (AreInFront taken) s.history) (AreAnswersOf (AreRead (rest ++ piece)) t.history) (AreAnswersOf (AreInFront (taken ++ piece)) s.history) (view new) t'.history wrote
      (answers_wider (AreInFront taken) (AreInFront (taken ++ piece)) (front_wider taken piece) s.history)
      (λ bytes commands x. answers_of n asks s t wrote taken rest piece bytes commands asked first x)
      held held' log log' log'' appends (upheld_later view mid new t.history t'.history pending disk (AreAnswersOf (AreInFront taken) s.history) held log log' before) after

-- no request was read
module _ {D : Type 0} (view : D → View) (d : D) (only : (c : List ℕ) → (view d).since (view d).moment c → (view d).images c) where
  pub unread_upheld : (Known : List Ask → Type 0) → Known [] → (s : Stand) (held : Option (List ℕ)) (log log' : Option (List Stamp)) → OnDisk view d d s.history s.history []
      → ((x : List ℕ) → held ≡ Some x → Notes (view d).moment (length x + length (last_text OutOfMemory)) log log') → Upholds (AreAnswersOf Known s.history) (view d) s.history held log log'
  unread_upheld Known known s held log log' disk notes =
      upheld_wider (AreAnswers [] s.history) (AreAnswersOf Known s.history) (view d) s.history (λ bytes commands x. record { asks = []; known = known; answers = x }) held log log'
      (last_upheld view d only d OutOfMemory 0 [] s s held held log log log'
      (record { pending = []; written = []; wrote = Appends-nil held; says_so = none_stopped [] s; disk = disk })
      (upheld_none (AreReplies (SaidFirst Says []) s.history) (view d) s.history held log) notes)
