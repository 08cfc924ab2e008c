-- The replies that are written, and the commands that they answer.
use Rattle.std.proofs.Common.{◌≡◌, ℕ, ◌+◌, List, [], ◌∷◌, ◌++◌, length, refl, sym, ap, subst, ◌∙◌, arith, append-nil, append_assoc, length-append}
use Rattle.std.specs.Prelude.{Option, Some, Result, Ok, Err, OnOk, IfErr}
use Rattle.std.proofs.KnownBytes.{Appends-nil}
use Rattle.svc_world.specs.World.{Accepted}
use Rattle.serv_disk.specs.Stamps.{Stamp, Notes}
use Rattle.serv_machine.specs.declared.faults.Stop.{Stop}
use Rattle.serv_machine.specs.History.{History, Stand, stand, Running}
use Rattle.serv_machine.specs.OnDisk.{OnDisk, Upholds}
use Rattle.serv_machine.specs.Sayings.{Saying, Say, SaidFirst, AreFirst, history_after_all, replies_to}
use Rattle.serv_machine.proofs.SayingLemmas.{said_more}
use Rattle.serv_machine.specs.Answering.{Answers, AreReplies, Gathered, IsStopped, Writes}
use Rattle.serv_machine.proofs.UpheldLemmas.{commands_left, upheld_none, upheld_wider, upheld_later, upheld_written, upheld_then}
use Rattle.serv_disk.specs.Disks.{View}

-- ---- what comes first

pub first_of : (Whole : List Saying → Type 0) (saids done : List Saying) → Whole saids → (ahead others : List Saying) → saids ≡ done ++ (ahead ++ others) → AreFirst Whole done ahead
first_of Whole saids done whole ahead others is = record { saids = saids; whole = whole; others = others; saids_are = is }

-- all of it
pub first_all : (Whole : List Saying → Type 0) (saids : List Saying) → Whole saids → AreFirst Whole saids []
first_all Whole saids whole = first_of Whole saids saids whole [] [] (sym (append-nil saids))

-- the first ones of these are the first of all
pub first_in : (saids : List Saying) (Whole : List Saying → Type 0) → Whole saids → (done ahead : List Saying) → AreFirst (λ all. all ≡ saids) done ahead → AreFirst Whole done ahead
first_in saids Whole whole done ahead is = record { saids = saids; whole = whole; others = is.others; saids_are = sym is.whole ∙ is.saids_are }

-- those of what some first things say
pub first_said : {A : Type 0} (Says : A → Saying → Type 0) (items front others : List A) (saids : List Saying) → items ≡ front ++ others → Say Says front saids → (done ahead : List Saying) → AreFirst (λ all. all ≡ saids) done ahead
    → AreFirst (SaidFirst Says items) done ahead
first_said Says items front others saids is say done ahead first = first_in saids (SaidFirst Says items) (record { acted = front; others = others; items_are = is; say = say }) done ahead first

-- of more things these are the first too
pub first_more : {A : Type 0} (Says : A → Saying → Type 0) (items more : List A) (done ahead : List Saying) → AreFirst (SaidFirst Says items) done ahead → AreFirst (SaidFirst Says (items ++ more)) done ahead
first_more Says items more done ahead is = record { saids = is.saids; whole = said_more Says items more is.saids is.whole; others = is.others; saids_are = is.saids_are }

-- and of these and one more
pub first_push : (said : List Saying) (last : Saying) (done ahead : List Saying) → AreFirst (λ all. all ≡ said) done ahead → AreFirst (λ all. all ≡ said ++ last ∷ []) done ahead
first_push said last done ahead is = record {
  saids = said ++ last ∷ [];
  whole = refl;
  others = is.others ++ last ∷ [];
  saids_are = ap (λ l. l ++ last ∷ []) (sym is.whole ∙ is.saids_are) ∙ append_assoc done (ahead ++ is.others) (last ∷ []) ∙ ap (λ l. done ++ l) (append_assoc ahead is.others (last ∷ []));
}

pub first_exact : (said : List Saying) (done ahead : List Saying) → said ≡ done ++ ahead → AreFirst (λ all. all ≡ said) done ahead
first_exact said done ahead is = record { saids = said; whole = refl; others = []; saids_are = is ∙ ap (λ l. done ++ l) (sym (append-nil ahead)) }

-- after others
pub first_after : (Whole Wider : List Saying → Type 0) (front : List Saying) → ((saids : List Saying) → Whole saids → Wider (front ++ saids)) → (done ahead : List Saying) → AreFirst Whole done ahead
    → AreFirst Wider (front ++ done) ahead
first_after Whole Wider front then done ahead is = record {
  saids = front ++ is.saids;
  whole = then is.saids is.whole;
  others = is.others;
  saids_are = ap (λ l. front ++ l) is.saids_are ∙ sym (append_assoc front done (ahead ++ is.others));
}

-- with what comes next
pub first_with : (Whole : List Saying → Type 0) (done ahead : List Saying) → AreFirst Whole done ahead → AreFirst Whole (done ++ ahead) []
first_with Whole done ahead is = record { saids = is.saids; whole = is.whole; others = is.others; saids_are = is.saids_are ∙ sym (append_assoc done ahead is.others) }

-- and without it
pub first_done : (Whole : List Saying → Type 0) (done ahead : List Saying) → AreFirst Whole done ahead → AreFirst Whole done []
first_done Whole done ahead is = record { saids = is.saids; whole = is.whole; others = ahead ++ is.others; saids_are = is.saids_are }

-- ---- what is answered

-- where one thing is said, it has one answer, and one history after it
pub answers_one : (Whole : List Saying → Type 0) → ((saids others : List Saying) → Whole saids → Whole others → saids ≡ others) → (s a b : Stand) (x y : List ℕ) → Answers Whole s a x → Answers Whole s b y → (x ≡ y) × (a.history ≡ b.history)
answers_one Whole one s a b x y p q =
    let same : p.said ≡ q.said = one p.said q.said p.whole q.whole in
    (p.text ∙ ap (replies_to s.history) same ∙ sym q.text, p.moved.0 ∙ ap (history_after_all s.history) same ∙ sym q.moved.0)

-- where less is known of what comes first
pub replies_wider : (Whole Wider : List Saying → Type 0) (view : View) (now h : History) (held : Option (List ℕ)) (log log' : Option (List Stamp))
    → ((done : List Saying) → AreFirst Whole done [] → AreFirst Wider done []) → Upholds (AreReplies Whole h) view now held log log' → Upholds (AreReplies Wider h) view now held log log'
replies_wider Whole Wider view now h held log log' then up =
    upheld_wider (AreReplies Whole h) (AreReplies Wider h) view now
    (λ bytes commands are. record { said = are.said; first = then are.said are.first; bytes_are = are.bytes_are; commands_are = are.commands_are }) held log log' up

-- ---- the writes of a call

module _ {D : Type 0} (view : D → View) where
  -- those of all that is gathered, once the disk has it, or a request after it has no reply
  pub writes_all : {waiting : ℕ} {said : List Saying} {s : Stand} {t : Running} {held held' : Option (List ℕ)} {text : List ℕ} (g : Gathered waiting said s t held held' text) {log log' : Option (List Stamp)}
      (old new : D) (only : (c : List ℕ) → (view new).since (view new).moment c → (view new).images c) (now : History) (pending : List Accepted) → OnDisk view old new t.held now pending
      → ((x : List ℕ) → held' ≡ Some x → Notes (view new).moment (length x + length text) log log')
      → Upholds (AreReplies (λ saids. saids ≡ said) s.history) (view new) now held log log'
  writes_all {waiting} {said} {s} {t} {held} {held'} {text} g {log} {log'} old new only now pending disk notes =
      let Whole : List Saying → Type 0 = λ saids. saids ≡ said in
      upheld_written view new only (AreReplies Whole s.history) now t.held.commands disk.list disk.accepted (commands_left (view new).images t.held.commands now disk.list pending disk.accepted disk.left)
      (length (replies_to s.history said))
      (record { said = said; first = first_all Whole said refl; bytes_are = refl; commands_are = ap (λ (x : History). x.commands) g.moved.0 })
      held held' g.written text log log log' g.wrote (omega (arith, length-append g.written text, ap length g.gathered)) (upheld_none (AreReplies Whole s.history) (view new) now held log) notes

  -- what was upheld before a call, and the writes of the call
  pub upheld_call : (old new : D) (now now' : History) (pending : List Accepted) → OnDisk view old new now now' pending → (Whole Wider : List Saying → Type 0) (h : History) (held : Option (List ℕ))
      (log log' log'' : Option (List Stamp)) → ((done : List Saying) → AreFirst Whole done [] → AreFirst Wider done []) → Upholds (AreReplies Wider h) (view old) now held log log'
      → Upholds (AreReplies Whole h) (view new) now' held log' log'' → Upholds (AreReplies Wider h) (view new) now' held log log''
  upheld_call old new now now' pending disk Whole Wider h held log log' log'' then up writes =
      let before = upheld_later view old new now now' pending disk (AreReplies Wider h) held log log' up in
      let after = replies_wider Whole Wider (view new) now' h held log' log'' then writes in
      upheld_then (AreReplies Wider h) (AreReplies Wider h) (AreReplies Wider h) (view new) now' [] (λ bytes commands is. is) (λ bytes commands is. subst (λ n. AreReplies Wider h n commands) (omega arith) is)
      held held log log' log'' (Appends-nil held) before after

  -- by its result
  pub upheld_result : (old new : D) (r : Result (Unit {0}) Stop) (kept kept' : History) (steps waiting : ℕ) (s : Stand) (First : List Saying → List Saying → Type 0) (Whole Wider : List Saying → Type 0) (held held' : Option (List ℕ)) (log log' log'' : Option (List Stamp))
      → OnOk r (OnDisk view old new kept kept' []) → IfErr r (λ why. Writes view old new (IsStopped why First waiting s (stand kept' steps)) kept kept' held held')
      → ((done : List Saying) → AreFirst Whole done [] → AreFirst Wider done []) → Upholds (AreReplies Wider s.history) (view old) kept held log log'
      → Upholds (AreReplies Whole s.history) (view new) kept' held log' log'' → Upholds (AreReplies Wider s.history) (view new) kept' held log log''
  upheld_result old new (Ok x) kept kept' steps waiting s First Whole Wider held held' log log' log'' disk stops then up writes =
      upheld_call old new kept kept' [] disk Whole Wider s.history held log log' log'' then up writes
  upheld_result old new (Err e) kept kept' steps waiting s First Whole Wider held held' log log' log'' disk stops then up writes =
      upheld_call old new kept kept' stops.pending stops.disk Whole Wider s.history held log log' log'' then up writes
