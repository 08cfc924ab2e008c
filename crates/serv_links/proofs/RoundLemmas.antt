-- Requests in order, one after another.
use Rattle.std.proofs.Common.{◌≡◌, ℕ, suc, ◌+◌, ◌-◌, ◌<◌, ◌≤◌, List, [], ◌∷◌, ◌++◌, length, take, drop, get_or, refl, sym, ap, subst, ◌∙◌, inl, inr, arith, append_assoc, append-nil, length-append, drop-cons, add-one}
use Rattle.std.specs.Prelude.{Option, Result, Ok, Err, OnOk, OnErr}
use Rattle.std.specs.Io.KnownBytes.{Appends}
use Rattle.std.proofs.KnownBytes.{Appends-trans}
use Rattle.std.proofs.lemmas.Bool.{cases_lt}
use Rattle.std.proofs.lemmas.List.{take-append-drop}
use Rattle.svc_world.specs.World.{Accepted}
use Rattle.serv_disk.specs.Faults.{AppendsPart, HasRisen}
use Rattle.serv_http.specs.declared.ask.Ask.{Ask}
use Rattle.serv_http.specs.declared.conn.Conn.{Conn}
use Rattle.serv_http.specs.Conns.{IsFed}
use Rattle.serv_machine.specs.Answering.{IsStopped, Writes}
use Rattle.serv_machine.specs.History.{History, Stand}
use Rattle.serv_machine.specs.OnDisk.{OnDisk}
use Rattle.serv_machine.specs.Sayings.{Saying, Say, SaidFirst, replies_to}
use Rattle.serv_machine.specs.declared.faults.Stop.{Stop}
use Rattle.serv_machine.specs.declared.faults.Stop.TheVariants.{OutOfMemory}
use Rattle.serv_machine.proofs.SayingLemmas.{replies_to-append, moves_all-append, say-append, say_length, said_after, said_all, said_none}
use Rattle.serv_machine.proofs.AnsweringLemmas.{first_after, first_more}
use Rattle.serv_machine.proofs.GatheredLemmas.{stops_after}
use Rattle.serv_machine.proofs.StoppedLemmas.{stopped_at, stopped_after}
use Rattle.serv_links.specs.Meanings.{Says, last_text}
use Rattle.serv_links.specs.Outcomes.{IsFront, AppendsFront, IsAnswered, ComeFirst, IsEnded, IsRound, IsCutOff, IsPiece}
use Rattle.serv_disk.specs.Disks.{View}

-- ---- which of them come first

-- of these requests all are said
come_all : (n : ℕ) (asks : List Ask) (saids done : List Saying) (next : Saying) → Say Says asks saids → n ≡ length asks - 1 → saids ≡ done ++ next ∷ [] → ComeFirst n asks done (next ∷ [])
come_all n asks saids done next say count is =
    let long = say_length Says asks saids say in
    let parts = ap (λ (l : List Saying). length l) is in (
      omega (arith, count, long, parts, length-append done (next ∷ [])),
      record { saids = saids; whole = said_all Says asks saids say; others = []; saids_are = is },
    )

-- one that was begun is the last of them: so many less one are answered
pub all_stopped : (why : Stop) (n : ℕ) (asks : List Ask) (saids : List Saying) (s s' : Stand) (pending : List Accepted) (w : List ℕ) → Say Says asks saids → n ≡ length asks - 1 → (why ≡ OutOfMemory → ⊥)
    → IsStopped why (λ done ahead. saids ≡ done ++ ahead) 0 s s' pending w → IsStopped why (ComeFirst n asks) 0 s s' pending w
all_stopped why n asks saids s s' pending w say count memory is =
    stopped_at (λ done ahead. saids ≡ done ++ ahead) (ComeFirst n asks) 0 s s' pending w (λ done next. come_all n asks saids done next say count) why memory is

-- those that are answered come first
pub come_then : (n : ℕ) (asks others : List Ask) (saids ahead : List Saying) → Say Says asks saids → n ≡ length asks → SaidFirst Says (asks ++ others) (saids ++ ahead) → ComeFirst n (asks ++ others) saids ahead
come_then n asks others saids ahead say count all = (
  count ∙ sym (say_length Says asks saids say),
  record { saids = saids ++ ahead; whole = all; others = []; saids_are = ap (λ l. saids ++ l) (sym (append-nil ahead)) },
)

-- of more requests these are the first too
pub come_wider : (n : ℕ) (asks more : List Ask) (done ahead : List Saying) → ComeFirst n asks done ahead → ComeFirst n (asks ++ more) done ahead
come_wider n asks more done ahead is = (is.0, first_more Says asks more done ahead is.1)

come_after : (n m : ℕ) (xs ys : List Ask) (front done ahead : List Saying) → Say Says xs front → n ≡ length xs → ComeFirst m ys done ahead → ComeFirst (n + m) (xs ++ ys) (front ++ done) ahead
come_after n m xs ys front done ahead say count is =
    let long = say_length Says xs front say in
    let more = is.0 in (
      omega (arith, count, long, more, length-append front done),
      first_after (SaidFirst Says ys) (SaidFirst Says (xs ++ ys)) front (λ saids. said_after Says xs ys front saids say) done ahead is.1,
    )

-- ---- requests in order

pub answered_none : (s s' : Stand) → s'.history ≡ s.history → s'.steps ≤ s.steps → IsAnswered 0 [] s s' []
answered_none s s' same cost = record { count = refl; answers = record { said = []; whole = tt; text = refl; moved = (same, omega (arith, cost)) } }

pub answered_more : (n m : ℕ) (xs ys : List Ask) (s mid s' : Stand) (w1 w2 : List ℕ) → IsAnswered n xs s mid w1 → IsAnswered m ys mid s' w2 → IsAnswered (n + m) (xs ++ ys) s s' (w1 ++ w2)
answered_more n m xs ys s mid s' w1 w2 first second =
    let a = first.answers in
    let b = second.answers in
    record {
      count = (let long = length-append xs ys in let k = first.count in let l = second.count in omega arith);
      answers = record {
        said = a.said ++ b.said;
        whole = say-append Says xs ys a.said b.said a.whole b.whole;
        text = ap (λ t. t ++ w2) a.text ∙ (ap (λ t. replies_to s.history a.said ++ t) (b.text ∙ ap (λ h. replies_to h b.said) a.moved.0) ∙ sym (replies_to-append s.history a.said b.said));
        moved = moves_all-append a.said b.said s mid s' a.moved b.moved;
      };
    }

-- no request is answered, and no memory is there
pub none_stopped : (asks : List Ask) (s : Stand) → IsStopped OutOfMemory (ComeFirst 0 asks) 0 s s [] []
none_stopped asks s = record {
  done = [];
  ahead = [];
  first = (refl, record { saids = []; whole = said_none Says asks; others = []; saids_are = refl });
  mid = s;
  moved = (refl, omega arith);
  next = (refl, refl, (refl, omega arith));
  rest = [];
  text = refl;
  few = omega arith;
}

pub ended_more : (cut : Type 0) (why : Stop) (n m : ℕ) (xs ys : List Ask) (s mid s' : Stand) (pending : List Accepted) (w1 w2 : List ℕ) → IsAnswered n xs s mid w1 → IsEnded cut why m ys mid s' pending w2
    → IsEnded cut why (n + m) (xs ++ ys) s s' pending (w1 ++ w2)
ended_more cut why n m xs ys s mid s' pending w1 w2 first second = record {
  before = w1 ++ second.before;
  stopped = stopped_after (Say Says xs) (ComeFirst m ys) (ComeFirst (n + m) (xs ++ ys)) 0 s mid s' pending w1 second.before first.answers
      (λ done ahead. come_after n m xs ys first.answers.said done ahead first.answers.whole first.count) why second.stopped;
  part = second.part;
  wrote_is = ap (λ t. w1 ++ t) second.wrote_is ∙ sym (append_assoc w1 second.before second.part);
  front = second.front;
}

pub parted : (i : ℕ) (asks : List Ask) (a d : Ask) → i < length asks → a ≡ get_or asks i d → asks ≡ (take i asks ++ a ∷ []) ++ drop (i + 1) asks
parted i asks a d lt is =
    sym (take-append-drop i asks) ∙ ap (λ l. take i asks ++ l) (drop-cons asks i d lt ∙ (ap (λ x. x ∷ drop (suc i) asks) (sym is) ∙ ap (λ n. a ∷ drop n asks) (sym (add-one i)))) ∙ sym (append_assoc (take i asks) (a ∷ []) (drop (i + 1) asks))

pub piece_of : (cut : Type 0) (o : Result (Unit {0}) Stop) (n : ℕ) (asks : List Ask) (bytes : List ℕ) (c : Conn) (s s' : Stand) (pending : List Accepted) (w : List ℕ) → IsFed bytes asks c → IsRound cut o n asks s s' pending w
    → IsPiece cut o n bytes c s s' pending w
piece_of cut (Ok done) n asks bytes c s s' pending w fed round = (asks, fed, round.0, round.1)
piece_of cut (Err why) n asks bytes c s s' pending w fed round = record { asks = asks; known = inr (fed.0, fed.1); ended = round }

-- ---- what is written last

pub front_by : {E : Type 0} (cut : Type 0) (r : Result (Unit {0}) E) (held held' : Option (List ℕ)) (text : List ℕ) → OnOk r (Appends held held' text) → OnErr r (AppendsPart held held' text) → OnErr r cut
    → AppendsFront cut held held' text
front_by cut (Ok done) held held' text whole part risen = record { part = text; appends = whole; front = record { rest = []; joined = sym (append-nil text); all = λ calm. refl } }
front_by cut (Err e) held held' text whole part risen =
    record { part = part.part; appends = part.wrote; front = record { rest = part.partial.rest; joined = part.partial.joined; all = λ calm. absurd (calm risen) } }

-- ---- what is said of a cut holds of a later one

front_weaker : (cut later : Type 0) (part whole : List ℕ) → (cut → later) → IsFront cut part whole → IsFront later part whole
front_weaker cut later part whole then f = record { rest = f.rest; joined = f.joined; all = λ calm. f.all (λ c. calm (then c)) }

pub front_later : (cut later : Type 0) (held held' : Option (List ℕ)) (text : List ℕ) → (cut → later) → AppendsFront cut held held' text → AppendsFront later held held' text
front_later cut later held held' text then f = record { part = f.part; appends = f.appends; front = front_weaker cut later f.part text then f.front }

pub cut_off_weaker : (Known : List Ask → Type 0) (cut later : Type 0) (why : Stop) (n : ℕ) (s s' : Stand) (pending : List Accepted) (w : List ℕ) → (cut → later) → IsCutOff Known cut why n s s' pending w
    → IsCutOff Known later why n s s' pending w
cut_off_weaker Known cut later why n s s' pending w then is =
    let e = is.ended in
    record { asks = is.asks; known = is.known; ended = record { before = e.before; stopped = e.stopped; part = e.part; wrote_is = e.wrote_is; front = front_weaker cut later e.part (last_text why) then e.front } }

-- ---- counts of faults

-- it rose in the last call
pub risen_last : (old mid new : ℕ) → old ≤ mid → mid ≤ new → HasRisen mid new → HasRisen old new
risen_last old mid new before after (inl more) = inl (omega arith)
risen_last old mid new before after (inr full) = elim (cases_lt old mid) [ inl less ↦ inl (omega arith) | inr same ↦ inr (omega arith) ]

-- ---- with what is left on a disk

module _ {D : Type 0} (view : D → View) where
  -- it stopped within the first of some requests
  pub front_stops : (why : Stop) (old mid new : D) (n : ℕ) (asks first more : List Ask) (s s' : Stand) (h h1 h2 : History) (held held' : Option (List ℕ)) → asks ≡ first ++ more
      → OnDisk view old mid h h1 [] → Writes view mid new (IsStopped why (ComeFirst n first) 0 s s') h1 h2 held held'
      → Writes view old new (IsStopped why (ComeFirst n asks) 0 s s') h h2 held held'
  front_stops why old mid new n asks first more s s' h h1 h2 held held' is before stops =
      stops_after (ComeFirst n first) (ComeFirst n asks) (λ done ahead x. subst (λ l. ComeFirst n l done ahead) (sym is) (come_wider n first more done ahead x)) 0 s s'
      view old mid new why h h1 h2 held held' before stops

  -- and the last text is written, by a link that then holds so
  pub stops_ended : (cut : Type 0) (why : Stop) (old new : D) (n : ℕ) (asks : List Ask) (s s' : Stand) (h h' : History) (held held' held'' : Option (List ℕ))
      (stops : Writes view old new (IsStopped why (ComeFirst n asks) 0 s s') h h' held held') (f : AppendsFront cut held' held'' (last_text why))
      → Writes view old new (IsEnded cut why n asks s s') h h' held held''
  stops_ended cut why old new n asks s s' h h' held held' held'' stops f = record {
    pending = stops.pending;
    written = stops.written ++ f.part;
    wrote = Appends-trans held held' held'' stops.written f.part stops.wrote f.appends;
    says_so = record { before = stops.written; stopped = stops.says_so; part = f.part; wrote_is = refl; front = f.front };
    disk = stops.disk;
  }

  -- no requests are read, for want of memory
  pub unread_ended : (Known : List Ask → Type 0) → Known [] → (cut : Type 0) (d : D) (s : Stand) (held held' : Option (List ℕ)) (f : AppendsFront cut held held' (last_text OutOfMemory))
      → OnDisk view d d s.history s.history []
      → Writes view d d (IsCutOff Known cut OutOfMemory 0 s s) s.history s.history held held'
  unread_ended Known known cut d s held held' f disk = record {
    pending = [];
    written = f.part;
    wrote = f.appends;
    says_so = record { asks = []; known = known; ended = record { before = []; stopped = none_stopped [] s; part = f.part; wrote_is = refl; front = f.front } };
    disk = disk;
  }
