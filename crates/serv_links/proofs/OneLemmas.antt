-- Bytes have one answer.
use Rattle.std.proofs.Common.{◌≡◌, ℕ, Bool, arith, append_assoc, append-nil, length-append, List, [], ◌∷◌, ◌++◌, length, refl, sym, ap, subst, ◌∙◌}
use Rattle.std.specs.Prelude.{Option, Some}
use Rattle.serde_json.specs.Data.{Data}
use Rattle.svc_types.specs.Requests.{IsRequest}
use Rattle.svc_types.specs.declared.requests.Request.{Request}
use Rattle.serv_json.specs.Bodies.{IsBodyOf}
use Rattle.serv_json.specs.FieldsRead.{HasBody}
use Rattle.serv_json.proofs.MemberLemmas.{asked}
use Rattle.serv_json.proofs.RequestLemmas.{asks_once}
use Rattle.serv_http.specs.declared.ask.Allow.{Allow}
use Rattle.serv_http.specs.declared.ask.Ask.{Ask}
use Rattle.serv_http.specs.declared.ask.Ask.TheVariants.{Post, Get, Fault}
use Rattle.serv_http.specs.Streams.{AsksTo}
use Rattle.serv_http.proofs.StreamLemmas.{asks-unique, asks-first}
use Rattle.serv_links.specs.declared.meaning.Meaning.{Meaning}
use Rattle.serv_links.specs.declared.meaning.Meaning.TheVariants.{Asks, Faulty}
use Rattle.serv_links.specs.Meanings.{Means, Says, means, saying_of}
use Rattle.serv_machine.specs.History.{History, Stand}
use Rattle.serv_machine.specs.Sayings.{Saying, Say, history_after_all, replies_to}
use Rattle.serv_machine.proofs.SayingLemmas.{replies_to-append, say_one, say_parted}
use Rattle.serv_machine.specs.declared.faults.Stop.TheVariants.{WriteFault}
use Rattle.serv_links.specs.Outcomes.{AreInFront, IsCutOff}
use Rattle.svc_world.specs.World.{Accepted}
use Rattle.serv_disk.specs.Faults.{HasRisen, IsProperPrefix}
use Rattle.serv_links.specs.Links.{IsAll}

-- a body asks for one request
body_one : (r q : Request) (body : List ℕ) → IsRequest r → IsRequest q → IsBodyOf r body → IsBodyOf q body → q ≡ r
body_one r q body a b p s =
    let e : Some s.json ≡ Some p.json = sym s.is_read ∙ p.is_read in
    let same : s.json ≡ p.json = cc in
    asks_once p.json r q a b (asked p.json r p.asks) (subst (λ (d : Data). HasBody d q) same (asked s.json q s.asks))

asks_same : (r q : Request) (x y last : Bool) → r ≡ q → x ≡ last → y ≡ last → Asks r x ≡ Asks q y
asks_same r q x y last rs xs ys = ap (λ z. Asks z x) rs ∙ ap (Asks q) (xs ∙ sym ys)

faulty_same : (s s' status : ℕ) (x y last : Bool) (a b allow : Option Allow) → s ≡ status → s' ≡ status → x ≡ last → y ≡ last → a ≡ allow → b ≡ allow → Faulty s x a ≡ Faulty s' y b
faulty_same s s' status x y last a b allow p q xs ys al bl =
    ap (λ z. Faulty z x a) (p ∙ sym q) ∙ (ap (λ z. Faulty s' z a) (xs ∙ sym ys) ∙ ap (Faulty s' y) (al ∙ sym bl))

pub means_one : (a : Ask) (m k : Meaning) → Means a m → Means a k → m ≡ k
means_one (Post body last) (Asks r x) (Asks q y) p s = asks_same r q x y last (body_one q r body s.0 p.0 s.1 p.1) p.2 s.2
means_one (Post body last) (Asks r x) (Faulty status y allow) p s = absurd (s.0 r p.0 p.1)
means_one (Post body last) (Faulty status x allow) (Asks r y) p s = absurd (p.0 r s.0 s.1)
means_one (Post body last) (Faulty status x allow) (Faulty status' y allow') p s = faulty_same status status' 400 x y last allow allow' _ p.1 s.1 p.2 s.2 p.3 s.3
means_one (Get q last) (Asks r x) (Asks r' y) p s = asks_same r r' x y last (p.0 ∙ sym s.0) p.1 s.1
means_one (Get q last) (Asks r x) (Faulty status y allow) p s = absurd s
means_one (Get q last) (Faulty status x allow) k p s = absurd p
means_one (Fault status last allow) (Asks r x) k p s = absurd p
means_one (Fault status last allow) (Faulty s1 x a) (Asks r y) p s = absurd s
means_one (Fault status last allow) (Faulty s1 x a) (Faulty s2 y b) p s = faulty_same s1 s2 status x y last a b allow p.0 s.0 p.1 s.1 p.2 s.2

-- what a request says is said by a meaning of it
said_by : (a : Ask) (m : Saying) → Says a m → (x : Meaning) × Means a x × (m ≡ saying_of x)
said_by a _ (means x is) = (x, is, refl)

says_one : (a : Ask) (m k : Saying) → Says a m → Says a k → m ≡ k
says_one a m k p q =
    let x = said_by a m p in
    let y = said_by a k q in
    x.2 ∙ (ap saying_of (means_one a x.0 y.0 x.1 y.1) ∙ sym y.2)

pub all_one : (n m : ℕ) (taken added more : List ℕ) (s t u : Stand) (l k : Option (List ℕ)) → IsAll n taken added s t l → IsAll m taken more s u k
    → (n ≡ m) × (added ≡ more) × (t.history ≡ u.history) × (l ≡ k)
all_one n m taken added more s t u l k p q =
    let one = asks-unique p.asks q.asks taken l k p.asked q.asked in
    let a = p.answered.answers in
    let b = q.answered.answers in
    let same : a.said ≡ b.said = say_one Says says_one q.asks a.said b.said (subst (λ (z : List Ask). Say Says z a.said) one.0 a.whole) b.whole in (
      p.answered.count ∙ (ap (λ (z : List Ask). length z) one.0 ∙ sym q.answered.count),
      a.text ∙ (ap (replies_to s.history) same ∙ sym b.text),
      a.moved.0 ∙ (ap (history_after_all s.history) same ∙ sym b.moved.0),
      one.1,
    )

pub first_of_all : (taken : List ℕ) (done asks : List Ask) (l : Option (List ℕ)) → AreInFront taken done → AsksTo taken asks l → (more : List Ask) × (asks ≡ done ++ more)
first_of_all taken done asks l first asked = asks-first done asks first.front first.more first.left l first.asked (subst (λ (s : List ℕ). AsksTo s asks l) first.parted asked)

-- ---- what is cut off

-- a front part of some replies is one of all that follow
prefix_grows : (h : History) (said more : List Saying) (part : List ℕ) → IsProperPrefix part (replies_to h said) → IsProperPrefix part (replies_to h (said ++ more))
prefix_grows h said more part is =
    let others = replies_to (history_after_all h said) more in
    let some = is.some in
    record {
      rest = is.rest ++ others;
      some = omega (arith, some, length-append is.rest others);
      joined = replies_to-append h said more ∙ (ap (λ x. x ++ others) is.joined ∙ append_assoc part is.rest others);
    }

-- nothing is written last
no_part : (part rest : List ℕ) → [] ≡ part ++ rest → part ≡ []
no_part [] rest is = refl
no_part (x ∷ part) rest is = absurd (cc)

-- what is written where a write failed is a proper prefix of all responses
pub cut_of_all : (n m : ℕ) (taken added whole : List ℕ) (s t u : Stand) (pending : List Accepted) (l : Option (List ℕ)) (before after : ℕ) → IsCutOff (AreInFront taken) (HasRisen before after) WriteFault n s t pending added
    → IsAll m taken whole s u l → IsProperPrefix added whole
cut_of_all n m taken added whole s t u pending l earlier later cut all =
    let e = cut.ended in
    let stopped = e.stopped.1 in
    let first = stopped.first.1 in
    let acted = first.whole.acted in
    let rest = first_of_all taken cut.asks all.asks l cut.known all.asked in
    let said = all.answered.answers.said in
    let asks_are : all.asks ≡ acted ++ (first.whole.others ++ rest.0) = rest.1 ∙ (ap (λ (z : List Ask). z ++ rest.0) first.whole.items_are ∙ append_assoc acted first.whole.others rest.0) in
    let at = say_parted Says acted (first.whole.others ++ rest.0) said (subst (λ (z : List Ask). Say Says z said) asks_are all.answered.answers.whole) in
    let same : at.0 ≡ first.saids = say_one Says says_one acted at.0 first.saids at.2 first.whole.say in
    let done : List Saying = stopped.done ++ stopped.last ∷ [] in
    let said_are : said ≡ done ++ (first.others ++ at.1) =
    at.3 ∙ (ap (λ z. z ++ at.1) (same ∙ (first.saids_are ∙ sym (append_assoc stopped.done (stopped.last ∷ []) first.others))) ∙ append_assoc done first.others at.1) in
    let added_is : added ≡ e.before = e.wrote_is ∙ (ap (λ z. e.before ++ z) (no_part e.part e.front.rest e.front.joined) ∙ append-nil e.before) in
    subst (λ z. IsProperPrefix z whole) (sym added_is)
    (subst (IsProperPrefix e.before) (sym (all.answered.answers.text ∙ ap (replies_to s.history) said_are))
    (prefix_grows s.history done (first.others ++ at.1) e.before stopped.cut))
