-- A path asks one question, and a head has one plan.
use Rattle.std.proofs.Common.{◌≡◌, ℕ, ◌^◌, ◌<◌, inl, inr, Bool, true, false, List, [], ◌∷◌, ◌++◌, length, take, drop, map, refl, sym, ap, ◌∙◌, arith, append_assoc, length-append, Option, Some, None, codes}
use Rattle.std.proofs.lemmas.List.{append_cancel_left, append_cancel_right, take_at, drop_at}
use Rattle.httparse.specs.Grammar.{RequestHead}
use Rattle.svc_base.specs.Calendar.{IsReadDay}
use Rattle.svc_base.specs.Text.{text_of_number, text_of_day, text_of_month, IsReadMonth}
use Rattle.svc_base.proofs.TextLemmas.{number_injective, month_injective, day_injective}
use Rattle.svc_types.specs.Requests.{IsQuery}
use Rattle.svc_types.specs.declared.requests.Query.{Query}
use Rattle.svc_types.specs.declared.requests.Query.TheVariants.{Books, At, Payoff, Escrow, Report, Trial, Custodial, Rows, Loan, History, Quote, Arrears, Aging, Status, Command, Key}
use Rattle.serv_http.specs.declared.ask.Plan.{Plan}
use Rattle.serv_http.specs.declared.ask.Plan.TheVariants.{Pass}
use Rattle.serv_http.specs.declared.ask.Due.TheVariants.{Get}
use Rattle.serv_http.specs.declared.route.Route.{Route}
use Rattle.serv_http.specs.declared.route.ContentLength.{ContentLength}
use Rattle.httparse.specs.Spans.{name_and_value}
use Rattle.serv_http.specs.Fields.{Line, has_line, values_of, content_length}
use Rattle.serv_http.specs.Routes.{route_of, route_of_query, path_of_query, Spells}
use Rattle.serv_http.specs.Plans.{Step, FirstOf, IsQuestion, IsRouted, route_steps, body_length, IsPlan, length_steps, is_last}

-- what stands between two texts
pub between : (p a b s : List ℕ) → p ++ (a ++ s) ≡ p ++ (b ++ s) → a ≡ b
between p a b s e = append_cancel_right a b s (append_cancel_left p (a ++ s) (b ++ s) e)

-- two texts whose ends are as long
pub same-ends : (u v x y : List ℕ) → length x ≡ length y → u ++ x ≡ v ++ y → (u ≡ v) × (x ≡ y)
same-ends u v x y l e =
    let size : length v ≡ length u = omega (arith, ap length e, length-append u x, length-append v y) in (
      sym (take_at u x (length u) refl) ∙ ap (take (length u)) e ∙ take_at v y (length u) size,
      sym (drop_at u x (length u) refl) ∙ ap (drop (length u)) e ∙ drop_at v y (length u) size,
    )

two-between : (p a b s x y : List ℕ) → length x ≡ length y → p ++ (a ++ (s ++ x)) ≡ p ++ (b ++ (s ++ y)) → (a ≡ b) × (x ≡ y)
two-between p a b s x y l e =
    let ends = same-ends (a ++ s) (b ++ s) x y l
    (append_assoc a s x ∙ append_cancel_left p (a ++ (s ++ x)) (b ++ (s ++ y)) e ∙ sym (append_assoc b s y)) in
    (append_cancel_right a b s ends.0, ends.1)

pub length-day : (d : ℕ) → length (text_of_day d) ≡ 10
unfolding text_of_day text_of_month
length-day d = refl

same-number : (m n : ℕ) → m < 2 ^ 32 → n < 2 ^ 32 → text_of_number m ≡ text_of_number n → m ≡ n
same-number m n p q e = number_injective m n (omega arith) (omega arith) e

same-day : (c d : ℕ) → IsReadDay c → IsReadDay d → text_of_day c ≡ text_of_day d → c ≡ d
same-day c d p q e =
    day_injective c d (record { exists = p.exists; year = omega arith }) (record { exists = q.exists; year = omega arith }) e

same-month : (m n : ℕ) → IsReadMonth m → IsReadMonth n → text_of_month m ≡ text_of_month n → m ≡ n
same-month m n p q e = month_injective m n (omega arith) (omega arith) e

query-unique : (p q : Query) → IsQuery p → IsQuery q → route_of_query p ≡ route_of_query q
    → path_of_query p ≡ path_of_query q → p ≡ q
unfolding path_of_query
query-unique (Books l) (Books m) p q r e =
    ap Books (same-number l m p q (between (codes "/v1/loans/") (text_of_number l) (text_of_number m) (codes "/books") e))
query-unique (At l c) (At m d) p q r e =
    let t = two-between (codes "/v1/loans/") (text_of_number l) (text_of_number m) (codes "/books/") (text_of_day c) (text_of_day d)
    (length-day c ∙ sym (length-day d)) e in
    ap (λ (n : ℕ). At n c) (same-number l m p.0 q.0 t.0) ∙ ap (At m) (same-day c d p.1 q.1 t.1)
query-unique (Payoff l c) (Payoff m d) p q r e =
    let t = two-between (codes "/v1/loans/") (text_of_number l) (text_of_number m) (codes "/payoff/") (text_of_day c) (text_of_day d)
    (length-day c ∙ sym (length-day d)) e in
    ap (λ (n : ℕ). Payoff n c) (same-number l m p.0 q.0 t.0) ∙ ap (Payoff m) (same-day c d p.1 q.1 t.1)
query-unique (Escrow l) (Escrow m) p q r e =
    ap Escrow (same-number l m p q (between (codes "/v1/loans/") (text_of_number l) (text_of_number m) (codes "/escrow") e))
query-unique (Report m) (Report n) p q r e =
    ap Report (same-month m n p q (between (codes "/v1/months/") (text_of_month m) (text_of_month n) (codes "/report") e))
query-unique (Trial m) (Trial n) p q r e =
    ap Trial (same-month m n p q (between (codes "/v1/months/") (text_of_month m) (text_of_month n) (codes "/trial") e))
query-unique Custodial Custodial p q r e = refl
query-unique (Rows m) (Rows n) p q r e =
    ap Rows (same-number m n p q (append_cancel_left (codes "/v1/rows/") (text_of_number m) (text_of_number n) e))
query-unique (Loan m) (Loan n) p q r e =
    ap Loan (same-number m n p q (append_cancel_left (codes "/v1/loans/") (text_of_number m) (text_of_number n) e))
query-unique (Command m) (Command n) p q r e =
    ap Command (same-number m n p q (append_cancel_left (codes "/v1/commands/") (text_of_number m) (text_of_number n) e))
query-unique (History l) (History m) p q r e =
    ap History (same-number l m p q (between (codes "/v1/loans/") (text_of_number l) (text_of_number m) (codes "/history") e))
query-unique (Arrears l) (Arrears m) p q r e =
    ap Arrears (same-number l m p q (between (codes "/v1/loans/") (text_of_number l) (text_of_number m) (codes "/arrears") e))
query-unique (Quote l c) (Quote m d) p q r e =
    let t = two-between (codes "/v1/loans/") (text_of_number l) (text_of_number m) (codes "/quote/") (text_of_day c) (text_of_day d)
    (length-day c ∙ sym (length-day d)) e in
    ap (λ (n : ℕ). Quote n c) (same-number l m p.0 q.0 t.0) ∙ ap (Quote m) (same-day c d p.1 q.1 t.1)
query-unique Aging Aging p q r e = refl
query-unique Status Status p q r e = refl
query-unique (Key a) (Key b) p q r e = ap Key (append_cancel_left (codes "/v1/keys/") a b e)
query-unique a b _ _ r _ = absurd (cc r)

spells-unique : (r : Route) (path : List ℕ) (p q : Query) → Spells r path p → Spells r path q → p ≡ q
spells-unique r path p q x y =
    query-unique p q x.formed y.formed (sym x.routed ∙ y.routed) (sym x.spelled ∙ y.spelled)

-- the first step that holds is one
first-of-unique : (steps : List Step) (otherwise : Plan → Type 0)
    → ((p q : Plan) → otherwise p → otherwise q → p ≡ q) → (p q : Plan) → FirstOf steps otherwise p → FirstOf steps otherwise q → p ≡ q
first-of-unique [] otherwise one p q x y = one p q x y
first-of-unique ((true, answer) ∷ more) otherwise one p q x y = x ∙ sym y
first-of-unique ((false, answer) ∷ more) otherwise one p q x y = first-of-unique more otherwise one p q x y

question-unique : (r : Route) (path : List ℕ) (size : ℕ) (last : Bool) (p q : Plan)
    → IsQuestion r path size last p → IsQuestion r path size last q → p ≡ q
question-unique r path size last p q (inl (a, x, e)) (inl (b, y, f)) =
    let same = spells-unique r path a b x y in
    e ∙ ap (λ (z : Query). Pass size (Get z last)) same ∙ sym f
question-unique r path size last p q (inl (a, x, e)) (inr (none, f)) = absurd (none a x)
question-unique r path size last p q (inr (none, e)) (inl (b, y, f)) = absurd (none b y)
question-unique r path size last p q (inr (none, e)) (inr (other, f)) = e ∙ sym f

routed-unique : (o : Option Route) (length : ContentLength) (method path : List ℕ) (last : Bool) (p q : Plan)
    → IsRouted o length method path last p → IsRouted o length method path last q → p ≡ q
routed-unique None length method path last p q x y = x ∙ sym y
routed-unique (Some r) length method path last p q x y =
    first-of-unique (route_steps r length method last) (IsQuestion r path (body_length length) last)
    (question-unique r path (body_length length) last) p q x y

-- a head has one plan
pub plan-unique : (h : RequestHead) (p q : Plan) → IsPlan h p → IsPlan h q → p ≡ q
plan-unique h p q x y =
    let lines : List Line = map name_and_value h.fields in
    let size : ContentLength = content_length (values_of (codes "content-length") lines) in
    let last : Bool = is_last h.minor lines in
    first-of-unique (length_steps (has_line (codes "transfer-encoding") lines) size)
    (IsRouted (route_of h.target) size h.method h.target last)
    (routed-unique (route_of h.target) size h.method h.target last) p q x y
