-- The months that a part closes and remits are those that it expects; other closings and remittances show
-- nothing.
use Rattle.std.proofs.Common.{◌≡◌, ℕ, ◌+◌, ◌≤◌, ◌<◌, Bool, true, false, not, List, [], ◌∷◌, get_or, arith, refl, sym, ap, ◌∙◌}
use Rattle.std.specs.Prelude.{◌==◌, nat_lt, nat_le, if◌then◌else◌, Option, Some, None, IfSome}
use Rattle.std.specs.List.{All}
use Rattle.std.specs.Option.{option_map_or}
use Rattle.std.proofs.lemmas.List.Elements.{All-head, All-tail}
use Rattle.std.proofs.lemmas.Bool.Decides.{nat_tests}
use Rattle.svc_base.specs.Calendar.{month_of}
use Rattle.svc_types.specs.declared.requests.Command.TheVariants as command
use Rattle.svc_types.specs.declared.replies.Refusal.TheVariants as why
use Rattle.period_adjust.specs.declared.adjustment.Adjustment.{Adjustment}
use Rattle.period_adjust.specs.Sealed.{Sealed}
use Rattle.period_adjust.specs.Conditions.{last_month, IsClosed}
use Rattle.period_adjust.specs.Kept.{AreConsecutive, IsBefore, month_after, next_remit}
use Rattle.period_adjust.proofs.KeptLemmas.{closed_from_first}
use Rattle.svc_world.specs.Held.{Held, boarded_month}
use Rattle.svc_world.specs.World.{World}
use Rattle.svc_world.specs.Refusals.{case, full_of_commands, is_closed_by, not_closed, first_expected, expected_close, expected_remit, remit_cases, refusal_of}
use Rattle.svc_world.specs.Worlds.{IsOwned, IsWorld}
use Rattle.svc_world.proofs.CaseLemmas.{past}
use Rattle.svc_world.proofs.ClosedWorlds.{IsClosing, closing, after_last}
use Rattle.svc_world.proofs.LoanListLemmas.{found_id, found_all}
use Rattle.servicing_transfer.specs.Parts.{is_since}
use Rattle.servicing_transfer.proofs.ShownLoans.{loans_shown, IsShown}
use Rattle.servicing_transfer.proofs.ShownChanges.{adjustments_shown, adjustment_at, reports_shown, report_shown}
use Rattle.servicing_transfer.proofs.StepShown.{remitted_shown, shown, All_shown}
use Rattle.servicing_transfer.proofs.ShownRefusals.{IsUpward, last_shown}
use Rattle.servicing_transfer.proofs.LeastMonth.{least_of, first_is, least_low}

pub since_upward : (o : Option ℕ) → IsUpward (is_since o)
since_upward None p q le is = absurd (cc)
since_upward (Some least) p q le is = grind (arith, nat_tests)

-- ---- closings

-- the month that the part expects, where it is one of its months
close_by : (months : ℕ → Bool) (d p : ℕ) (last : Option ℕ) (first : ℕ) → IfSome last (λ m. p ≡ m + 1) → (remitted_shown months last ≡ None → first ≡ p) → p ≡ option_map_or (λ m. m + 1) (remitted_shown months last) first
close_by months d p None first next none = sym (none refl)
close_by months d p (Some m) first next none =
    elim (months m) as (λ v. ((if v then Some m else None) ≡ None → first ≡ p) → p ≡ option_map_or (λ m. m + 1) (if v then Some m else None) first) [
      | true ↦ λ h. next
      | false ↦ λ h. sym (h refl)
    ] none

-- the first closing of a part is of the least month
first_close : (set : ℕ → Bool) (place : ℕ → ℕ) (least : Option ℕ) (w : World) (p : ℕ) → IsClosing w p → is_since least p ≡ true → ((m : ℕ) → least ≡ Some m → m ≤ p → least_of set w.loans ≡ Some m) → remitted_shown (is_since least) (last_month w.seals.reports) ≡ None → first_expected (month_of w.today) (loans_shown set place w.loans) ≡ p
first_close set place None w p c is there none = absurd (cc)
first_close set place (Some m) w p c is there none =
    let le : m ≤ p = grind (arith, nat_tests) in
    let of = there m refl le in
    let low = at_least (last_month w.seals.reports) none c.next (λ e. least_low set p m w.loans (c.first e) of) in
    let same : m ≡ p = omega (arith, le, low) in
    first_is set place (month_of w.today) m w.loans of ∙ same
  where
    at_least : (o : Option ℕ) → remitted_shown (is_since (Some m)) o ≡ None → IfSome o (λ last. p ≡ last + 1) → (o ≡ None → p ≤ m) → p ≤ m
    at_least None hidden next first = first refl
    at_least (Some last) hidden next first =
        elim (nat_le m last) as (λ v. nat_le m last ≡ v → (if v then Some last else None) ≡ None → p ≤ m) [
          | true ↦ λ e h. absurd (cc)
          | false ↦ λ e h. let lt : last < m = grind (arith, nat_tests) in omega (arith, lt, next)
        ] refl hidden

pub timely_close : (set : ℕ → Bool) (place : ℕ → ℕ) (least : Option ℕ) (n : ℕ) (w : World) (p : ℕ) → AreConsecutive w.seals.reports → refusal_of n w (command.Close p) ≡ None → is_since least p ≡ true → ((m : ℕ) → least ≡ Some m → m ≤ p → least_of set w.loans ≡ Some m) → p ≡ expected_close (shown set (is_since least) place w)
timely_close set place least n w p con none is there =
    let c = (closing n p w none).0 in
    close_by (is_since least) (month_of w.today) p (last_month w.seals.reports) (first_expected (month_of w.today) (loans_shown set place w.loans)) c.next (first_close set place least w p c is there)
    ∙ ap (λ o. option_map_or (λ m. m + 1) o (first_expected (month_of w.today) (loans_shown set place w.loans))) (sym (last_shown set (is_since least) place w.seals.reports (since_upward least) con))

-- no adjustment of the set is pending where a month before the part's is closed
hidden_all : (set months : ℕ → Bool) (place : ℕ → ℕ) (xs : List Adjustment) → All (λ (a : Adjustment). set a.loan ≡ false) xs → adjustments_shown set place xs ≡ []
hidden_all set months place [] h = refl
hidden_all set months place (x ∷ xs) h =
    ap (λ v. if v then adjustment_at place x ∷ adjustments_shown set place xs else adjustments_shown set place xs) (All-head (λ (a : Adjustment). set a.loan ≡ false) x xs h)
    ∙ hidden_all set months place xs (All-tail (λ (a : Adjustment). set a.loan ≡ false) x xs h)

not_in : (set months : ℕ → Bool) (place : ℕ → ℕ) (p : ℕ) (loans : List Held) (a : Adjustment) → IsUpward months → months p ≡ false → All_shown set months place loans → IsOwned loans a → a.month ≤ p → set a.loan ≡ false
not_in set months place p loans a up before h owned le =
    let number = found_id a.loan loans owned.loan owned.found in
    let held = found_all (IsShown set months place) a.loan loans owned.loan owned.found h in
    elim (set a.loan) as (λ v. set a.loan ≡ v → v ≡ false) [
      | true ↦ λ is. elim (months a.month) as (λ v. months a.month ≡ v → true ≡ false) [
        | true ↦ λ e. let both : months p ≡ true = up a.month p le e in absurd (cc)
        | false ↦ λ e. let lt : a.month < boarded_month owned.loan = held.since (ap set number ∙ is) a.month e in let low = owned.since in absurd (omega arith)
      ] refl
      | false ↦ λ is. refl
    ] refl

pub close_hidden : (set months : ℕ → Bool) (place : ℕ → ℕ) (n : ℕ) (w : World) (p : ℕ) → IsWorld n w → refusal_of n w (command.Close p) ≡ None → IsUpward months → All_shown set months place w.loans → months p ≡ false → adjustments_shown set place w.seals.pending ≡ []
close_hidden set months place n w p world none up h before =
    let c = (closing n p w none).0 in
    let end : month_after (last_month w.seals.reports) ≤ p = after_last (last_month w.seals.reports) p c.next in
    hidden_all set months place w.seals.pending (λ i d lt. not_in set months place p w.loans (get_or w.seals.pending i d) up before h (world.reports.owned i d lt) (early (get_or w.seals.pending i d) (world.reports.sealed.pending i d lt) end))
  where
    early : (a : Adjustment) → IsBefore (month_after (last_month w.seals.reports)) a.month → month_after (last_month w.seals.reports) ≤ p → a.month ≤ p
    early a is end = let lt = is.high in omega arith

-- ---- remittances

-- what the rules of a remittance leave
record IsRemitting (w : World) (p : ℕ) : Type 0 where
  closed : is_closed_by (last_month w.seals.reports) p ≡ true
  next : p ≡ next_remit w.remitted w.seals.reports

remitting : (n p : ℕ) (w : World) → refusal_of n w (command.Remit p) ≡ None → IsRemitting w p
unfolding refusal_of
remitting n p w e =
    let one = past (full_of_commands n) (remit_cases w p) e in
    let two = past (not_closed w p) (case (not (p == expected_remit w)) (why.WrongRemit (expected_remit w)) ∷ []) one.rest in
    let three = past (case (not (p == expected_remit w)) (why.WrongRemit (expected_remit w))) [] two.rest in
    record { closed = yes (is_closed_by (last_month w.seals.reports) p) two.no; next = same p (expected_remit w) three.no }
  where
    yes : (b : Bool) → not b ≡ false → b ≡ true
    yes true e = refl
    yes false e = absurd (cc)

    same : (a b : ℕ) → not (a == b) ≡ false → a ≡ b
    same a b e = elim (a == b) as (λ v. (a == b) ≡ v → not v ≡ false → a ≡ b) [
      | true ↦ λ is t. grind (arith, nat_tests)
      | false ↦ λ is t. absurd (cc)
    ] refl e

pub remit_hidden : (months : ℕ → Bool) (n : ℕ) (w : World) (p : ℕ) → IsUpward months → refusal_of n w (command.Remit p) ≡ None → months p ≡ false → remitted_shown months w.remitted ≡ None
remit_hidden months n w p up none before = of w.remitted w.seals.reports (remitting n p w none).next
  where
    of : (o : Option ℕ) (rs : List Sealed) → p ≡ next_remit o rs → remitted_shown months o ≡ None
    of None rs e = refl
    of (Some m) rs e =
        elim (months m) as (λ v. months m ≡ v → (if v then Some m else None) ≡ None) [
          | true ↦ λ is. let both : months p ≡ true = up m p (omega (arith, e)) is in absurd (cc)
          | false ↦ λ is. refl
        ] refl

-- the first month of a part among closed months
from_first : (set months : ℕ → Bool) (place : ℕ → ℕ) (p : ℕ) (r : Sealed) (rs : List Sealed) → AreConsecutive (r ∷ rs) → r.month ≤ p → is_closed_by (last_month (r ∷ rs)) p ≡ true → months p ≡ true → ((q : ℕ) → q < p → months q ≡ false) → next_remit None (reports_shown set months place (r ∷ rs)) ≡ p
from_first set months place p r [] con low closed is before =
    let high : p ≤ r.month = grind (arith, nat_tests) in
    let same : r.month ≡ p = omega (arith, low, high) in
    let here : months r.month ≡ true = ap months same ∙ is in
    ap (λ v. next_remit None (if v then report_shown set place r ∷ [] else [])) here ∙ same
from_first set months place p r (s ∷ rs) con low closed is before =
    elim (nat_lt r.month p) as (λ v. nat_lt r.month p ≡ v → next_remit None (reports_shown set months place (r ∷ s ∷ rs)) ≡ p) [
      | true ↦ λ e.
          let lt : r.month < p = grind (arith, nat_tests) in
          let out : months r.month ≡ false = before r.month lt in
          let next : s.month ≡ r.month + 1 = con.0 in
          ap (λ v. next_remit None (if v then report_shown set place r ∷ reports_shown set months place (s ∷ rs) else reports_shown set months place (s ∷ rs))) out
          ∙ from_first set months place p s rs con.1 (omega arith) closed is before
      | false ↦ λ e.
          let ge : p ≤ r.month = grind (arith, nat_tests) in
          let same : r.month ≡ p = omega (arith, low, ge) in
          let here : months r.month ≡ true = ap months same ∙ is in
          ap (λ v. next_remit None (if v then report_shown set place r ∷ reports_shown set months place (s ∷ rs) else reports_shown set months place (s ∷ rs))) here ∙ same
    ] refl

pub timely_remit : (set months : ℕ → Bool) (place : ℕ → ℕ) (n : ℕ) (w : World) (p : ℕ) → IsWorld n w → IsUpward months → refusal_of n w (command.Remit p) ≡ None → months p ≡ true → p ≡ expected_remit (shown set months place w)
timely_remit set months place n w p world up none is =
    let r = remitting n p w none in
    of w.remitted w.seals.reports world.reports.sealed.consecutive world.reports.remitted r.closed r.next
  where
    before : (q m : ℕ) → months m ≡ false → q ≤ m → months q ≡ false
    before q m out le =
        elim (months q) as (λ v. months q ≡ v → v ≡ false) [
          | true ↦ λ e. let both : months m ≡ true = up q m le e in absurd (cc)
          | false ↦ λ e. refl
        ] refl

    of : (o : Option ℕ) (rs : List Sealed) → AreConsecutive rs → IfSome o (IsClosed rs) → is_closed_by (last_month rs) p ≡ true → p ≡ next_remit o rs → p ≡ next_remit (remitted_shown months o) (reports_shown set months place rs)
    of None [] con remitted closed e = absurd (cc)
    of None (r ∷ rs) con remitted closed e =
        let here : months r.month ≡ true = ap months (sym e) ∙ is in
        e ∙ sym (ap (λ v. next_remit None (if v then report_shown set place r ∷ reports_shown set months place rs else reports_shown set months place rs)) here)
    of (Some m) [] con remitted closed e = absurd (cc)
    of (Some m) (r ∷ rs) con remitted closed e =
        elim (months m) as (λ v. months m ≡ v → p ≡ next_remit (if v then Some m else None) (reports_shown set months place (r ∷ rs))) [
          | true ↦ λ b. e
          | false ↦ λ b.
              let from : r.month ≤ m = closed_from_first (r ∷ rs) r.month m con refl remitted in
              sym (from_first set months place p r rs con (omega (arith, from, e)) closed is (λ q lt. before q m b (omega (arith, lt, e))))
        ] refl
