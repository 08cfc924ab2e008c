-- What all reports say of a loan is what was passed for it by the last closed month.
use Rattle.std.proofs.Common.{◌≡◌, ℕ, zero, suc, ◌+◌, ◌-◌, ◌≤◌, ◌<◌, true, false, List, [], get_or, arith, refl, sym, ap, ◌∙◌}
use Rattle.std.specs.Prelude.{◌==◌, ℤ, pos, ◌+ℤ◌, ◌-ℤ◌, Some, None, if◌then◌else◌}
use Rattle.std.specs.List.{All}
use Rattle.std.proofs.lemmas.Int.{ints}
use Rattle.std.proofs.lemmas.Bool.Decides.{nat_tests}
use Rattle.svc_base.specs.Sums.{total_by}
use Rattle.svc_base.proofs.SumLemmas.{total_by-both, total_by-zero, total_by-same}
use Rattle.remit_types.specs.declared.dues.Carry.{Carry}
use Rattle.remit_types.specs.Dues.{carried_first}
use Rattle.period_adjust.specs.declared.adjustment.Adjustment.{Adjustment}
use Rattle.period_adjust.specs.Sealed.{Sealed, Reporting}
use Rattle.period_adjust.specs.Sums.{DuePart, Interest, Principal}
use Rattle.period_adjust.specs.Totals.{total, part_of_due, lined, reported, SendsItsSums}
use Rattle.period_adjust.specs.Conditions.{last_month}
use Rattle.period_adjust.specs.Kept.{AreSealed, IsBefore, month_after}
use Rattle.period_adjust.proofs.MonthsLemmas.{months_total, months_total-nil, months_total-all}
use Rattle.svc_world.specs.Held.{Held, find_loan, boarded_month}
use Rattle.svc_world.specs.LoanDues.{carried_to, carry_of, due_of}
use Rattle.svc_world.specs.Reports.{nothing_due}
use Rattle.svc_world.specs.Worlds.{due_by, AddUp, IsLimited, IsPassed, sent_part}
use Rattle.svc_world.proofs.CarryLemmas.{carried_none, carry_at_within}
use Rattle.svc_world.proofs.LoanListLemmas.{found_all, found_id}

-- what is said of a loan for the first n months of the calendar
said : DuePart → ℕ → Reporting → ℕ → ℤ
said part id s zero = pos 0
said part id s (suc n) = said part id s n +ℤ total part id (23_868 + n) s

-- what a report says of these months
told : DuePart → ℕ → ℕ → Sealed → ℤ
told part id zero r = pos 0
told part id (suc n) r = told part id n r +ℤ reported part id (23_868 + n) r

said_is : (part : DuePart) (id n : ℕ) (s : Reporting) → said part id s n ≡ total_by (told part id n) s.reports +ℤ months_total part id s.pending n
unfolding said told months_total
said_is part id zero s =
    let none : total_by (λ (r : Sealed). pos 0) s.reports ≡ pos 0 = total_by-zero (λ (r : Sealed). pos 0) s.reports (λ k d lt. refl) in
    omega (arith, ints, none)
said_is part id (suc n) s =
    let rest = said_is part id n s in
    let both = total_by-both (told part id n) (reported part id (23_868 + n)) s.reports in
    omega (arith, ints, rest, both)

-- the line of its own month alone
lines_told : DuePart → ℕ → ℕ → Sealed → ℤ
lines_told part id zero r = pos 0
lines_told part id (suc n) r = lines_told part id n r +ℤ (if r.month == (23_868 + n) then total_by (lined part id) r.lines else pos 0)

told_is : (part : DuePart) (id n : ℕ) (r : Sealed) → told part id n r ≡ lines_told part id n r +ℤ months_total part id r.adjustments n
unfolding told lines_told months_total
told_is part id zero r = refl
told_is part id (suc n) r = let rest = told_is part id n r in omega (arith, ints, rest)

lines_later : (part : DuePart) (id n : ℕ) (r : Sealed) → 23_868 + n ≤ r.month → lines_told part id n r ≡ pos 0
unfolding lines_told
lines_later part id zero r le = refl
lines_later part id (suc n) r le =
    let rest = lines_later part id n r (omega arith) in
    let apart : (r.month == (23_868 + n)) ≡ false = grind (arith, nat_tests) in
    let none : (if r.month == (23_868 + n) then total_by (lined part id) r.lines else pos 0) ≡ pos 0 = rw apart refl in
    omega (arith, ints, rest, none)

lines_own : (part : DuePart) (id n : ℕ) (r : Sealed) → 23_868 ≤ r.month → r.month < 23_868 + n → lines_told part id n r ≡ total_by (lined part id) r.lines
unfolding lines_told
lines_own part id zero r low high = absurd (omega arith)
lines_own part id (suc n) r low high =
    elim (r.month == (23_868 + n)) as (λ v. (r.month == (23_868 + n)) ≡ v → lines_told part id n r +ℤ (if v then total_by (lined part id) r.lines else pos 0) ≡ total_by (lined part id) r.lines) [
      | true ↦ λ e.
          let here : r.month ≡ 23_868 + n = grind (arith, nat_tests) in
          let none = lines_later part id n r (omega arith) in
          omega (arith, ints, none)
      | false ↦ λ e.
          let below : r.month < 23_868 + n = grind (arith, nat_tests) in
          let rest = lines_own part id n r low below in
          omega (arith, ints, rest)
    ] refl

-- a report says of all months what it sends
told_all : (part : DuePart) (id end n : ℕ) (r : Sealed) → end ≤ 23_868 + n → IsBefore end r.month → All (λ (a : Adjustment). IsBefore end a.month) r.adjustments → SendsItsSums r → told part id n r ≡ sent_part part id r
told_all part id end n r le month adjustments sends =
    let low = month.low in
    let high = month.high in
    let lines = lines_own part id n r low (omega arith) in
    let sums = months_total-all part id end n r.adjustments le adjustments in
    let same = sends part id in
    omega (arith, ints, told_is part id n r, lines, sums, same)

told_reports : (part : DuePart) (id end n : ℕ) (rs : List Sealed) → end ≤ 23_868 + n → All (λ (r : Sealed). IsBefore end r.month) rs → All (λ (r : Sealed). All (λ (a : Adjustment). IsBefore end a.month) r.adjustments) rs → All SendsItsSums rs → total_by (told part id n) rs ≡ total_by (sent_part part id) rs
told_reports part id end n rs le months adjustments sends = total_by-same (told part id n) (sent_part part id) rs (λ k d lt. told_all part id end n (get_or rs k d) le (months k d lt) (adjustments k d lt) (sends k d lt))

-- where nothing is pending, as after a closing, what is said is what was sent
sent_said : (part : DuePart) (id n : ℕ) (s : Reporting) → AreSealed s → s.pending ≡ [] → All SendsItsSums s.reports → month_after (last_month s.reports) ≤ 23_868 + n → total_by (sent_part part id) s.reports ≡ said part id s n
sent_said part id n s sealed none sends le =
    let whole = said_is part id n s in
    let pending : months_total part id s.pending n ≡ pos 0 = ap (λ ps. months_total part id ps n) none ∙ months_total-nil part id n in
    let reports = told_reports part id (month_after (last_month s.reports)) n s.reports le sealed.reports sealed.sent sends in
    omega (arith, ints, whole, pending, reports)

-- ---- and that is what was passed

passed_part : DuePart → Carry → ℤ
passed_part Interest c = c.passed
passed_part Principal c = pos 0 -ℤ c.balance

due_part : (part : DuePart) (l : Held) (p : ℕ) → part_of_due part (due_of l p) ≡ passed_part part (carry_of l p) -ℤ passed_part part (carry_of l (p - 1))
unfolding passed_part
due_part Interest l p = refl
due_part Principal l p = omega (arith, ints)

said_passed : (part : DuePart) (l : Held) (s : Reporting) (loans : List Held) (n : ℕ) → AddUp s loans → find_loan l.id loans ≡ Some l → 23_868 + n ≤ month_after (last_month s.reports) → said part l.id s n ≡ passed_part part (carry_of l (23_867 + n)) -ℤ passed_part part (carry_of l 23_867)
unfolding said
said_passed part l s loans zero add e le = omega (arith, ints)
said_passed part l s loans (suc n) add e le =
    let rest = said_passed part l s loans n add e (omega arith) in
    let here = add part l.id (23_868 + n) (omega arith) ∙ ap (λ o. part_of_due part (due_by o (23_868 + n))) e ∙ due_part part l (23_868 + n) in
    let back : 23_868 + n - 1 ≡ 23_867 + n = omega arith in
    let on : 23_868 + n ≡ 23_867 + suc n = omega arith in
    let e1 = ap (λ p. passed_part part (carry_of l p)) back in
    let e2 = ap (λ p. passed_part part (carry_of l p)) on in
    omega (arith, ints, rest, here, e1, e2)

said_none : (part : DuePart) (id : ℕ) (s : Reporting) (loans : List Held) (n : ℕ) → AddUp s loans → find_loan id loans ≡ None → 23_868 + n ≤ month_after (last_month s.reports) → said part id s n ≡ pos 0
unfolding said
said_none part id s loans zero add e le = refl
said_none part id s loans (suc n) add e le =
    let rest = said_none part id s loans n add e (omega arith) in
    let here = add part id (23_868 + n) (omega arith) ∙ ap (λ o. part_of_due part (due_by o (23_868 + n))) e ∙ nothing part in
    omega (arith, ints, rest, here)
  where
    nothing : (part : DuePart) → part_of_due part (nothing_due (23_868 + n)) ≡ pos 0
    nothing Interest = refl
    nothing Principal = refl

-- before the calendar's first read year nothing was passed
first_passed : (part : DuePart) (l : Held) → 23_867 < boarded_month l → passed_part part (carry_of l 23_867) ≡ passed_part part (carried_first l.account.terms)
first_passed part l lt =
    let none : 23_867 + 1 - boarded_month l ≡ 0 = omega arith in
    ap (λ n. passed_part part (carried_to l.account l.types n)) none ∙ ap (passed_part part) (carried_none l.account l.types)

passed_limits : (part : DuePart) (l : Held) (n : ℕ) → IsLimited l.account → n ≤ 1_812 → IsPassed (passed_part part (carry_of l (23_867 + n)) -ℤ passed_part part (carry_of l 23_867))
unfolding passed_part
passed_limits Interest l n h few =
    let from = h.account.boarded.first in
    let first = first_passed Interest l (omega arith) in
    let limit = (carry_at_within l.account l.types (23_867 + n) (omega arith) h).passed in
    let low = limit.low in let high = limit.high in
    record { low = omega (arith, ints, first, low); high = omega (arith, ints, first, high) }
passed_limits Principal l n h few =
    let from = h.account.boarded.first in
    let first = first_passed Principal l (omega arith) in
    let limit = (carry_at_within l.account l.types (23_867 + n) (omega arith) h).within in
    let low = limit.balance_low in let high = limit.balance_high in
    let most = h.account.terms.principal_high in
    record { low = omega (arith, ints, first, high); high = omega (arith, ints, first, low, most) }

passed_at : (x y : ℤ) → x ≡ y → IsPassed y → IsPassed x
passed_at x y e h = let low = h.low in let high = h.high in record { low = omega (arith, ints, e, low); high = omega (arith, ints, e, high) }

-- so all that was reported of a loan lies within the limits after a closing
pub all_passed : (part : DuePart) (id n : ℕ) (s : Reporting) (loans : List Held) → AreSealed s → s.pending ≡ [] → All SendsItsSums s.reports → AddUp s loans → All (λ (l : Held). IsLimited l.account) loans → month_after (last_month s.reports) ≡ 23_868 + n → n ≤ 1_812 → IsPassed (total_by (sent_part part id) s.reports)
all_passed part id n s loans sealed none sends add limited end few =
    let said' = sent_said part id n s sealed none sends (omega arith) in
    passed_at (total_by (sent_part part id) s.reports) (said part id s n) said' (elim (find_loan id loans) as (λ o. find_loan id loans ≡ o → IsPassed (said part id s n)) [
      | None ↦ λ e. passed_at (said part id s n) (pos 0) (said_none part id s loans n add e (omega arith)) (record { low = omega (arith, ints); high = omega (arith, ints) })
      | Some l ↦ λ e.
          let number = found_id id loans l e in
          let e' : find_loan l.id loans ≡ Some l = ap (λ i. find_loan i loans) number ∙ e in
          let one = said_passed part l s loans n add e' (omega arith) in
          let here : said part id s n ≡ said part l.id s n = ap (λ i. said part i s n) (sym number) in
          passed_at (said part id s n) (passed_part part (carry_of l (23_867 + n)) -ℤ passed_part part (carry_of l 23_867)) (here ∙ one) (passed_limits part l n (found_all (λ (x : Held). IsLimited x.account) id loans l e limited) few)
    ] refl)
