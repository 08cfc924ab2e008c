-- What was remitted for a loan lies within the limits, and so do a loan's totals and the balances.
use Rattle.std.proofs.Common.{◌≡◌, ℕ, suc, ◌+◌, ◌≤◌, ◌<◌, true, false, cond, List, [], ◌∷◌, length, take, get_or, arith, refl, sym, ap, ◌∙◌}
use Rattle.std.specs.Prelude.{◌==◌, nat_le, pos, ◌+ℤ◌, Option, Some, None, if◌then◌else◌}
use Rattle.std.specs.List.{All, filter}
use Rattle.std.proofs.lemmas.Int.{ints, clamps}
use Rattle.std.proofs.lemmas.Bool.Decides.{nat_tests}
use Rattle.svc_base.specs.Sums.{total_by}
use Rattle.svc_base.proofs.SumLemmas.{total_by-both, total_by-same}
use Rattle.period_adjust.specs.declared.report_line.ReportLine.{ReportLine}
use Rattle.period_adjust.specs.Sealed.{Sealed}
use Rattle.period_adjust.specs.Sums.{Interest, Principal}
use Rattle.period_adjust.specs.Totals.{lined, summed}
use Rattle.period_adjust.specs.Kept.{AreConsecutive}
use Rattle.custodial_book.specs.declared.part.Account.{Account as CashAccount}
use Rattle.custodial_book.specs.declared.part.Account.TheVariants.{T, P}
use Rattle.custodial_book.specs.declared.part.Part.TheVariants.{Received, Returned, Refunded, Disbursed, Collected, Fee, Late, PiAdvance, EscrowAdvance, Remitted, Residual}
use Rattle.custodial_book.specs.Rows.{IsTotal, AreTotals, IsBalance}
use Rattle.svc_world.specs.Held.{Held, books_now}
use Rattle.svc_world.specs.World.{World}
use Rattle.svc_world.specs.Custody.{sent_of_line, sent_for, remitted_reports, remitted_for, is_settled, totals_of, collected, advanced_for, residual_of}
use Rattle.advance_book.specs.Positions.{pi_held, pi_advanced, pi_residual}
use Rattle.svc_world.specs.Worlds.{IsLimited, sent_part, AreReports}
use Rattle.svc_world.proofs.SumsWithin.{IsUpTo, total_up_to}
use Rattle.svc_world.proofs.HoldingLemmas.{account_holdings, account_takings, refunded_low}
use Rattle.svc_world.proofs.CashLemmas.{holds}

-- ---- the remitted reports are the first ones

pub later_none : (last : ℕ) (rs : List Sealed) (r : Sealed) → AreConsecutive (r ∷ rs) → last < r.month → filter (λ (x : Sealed). nat_le x.month last) (r ∷ rs) ≡ []
later_none last [] r h lt = let no : nat_le r.month last ≡ false = grind (arith, nat_tests) in rw no refl
later_none last (s ∷ rs) r h lt =
    let next : s.month ≡ r.month + 1 = h.0 in
    let no : nat_le r.month last ≡ false = grind (arith, nat_tests) in
    ap (λ v. cond v (r ∷ filter (λ (x : Sealed). nat_le x.month last) (s ∷ rs)) (filter (λ (x : Sealed). nat_le x.month last) (s ∷ rs))) no ∙ later_none last rs s h.1 (omega arith)

pub first_ones : (last : ℕ) (rs : List Sealed) → AreConsecutive rs → (k : ℕ) × (filter (λ (x : Sealed). nat_le x.month last) rs ≡ take k rs)
first_ones last [] h = (0, refl)
first_ones last (r ∷ rs) h =
    elim (nat_le r.month last) as (λ v. nat_le r.month last ≡ v → (k : ℕ) × (cond v (r ∷ filter (λ (x : Sealed). nat_le x.month last) rs) (filter (λ (x : Sealed). nat_le x.month last) rs) ≡ take k (r ∷ rs))) [
      | true ↦ λ e. let rest = first_ones last rs (rest_of r rs h) in (suc rest.0, ap (λ xs. r ∷ xs) rest.1)
      | false ↦ λ e.
          let lt : last < r.month = grind (arith, nat_tests) in
          let none = later_none last rs r h lt in
          (0, ap (λ v. cond v (r ∷ filter (λ (x : Sealed). nat_le x.month last) rs) (filter (λ (x : Sealed). nat_le x.month last) rs)) (sym e) ∙ none)
    ] refl
  where
    rest_of : (r : Sealed) (rs : List Sealed) → AreConsecutive (r ∷ rs) → AreConsecutive rs
    rest_of r [] h = tt
    rest_of r (s ∷ rs) h = h.1

pub remitted_first : (o : Option ℕ) (rs : List Sealed) → AreConsecutive rs → (k : ℕ) × (remitted_reports o rs ≡ take k rs)
remitted_first None rs h = (0, refl)
remitted_first (Some last) rs h = first_ones last rs h

-- ---- what a report sends for a loan is its two parts

pub line_parts : (id : ℕ) (l : ReportLine) → (if l.loan == id then sent_of_line l else pos 0) ≡ (lined Interest id l +ℤ summed Interest id l) +ℤ (lined Principal id l +ℤ summed Principal id l)
line_parts id l = elim (l.loan == id) as (λ v. (if v then sent_of_line l else pos 0) ≡ ((if v then l.interest else pos 0) +ℤ (if v then l.adj_interest else pos 0)) +ℤ ((if v then l.principal else pos 0) +ℤ (if v then l.adj_principal else pos 0))) [ true ↦ omega (arith, ints) | false ↦ omega (arith, ints) ]

pub sent_parts : (id : ℕ) (r : Sealed) → sent_for id r ≡ sent_part Interest id r +ℤ sent_part Principal id r
sent_parts id r =
    let ls = r.lines in
    let split = total_by-same (λ (l : ReportLine). if l.loan == id then sent_of_line l else pos 0) (λ (l : ReportLine). (lined Interest id l +ℤ summed Interest id l) +ℤ (lined Principal id l +ℤ summed Principal id l)) ls (λ k d lt. line_parts id (get_or ls k d)) in
    let both = total_by-both (λ (l : ReportLine). lined Interest id l +ℤ summed Interest id l) (λ (l : ReportLine). lined Principal id l +ℤ summed Principal id l) ls in
    let one = total_by-both (lined Interest id) (summed Interest id) ls in
    let two = total_by-both (lined Principal id) (summed Principal id) ls in
    omega (arith, ints, split, both, one, two)

pub sent_sums : (id : ℕ) (rs : List Sealed) → total_by (sent_for id) rs ≡ total_by (sent_part Interest id) rs +ℤ total_by (sent_part Principal id) rs
sent_sums id rs =
    let split = total_by-same (sent_for id) (λ (r : Sealed). sent_part Interest id r +ℤ sent_part Principal id r) rs (λ k d lt. sent_parts id (get_or rs k d)) in
    let both = total_by-both (sent_part Interest id) (sent_part Principal id) rs in
    omega (arith, ints, split, both)

-- what was remitted for a loan, of both parts, is from 0 to 81,920,000,000,000 cents
pub remitted_within : (w : World) (id : ℕ) → AreReports w → IsUpTo 81_920_000_000_000 (remitted_for w id)
unfolding remitted_for
remitted_within w id h =
    let rs = w.seals.reports in
    let first = remitted_first w.remitted rs h.sealed.consecutive in
    let sums = sent_sums id (take first.0 rs) in
    let same : total_by (sent_for id) (remitted_reports w.remitted rs) ≡ total_by (sent_for id) (take first.0 rs) = ap (total_by (sent_for id)) first.1 in
    let one = h.passed Interest first.0 id in
    let two = h.passed Principal first.0 id in
    let l1 = one.low in let h1 = one.high in
    let l2 = two.low in let h2 = two.high in
    record { low = omega (arith, ints, same, sums, l1, l2); high = omega (arith, ints, same, sums, h1, h2) }

-- ---- what is held for a loan

pub held_within : (account : CashAccount) (w : World) (l : Held) → IsLimited l.account → AreReports w → IsUpTo 40_960_000_000_000 (holds account w l)
held_within T w l h r =
    let holdings = account_holdings l.account h in
    let all = holdings.all.high in
    let high = holdings.escrow_high in
    let s1 = holdings.suspense.low in let s2 = holdings.interest.low in
    let s3 = holdings.principal.low in let s4 = holdings.late_paid.low in
    let whole = holdings.with_escrow in
    record { low = omega (arith, ints, clamps, s1); high = omega (arith, ints, clamps, all, s2, s3, s4, whole) }
held_within P w l h r =
    let holdings = account_holdings l.account h in
    let all = holdings.all.high in
    let s1 = holdings.suspense.low in let s4 = holdings.late_paid.low in
    let s2 = holdings.interest.low in let s3 = holdings.principal.low in
    let f = holdings.fee.low in
    let sent = (remitted_within w l.id r).low in
    elim (is_settled w l) as (λ v. IsUpTo 40_960_000_000_000 (pi_held (collected (books_now l)) (remitted_for w l.id) v)) [
      | true ↦ record { low = omega (arith, ints); high = omega (arith, ints) }
      | false ↦ record { low = omega (arith, ints, clamps); high = omega (arith, ints, clamps, all, s1, s2, s3, s4, f, sent) }
    ]

-- all loans together hold no more than 10^18 of either account
pub balance_within : (account : CashAccount) (w : World) → All (λ (l : Held). IsLimited l.account) w.loans → AreReports w → length w.loans ≤ 12_000 → IsBalance (total_by (holds account w) w.loans)
balance_within account w h r few =
    let all = total_up_to 40_960_000_000_000 (holds account w) w.loans (λ k d lt. held_within account w (get_or w.loans k d) (h k d lt) r) in
    let low = all.low in let high = all.high in
    (omega (arith, ints, low), omega (arith, ints, high))

-- what is advanced to the investor, and what is left over
pub pi_parts : (w : World) (l : Held) → IsLimited l.account → AreReports w → IsTotal (advanced_for w l) × IsTotal (residual_of w l)
pi_parts w l h r =
    let x = account_holdings l.account h in
    let i1 = x.interest.low in let i2 = x.interest.high in
    let p1 = x.principal.low in let p2 = x.principal.high in
    let f1 = x.fee.low in let f2 = x.fee.high in
    let t = remitted_within w l.id r in
    let s1 = t.low in let s2 = t.high in
    elim (is_settled w l) as (λ v. IsTotal (pi_advanced (collected (books_now l)) (remitted_for w l.id) v) × IsTotal (pi_residual (collected (books_now l)) (remitted_for w l.id) v)) [
      | true ↦ ((omega (arith, ints), omega (arith, ints)), (omega (arith, ints, i1, p1, f2, s2), omega (arith, ints, i2, p2, f1, s1)))
      | false ↦ ((omega (arith, ints, clamps), omega (arith, ints, clamps, i1, p1, f2, s2)), (omega (arith, ints), omega (arith, ints)))
    ]

-- the totals of a loan are totals that it may have

pub totals_within : (w : World) (l : Held) → IsLimited l.account → AreReports w → AreTotals (totals_of w l)
unfolding totals_of
totals_within w l h r Received = let t = (account_takings l.account h).received in let low = t.low in let high = t.high in (omega (arith, ints, low), omega (arith, ints, high))
totals_within w l h r Returned = let t = (account_takings l.account h).returned in let low = t.low in let high = t.high in (omega (arith, ints, low), omega (arith, ints, high))
totals_within w l h r Refunded = let low = refunded_low l.account h.named in let c = h.covered in let high = (account_takings l.account h).received.high in (omega (arith, ints, low), omega (arith, ints, c, high))
totals_within w l h r Disbursed = let t = (account_takings l.account h).disbursed in let low = t.low in let high = t.high in (omega (arith, ints, low), omega (arith, ints, high))
totals_within w l h r Collected = let x = account_holdings l.account h in let l1 = x.interest.low in let h1 = x.interest.high in let l2 = x.principal.low in let h2 = x.principal.high in (omega (arith, ints, l1, l2), omega (arith, ints, h1, h2))
totals_within w l h r Fee = let t = (account_holdings l.account h).fee in let low = t.low in let high = t.high in (omega (arith, ints, low), omega (arith, ints, high))
totals_within w l h r Late = let t = (account_holdings l.account h).late_paid in let low = t.low in let high = t.high in (omega (arith, ints, low), omega (arith, ints, high))
totals_within w l h r PiAdvance = let p = pi_parts w l h r in p.0
totals_within w l h r EscrowAdvance = let low = (account_holdings l.account h).escrow_low in (omega (arith, ints, clamps, low), omega (arith, ints, clamps, low))
totals_within w l h r Remitted = let t = remitted_within w l.id r in let low = t.low in let high = t.high in (omega (arith, ints, low), omega (arith, ints, high))
totals_within w l h r Residual = let p = pi_parts w l h r in p.1
