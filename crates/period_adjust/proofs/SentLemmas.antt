-- The sums in the lines of a report are those of the adjustments that it sends.
use Rattle.std.proofs.Common.{◌≡◌, ℕ, zero, suc, ◌<◌, true, false, List, [], ◌∷◌, map, length, get_or, pos, ◌+ℤ◌, ◌⊎◌, inl, inr, refl, arith, ap, sym, ◌∙◌, subst}
use Rattle.std.specs.Prelude.{◌==◌, if◌then◌else◌}
use Rattle.std.specs.List.{All, Any, AllPairs}
use Rattle.std.proofs.lemmas.Int.{ints}
use Rattle.std.proofs.lemmas.Bool.Decides.{nat_tests}
use Rattle.std.proofs.lemmas.List.Elements.{All-head, All-tail, All-nil, All-push}
use Rattle.svc_base.specs.Sums.{total_by}
use Rattle.period_adjust.specs.declared.adjustment.Adjustment.{Adjustment}
use Rattle.period_adjust.specs.declared.report_line.ReportLine.{ReportLine}
use Rattle.period_adjust.specs.Sealed.{Reporting}
use Rattle.period_adjust.specs.Sums.{DuePart, Interest, Principal, part_of_adjustment, share, line_with, report_of}
use Rattle.period_adjust.specs.Totals.{summed, SendsItsSums, Call, Change, Close, after, after_all}
use Rattle.period_adjust.specs.Conditions.{AreDues, MayCall, MayCallAll}
use Rattle.svc_types.proofs.OrderLemmas.{pairs_head, pairs_tail}
use Rattle.period_adjust.proofs.BeforeLemmas.{by_loan}

other_sums : (p : DuePart) (loan : ℕ) (ps : List Adjustment) (l : ReportLine) → (l.loan == loan) ≡ false → summed p loan (line_with ps l) ≡ pos 0
other_sums p loan ps l h = rw h refl

own_sums : (p : DuePart) (loan : ℕ) (ps : List Adjustment) (l : ReportLine) → (l.loan == loan) ≡ true → summed p loan (line_with ps l) ≡ total_by (share p loan) ps
own_sums Interest loan ps l h =
    let own : l.loan ≡ loan = grind (arith, nat_tests) in
    rw h (ap (λ n. total_by (share Interest n) ps) own)
own_sums Principal loan ps l h =
    let own : l.loan ≡ loan = grind (arith, nat_tests) in
    rw h (ap (λ n. total_by (share Principal n) ps) own)

-- lines of later loans
later_sums : (p : DuePart) (loan : ℕ) (ps : List Adjustment) (ls : List ReportLine) → All (λ l. loan < l.loan) ls → total_by (summed p loan) (map (line_with ps) ls) ≡ pos 0
later_sums p loan ps [] h = refl
later_sums p loan ps (l ∷ ls) h =
    let above : loan < l.loan = All-head (λ (m : ReportLine). loan < m.loan) l ls h in
    let apart : (l.loan == loan) ≡ false = grind (arith, nat_tests) in
    let here : summed p loan (line_with ps l) ≡ pos 0 = other_sums p loan ps l apart in
    let rest : total_by (summed p loan) (map (line_with ps) ls) ≡ pos 0 = later_sums p loan ps ls (All-tail (λ (m : ReportLine). loan < m.loan) l ls h) in
    omega (arith, ints)

-- a loan that has a line
lined_sums : (p : DuePart) (loan : ℕ) (ps : List Adjustment) (ls : List ReportLine) (k : ℕ) (d : ReportLine) → AllPairs by_loan ls → k < length ls → (get_or ls k d).loan ≡ loan → total_by (summed p loan) (map (line_with ps) ls) ≡ total_by (share p loan) ps
lined_sums p loan ps [] k d up in' is = absurd (omega arith)
lined_sums p loan ps (l ∷ ls) zero d up in' is =
    let own : (l.loan == loan) ≡ true = grind (arith, nat_tests) in
    let here : summed p loan (line_with ps l) ≡ total_by (share p loan) ps = own_sums p loan ps l own in
    let above : All (λ (m : ReportLine). loan < m.loan) ls = subst (λ (n : ℕ). All (λ (m : ReportLine). n < m.loan) ls) is (pairs_head by_loan l ls up) in
    let rest : total_by (summed p loan) (map (line_with ps) ls) ≡ pos 0 = later_sums p loan ps ls above in
    omega (arith, ints)
lined_sums p loan ps (l ∷ ls) (suc k) d up in' is =
    let below : l.loan < (get_or ls k d).loan = pairs_head by_loan l ls up k d (omega arith) in
    let apart : (l.loan == loan) ≡ false = grind (arith, nat_tests) in
    let here : summed p loan (line_with ps l) ≡ pos 0 = other_sums p loan ps l apart in
    let rest : total_by (summed p loan) (map (line_with ps) ls) ≡ total_by (share p loan) ps = lined_sums p loan ps ls k d (pairs_tail by_loan l ls up) (omega arith) is in
    omega (arith, ints)

-- a loan whose adjustments add nothing
no_sums : (p : DuePart) (loan : ℕ) (ps : List Adjustment) (ls : List ReportLine) → total_by (share p loan) ps ≡ pos 0 → total_by (summed p loan) (map (line_with ps) ls) ≡ pos 0
no_sums p loan ps [] h = refl
no_sums p loan ps (l ∷ ls) h =
    let rest : total_by (summed p loan) (map (line_with ps) ls) ≡ pos 0 = no_sums p loan ps ls h in
    let here : summed p loan (line_with ps l) ≡ pos 0 =
    elim (l.loan == loan) as (λ t. (l.loan == loan) ≡ t → summed p loan (line_with ps l) ≡ pos 0) [ true ↦ λ e. own_sums p loan ps l e ∙ h | false ↦ λ e. other_sums p loan ps l e ] refl in
    omega (arith, ints)

-- a loan has an adjustment, or its adjustments add nothing
some_or_none : (p : DuePart) (loan : ℕ) (ps : List Adjustment) → Any (λ a. a.loan ≡ loan) ps ⊎ (total_by (share p loan) ps ≡ pos 0)
some_or_none p loan [] = inr refl
some_or_none p loan (a ∷ ps) =
    elim (a.loan == loan) as (λ t. (a.loan == loan) ≡ t → Any (λ b. b.loan ≡ loan) (a ∷ ps) ⊎ ((if t then part_of_adjustment p a else pos 0) +ℤ total_by (share p loan) ps ≡ pos 0)) [
      | true ↦ λ e. let own : a.loan ≡ loan = grind (arith, nat_tests) in inl (0, a, omega arith, refl, own)
      | false ↦ λ e. elim (some_or_none p loan ps) [
        | inl any ↦ let in' : any.0 < length ps = any.2 in inl (suc any.0, any.1, omega arith, any.3, any.4)
        | inr none ↦ inr (omega (arith, ints))
      ]
    ] refl

pub report_sends : (month : ℕ) (dues : List ReportLine) (ps : List Adjustment) → AreDues ps dues → SendsItsSums (report_of month dues ps)
report_sends month dues ps h p loan =
    elim (some_or_none p loan ps) [
      | inl any ↦
          let line : Any (λ (l : ReportLine). l.loan ≡ (get_or ps any.0 any.1).loan) dues = h.covered any.0 any.1 any.2 in
          let own : (get_or ps any.0 any.1).loan ≡ loan = ap (λ (a : Adjustment). a.loan) any.3 ∙ any.4 in
          lined_sums p loan ps dues line.0 line.1 h.rising line.2 (ap (λ (l : ReportLine). l.loan) line.3 ∙ line.4 ∙ own)
      | inr none ↦ no_sums p loan ps dues none ∙ sym none
    ]

-- a call keeps that the sums in all lines are those of the adjustments sent
pub call_sends : (s : Reporting) (c : Call) → All SendsItsSums s.reports → MayCall s c → All SendsItsSums (after s c).reports
call_sends s (Change number loan before later) h may = h
call_sends s (Close m dues) h may = All-push SendsItsSums s.reports (report_of m dues s.pending) h (report_sends m dues s.pending may.lines)

pub reports_send : (s : Reporting) (cs : List Call) → All SendsItsSums s.reports → MayCallAll s cs → All SendsItsSums (after_all s cs).reports
reports_send s [] h may = h
reports_send s (c ∷ cs) h may = reports_send (after s c) cs (call_sends s c h may.0) may.1

pub start_sends : All SendsItsSums []
start_sends = All-nil SendsItsSums
