-- Lists that rise, and dues before a change, by recursion.
use Rattle.std.proofs.Common.{◌≡◌, ℕ, ◌<◌, List, [], ◌∷◌, map}
use Rattle.std.specs.Prelude.{⊤}
use Rattle.std.specs.List.{All, AllPairs}
use Rattle.std.proofs.lemmas.List.Elements.{All-head, All-tail}
use Rattle.svc_types.proofs.OrderLemmas.{pairs_head, pairs_tail}
use Rattle.remit_types.specs.declared.dues.MonthDue.{MonthDue}
use Rattle.period_adjust.specs.declared.report_line.ReportLine.{ReportLine}
use Rattle.period_adjust.specs.Sealed.{Reporting}
use Rattle.period_adjust.specs.Sums.{Interest, Principal}
use Rattle.period_adjust.specs.Totals.{total}
use Rattle.period_adjust.specs.Conditions.{IsDueSoFar}

-- the months rise, and are above that one
abbrev pub IsRising : ℕ → List MonthDue → Type 0
IsRising low [] = ⊤
IsRising low (d ∷ ds) = (low < d.month) × IsRising d.month ds

-- the months rise
abbrev pub Rises : List MonthDue → Type 0
Rises [] = ⊤
Rises (d ∷ ds) = IsRising d.month ds

-- both lists have the same months, and the first has what reports and adjustments say of them
abbrev pub AreBefore : Reporting → ℕ → List MonthDue → List MonthDue → Type 0
AreBefore s loan [] [] = ⊤
AreBefore s loan (b ∷ bs) (a ∷ later) =
    (b.month ≡ a.month) × (b.interest ≡ total Interest loan b.month s) × (b.principal ≡ total Principal loan b.month s) × AreBefore s loan bs later
AreBefore s loan [] (a ∷ later) = ⊥
AreBefore s loan (b ∷ bs) [] = ⊥

abbrev pub by_month : MonthDue → MonthDue → Type 0
by_month d e = d.month < e.month

-- each line's loan is above that of the line before
abbrev pub by_loan : ReportLine → ReportLine → Type 0
by_loan l m = l.loan < m.loan

pub IsRising-from_pairs : (low : ℕ) (ds : List MonthDue) → All (λ d. low < d.month) ds → AllPairs by_month ds → IsRising low ds
IsRising-from_pairs low [] a h = tt
IsRising-from_pairs low (d ∷ ds) a h =
    (All-head (λ e. low < e.month) d ds a, IsRising-from_pairs d.month ds (pairs_head by_month d ds h) (pairs_tail by_month d ds h))

pub Rises-from_pairs : (ds : List MonthDue) → AllPairs by_month ds → Rises ds
Rises-from_pairs [] h = tt
Rises-from_pairs (d ∷ ds) h = IsRising-from_pairs d.month ds (pairs_head by_month d ds h) (pairs_tail by_month d ds h)

pub AreBefore-from_all : (s : Reporting) (loan : ℕ) (bs later : List MonthDue) → map (λ d. d.month) later ≡ map (λ d. d.month) bs → All (IsDueSoFar s loan) bs → AreBefore s loan bs later
AreBefore-from_all s loan [] [] e h = tt
AreBefore-from_all s loan [] (a ∷ later) e h = cc
AreBefore-from_all s loan (b ∷ bs) [] e h = cc
AreBefore-from_all s loan (b ∷ bs) (a ∷ later) e h =
    let here : IsDueSoFar s loan b = All-head (IsDueSoFar s loan) b bs h in
    let month : b.month ≡ a.month = cc in
    let rest : map (λ d. d.month) later ≡ map (λ d. d.month) bs = cc in
    (month, here.interest, here.principal, AreBefore-from_all s loan bs later rest (All-tail (IsDueSoFar s loan) b bs h))
