-- The adjustments that no report has sent, and the running sums that are kept of them.
use Rattle.std.specs.Prelude.{◌≡◌, ℕ, ◌<◌, ◌==◌, if◌then◌else◌, Bool, List, take, ℤ, pos, FitsSigned}
use Rattle.std.specs.Int.{w64}
use Rattle.std.specs.List.{AllPairs, list_any}
use Rattle.svc_base.specs.Sums.{total_by}
use Rattle.period_adjust.specs.declared.adjustment.Adjustment.{Adjustment}
use Rattle.period_adjust.specs.declared.loan_sums.LoanSums.{LoanSums}
use Rattle.period_adjust.specs.Sums.{DuePart, Interest, Principal, share}

-- the adjustments, and for how many more there is room
pub record PendingList : Type 0 where
  pub adjustments : List Adjustment
  pub room : ℕ

abbrev pub part_of_running : DuePart → LoanSums → ℤ
part_of_running Interest s = s.interest
part_of_running Principal s = s.principal

-- what running sums say of a loan
abbrev pub running : DuePart → ℕ → LoanSums → ℤ
running p loan s = if s.loan == loan then part_of_running p s else pos 0

-- one for each loan at most, rising by loan
abbrev pub IsRisingByLoan : List LoanSums → Type 0
IsRisingByLoan sums = AllPairs (λ s t. s.loan < t.loan) sums

-- an adjustment is a loan's
abbrev pub is_of : ℕ → Adjustment → Bool
is_of loan a = a.loan == loan

-- running sums are a loan's
abbrev pub is_kept_of : ℕ → LoanSums → Bool
is_kept_of loan s = s.loan == loan

-- what is kept of adjustments: the sums of each loan that has one
pub record AreRunning (adjustments : List Adjustment) (sums : List LoanSums) : Type 0 where
  pub rising : IsRisingByLoan sums
  pub exact : (p : DuePart) (loan : ℕ) → total_by (running p loan) sums ≡ total_by (share p loan) adjustments
  pub there : (loan : ℕ) → list_any (is_kept_of loan) sums ≡ list_any (is_of loan) adjustments

-- for each loan the sums of the first so many adjustments are numbers of 64 bits
abbrev pub SumsFit : List Adjustment → Type 0
SumsFit pending = (k : ℕ) (p : DuePart) (loan : ℕ) → FitsSigned w64 (total_by (share p loan) (take k pending))
