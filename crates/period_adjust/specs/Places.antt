-- Where a loan's running sums stand among those that are kept.
use Rattle.std.specs.Prelude.{◌≡◌, ℕ, ◌<◌, ◌≤◌, List, length, slice_index_or, ◌+ℤ◌}
use Rattle.std.specs.List.{AllWithin}
use Rattle.period_adjust.specs.declared.adjustment.Adjustment.{Adjustment}
use Rattle.period_adjust.specs.declared.loan_sums.LoanSums.{LoanSums}

-- the loan's sums stand at that place
pub record IsPlaceOf (sums : List LoanSums) (loan place : ℕ) : Type 0 where
  pub bound : place < length sums
  pub own : (d : LoanSums) → (slice_index_or sums place d).loan ≡ loan

-- no sums are the loan's, and at that place they would stand
pub record IsPlaceFor (sums : List LoanSums) (loan place : ℕ) : Type 0 where
  pub bound : place ≤ length sums
  pub below : AllWithin (λ s. s.loan < loan) sums 0 place
  pub above : AllWithin (λ s. loan < s.loan) sums place (length sums)

-- sums with an adjustment more
pub record IsSumWith (before : LoanSums) (a : Adjustment) (now : LoanSums) : Type 0 where
  pub own : now.loan ≡ before.loan
  pub interest : now.interest ≡ before.interest +ℤ a.interest
  pub principal : now.principal ≡ before.principal +ℤ a.principal
