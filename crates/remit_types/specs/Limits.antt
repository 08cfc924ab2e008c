-- Within which limits the numbers of a month lie.
use Rattle.std.specs.Prelude.{List, pos, neg_ℤ, ◌≤ℤ◌, ◌^◌}
use Rattle.std.specs.List.{All}
use Rattle.svc_types.specs.declared.terms.Terms.{Terms}
use Rattle.svc_types.specs.declared.books.MonthFacts.{MonthFacts}
use Rattle.remit_types.specs.declared.dues.Carry.{Carry}
use Rattle.remit_types.specs.Dues.{LoanMonth}

-- both balances lie from 0 to the principal
pub record IsWithin (t : Terms) (c : Carry) : Type 0 where
  pub upb_low : pos 0 ≤ℤ c.upb
  pub upb_high : c.upb ≤ℤ t.principal
  pub balance_low : pos 0 ≤ℤ c.balance
  pub balance_high : c.balance ≤ℤ t.principal

-- the three sums of interest lie between -10^18 and 10^18 cents
pub record HasSums (c : Carry) : Type 0 where
  pub actual_low : neg_ℤ (pos (10 ^ 18)) ≤ℤ c.actual
  pub actual_high : c.actual ≤ℤ pos (10 ^ 18)
  pub scheduled_low : neg_ℤ (pos (10 ^ 18)) ≤ℤ c.scheduled
  pub scheduled_high : c.scheduled ≤ℤ pos (10 ^ 18)
  pub passed_low : neg_ℤ (pos (10 ^ 18)) ≤ℤ c.passed
  pub passed_high : c.passed ≤ℤ pos (10 ^ 18)

-- the balance lies from 0 to the principal, and each other amount from 0 to 10^18 cents
pub record AreWithin (t : Terms) (f : MonthFacts) : Type 0 where
  pub upb_low : pos 0 ≤ℤ f.upb
  pub upb_high : f.upb ≤ℤ t.principal
  pub curtailed_low : pos 0 ≤ℤ f.curtailed
  pub curtailed_high : f.curtailed ≤ℤ pos (10 ^ 18)
  pub interest_low : pos 0 ≤ℤ f.interest
  pub interest_high : f.interest ≤ℤ pos (10 ^ 18)
  pub fee_low : pos 0 ≤ℤ f.fee
  pub fee_high : f.fee ≤ℤ pos (10 ^ 18)

-- so do those of each of some months
abbrev pub AllWithin : Terms → List LoanMonth → Type 0
AllWithin t months = All (λ (m : LoanMonth). AreWithin t m.facts) months
