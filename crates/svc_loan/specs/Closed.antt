-- What is kept of a loan's closed months, which follow one another from the boarded month on.
use Rattle.std.specs.Prelude.{ℕ, ◌+◌, ◌-◌, ◌≤◌, ◌<◌, ◌^◌, List, map, sum_by, pos, neg_ℤ, ◌≤ℤ◌}
use Rattle.std.specs.List.{range_with_len}
use Rattle.svc_base.specs.Calendar.{month_of, months_end}
use Rattle.svc_types.specs.declared.requests.TypeChange.{TypeChange}
use Rattle.svc_spec.specs.Accounts.{Account, IsAccount}
use Rattle.remit_types.specs.declared.dues.Carry.{Carry}
use Rattle.svc_world.specs.LoanDues.{carried_at}

-- the remittance at the end of each of the first n months from the boarded one on
unfoldable pub carries_to : Account → List TypeChange → ℕ → List Carry
carries_to a types n = map (carried_at a types) (range_with_len (month_of a.terms.boarded) n)

-- of two such remittances one can be taken from the other
pub record IsSmall (c : Carry) : Type 0 where
  pub balance_low : pos 0 ≤ℤ c.balance
  pub balance_high : c.balance ≤ℤ pos (10 ^ 18)
  pub passed_low : neg_ℤ (pos (10 ^ 18)) ≤ℤ c.passed
  pub passed_high : c.passed ≤ℤ pos (10 ^ 18)

-- an account of which n months can be closed: these have ended
pub record MayClose (a : Account) (n : ℕ) : Type 0 where
  pub account : IsAccount a
  pub calendar : month_of a.today < months_end
  pub ended : month_of a.terms.boarded + n ≤ month_of a.today

-- what n months from one on cost, by the cost of each
unfoldable pub months_cost : (Account → ℕ → ℕ) → Account → ℕ → ℕ → ℕ
months_cost cost a m n = sum_by (cost a) (range_with_len m n)

-- the cost of the closed months from one on, where n are closed
abbrev pub closed_cost : (Account → ℕ → ℕ) → Account → ℕ → ℕ → ℕ
closed_cost cost a n m = months_cost cost a m (month_of a.terms.boarded + n - m)
