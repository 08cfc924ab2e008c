-- Where the account of a test's loan stands.
use Rattle.std.specs.Prelude.{◌≡◌, ℕ, ◌+◌, ◌*◌, ◌≤◌}
use Rattle.std.specs.List.{All}
use Rattle.svc_spec.specs.Accounts.{Account}

-- the loan was boarded on 2023-12-15, its entries have numbers up to that one, and that day is the
-- business day
pub record StandsAt (a : Account) (last day : ℕ) : Type 0 where
  pub boarded : a.terms.boarded ≡ 31 * (12 * 2023 + 11) + 14
  pub entries : All (λ x. x.number ≤ last) a.entries
  pub today : a.today ≡ day
