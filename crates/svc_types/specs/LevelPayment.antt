-- What the level payment leaves for principal after a month's interest.
use Rattle.std.specs.Prelude.{ℤ, ◌-ℤ◌}
use Rattle.std.specs.Int.{int_min}
use Rattle.svc_base.specs.Money.{month_interest}
use Rattle.svc_types.specs.declared.terms.Terms.{Terms}

-- the part of the level payment that is principal, at most the balance
unfoldable pub level_principal : Terms → ℤ → ℤ
level_principal t balance = int_min balance (t.pi -ℤ month_interest balance t.rate)
