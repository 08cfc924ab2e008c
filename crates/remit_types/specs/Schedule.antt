-- What a loan's schedule asks of the investor's balance in a month, whatever is paid.
use Rattle.std.specs.Prelude.{ℕ, ◌+◌, nat_lt, nat_le, if◌then◌else◌, ℤ, pos, ◌-ℤ◌}
use Rattle.svc_base.specs.Money.{month_interest}
use Rattle.svc_types.specs.declared.terms.Terms.{Terms}
use Rattle.svc_types.specs.LevelPayment.{level_principal}

-- the principal that the schedule asks of a balance: nothing before the first due month, all of it
-- from the last installment on
unfoldable pub scheduled_principal : Terms → ℕ → ℤ → ℤ
scheduled_principal t month balance =
    if nat_lt month t.first then pos 0
    else if nat_le (t.first + t.term) (month + 1) then balance
    else level_principal t balance

-- one month's interest on a balance less the servicing fee in it, from the first due month on
unfoldable pub scheduled_interest : Terms → ℕ → ℤ → ℤ
scheduled_interest t month balance =
    if nat_lt month t.first then pos 0
    else month_interest balance t.rate -ℤ month_interest balance t.fee
