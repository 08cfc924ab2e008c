-- The parts of an escrow analysis (12 CFR 1024.17(b)).
use Rattle.std.specs.Prelude.{ℤ, pos, ◌-ℤ◌, ◌≤ℤ◌, ◌^◌}
use Rattle.std.specs.Int.{int_max}
use Rattle.escrow_resolve.specs.declared.analysis.Parts.{Parts}

-- what exceeds the target balance
unfoldable pub surplus : ℤ → ℤ → ℤ
surplus balance target = int_max (balance -ℤ target) (pos 0)

-- what the balance lacks to the target
unfoldable pub shortage : ℤ → ℤ → ℤ
shortage balance target = int_max (target -ℤ int_max balance (pos 0)) (pos 0)

-- the amount of a negative balance
unfoldable pub deficiency : ℤ → ℤ
deficiency balance = int_max (pos 0 -ℤ balance) (pos 0)

abbrev pub escrow_parts : ℤ → ℤ → Parts
escrow_parts balance target =
    record {
      surplus = surplus balance target;
      short = shortage balance target;
      deficient = deficiency balance;
    }

-- each part lies from 0 to 10^18 cents
pub record AreParts (p : Parts) : Type 0 where
  pub surplus_low : pos 0 ≤ℤ p.surplus
  pub surplus_high : p.surplus ≤ℤ pos (10 ^ 18)
  pub short_low : pos 0 ≤ℤ p.short
  pub short_high : p.short ≤ℤ pos (10 ^ 18)
  pub deficient_low : pos 0 ≤ℤ p.deficient
  pub deficient_high : p.deficient ≤ℤ pos (10 ^ 18)
