-- What `grind` needs of signed amounts: casts, and the lesser and the greater of two.
use Rattle.std.proofs.Common.{◌≡◌, true, false, arith}
use Rattle.std.specs.Prelude.{ℕ, ℤ, ◌≤ℤ◌, ◌<ℤ◌, int_lt, int_le, nat_le}
use Rattle.std.specs.Ordering.{nat_cmp, is_le}
use Rattle.std.proofs.lemmas.Int.{ints, clamps, to_z-of_z}

pub ruleset cents = (ints, clamps, to_z-of_z)

-- what tests on signed amounts answer
pub int_lt-true : (a b : ℤ) → a <ℤ b → int_lt a b ≡ true
int_lt-true a b h = grind (arith, ints)

pub int_lt-false : (a b : ℤ) → b ≤ℤ a → int_lt a b ≡ false
int_lt-false a b h = grind (arith, ints)

pub int_le-true : (a b : ℤ) → a ≤ℤ b → int_le a b ≡ true
int_le-true a b h = grind (arith, ints)

pub int_le-false : (a b : ℤ) → b <ℤ a → int_le a b ≡ false
int_le-false a b h = grind (arith, ints)

-- and what their answers say
pub from_int_lt : (a b : ℤ) → int_lt a b ≡ true → a <ℤ b
from_int_lt a b h = grind (arith, ints)

pub from_not_int_lt : (a b : ℤ) → int_lt a b ≡ false → b ≤ℤ a
from_not_int_lt a b h = grind (arith, ints)

pub from_int_le : (a b : ℤ) → int_le a b ≡ true → a ≤ℤ b
from_int_le a b h = grind (arith, ints)

pub from_not_int_le : (a b : ℤ) → int_le a b ≡ false → b <ℤ a
from_not_int_le a b h = grind (arith, ints)

-- how days compare
pub is_le-nat_cmp : (a b : ℕ) → is_le (nat_cmp a b) ≡ nat_le a b
is_le-nat_cmp a b = grind arith
