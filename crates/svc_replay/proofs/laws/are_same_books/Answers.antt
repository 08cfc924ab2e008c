use Rattle.std.proofs.Common.{◌≡◌, ℕ, true, refl, arith}
use Rattle.std.specs.Prelude.{◌==◌, ℤ, Option, Some, None}
use Rattle.std.specs.Ordering.{int_eq}
use Rattle.std.specs.Option.{option_eq}
use Rattle.std.proofs.lemmas.Bool.Decides.{nat_tests}
use Rattle.svc_replay.proofs.laws.are_same_books.Goals as goal

nat_same : (n : ℕ) → (n == n) ≡ true
nat_same n = grind (arith, nat_tests)

int_same : (z : ℤ) → int_eq z z ≡ true
int_same z = grind (arith, nat_tests)

day_same : (o : Option ℕ) → option_eq (λ (a b : ℕ). a == b) o o ≡ true
day_same None = refl
day_same (Some d) = nat_same d

pub returns : goal.returns
returns c = rw (c.eq.ensures, c.requires) (simp (nat_same, int_same, day_same))
