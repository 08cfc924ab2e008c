-- The numbers of an analysis, one by one.
use Rattle.std.proofs.Common.{◌≡◌, ℕ, ℤ, w64, to_z, of_z, pos, ◌≤ℤ◌, arith, refl}
use Rattle.std.proofs.lemmas.Int.{ints}
use Rattle.svc_types.specs.declared.escrow.Figures.{Figures}
use Rattle.svc_spec.specs.Books.{IsEntryAmount}
use Rattle.svc_world.specs.Held.{Held}
use Rattle.svc_world.specs.Analysing.{figures_with}
use Rattle.svc_loan.proofs.ClosedLemmas.{cents_same}

abbrev figures : ℕ → ℤ → ℤ → ℤ → ℤ → ℤ → ℤ → ℤ → ℤ → ℤ → ℤ → Figures
figures a b c d e f g h i j k = record { from = a; base = b; cushion = c; opening = d; balance = e; surplus = f; short = g; deficient = h; refund = i; within30 = j; pay = k }

pub same_figures : {a a' : ℕ} {b b' c c' d d' e e' f f' g g' h h' i i' j j' k k' : ℤ} → a ≡ a' → b ≡ b' → c ≡ c' → d ≡ d' → e ≡ e' → f ≡ f' → g ≡ g' → h ≡ h' → i ≡ i' → j ≡ j' → k ≡ k' → figures a b c d e f g h i j k ≡ figures a' b' c' d' e' f' g' h' i' j' k'
same_figures p q r s t u v w x y z = rw (p, q, r, s, t, u, v, w, x, y, z) refl

pub share_same : (z : ℤ) → pos 0 ≤ℤ z → z ≤ℤ pos 1_000_000_000_000_000_000 → to_z w64 (of_z w64 z) ≡ z
share_same z low high = cents_same z (omega (arith, ints)) (omega (arith, ints))

pub below_same : (z most : ℤ) → pos 0 ≤ℤ z → z ≤ℤ most → most ≤ℤ pos 2_240_000_000_000 → to_z w64 (of_z w64 z) ≡ z
below_same z most low high few = cents_same z (omega (arith, ints)) (omega (arith, ints))

pub entered_same : (z : ℤ) → IsEntryAmount z → to_z w64 (of_z w64 z) ≡ z
entered_same z h = let low = h.low in let high = h.high in cents_same z (omega (arith, ints)) (omega (arith, ints))

pub same_with : (l : Held) {a a' b b' c c' : ℤ} → a ≡ a' → b ≡ b' → c ≡ c' → figures_with l a b c ≡ figures_with l a' b' c'
same_with l p q r = rw (p, q, r) refl
