-- What a derived `==` tests, and what it says of two values.
use Rattle.std.proofs.Common.{◌≡◌, ◌∙◌, Bool, ap, sym, refl}
use Rattle.std.specs.Prelude.{◌&&◌}
use Rattle.std.specs.Bool.{Decides}
use Rattle.std.specs.Cmp.{IsPartialEquivalence}
use Rattle.std.proofs.lemmas.Bool.Decides.{Decides-and, Decides-like}

-- a name for the test of a derived `==`, by its law
abbrev pub test_of : {A : Type 0} {E : A → A → Bool} → IsPartialEquivalence E → A → A → Bool
test_of {A} {E} h = E

abbrev pair : {A B : Type 0} → A → B → A × B
pair x y = (x, y)

pairs_same : {A B : Type 0} {a a' : A} {b b' : B} → a ≡ a' → b ≡ b' → pair a b ≡ pair a' b'
pairs_same p q = rw (p, q) refl

-- two pairs are equal where both parts are
pub Decides-pair : {A B : Type 0} {a a' : A} {b b' : B} (x y : Bool) → Decides x (a ≡ a') → Decides y (b ≡ b') → Decides (x && y) (pair a b ≡ pair a' b')
Decides-pair {A} {B} x y d k = Decides-like (x && y) (λ h. pairs_same h.0 h.1) (λ e. (ap (λ (p : A × B). p.0) e, ap (λ (p : A × B). p.1) e)) (Decides-and x y d k)

-- two values are equal where all their fields are, of which each is made again
pub Decides-fields : {A B : Type 0} (fields : A → B) (whole : B → A) → ((a : A) → whole (fields a) ≡ a) → (x : Bool) (a b : A) → Decides x (fields a ≡ fields b) → Decides x (a ≡ b)
Decides-fields fields whole again x a b d = Decides-like x (λ e. sym (again a) ∙ ap whole e ∙ again b) (ap fields) d
