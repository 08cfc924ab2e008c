-- Bytes that are appended one after another.
use Rattle.std.proofs.Common.{◌≡◌, ℕ, ◌<◌, ◌≤◌, List, ◌++◌, ap, ◌∙◌, append_assoc}
use Rattle.std.proofs.lemmas.Bool.{false≢true}

pub two-pushed : (o a b m n : List ℕ) → m ≡ o ++ a → n ≡ m ++ b → n ≡ o ++ (a ++ b)
two-pushed o a b m n x y = y ∙ ap (λ (t : List ℕ). t ++ b) x ∙ append_assoc o a b

pub four-pushed : (o a b c d m1 m2 m3 n : List ℕ) → m1 ≡ o ++ a → m2 ≡ m1 ++ b → m3 ≡ m2 ++ c → n ≡ m3 ++ d
    → n ≡ o ++ (a ++ (b ++ (c ++ d)))
four-pushed o a b c d m1 m2 m3 n x y z w =
    two-pushed o a (b ++ (c ++ d)) m1 n x (two-pushed m1 b (c ++ d) m2 n y (two-pushed m2 c d m3 n z w))

pub five-pushed : (o a b c d e m1 m2 m3 m4 n : List ℕ) → m1 ≡ o ++ a → m2 ≡ m1 ++ b → m3 ≡ m2 ++ c → m4 ≡ m3 ++ d → n ≡ m4 ++ e
    → n ≡ o ++ (a ++ (b ++ (c ++ (d ++ e))))
five-pushed o a b c d e m1 m2 m3 m4 n x y z w v =
    two-pushed o a (b ++ (c ++ (d ++ e))) m1 n x (four-pushed m1 b c d e m2 m3 m4 n y z w v)

pub six-pushed : (o a b c d e f m1 m2 m3 m4 m5 n : List ℕ) → m1 ≡ o ++ a → m2 ≡ m1 ++ b → m3 ≡ m2 ++ c → m4 ≡ m3 ++ d → m5 ≡ m4 ++ e
    → n ≡ m5 ++ f → n ≡ o ++ (a ++ (b ++ (c ++ (d ++ (e ++ f)))))
six-pushed o a b c d e f m1 m2 m3 m4 m5 n x y z w v u =
    two-pushed o a (b ++ (c ++ (d ++ (e ++ f)))) m1 n x (five-pushed m1 b c d e f m2 m3 m4 m5 n y z w v u)
