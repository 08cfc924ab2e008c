-- Searches over numbers in a row.
use Rattle.std.proofs.Common.{◌≡◌, inl, inr, ℕ, zero, suc, ◌+◌, ◌≤◌, ◌<◌, Bool, true, false, cond, arith, refl, ap, ◌∙◌}
use Rattle.std.specs.Prelude.{Some, None}
use Rattle.std.specs.List.{find, range_with_len}
use Rattle.std.proofs.lemmas.Bool.{cases_eq}

-- the first that passes is found
pub find_first : (p : ℕ → Bool) (a n x : ℕ) → a ≤ x → x < a + n → p x ≡ true → ((y : ℕ) → a ≤ y → y < x → p y ≡ false) → find p (range_with_len a n) ≡ Some x
find_first p a zero x low high here before = absurd (omega arith)
find_first p a (suc n) x low high here before =
    elim (cases_eq a x) as (λ d. find p (range_with_len a (suc n)) ≡ Some x) [
      | inl e ↦
          let is : p a ≡ true = ap p e ∙ here in
          ap (λ v. cond v (Some a) (find p (range_with_len (a + 1) n))) is ∙ ap Some e
      | inr ne ↦
          let lt : a < x = omega arith in
          let not : p a ≡ false = before a (omega arith) lt in
          ap (λ v. cond v (Some a) (find p (range_with_len (a + 1) n))) not
          ∙ find_first p (a + 1) n x (omega arith) (omega arith) here (λ y l h. before y (omega arith) h)
    ]

-- none is found where none passes
pub find_none : (p : ℕ → Bool) (a n : ℕ) → ((y : ℕ) → a ≤ y → y < a + n → p y ≡ false) → find p (range_with_len a n) ≡ None
find_none p a zero h = refl
find_none p a (suc n) h =
    let here : p a ≡ false = h a (omega arith) (omega arith) in
    ap (λ v. cond v (Some a) (find p (range_with_len (a + 1) n))) here ∙ find_none p (a + 1) n (λ y l u. h y (omega arith) (omega arith))
