-- More bytes of the front of a line that is kept.
use Rattle.std.proofs.Common.{◌≡◌, ℕ, ◌+◌, inl, inr, List, ◌++◌, length, take, length-append, min, sym, ap, ◌∙◌, arith}
use Rattle.std.proofs.lemmas.Bool.{cases_lt}
use Rattle.std.proofs.lemmas.List.{take_all}
use Rattle.std.proofs.Math.Seq.{take-append-add}

-- more bytes of a line, as far as there is room
pub kept_piece : (line p : List ℕ) (n room : ℕ) → room + length line ≡ 513 → n ≡ min (length p) room → line ++ take n p ≡ take 513 (line ++ p)
kept_piece line p n room full is = elim (cases_lt room (length p)) [
  | inl long ↦
      let at : 513 ≡ length line + n = omega (arith, is) in
      sym (ap (λ m. take m (line ++ p)) at ∙ take-append-add line p n)
  | inr short ↦
      ap (λ front. line ++ front) (take_all n p (omega (arith, is)))
      ∙ sym (take_all 513 (line ++ p) (omega (arith, length-append line p)))
]
