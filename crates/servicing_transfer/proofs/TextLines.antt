-- How a text is cut into lines.
use Rattle.std.proofs.Common.{◌≡◌, ℕ, suc, ◌+◌, ◌-◌, ◌<◌, ◌≤◌, Bool, true, false, cond, List, [], ◌∷◌, length, take, drop, Some, None, arith, refl, sym, ap, ◌∙◌}
use Rattle.std.specs.Prelude.{nat_lt, ◌==◌, if◌then◌else◌}
use Rattle.std.specs.List.{onto_first, position, position_or_len}
use Rattle.std.proofs.lemmas.List.{take_rest, drop-drop}
use Rattle.servicing_transfer.specs.Stated.{text_lines}

-- whether a byte is a line feed
abbrev pub is_feed : ℕ → Bool
is_feed b = b == 10

-- a text as one line, where it is not empty
abbrev whole : List ℕ → List (List ℕ)
whole [] = []
whole (x ∷ xs) = (x ∷ xs) ∷ []

onto_whole : (x : ℕ) (xs : List ℕ) → onto_first x (whole xs) ≡ (x ∷ xs) ∷ []
onto_whole x [] = refl
onto_whole x (y ∷ ys) = refl

unended : (text : List ℕ) → length text ≤ position_or_len is_feed text → text_lines text ≡ whole text
unended [] h = refl
unended (x ∷ xs) h =
    elim (is_feed x) as (λ v. is_feed x ≡ v → text_lines (x ∷ xs) ≡ (x ∷ xs) ∷ []) [
      | true ↦ λ e. let zero_at : position_or_len is_feed (x ∷ xs) ≡ 0 = rw e refl in absurd (omega arith)
      | false ↦ λ e.
          let later : position_or_len is_feed (x ∷ xs) ≡ 1 + position_or_len is_feed xs = rw e refl in
          let rest : text_lines xs ≡ whole xs = unended xs (omega arith) in
          ap (λ b. if b then [] ∷ text_lines xs else onto_first x (text_lines xs)) e ∙ ap (onto_first x) rest ∙ onto_whole x xs
    ] refl

ended_at : (text : List ℕ) → position_or_len is_feed text < length text → text_lines text ≡ take (position_or_len is_feed text) text ∷ text_lines (drop (position_or_len is_feed text + 1) text)
ended_at [] h = absurd (omega arith)
ended_at (x ∷ xs) h =
    elim (is_feed x) as (λ v. is_feed x ≡ v → text_lines (x ∷ xs) ≡ take (position_or_len is_feed (x ∷ xs)) (x ∷ xs) ∷ text_lines (drop (position_or_len is_feed (x ∷ xs) + 1) (x ∷ xs))) [
      | true ↦ λ e.
          let zero_at : position_or_len is_feed (x ∷ xs) ≡ 0 = rw e refl in
          ap (λ b. if b then [] ∷ text_lines xs else onto_first x (text_lines xs)) e
          ∙ sym (ap (λ k. take k (x ∷ xs) ∷ text_lines (drop (k + 1) (x ∷ xs))) zero_at)
      | false ↦ λ e.
          let p = position_or_len is_feed xs in
          let later : position_or_len is_feed (x ∷ xs) ≡ 1 + p = rw e refl in
          let rest : text_lines xs ≡ take p xs ∷ text_lines (drop (p + 1) xs) = ended_at xs (omega arith) in
          let front : position_or_len is_feed (x ∷ xs) ≡ suc p = omega (arith, later) in
          let back : position_or_len is_feed (x ∷ xs) + 1 ≡ suc (p + 1) = omega (arith, later) in
          ap (λ b. if b then [] ∷ text_lines xs else onto_first x (text_lines xs)) e ∙ ap (onto_first x) rest
          ∙ ap (λ k. take k (x ∷ xs) ∷ text_lines (drop (p + 1) xs)) (sym front)
          ∙ ap (λ k. take (position_or_len is_feed (x ∷ xs)) (x ∷ xs) ∷ text_lines (drop k (x ∷ xs))) (sym back)
    ] refl

-- a text without a line feed is one line, where it is not empty
pub one_line : (text : List ℕ) → 0 < length text → position is_feed text ≡ None → text_lines text ≡ text ∷ []
one_line text some e =
    elim (nat_lt (position_or_len is_feed text) (length text)) as (λ v. nat_lt (position_or_len is_feed text) (length text) ≡ v → cond v (Some (position_or_len is_feed text)) None ≡ None → text_lines text ≡ text ∷ []) [
      | true ↦ λ k h. cc
      | false ↦ λ k h. unended text (grind arith) ∙ filled text some
    ] refl e
  where
    filled : (t : List ℕ) → 0 < length t → whole t ≡ t ∷ []
    filled [] lt = absurd (omega arith)
    filled (x ∷ xs) lt = refl

-- the first line ends at the first line feed, and the others stand after it
pub first_line : (text line rest : List ℕ) (i : ℕ) → position is_feed text ≡ Some i → line ≡ take i text → rest ≡ drop i text → text_lines text ≡ line ∷ text_lines (take (length rest - 1) (drop 1 rest))
first_line text line rest i e front back =
    elim (nat_lt (position_or_len is_feed text) (length text)) as (λ v. nat_lt (position_or_len is_feed text) (length text) ≡ v → cond v (Some (position_or_len is_feed text)) None ≡ Some i → text_lines text ≡ line ∷ text_lines (take (length rest - 1) (drop 1 rest))) [
      | true ↦ λ k h.
          let at : position_or_len is_feed text ≡ i = cc in
          let low : position_or_len is_feed text < length text = grind arith in
          let cut : text_lines text ≡ take i text ∷ text_lines (drop (i + 1) text) = rw at at (ended_at text low) in
          let after : take (length rest - 1) (drop 1 rest) ≡ drop (i + 1) text = take_rest rest 1 ∙ ap (drop 1) back ∙ drop-drop 1 i text in
          rw after (rw front cut)
      | false ↦ λ k h. cc
    ] refl e
