-- How a line is cut into words.
use Rattle.std.proofs.Common.{◌≡◌, ℕ, ◌+◌, ◌-◌, ◌<◌, ◌≤◌, Bool, true, false, List, [], ◌∷◌, length, take, drop, Some, None, arith, refl, ap, ◌∙◌}
use Rattle.std.proofs.lemmas.List.{take_rest, drop-drop}
use Rattle.std.specs.List.{onto_first, position, position_or_len}
use Rattle.std.proofs.lemmas.List.Splits.{slice_split_first, slice_split-cons_no, join_with_byte-slice_split}
use Rattle.std.specs.Prelude.{cond, nat_lt, ◌==◌}
use Rattle.serv_line.specs.Lines.{joined, words_of}

-- whether a byte is a space
abbrev pub is_space : ℕ → Bool
is_space b = b == 32

split_last : (line : List ℕ) → length line ≤ position_or_len is_space line → words_of line ≡ line ∷ []
split_last [] h = refl
split_last (x ∷ xs) h =
    elim (is_space x) as (λ v. is_space x ≡ v → words_of (x ∷ xs) ≡ (x ∷ xs) ∷ []) [
      | true ↦ λ e. let zero_at : position_or_len is_space (x ∷ xs) ≡ 0 = rw e refl in absurd (omega arith)
      | false ↦ λ e.
          let later : position_or_len is_space (x ∷ xs) ≡ 1 + position_or_len is_space xs = rw e refl in
          let rest : words_of xs ≡ xs ∷ [] = split_last xs (omega arith) in
          slice_split-cons_no is_space x xs e ∙ ap (onto_first x) rest
    ] refl

split_more : (line : List ℕ) → position_or_len is_space line < length line → words_of line ≡ take (position_or_len is_space line) line ∷ words_of (drop (position_or_len is_space line + 1) line)
split_more line h = slice_split_first is_space line 0 h

-- a line without a space is one word
pub one_word : (line : List ℕ) → position is_space line ≡ None → words_of line ≡ line ∷ []
one_word line e =
    elim (nat_lt (position_or_len is_space line) (length line)) as (λ v. nat_lt (position_or_len is_space line) (length line) ≡ v → cond v (Some (position_or_len is_space line)) None ≡ None → words_of line ≡ line ∷ []) [
      | true ↦ λ k h. cc
      | false ↦ λ k h. split_last line (grind arith)
    ] refl e

-- the first word ends at the first space, and the others stand after it
pub first_word : (line word rest : List ℕ) (i : ℕ) → position is_space line ≡ Some i → word ≡ take i line → rest ≡ drop i line → words_of line ≡ word ∷ words_of (take (length rest - 1) (drop 1 rest))
first_word line word rest i e front back =
    elim (nat_lt (position_or_len is_space line) (length line)) as (λ v. nat_lt (position_or_len is_space line) (length line) ≡ v → cond v (Some (position_or_len is_space line)) None ≡ Some i → words_of line ≡ word ∷ words_of (take (length rest - 1) (drop 1 rest))) [
      | true ↦ λ k h.
          let at : position_or_len is_space line ≡ i = cc in
          let low : position_or_len is_space line < length line = grind arith in
          let cut : words_of line ≡ take i line ∷ words_of (drop (i + 1) line) = rw at at (split_more line low) in
          let after : take (length rest - 1) (drop 1 rest) ≡ drop (i + 1) line = take_rest rest 1 ∙ ap (drop 1) back ∙ drop-drop 1 i line in
          rw after (rw front cut)
      | false ↦ λ k h. cc
    ] refl e

-- the words of a text, joined, are the text
pub split_joined : (text : List ℕ) → joined (words_of text) ≡ text
split_joined text = join_with_byte-slice_split 32 text

-- what holds of each list with a first word holds of a text's words
pub of_words : (P : List (List ℕ) → Type 0) → ((w : List ℕ) (ws : List (List ℕ)) → P (w ∷ ws)) → (text : List ℕ) → P (words_of text)
of_words P f [] = f [] []
of_words P f (x ∷ xs) =
    elim (is_space x) as (λ v. P (cond v ([] ∷ words_of xs) (onto_first x (words_of xs)))) [
      | true ↦ f [] (words_of xs)
      | false ↦ elim (words_of xs) as (λ ws. P (onto_first x ws)) [ [] ↦ f (x ∷ []) [] | part ∷ parts ↦ f (x ∷ part) parts ]
    ]
