-- Bytes without a line feed, taken at once.
use Rattle.std.proofs.Common.{◌≡◌, ℕ, suc, ◌+◌, ◌<◌, Bool, true, false, List, [], ◌∷◌, ◌++◌, length, take, drop, get_or, Some, None, refl, sym, ap, subst, take-add, arith, ◌∙◌, append-nil, append_assoc, take-append-drop}
use Rattle.std.specs.Prelude.{◌==◌, if◌then◌else◌, cond, nat_lt}
use Rattle.std.specs.List.{position, position_or_len}
use Rattle.std.proofs.lemmas.List.{take_all, take_more}
use Rattle.std.proofs.lemmas.List.Sums.{passes_at_first}
use Rattle.std.proofs.lemmas.Bool.{eqb-true}
use Rattle.serv_top.specs.Lines.{IsPlain, ended_lines, open_from, open_line}
use Rattle.serv_top.proofs.Cutting.{ended_from, ended_lines-append}

-- whether a byte is a line feed
abbrev pub is_feed : ℕ → Bool
is_feed b = b == 10

-- no line ends in them, and they go on with the piece before them
ended_from_plain : (line p : List ℕ) → IsPlain p → ended_from line p ≡ []
ended_from_plain line [] plain = refl
ended_from_plain line (b ∷ p) plain = ap (λ t. if t then line ∷ ended_from [] p else ended_from (line ++ b ∷ []) p) plain.0 ∙ ended_from_plain (line ++ b ∷ []) p plain.1

pub ended_plain : (bytes p : List ℕ) → IsPlain p → ended_lines (bytes ++ p) ≡ ended_lines bytes
ended_plain bytes p plain = ended_lines-append bytes p ∙ ap (λ ls. ended_lines bytes ++ ls) (ended_from_plain (open_line bytes) p plain) ∙ append-nil (ended_lines bytes)

open_from_plain : (line p : List ℕ) → IsPlain p → open_from line p ≡ line ++ p
open_from_plain line [] plain = sym (append-nil line)
open_from_plain line (b ∷ p) plain = ap (λ t. if t then open_from [] p else open_from (line ++ b ∷ []) p) plain.0 ∙ open_from_plain (line ++ b ∷ []) p plain.1 ∙ append_assoc line (b ∷ []) p

open_from_append : (line bytes p : List ℕ) → open_from line (bytes ++ p) ≡ open_from (open_from line bytes) p
open_from_append line [] p = refl
open_from_append line (b ∷ bytes) p = elim (b == 10) as (λ t. (if t then open_from [] (bytes ++ p) else open_from (line ++ b ∷ []) (bytes ++ p)) ≡ open_from (if t then open_from [] bytes else open_from (line ++ b ∷ []) bytes) p)
    [ true ↦ open_from_append [] bytes p | false ↦ open_from_append (line ++ b ∷ []) bytes p ]

pub open_plain : (bytes p : List ℕ) → IsPlain p → open_line (bytes ++ p) ≡ open_line bytes ++ p
open_plain bytes p plain = open_from_append [] bytes p ∙ open_from_plain (open_line bytes) p plain

-- up to the first line feed there is none
plain_front : (xs : List ℕ) → IsPlain (take (position_or_len is_feed xs) xs)
plain_front [] = tt
plain_front (x ∷ xs) =
    elim (is_feed x) as (λ v. is_feed x ≡ v → IsPlain (take (position_or_len is_feed (x ∷ xs)) (x ∷ xs))) [
      | true ↦ λ e. let zero_at : position_or_len is_feed (x ∷ xs) ≡ 0 = rw e refl in subst (λ n. IsPlain (take n (x ∷ xs))) (sym zero_at) tt
      | false ↦ λ e.
          let later : position_or_len is_feed (x ∷ xs) ≡ 1 + position_or_len is_feed xs = rw e refl in
          let next : position_or_len is_feed (x ∷ xs) ≡ suc (position_or_len is_feed xs) = omega (arith, later) in
          subst (λ n. IsPlain (take n (x ∷ xs))) (sym next) (e, plain_front xs)
    ] refl

-- where the first line feed stands
pub feed_place : (xs : List ℕ) (i : ℕ) → position is_feed xs ≡ Some i → (position_or_len is_feed xs ≡ i) × (i < length xs)
feed_place xs i e =
    elim (nat_lt (position_or_len is_feed xs) (length xs)) as (λ v. nat_lt (position_or_len is_feed xs) (length xs) ≡ v → cond v (Some (position_or_len is_feed xs)) None ≡ Some i → (position_or_len is_feed xs ≡ i) × (i < length xs)) [
      | true ↦ λ k h.
          let same : position_or_len is_feed xs ≡ i = cc in
          let low : position_or_len is_feed xs < length xs = grind arith in
          (same, rw same at low)
      | false ↦ λ k h. cc
    ] refl e

pub plain_before : (xs : List ℕ) (i : ℕ) → position is_feed xs ≡ Some i → IsPlain (take i xs)
plain_before xs i e = subst (λ n. IsPlain (take n xs)) (feed_place xs i e).0 (plain_front xs)

pub plain_all : (xs : List ℕ) → position is_feed xs ≡ None → IsPlain xs
plain_all xs e =
    elim (nat_lt (position_or_len is_feed xs) (length xs)) as (λ v. nat_lt (position_or_len is_feed xs) (length xs) ≡ v → cond v (Some (position_or_len is_feed xs)) None ≡ None → IsPlain xs) [
      | true ↦ λ k h. cc
      | false ↦ λ k h. subst IsPlain (take_all (position_or_len is_feed xs) xs (grind arith)) (plain_front xs)
    ] refl e

-- the piece up to the first line feed, and the line feed
pub line_before : (xs : List ℕ) (i : ℕ) → position is_feed xs ≡ Some i → take (i + 1) xs ≡ take i xs ++ 10 ∷ []
line_before xs i e =
    let at = feed_place xs i e in
    let low : position_or_len is_feed xs < length xs = omega (arith, at.0, at.1) in
    let feed : is_feed (get_or xs i 0) ≡ true = rw at.0 at (passes_at_first is_feed xs 0 low) in
    let ten : get_or xs i 0 ≡ 10 = eqb-true (get_or xs i 0) 10 feed in
    take_more xs i 0 at.1 ∙ ap (λ b. take i xs ++ b ∷ []) ten

-- more of a piece
pub part_more : (before bytes : List ℕ) (at n : ℕ) → (before ++ take at bytes) ++ take n (drop at bytes) ≡ before ++ take (at + n) bytes
part_more before bytes at n = append_assoc before (take at bytes) (take n (drop at bytes)) ∙ ap (λ more. before ++ more) (sym (take-add at n bytes))

pub part_rest : (before bytes : List ℕ) (at : ℕ) → (before ++ take at bytes) ++ drop at bytes ≡ before ++ bytes
part_rest before bytes at = append_assoc before (take at bytes) (drop at bytes) ∙ ap (λ all. before ++ all) (take-append-drop at bytes)
