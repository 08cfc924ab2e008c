-- The first line feed, as `memchr` finds it.
use Rattle.std.proofs.Common.{◌≡◌, ℕ, List, length, Some, None, true, false, sym, ap, arith, ◌∙◌}
use Rattle.std.specs.Prelude.{Option, cond, nat_lt}
use Rattle.std.specs.List.{position}
use Rattle.std.proofs.lemmas.List.Sums.{position_or_len_is}
use Rattle.std.proofs.lemmas.Bool.{false_from_ne_true}
use Rattle.memchr.specs.Find.{IsFirstByte, is_byte}
use Rattle.serv_top.proofs.PlainLemmas.{is_feed}

pub first_feed : (xs : List ℕ) (r : Option ℕ) → IsFirstByte (is_byte 10) xs r → r ≡ position is_feed xs
first_feed xs (Some k) h =
    let high = h.0.high in
    let at = position_or_len_is is_feed xs k 0 (omega (arith, high)) (λ j lt. false_from_ne_true _ (h.0.before j (omega arith) lt)) (λ lt. h.1) in
    let inside : nat_lt k (length xs) ≡ true = grind arith in
    sym (ap (λ n. cond (nat_lt n (length xs)) (Some n) None) at ∙ ap (λ t. cond t (Some k) None) inside)
first_feed xs None h =
    let n = length xs in
    let at = position_or_len_is is_feed xs n 0 (omega arith) (λ j lt. false_from_ne_true _ (h j (omega arith) lt)) (λ lt. grind arith) in
    let outside : nat_lt n (length xs) ≡ false = grind arith in
    sym (ap (λ m. cond (nat_lt m (length xs)) (Some m) None) at ∙ ap (λ t. cond t (Some n) None) outside)
