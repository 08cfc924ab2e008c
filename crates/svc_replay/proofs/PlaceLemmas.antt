-- An entry that takes effect before none of the others comes behind them.
use Rattle.std.proofs.Common.{◌≡◌, ℕ, ◌-◌, ◌≤◌, true, false, List, length, get_or, arith, ap, ◌∙◌}
use Rattle.std.specs.Prelude.{not, insert}
use Rattle.std.specs.List.{AllPairs}
use Rattle.std.proofs.lemmas.List.{get_or_default}
use Rattle.svc_types.specs.declared.account.Entry.{Entry}
use Rattle.svc_types.specs.Live.{is_before, placed}
use Rattle.svc_types.proofs.OrderLemmas.{partitioned, placed_at}

pub placed_last : (e : Entry) (live : List Entry) (n : ℕ) (x : Entry) → AllPairs (λ a b. is_before b a ≡ false) live → n ≡ length live → 1 ≤ n → get_or live (n - 1) x ≡ x → not (is_before e x) ≡ true → insert live (length live) e ≡ placed e live
placed_last e live n x order is some at later =
    placed_at e live (length live) (omega arith) (
      λ k d within low. (
          let last : not (is_before e (get_or live (n - 1) d)) ≡ true = ap (λ (y : Entry). not (is_before e y)) (get_or_default live (n - 1) d x (omega (arith, is, some)) ∙ at) ∙ later in
          partitioned e live order k (n - 1) d (omega (arith, is, within)) (omega (arith, is, some)) last),
      λ k d low within. absurd (omega (arith, low, within)),
    )

pub placed_alone : (e : Entry) (live : List Entry) (n : ℕ) → n ≡ length live → n ≡ 0 → insert live (length live) e ≡ placed e live
placed_alone e live n is none =
    placed_at e live (length live) (omega arith)
    (λ k d within low. absurd (omega (arith, is, none, within)), λ k d low within. absurd (omega (arith, is, none, within)))
