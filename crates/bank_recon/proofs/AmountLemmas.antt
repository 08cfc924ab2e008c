-- Amounts of rows, from their texts.
use Rattle.std.proofs.Common.{◌≡◌, ◌≢◌, ◌*◌, ◌^◌, ℤ, pos, List, ℕ, refl, sym, ap, subst, ◌∙◌, arith, to_z, of_z, FitsSigned}
use Rattle.std.specs.Int.{w64, w128}
use Rattle.std.proofs.lemmas.Int.{ints, to_z_pos, to_z-of_z}
use Rattle.svc_base.specs.Text.{text_of_signed}
use Rattle.serv_rows.specs.Amounts.{IsBelow}
use Rattle.serv_rows.proofs.AmountLemmas.{signed_injective as injective}
use Rattle.bank_recon.specs.Rows.{IsItemAmount, IsAmountWord}

within : (z : ℤ) → IsItemAmount z → IsBelow (100 * 10 ^ 16) z
within z is =
    let low = is.low in
    let high = is.high in
    record { low = omega (arith, ints, low); high = omega (arith, ints, high) }

pub no_word : (text : List ℕ) → ((z : ℤ) → IsBelow (100 * 10 ^ 16) z → text ≢ text_of_signed z) → IsAmountWord text → ⊥
no_word text none w = none w.cents (within w.cents w.range) w.is

-- an amount that was read is kept as it is
kept_wide : (z : ℤ) → IsBelow (100 * 10 ^ 16) z → to_z w128 (of_z w128 z) ≡ z
kept_wide z below =
    let low = below.low in
    let high = below.high in
    let fits : FitsSigned w128 z = omega (arith, ints, low, high) in
    to_z-of_z w128 z fits

pub kept : (z : ℤ) → IsBelow (100 * 10 ^ 16) z → to_z w64 (of_z w64 (to_z w128 (of_z w128 z))) ≡ z
kept z below =
    let low = below.low in
    let high = below.high in
    let fits : FitsSigned w64 z = omega (arith, ints, low, high) in
    ap (λ y. to_z w64 (of_z w64 y)) (kept_wide z below) ∙ to_z-of_z w64 z fits

pub zero_word : (text : List ℕ) (z : ℤ) → text ≡ text_of_signed z → IsBelow (100 * 10 ^ 16) z → of_z w128 z ≡ 0 → IsAmountWord text → ⊥
zero_word text z is below zero w =
    let same : w.cents ≡ z = injective (10 ^ 16) w.cents z (omega arith) (within w.cents w.range) below (sym w.is ∙ is) in
    w.range.some (same ∙ sym (kept_wide z below) ∙ ap (to_z w128) zero ∙ to_z_pos w128 0 (omega arith))

pub item_amount : (z : ℤ) → IsBelow (100 * 10 ^ 16) z → (of_z w128 z ≡ 0 → ⊥) → IsItemAmount (to_z w64 (of_z w64 (to_z w128 (of_z w128 z))))
item_amount z below some =
    let low = below.low in
    let high = below.high in
    let zero : of_z w128 (pos 0) ≡ 0 = refl in
    subst IsItemAmount (sym (kept z below)) (record { some = λ e. some (ap (of_z w128) e ∙ zero); low = omega (arith, ints, low); high = omega (arith, ints, high) })

-- a signed amount has one text
pub signed_injective : (y z : ℤ) → IsItemAmount y → IsItemAmount z → text_of_signed y ≡ text_of_signed z → y ≡ z
signed_injective y z p q e = injective (10 ^ 16) y z (omega arith) (within y p) (within z q) e
