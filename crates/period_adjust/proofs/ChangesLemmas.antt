-- The adjustments of the months that are left.
use Rattle.std.proofs.Common.{◌≡◌, ℕ, ◌+◌, ◌<◌, ◌≤◌, Bool, true, false, List, [], ◌∷◌, ◌++◌, length, get_or, drop, refl, arith, ap, ◌∙◌, add-one, drop-cons, sym, suc, ℤ, length-append}
use Rattle.std.specs.Prelude.{if◌then◌else◌}
use Rattle.remit_types.specs.declared.dues.MonthDue.{MonthDue}
use Rattle.period_adjust.specs.declared.adjustment.Adjustment.{Adjustment}
use Rattle.period_adjust.specs.Changes.{is_unchanged, adjustment, change_of, adjustments_of}

-- from one month on
drop_here : (ds : List MonthDue) (i : ℕ) (d : MonthDue) → i < length ds → d ≡ get_or ds i d → drop i ds ≡ d ∷ drop (i + 1) ds
drop_here ds i d h e =
    let cut : drop i ds ≡ get_or ds i d ∷ drop (i + 1) ds = (rw (add-one, drop-cons ds i d) refl) in
    cut ∙ ap (λ x. x ∷ drop (i + 1) ds) (sym e)

pub adjustments_of-step : (number loan : ℕ) (bs later : List MonthDue) (i : ℕ) (b a : MonthDue) → i < length bs → i < length later → b ≡ get_or bs i b → a ≡ get_or later i a → adjustments_of number loan (drop i bs) (drop i later) ≡ change_of number loan b a ++ adjustments_of number loan (drop (i + 1) bs) (drop (i + 1) later)
adjustments_of-step number loan bs later i b a h k e f =
    let cut = drop_here bs i b h e in
    let cut' = drop_here later i a k f in
    ap (λ x. adjustments_of number loan x (drop i later)) cut ∙ ap (adjustments_of number loan (b ∷ drop (i + 1) bs)) cut'

-- how many there are does not hang on the command
length-change_of : (number loan : ℕ) (b a : MonthDue) → length (change_of number loan b a) ≡ length (change_of 0 0 b a)
length-change_of number loan b a =
    elim (is_unchanged b a) as (λ u. length (if u then [] else adjustment number loan b a ∷ []) ≡ length (if u then [] else adjustment 0 0 b a ∷ [])) [ true ↦ refl | false ↦ refl ]

pub length-adjustments_of : (number loan : ℕ) (bs later : List MonthDue) → length (adjustments_of number loan bs later) ≡ length (adjustments_of 0 0 bs later)
length-adjustments_of number loan [] later = refl
length-adjustments_of number loan (b ∷ bs) [] = refl
length-adjustments_of number loan (b ∷ bs) (a ∷ later) =
    let one = length-append (change_of number loan b a) (adjustments_of number loan bs later) in
    let same = length-append (change_of 0 0 b a) (adjustments_of 0 0 bs later) in
    omega (arith, length-change_of number loan b a, length-adjustments_of number loan bs later)

-- an adjustment is known by its fields
pub adjustment_fields : (number loan month : ℕ) (i j p q : ℤ) → i ≡ j → p ≡ q → (let x : Adjustment = record { number = number; loan = loan; month = month; interest = i; principal = p } in let y : Adjustment = record { number = number; loan = loan; month = month; interest = j; principal = q } in x ≡ y)
adjustment_fields number loan month i j p q e f = cc

pub ruleset counts = (length-adjustments_of, length-append)
