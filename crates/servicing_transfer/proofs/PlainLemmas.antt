-- A byte below the digits and the signs stands in no word of a statement, so the words of a line are cut at its spaces
-- again, and its lines at their line feeds.
use Rattle.std.proofs.Common.{◌≡◌, ℕ, ◌+◌, ◌/◌, ◌%◌, ◌^◌, ◌<◌, Bool, true, false, List, [], ◌∷◌, ◌++◌, refl, arith, ℤ, pos, negsuc, ◌<ℤ◌, Some, None}
use Rattle.std.specs.Prelude.{◌==◌, ◌&&◌, not, neg_ℤ}
use Rattle.std.specs.List.{All, list_all}
use Rattle.std.specs.Fmt.{decimal}
use Rattle.std.proofs.lemmas.Int.{ints}
use Rattle.std.proofs.lemmas.List.Elements.{All-cons, All-nil, All-append, All-weaker}
use Rattle.std.proofs.lemmas.List.Sums.{AllPass-from_list_all}
use Rattle.svc_base.specs.Text.{text_of_number, text_of_signed, text_of_cents, text_of_month, text_of_day, two_digits, four_digits}
use Rattle.svc_base.proofs.ByteLemmas.{OfDigits, each_of_day, each_of_month, each_of_number, each_of_signed}
use Rattle.servicing_transfer.specs.declared.loan_fields.FieldKind.{FieldKind}
use Rattle.servicing_transfer.specs.declared.loan_fields.FieldKind.TheVariants as kind
use Rattle.servicing_transfer.specs.declared.loan_fields.Value.{Value}
use Rattle.servicing_transfer.specs.declared.loan_fields.Value.TheVariants as value
use Rattle.servicing_transfer.specs.LoanFields.{text_of_value, words_of_fields}
use Rattle.servicing_transfer.specs.FieldValues.{AreValuesOf, IsValueOf}
use Rattle.servicing_transfer.specs.Stated.{IsStatedBalance}
use Rattle.servicing_transfer.proofs.AmountLemmas.{amount_is_balance}

-- ---- texts without a byte

abbrev pub HasNone : ℕ → List ℕ → Type 0
HasNone c text = All (λ b. (b == c) ≡ false) text

abbrev pub is_other : ℕ → ℕ → Bool
is_other c b = not (b == c)

other : (c b : ℕ) → c < b → (b == c) ≡ false
other c b h = grind arith

pub plain : (c : ℕ) (text : List ℕ) → list_all (is_other c) text ≡ true → HasNone c text
plain c text h = All-weaker (λ b. is_other c b ≡ true) (λ b. (b == c) ≡ false) (λ b e. grind arith) text (AllPass-from_list_all (is_other c) text h)

pub none : (c : ℕ) → HasNone c []
none c = All-nil (λ b. (b == c) ≡ false)

pub above : (c b : ℕ) (text : List ℕ) → c < b → HasNone c text → HasNone c (b ∷ text)
above c b text h rest = All-cons (λ b. (b == c) ≡ false) b text (other c b h) rest

pub both : (c : ℕ) (xs ys : List ℕ) → HasNone c xs → HasNone c ys → HasNone c (xs ++ ys)
both c xs ys p q = All-append (λ b. (b == c) ≡ false) xs ys p q

digits : (c most : ℕ) → c < 45 → OfDigits (λ b. (b == c) ≡ false) most
digits c most low d h = other c (48 + d) (omega arith)

pub in_number : (c n : ℕ) → c < 45 → n < 2 ^ 64 → HasNone c (text_of_number n)
in_number c n low h = each_of_number (λ b. (b == c) ≡ false) n (digits c 9 low) h

pub in_balance : (c : ℕ) (z : ℤ) → c < 45 → IsStatedBalance z → HasNone c (text_of_signed z)
in_balance c z low is = each_of_signed (λ b. (b == c) ≡ false) z (digits c 9 low) (other c 46 (omega arith)) (other c 45 low) is.low is.high

in_month : (c m : ℕ) → c < 45 → HasNone c (text_of_month m)
in_month c m low = each_of_month (λ b. (b == c) ≡ false) (9 + m) m (digits c (9 + m) low) (other c 45 low) (omega arith) (omega arith)

pub in_day : (c d : ℕ) → c < 45 → HasNone c (text_of_day d)
in_day c d low = each_of_day (λ b. (b == c) ≡ false) (9 + d) d (digits c (9 + d) low) (other c 45 low) (omega arith) (omega arith)

-- ---- words without it

unfoldable pub are_plain : ℕ → List (List ℕ) → Type 0
are_plain c [] = Unit {0}
are_plain c (w ∷ ws) = HasNone c w × are_plain c ws

in_value : (c : ℕ) (k : FieldKind) (v : Value) → c < 45 → IsValueOf k v → HasNone c (text_of_value v)
in_value c kind.Number (value.Number n) low is = in_number c n low (omega arith)
in_value c kind.Amount (value.Cents z) low is = in_balance c z low (amount_is_balance z is)
in_value c kind.Balance (value.Cents z) low is = in_balance c z low is
in_value c kind.Next (value.Next None) low is = above c 45 [] low (none c)
in_value c kind.Next (value.Next (Some m)) low is = in_month c m low
in_value c k v low is = absurd is

-- the words of fields, where it stands in no name
pub in_fields : (c : ℕ) (fs : List (List ℕ × FieldKind)) (vs : List Value) → c < 45 → list_all (λ f. list_all (is_other c) f.0) fs ≡ true → AreValuesOf fs vs → are_plain c (words_of_fields fs vs)
unfolding are_plain
in_fields c [] [] low names h = tt
in_fields c (f ∷ fs) (v ∷ vs) low names h =
    let parts = split _ _ names in
    (plain c f.0 parts.0, (in_value c f.1 v low h.0, in_fields c fs vs low parts.1 h.1))
  where
    split : (a b : Bool) → (a && b) ≡ true → (a ≡ true) × (b ≡ true)
    split true b e = (refl, e)
    split false b e = absurd cc
in_fields c fs vs low names h = absurd h
