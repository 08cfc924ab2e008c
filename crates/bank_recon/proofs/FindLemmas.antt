-- What is noted for a line, item by item.
use Rattle.std.proofs.Common.{◌≡◌, ℕ, ◌+◌, ◌<◌, Bool, true, false, cond, List, [], ◌∷◌, ◌++◌, length, get_or, take, refl, sym, ap, ◌∙◌}
use Rattle.std.specs.Prelude.{Option, Some, None, ◌||◌, if◌then◌else◌, IsSome}
use Rattle.std.specs.List.{find, list_any}
use Rattle.std.specs.Option.{option_map, option_or}
use Rattle.std.proofs.lemmas.Bool.{false≢true}
use Rattle.std.proofs.lemmas.List.{take_more}
use Rattle.std.proofs.lemmas.List.Folds.{find-append, list_any-append}
use Rattle.bank_recon.specs.declared.item.BankItem.{BankItem}
use Rattle.bank_recon.specs.declared.recon.Reason.{Reason}
use Rattle.bank_recon.specs.declared.recon.Reason.TheVariants.{Extra, Amount}
use Rattle.bank_recon.specs.Items.{is_near}
use Rattle.bank_recon.specs.Matching.{has_partner, left_from}
use Rattle.bank_recon.specs.Finding.{noted, first_amount, or_extra}

-- ---- one open item more

amount_or : (o : Option BankItem) (b : Bool) (x : BankItem) → (if b then option_or (option_map (λ (y : BankItem). Amount y.cents) o) (Some (Amount x.cents)) else option_map (λ (y : BankItem). Amount y.cents) o) ≡ option_map (λ (y : BankItem). Amount y.cents) (option_or o (cond b (Some x) None))
amount_or None true x = refl
amount_or None false x = refl
amount_or (Some y) true x = refl
amount_or (Some y) false x = refl

pub amounts_more : (xs : List BankItem) (i : ℕ) (x line : BankItem) (before : Option Reason) → i < length xs → x ≡ get_or xs i x → before ≡ first_amount (take i xs) line → noted x (Amount x.cents) before line ≡ first_amount (take (i + 1) xs) line
amounts_more xs i x line before lt is e =
    let o = find (is_near line) (take i xs) in
    let more : find (is_near line) (take (i + 1) xs) ≡ option_or o (cond (is_near line x) (Some x) None) =
    ap (find (is_near line)) (take_more xs i x lt ∙ ap (λ y. take i xs ++ y ∷ []) (sym is)) ∙ find-append (is_near line) (take i xs) (x ∷ []) in
    ap (λ b. noted x (Amount x.cents) b line) e ∙ amount_or o (is_near line x) x ∙ ap (option_map (λ (y : BankItem). Amount y.cents)) (sym more)

-- ---- one item more

extra_or : (o : Option Reason) (a b : Bool) → (if b then option_or (option_or o (if a then Some Extra else None)) (Some Extra) else option_or o (if a then Some Extra else None)) ≡ option_or o (if a || b then Some Extra else None)
extra_or (Some r) true true = refl
extra_or (Some r) true false = refl
extra_or (Some r) false true = refl
extra_or (Some r) false false = refl
extra_or None true true = refl
extra_or None true false = refl
extra_or None false true = refl
extra_or None false false = refl

or_false : (a b : Bool) → (a || (b || false)) ≡ (a || b)
or_false true b = refl
or_false false true = refl
or_false false false = refl

pub extra_more : (xs : List BankItem) (i : ℕ) (x line : BankItem) (old before : Option Reason) → i < length xs → x ≡ get_or xs i x → before ≡ or_extra (take i xs) old line → noted x Extra before line ≡ or_extra (take (i + 1) xs) old line
extra_more xs i x line old before lt is e =
    let a = list_any (is_near line) (take i xs) in
    let more : list_any (is_near line) (take (i + 1) xs) ≡ (a || is_near line x) =
    ap (list_any (is_near line)) (take_more xs i x lt ∙ ap (λ y. take i xs ++ y ∷ []) (sym is)) ∙ list_any-append (is_near line) (take i xs) (x ∷ []) ∙ or_false a (is_near line x) in
    ap (λ b. noted x Extra b line) e ∙ extra_or old a (is_near line x) ∙ ap (λ b. option_or old (if b then Some Extra else None)) (sym more)

-- ---- the reason of a line

-- ---- an open item is an item

find_if : (p : BankItem → Bool) (b : Bool) (x : BankItem) (xs l : List BankItem) → (IsSome (find p l) → list_any p xs ≡ true) → IsSome (find p (if b then l else x ∷ l)) → (p x || list_any p xs) ≡ true
find_if p true x xs l h s = ap (λ b. p x || b) (h s) ∙ elim (p x) as (λ b. (b || true) ≡ true) [ true ↦ refl | false ↦ refl ]
find_if p false x xs l h s = elim (p x) as (λ b. IsSome (cond b (Some x) (find p l)) → (b || list_any p xs) ≡ true) [ true ↦ λ t. refl | false ↦ λ t. h t ] s

pub left_is_near : (p : BankItem → Bool) (others before xs : List BankItem) → IsSome (find p (left_from others before xs)) → list_any p xs ≡ true
left_is_near p others before [] s = absurd (false≢true s)
left_is_near p others before (x ∷ xs) s = find_if p (has_partner others before x) x xs (left_from others (x ∷ before) xs) (left_is_near p others (x ∷ before) xs) s
