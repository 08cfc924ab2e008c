-- Items with and without a partner, one item after another, as a loop finds them.
use Rattle.std.proofs.Common.{◌≡◌, ℕ, ◌+◌, ◌-◌, ◌<◌, Bool, true, false, List, [], ◌∷◌, ◌++◌, length, get_or, take, sym, ap, ◌∙◌, arith}
use Rattle.std.specs.Prelude.{nat_lt, if◌then◌else◌}
use Rattle.std.proofs.lemmas.Bool.Decides.{nat_tests}
use Rattle.std.proofs.lemmas.List.{take_more, append-nil}
use Rattle.bank_recon.specs.declared.item.BankItem.{BankItem}
use Rattle.bank_recon.specs.Items.{is_same, count_of}
use Rattle.bank_recon.specs.Matching.{has_partner, matched_from, left_from}
use Rattle.bank_recon.proofs.CountLemmas.{one_if, count_cons, count_more}

-- an item behind others has a partner where the others have more than stand before it
abbrev pub has_one : List BankItem → List BankItem → List BankItem → BankItem → Bool
has_one others before xs x = nat_lt (count_of x before + count_of x xs) (count_of x others)

has_none : (others before : List BankItem) (x : BankItem) → has_partner others before x ≡ has_one others before [] x
has_none others before x = ap (λ n. nat_lt n (count_of x others)) (let e : count_of x before ≡ count_of x before + 0 = omega arith in e)

has_next : (others before xs : List BankItem) (y x : BankItem) → has_one others (y ∷ before) xs x ≡ has_one others before (y ∷ xs) x
has_next others before xs y x =
    ap (λ n. nat_lt n (count_of x others)) (let a = count_cons x y before in let b = count_cons x y xs in let e : count_of x (y ∷ before) + count_of x xs ≡ count_of x before + count_of x (y ∷ xs) = omega arith in e)

kept_cons : (b : Bool) (y : BankItem) (ys xs zs : List BankItem) → xs ≡ ys ++ zs → (if b then y ∷ xs else xs) ≡ (if b then y ∷ ys else ys) ++ zs
kept_cons true y ys xs zs e = ap (λ l. y ∷ l) e
kept_cons false y ys xs zs e = e

-- one item more
pub matched_push : (others before xs : List BankItem) (x : BankItem) → matched_from others before (xs ++ x ∷ []) ≡ matched_from others before xs ++ (if has_one others before xs x then x ∷ [] else [])
matched_push others before [] x = ap (λ b. if b then x ∷ [] else []) (has_none others before x)
matched_push others before (y ∷ xs) x =
    let rest : matched_from others (y ∷ before) (xs ++ x ∷ []) ≡ matched_from others (y ∷ before) xs ++ (if has_one others before (y ∷ xs) x then x ∷ [] else []) =
    matched_push others (y ∷ before) xs x ∙ ap (λ b. matched_from others (y ∷ before) xs ++ (if b then x ∷ [] else [])) (has_next others before xs y x) in
    kept_cons (has_partner others before y) y (matched_from others (y ∷ before) xs) (matched_from others (y ∷ before) (xs ++ x ∷ [])) (if has_one others before (y ∷ xs) x then x ∷ [] else []) rest

left_cons : (b : Bool) (y : BankItem) (ys xs zs : List BankItem) → xs ≡ ys ++ zs → (if b then xs else y ∷ xs) ≡ (if b then ys else y ∷ ys) ++ zs
left_cons true y ys xs zs e = e
left_cons false y ys xs zs e = ap (λ l. y ∷ l) e

pub left_push : (others before xs : List BankItem) (x : BankItem) → left_from others before (xs ++ x ∷ []) ≡ left_from others before xs ++ (if has_one others before xs x then [] else x ∷ [])
left_push others before [] x = ap (λ b. if b then [] else x ∷ []) (has_none others before x)
left_push others before (y ∷ xs) x =
    let rest : left_from others (y ∷ before) (xs ++ x ∷ []) ≡ left_from others (y ∷ before) xs ++ (if has_one others before (y ∷ xs) x then [] else x ∷ []) =
    left_push others (y ∷ before) xs x ∙ ap (λ b. left_from others (y ∷ before) xs ++ (if b then [] else x ∷ [])) (has_next others before xs y x) in
    left_cons (has_partner others before y) y (left_from others (y ∷ before) xs) (left_from others (y ∷ before) (xs ++ x ∷ [])) (if has_one others before (y ∷ xs) x then [] else x ∷ []) rest

-- ---- as a loop comes to an item

-- what is left in the counts tells whether it has a partner
pub partner_told : (others xs : List BankItem) (x : BankItem) (n : ℕ) → n ≡ count_of x others - count_of x xs → nat_lt 0 n ≡ has_one others [] xs x
partner_told others xs x n e = grind (arith, nat_tests)

matched_step : (others xs : List BankItem) (i : ℕ) (x : BankItem) → i < length xs → x ≡ get_or xs i x → matched_from others [] (take (i + 1) xs) ≡ matched_from others [] (take i xs) ++ (if has_one others [] (take i xs) x then x ∷ [] else [])
matched_step others xs i x lt is =
    ap (matched_from others []) (take_more xs i x lt ∙ ap (λ y. take i xs ++ y ∷ []) (sym is)) ∙ matched_push others [] (take i xs) x

left_step : (others xs : List BankItem) (i : ℕ) (x : BankItem) → i < length xs → x ≡ get_or xs i x → left_from others [] (take (i + 1) xs) ≡ left_from others [] (take i xs) ++ (if has_one others [] (take i xs) x then [] else x ∷ [])
left_step others xs i x lt is =
    ap (left_from others []) (take_more xs i x lt ∙ ap (λ y. take i xs ++ y ∷ []) (sym is)) ∙ left_push others [] (take i xs) x

-- an item with a partner goes to the matched ones
pub matched_yes : (others xs : List BankItem) (i : ℕ) (x : BankItem) (n : ℕ) → i < length xs → x ≡ get_or xs i x → n ≡ count_of x others - count_of x (take i xs) → nat_lt 0 n ≡ true
    → (matched_from others [] (take (i + 1) xs) ≡ matched_from others [] (take i xs) ++ x ∷ []) × (left_from others [] (take (i + 1) xs) ≡ left_from others [] (take i xs))
matched_yes others xs i x n lt is e t =
    let has : has_one others [] (take i xs) x ≡ true = sym (partner_told others (take i xs) x n e) ∙ t in (
      matched_step others xs i x lt is ∙ ap (λ b. matched_from others [] (take i xs) ++ (if b then x ∷ [] else [])) has,
      left_step others xs i x lt is ∙ ap (λ b. left_from others [] (take i xs) ++ (if b then [] else x ∷ [])) has ∙ simp append-nil,
    )

-- and any other is left
pub matched_no : (others xs : List BankItem) (i : ℕ) (x : BankItem) (n : ℕ) → i < length xs → x ≡ get_or xs i x → n ≡ count_of x others - count_of x (take i xs) → nat_lt 0 n ≡ false
    → (matched_from others [] (take (i + 1) xs) ≡ matched_from others [] (take i xs)) × (left_from others [] (take (i + 1) xs) ≡ left_from others [] (take i xs) ++ x ∷ [])
matched_no others xs i x n lt is e t =
    let has : has_one others [] (take i xs) x ≡ false = sym (partner_told others (take i xs) x n e) ∙ t in (
      matched_step others xs i x lt is ∙ ap (λ b. matched_from others [] (take i xs) ++ (if b then x ∷ [] else [])) has ∙ simp append-nil,
      left_step others xs i x lt is ∙ ap (λ b. left_from others [] (take i xs) ++ (if b then [] else x ∷ [])) has,
    )

-- what is left in the counts after it
pub counts_more : (others xs : List BankItem) (i : ℕ) (x q : BankItem) (n m : ℕ) → i < length xs → x ≡ get_or xs i x → n ≡ count_of q others - count_of q (take i xs) → m ≡ (if is_same q x then n - 1 else n) → m ≡ count_of q others - count_of q (take (i + 1) xs)
counts_more others xs i x q n m lt is e f =
    let more = count_more q xs i x lt is in
    elim (is_same q x) as (λ b. count_of q (take (i + 1) xs) ≡ count_of q (take i xs) + one_if b → m ≡ (if b then n - 1 else n) → m ≡ count_of q others - count_of q (take (i + 1) xs)) [
      | true ↦ λ g h. omega arith
      | false ↦ λ g h. omega arith
    ] more f
