-- Each item is matched or open, each line is matched or not booked, and the sums follow.
use Rattle.std.proofs.Common.{◌≡◌, ℕ, ◌+◌, Bool, true, false, cond, List, [], ◌∷◌, ◌++◌, map, min, refl, sym, ap, subst, arith}
use Rattle.std.specs.Prelude.{ℤ, ◌+ℤ◌, ◌-ℤ◌, nat_lt, if◌then◌else◌}
use Rattle.std.specs.List.Sorted.{IsPermutation}
use Rattle.std.proofs.lemmas.Int.{ints}
use Rattle.std.proofs.lemmas.Bool.Decides.{nat_tests}
use Rattle.std.proofs.lemmas.List.Sorted.{IsPermutation-refl, IsPermutation-sym, IsPermutation-cons, IsPermutation-trans, IsPermutation-middle, IsPermutation-append_left}
use Rattle.svc_base.specs.Sums.{total_by}
use Rattle.custodial_book.specs.declared.part.Account.{Account}
use Rattle.bank_recon.specs.declared.item.BankItem.{BankItem}
use Rattle.bank_recon.specs.Items.{is_same, count_of}
use Rattle.bank_recon.specs.Matching.{has_partner, matched_from, left_from, matched_of, open_of, unbooked_of, with_reason, reasons_of}
use Rattle.bank_recon.specs.Reconciling.{cents_in, sum_in, lines_of}
use Rattle.bank_recon.proofs.KeyLemmas.{same_told}
use Rattle.bank_recon.proofs.CountLemmas.{one_if, count_cons, AreAlike, alike}

-- ---- each item is in one list

once_if : (b : Bool) (x : BankItem) (xs m l : List BankItem) → IsPermutation xs (m ++ l) → IsPermutation (x ∷ xs) ((if b then x ∷ m else m) ++ (if b then l else x ∷ l))
once_if true x xs m l h = IsPermutation-cons x xs (m ++ l) h
once_if false x xs m l h =
    IsPermutation-trans (x ∷ xs) (x ∷ (m ++ l)) (m ++ x ∷ l) (IsPermutation-cons x xs (m ++ l) h)
    (IsPermutation-sym (m ++ x ∷ l) (x ∷ (m ++ l)) (IsPermutation-middle m x l))

pub once : (others before xs : List BankItem) → IsPermutation xs (matched_from others before xs ++ left_from others before xs)
once others before [] = IsPermutation-refl []
once others before (x ∷ xs) = once_if (has_partner others before x) x xs (matched_from others (x ∷ before) xs) (left_from others (x ∷ before) xs) (once others (x ∷ before) xs)

sums_if : (f : BankItem → ℤ) (b : Bool) (x : BankItem) (m l xs : List BankItem) → total_by f xs ≡ total_by f m +ℤ total_by f l → f x +ℤ total_by f xs ≡ total_by f (if b then x ∷ m else m) +ℤ total_by f (if b then l else x ∷ l)
sums_if f true x m l xs h = omega (arith, ints)
sums_if f false x m l xs h = omega (arith, ints)

pub sums_once : (f : BankItem → ℤ) (others before xs : List BankItem) → total_by f xs ≡ total_by f (matched_from others before xs) +ℤ total_by f (left_from others before xs)
sums_once f others before [] = omega (arith, ints)
sums_once f others before (x ∷ xs) = sums_if f (has_partner others before x) x (matched_from others (x ∷ before) xs) (left_from others (x ∷ before) xs) xs (sums_once f others (x ∷ before) xs)

-- ---- as many of each item are matched as items and others have both

kept_here : (t b : Bool) (o c m k : ℕ) → t ≡ nat_lt c o → m + min o (1 + c) ≡ min o (1 + c + k) → cond t (1 + m) m + min o c ≡ min o (c + (1 + k))
kept_here true b o c m k e h = grind (arith, nat_tests)
kept_here false b o c m k e h = grind (arith, nat_tests)

count_if : (t : Bool) (q x : BankItem) (m : List BankItem) → count_of q (if t then x ∷ m else m) ≡ cond t (one_if (is_same q x) + count_of q m) (count_of q m)
count_if true q x m = count_cons q x m
count_if false q x m = refl

if_other : (t : Bool) (n : ℕ) → cond t (0 + n) n ≡ n
if_other true n = omega arith
if_other false n = refl

pub matched_count : (others before xs : List BankItem) (q : BankItem) → count_of q (matched_from others before xs) + min (count_of q others) (count_of q before) ≡ min (count_of q others) (count_of q before + count_of q xs)
matched_count others before [] q = omega arith
matched_count others before (x ∷ xs) q =
    let o = count_of q others in
    let c = count_of q before in
    let m = matched_from others (x ∷ before) xs in
    let t = has_partner others before x in
    let rest = matched_count others (x ∷ before) xs q in
    let made = count_if t q x m in
    let later = count_cons q x before in
    let all = count_cons q x xs in
    elim (is_same q x) as (λ b. is_same q x ≡ b → count_of q (if t then x ∷ m else m) + min o c ≡ min o (c + count_of q (x ∷ xs))) [
      | true ↦ λ e.
          let same : q ≡ x = same_told q x e in
          let tested : t ≡ nat_lt c o = ap (λ y. nat_lt (count_of y before) (count_of y others)) (sym same) in
          let one : one_if (is_same q x) ≡ 1 = ap one_if e in
          let r : count_of q m + min o (1 + c) ≡ min o (1 + c + count_of q xs) = (rw (later, one) at rest) in
          rw (made, all, one) (kept_here t true o c (count_of q m) (count_of q xs) tested r)
      | false ↦ λ e.
          let none : one_if (is_same q x) ≡ 0 = ap one_if e in
          let r : count_of q m + min o (0 + c) ≡ min o (0 + c + count_of q xs) = (rw (later, none) at rest) in
          let plain : cond t (0 + count_of q m) (count_of q m) ≡ count_of q m = if_other t (count_of q m) in
          rw (made, all, none) (omega arith)
    ] refl

-- those of one list and those of the other are alike
pub pairs_alike : (items bank : List BankItem) → AreAlike (matched_from items [] bank) (matched_from bank [] items)
pairs_alike items bank = alike (matched_from items [] bank) (matched_from bank [] items) (λ q.
    let a = matched_count items [] bank q in
    let b = matched_count bank [] items q in
    omega arith)

-- ---- what follows

pub lines_are : (items open_items lines : List BankItem) → lines_of (map (with_reason items open_items) lines) ≡ lines
lines_are items open_items [] = refl
lines_are items open_items (x ∷ xs) = ap (λ l. x ∷ l) (lines_are items open_items xs)

pub bank_once : (items bank : List BankItem) → IsPermutation bank (matched_of items bank ++ lines_of (reasons_of items bank))
bank_once items bank =
    let own = matched_from items [] bank in
    let pairs = matched_from bank [] items in
    let left = left_from items [] bank in
    subst (λ ls. IsPermutation bank (pairs ++ ls)) (sym (lines_are items (open_of items bank) left))
    (IsPermutation-trans bank (own ++ left) (pairs ++ left) (once items [] bank) (IsPermutation-append_left left own pairs (pairs_alike items bank).moved))

pub sums_agree : (account : Account) (items bank : List BankItem) → sum_in account items ≡ sum_in account bank +ℤ sum_in account (open_of items bank) -ℤ sum_in account (unbooked_of items bank)
sums_agree account items bank =
    let f = cents_in account in
    let a = sums_once f bank [] items in
    let b = sums_once f items [] bank in
    let c = (pairs_alike items bank).sums f in
    omega (arith, ints)
