-- How many there are of an item, along a list; lists that have as many of each hold the same items.
use Rattle.std.proofs.Common.{◌≡◌, ℕ, ◌+◌, ◌<◌, ◌≤◌, Bool, true, false, cond, List, [], ◌∷◌, ◌++◌, length, get_or, take, refl, sym, ap, subst, ◌∙◌, arith}
use Rattle.std.specs.Prelude.{ℤ, ◌+ℤ◌, if◌then◌else◌}
use Rattle.std.specs.List.Sorted.{IsPermutation}
use Rattle.std.proofs.lemmas.List.{take_more}
use Rattle.std.proofs.lemmas.List.Sums.{sum_by-cons, sum_by-append, sum_by_push, count_by-le-length}
use Rattle.std.proofs.lemmas.List.Sorted.{IsPermutation-refl, IsPermutation-sym, IsPermutation-cons, IsPermutation-trans, IsPermutation-middle}
use Rattle.svc_base.specs.Sums.{total_by}
use Rattle.svc_base.proofs.SumLemmas.{total_by-insert}
use Rattle.bank_recon.specs.declared.item.BankItem.{BankItem}
use Rattle.bank_recon.specs.Items.{is_same, count_of}
use Rattle.bank_recon.proofs.KeyLemmas.{same_told, same_itself}

-- whether an item is another, as a number
abbrev pub one_if : Bool → ℕ
one_if b = cond b 1 0

pub count_cons : (x y : BankItem) (ys : List BankItem) → count_of x (y ∷ ys) ≡ one_if (is_same x y) + count_of x ys
count_cons x y ys = sum_by-cons (λ z. one_if (is_same x z)) y ys

pub count_append : (x : BankItem) (ys zs : List BankItem) → count_of x (ys ++ zs) ≡ count_of x ys + count_of x zs
count_append x ys zs = sum_by-append (λ z. one_if (is_same x z)) ys zs

pub count_push : (x : BankItem) (ys : List BankItem) (y : BankItem) → count_of x (ys ++ y ∷ []) ≡ count_of x ys + one_if (is_same x y)
count_push x ys y = sum_by_push (λ z. one_if (is_same x z)) ys y

pub count_few : (x : BankItem) (ys : List BankItem) → count_of x ys ≤ length ys
count_few x ys = count_by-le-length (is_same x) ys

pub count_itself : (x : BankItem) (ys : List BankItem) → count_of x (x ∷ ys) ≡ 1 + count_of x ys
count_itself x ys = count_cons x x ys ∙ ap (λ b. one_if b + count_of x ys) (same_itself x)

-- one more item of a list, as a loop comes to it
pub count_more : (q : BankItem) (xs : List BankItem) (i : ℕ) (x : BankItem) → i < length xs → x ≡ get_or xs i x → count_of q (take (i + 1) xs) ≡ count_of q (take i xs) + one_if (is_same q x)
count_more q xs i x lt is =
    ap (count_of q) (take_more xs i x lt) ∙ count_push q (take i xs) (get_or xs i x)
    ∙ ap (λ y. count_of q (take i xs) + one_if (is_same q y)) (sym is)

-- what is in the counts after it
pub added_more : (xs : List BankItem) (i : ℕ) (x q : BankItem) (n m : ℕ) → i < length xs → x ≡ get_or xs i x → n ≡ count_of q (take i xs) → m ≡ (if is_same q x then n + 1 else n) → m ≡ count_of q (take (i + 1) xs)
added_more xs i x q n m lt is e f =
    let more = count_more q xs i x lt is in
    elim (is_same q x) as (λ b. count_of q (take (i + 1) xs) ≡ count_of q (take i xs) + one_if b → m ≡ (if b then n + 1 else n) → m ≡ count_of q (take (i + 1) xs)) [
      | true ↦ λ g h. omega arith
      | false ↦ λ g h. omega arith
    ] more f

-- ---- where there is one of an item

record Parts (x : BankItem) (ys : List BankItem) : Type 0 where
  before : List BankItem
  after : List BankItem
  is : ys ≡ before ++ x ∷ after

part_at : (x : BankItem) (ys : List BankItem) → 0 < count_of x ys → Parts x ys
part_at x [] h = absurd (omega arith)
part_at x (y ∷ ys) h =
    elim (is_same x y) as (λ b. is_same x y ≡ b → Parts x (y ∷ ys)) [
      | true ↦ λ e. let same : x ≡ y = same_told x y e in record { before = []; after = ys; is = ap (λ z. z ∷ ys) (sym same) }
      | false ↦ λ e.
          let count : count_of x (y ∷ ys) ≡ count_of x ys = count_cons x y ys ∙ ap (λ b. one_if b + count_of x ys) e ∙ omega arith in
          let rest = part_at x ys (omega arith) in
          record { before = y ∷ rest.before; after = rest.after; is = ap (λ zs. y ∷ zs) rest.is }
    ] refl

-- ---- lists with as many of each item

none_left : (ys : List BankItem) → ((q : BankItem) → 0 ≡ count_of q ys) → ys ≡ []
none_left [] h = refl
none_left (y ∷ ys) h = absurd (let e = h y in let f = count_itself y ys in omega arith)

-- they hold the same items
pub record AreAlike (xs ys : List BankItem) : Type 0 where
  pub moved : IsPermutation xs ys
  pub sums : (f : BankItem → ℤ) → total_by f xs ≡ total_by f ys

count_middle : (q x : BankItem) (a b : List BankItem) → count_of q (a ++ x ∷ b) ≡ one_if (is_same q x) + count_of q (a ++ b)
count_middle q x a b =
    let one = count_append q a (x ∷ b) in
    let two = count_cons q x b in
    let all = count_append q a b in
    omega arith

pub alike : (xs ys : List BankItem) → ((q : BankItem) → count_of q xs ≡ count_of q ys) → AreAlike xs ys
alike [] ys h =
    let none : ys ≡ [] = none_left ys h in
    subst (λ zs. AreAlike [] zs) (sym none) (record { moved = IsPermutation-refl []; sums = λ f. refl })
alike (x ∷ xs) ys h =
    let one : 0 < count_of x ys = (let e = h x in let f = count_itself x xs in omega arith) in
    let p = part_at x ys one in
    let rest = alike xs (p.before ++ p.after) (λ q.
    let e = h q in
    let a = count_cons q x xs in
    let b = ap (count_of q) p.is in
    let c = count_middle q x p.before p.after in
    omega arith) in
    subst (λ zs. AreAlike (x ∷ xs) zs) (sym p.is)
    (record {
      moved = IsPermutation-trans (x ∷ xs) (x ∷ (p.before ++ p.after)) (p.before ++ x ∷ p.after)
          (IsPermutation-cons x xs (p.before ++ p.after) rest.moved)
          (IsPermutation-sym (p.before ++ x ∷ p.after) (x ∷ (p.before ++ p.after)) (IsPermutation-middle p.before x p.after));
      sums = λ f. ap (λ z. f x +ℤ z) (rest.sums f) ∙ sym (total_by-insert f p.before p.after x);
    })
