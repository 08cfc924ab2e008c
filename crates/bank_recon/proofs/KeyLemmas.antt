-- Two items have one key exactly where they are the same, and one place where account and number are.
use Rattle.std.proofs.Common.{◌≡◌, ℕ, Bool, true, false, refl, sym, ap, ◌∙◌, arith}
use Rattle.std.specs.Prelude.{ℤ, ◌==◌, ◌&&◌, if◌then◌else◌, cond, Option, Some, None, unwrap_or, is_some}
use Rattle.std.specs.Option.{option_or}
use Rattle.std.specs.Map.{count_at}
use Rattle.std.specs.declared.cmp.Ordering.{Ordering}
use Rattle.std.specs.declared.cmp.Ordering.TheVariants.{Less, Equal, Greater}
use Rattle.std.specs.Ordering.{is_eq, nat_cmp, int_cmp, int_eq, bool_cmp, ordering_then}
use Rattle.std.proofs.lemmas.Bool.{false≢true}
use Rattle.std.proofs.lemmas.Bool.Decides.{nat_tests, Decides-eqb, Decides-int_eq}
use Rattle.custodial_book.specs.declared.part.Account.{Account}
use Rattle.custodial_book.specs.declared.part.Account.TheVariants.{T, P}
use Rattle.bank_recon.specs.declared.item.BankItem.{BankItem}
use Rattle.bank_recon.specs.declared.recon.Reason.{Reason}
use Rattle.bank_recon.specs.declared.key.ItemKey.{ItemKey}
use Rattle.bank_recon.specs.declared.key.PlaceKey.{PlaceKey}
use Rattle.bank_recon.specs.Items.{is_same_account, is_near, is_same}
use Rattle.bank_recon.specs.Finding.{noted}
use Rattle.bank_recon.specs.Keys.{is_t, place_of, place_cmp, key_of, key_cmp}

-- ---- orders of pairs

then_eq : (o p : Ordering) → is_eq (ordering_then o p) ≡ (is_eq o && is_eq p)
then_eq Less p = refl
then_eq Equal p = refl
then_eq Greater p = refl

nat_eq_is : (m n : ℕ) → is_eq (nat_cmp m n) ≡ (n == m)
nat_eq_is m n = grind (arith, nat_tests)

int_eq_flips : (y z : ℤ) → int_eq y z ≡ int_eq z y
int_eq_flips y z =
    elim (int_eq y z) as (λ b. int_eq y z ≡ b → b ≡ int_eq z y) [
      | true ↦ λ e. sym ((Decides-int_eq z y).1 (sym ((Decides-int_eq y z).0 e)))
      | false ↦ λ e. elim (int_eq z y) as (λ b. int_eq z y ≡ b → false ≡ b) [
        | true ↦ λ f. sym e ∙ (Decides-int_eq y z).1 (sym ((Decides-int_eq z y).0 f))
        | false ↦ λ f. refl
      ] refl
    ] refl

account_is : (a b : Account) → is_eq (bool_cmp (is_t a) (is_t b)) ≡ is_same_account b a
account_is T T = refl
account_is T P = refl
account_is P T = refl
account_is P P = refl

-- the order of places tells which items are near, and that of keys which are the same
pub place_is : (x y : BankItem) → is_eq (place_cmp (place_of x) (place_of y)) ≡ is_near y x
place_is x y =
    then_eq (bool_cmp (is_t x.account) (is_t y.account)) (nat_cmp x.number y.number)
    ∙ ap (λ b. b && is_eq (nat_cmp x.number y.number)) (account_is x.account y.account)
    ∙ ap (λ b. is_same_account y.account x.account && b) (nat_eq_is x.number y.number)

and_assoc : (a b c : Bool) → (a && (b && c)) ≡ ((a && b) && c)
and_assoc true b c = refl
and_assoc false b c = refl

pub key_is : (x y : BankItem) → is_eq (key_cmp (key_of x) (key_of y)) ≡ is_same y x
key_is x y =
    let n = nat_cmp x.number y.number in
    let c = int_cmp x.cents y.cents in
    then_eq (bool_cmp (is_t x.account) (is_t y.account)) (ordering_then n c)
    ∙ ap (λ b. b && is_eq (ordering_then n c)) (account_is x.account y.account)
    ∙ ap (λ b. is_same_account y.account x.account && b) (then_eq n c ∙ ap (λ b. b && is_eq c) (nat_eq_is x.number y.number) ∙ ap (λ b. (y.number == x.number) && b) (int_eq_flips x.cents y.cents))
    ∙ and_assoc (is_same_account y.account x.account) (y.number == x.number) (int_eq y.cents x.cents)

-- ---- the tests of items

both_true : (a b : Bool) → (a && b) ≡ true → (a ≡ true) × (b ≡ true)
both_true true b e = (refl, e)
both_true false b e = absurd (false≢true e)

account_told : (a b : Account) → is_same_account a b ≡ true → a ≡ b
account_told T T e = refl
account_told T P e = absurd (false≢true e)
account_told P T e = absurd (false≢true e)
account_told P P e = refl

account_itself : (a : Account) → is_same_account a a ≡ true
account_itself T = refl
account_itself P = refl

pub near_told : (x y : BankItem) → is_near x y ≡ true → (x.account ≡ y.account) × (x.number ≡ y.number)
near_told x y e =
    let b = both_true (is_same_account x.account y.account) (x.number == y.number) e in
    (account_told x.account y.account b.0, (Decides-eqb x.number y.number).0 b.1)

pub same_told : (x y : BankItem) → is_same x y ≡ true → x ≡ y
same_told x y e =
    let b = both_true (is_near x y) (int_eq x.cents y.cents) e in
    let n = near_told x y b.0 in
    let c : x.cents ≡ y.cents = (Decides-int_eq x.cents y.cents).0 b.1 in
    rw (n.0, n.1, c) refl

pub place_same : (x y : BankItem) → is_near y x ≡ true → place_of x ≡ place_of y
place_same x y e = (let n = near_told y x e in rw (n.0, n.1) refl)

pub near_itself : (x : BankItem) → is_near x x ≡ true
near_itself x = rw (account_itself x.account, (Decides-eqb x.number x.number).1 refl) refl

pub same_itself : (x : BankItem) → is_same x x ≡ true
same_itself x = rw (near_itself x, (Decides-int_eq x.cents x.cents).1 refl) refl

-- ---- what maps hold after a change under an item's key

-- a count becomes another function of what it was
pub counted_after : (f g : ItemKey → Option ℕ) (x q : BankItem) (k : ItemKey) (v w : ℕ) (step : ℕ → ℕ) → k ≡ key_of x → v ≡ unwrap_or (f k) 0 → w ≡ step v → ((j : ItemKey) → g j ≡ cond (is_eq (key_cmp k j)) (Some w) (f j)) → count_at g (key_of q) ≡ (if is_same q x then step (count_at f (key_of q)) else count_at f (key_of q))
counted_after f g x q k v w step is had made h =
    let one : g (key_of q) ≡ cond (is_same q x) (Some w) (f (key_of q)) =
    h (key_of q) ∙ ap (λ (j : ItemKey). cond (is_eq (key_cmp j (key_of q))) (Some w) (f (key_of q))) is ∙ ap (λ b. cond b (Some w) (f (key_of q))) (key_is x q) in
    ap (λ o. unwrap_or o 0) one
    ∙ elim (is_same q x) as (λ b. is_same q x ≡ b → unwrap_or (cond b (Some w) (f (key_of q))) 0 ≡ (if b then step (count_at f (key_of q)) else count_at f (key_of q))) [
      | true ↦ λ e. made ∙ ap step (had ∙ ap (λ (j : ItemKey). unwrap_or (f j) 0) (is ∙ ap key_of (sym (same_told q x e))))
      | false ↦ λ e. refl
    ] refl

none_or : (o : Option Reason) (r : Reason) → is_some o ≡ false → Some r ≡ option_or o (Some r)
none_or None r e = refl
none_or (Some x) r e = absurd (false≢true (sym e))

some_or : (o : Option Reason) (r : Reason) → is_some o ≡ true → o ≡ option_or o (Some r)
some_or None r e = absurd (false≢true e)
some_or (Some x) r e = refl

-- a note, where nothing was noted
pub noted_after : (f g : PlaceKey → Option Reason) (x line : BankItem) (r : Reason) (k : PlaceKey) → k ≡ place_of x → is_some (f k) ≡ false → ((j : PlaceKey) → g j ≡ cond (is_eq (place_cmp k j)) (Some r) (f j)) → g (place_of line) ≡ noted x r (f (place_of line)) line
noted_after f g x line r k is none h =
    let one : g (place_of line) ≡ cond (is_near line x) (Some r) (f (place_of line)) =
    h (place_of line) ∙ ap (λ (j : PlaceKey). cond (is_eq (place_cmp j (place_of line))) (Some r) (f (place_of line))) is ∙ ap (λ b. cond b (Some r) (f (place_of line))) (place_is x line) in
    one ∙ elim (is_near line x) as (λ b. is_near line x ≡ b → cond b (Some r) (f (place_of line)) ≡ (if b then option_or (f (place_of line)) (Some r) else f (place_of line))) [
      | true ↦ λ e. none_or (f (place_of line)) r (ap (λ (j : PlaceKey). is_some (f j)) (sym (is ∙ place_same x line e)) ∙ none)
      | false ↦ λ e. refl
    ] refl

-- where something was noted already, that stays
pub noted_before : (f : PlaceKey → Option Reason) (x line : BankItem) (r : Reason) (k : PlaceKey) → k ≡ place_of x → is_some (f k) ≡ true → f (place_of line) ≡ noted x r (f (place_of line)) line
noted_before f x line r k is some =
    elim (is_near line x) as (λ b. is_near line x ≡ b → f (place_of line) ≡ (if b then option_or (f (place_of line)) (Some r) else f (place_of line))) [
      | true ↦ λ e. some_or (f (place_of line)) r (ap (λ (j : PlaceKey). is_some (f j)) (sym (is ∙ place_same x line e)) ∙ some)
      | false ↦ λ e. refl
    ] refl
