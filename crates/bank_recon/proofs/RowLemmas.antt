-- What an account's balance says of rows is what their items say.
use Rattle.std.proofs.Common.{◌≡◌, ℕ, ◌+◌, ◌<◌, length, take, get_or, Bool, true, false, cond, List, [], ◌∷◌, ◌++◌, map, filter, refl, ap, ◌∙◌, arith}
use Rattle.std.specs.Prelude.{ℤ, pos, ◌+ℤ◌, ◌-ℤ◌, fold, Result, OnOk}
use Rattle.std.proofs.lemmas.Result.{on_ok_weaker}
use Rattle.std.specs.List.{flat_map}
use Rattle.std.proofs.lemmas.Int.{ints}
use Rattle.std.proofs.lemmas.List.{take_more, map_push, append_assoc}
use Rattle.svc_base.proofs.SumLemmas.{total_by-append, total_by-push}
use Rattle.custodial_book.specs.declared.part.Account.{Account}
use Rattle.custodial_book.specs.declared.part.Account.TheVariants.{T, P}
use Rattle.custodial_book.specs.declared.part.Party.{Party}
use Rattle.custodial_book.specs.declared.part.Party.TheVariants.{Borrower, Payee, Servicer, Investor, Custodial}
use Rattle.custodial_book.specs.declared.row.Row.{Row}
use Rattle.custodial_book.specs.Parts.{paid_from, paid_to, is_account}
use Rattle.custodial_book.specs.Rows.{cents_of, balance_of}
use Rattle.bank_recon.specs.Items.{item_at, items_of}
use Rattle.bank_recon.specs.declared.item.BankItem.{BankItem}
use Rattle.bank_recon.specs.declared.recon.Reason.{Reason}
use Rattle.bank_recon.specs.Reconciling.{cents_in, sum_in, lines_of}

-- ---- one movement

-- what a movement brings into an account
at_party : (account : Account) (party : Party) (number : ℕ) (cents : ℤ) → sum_in account (item_at party number cents) ≡ cond (is_account account party) cents (pos 0)
at_party T Borrower number cents = refl
at_party T Payee number cents = refl
at_party T Servicer number cents = refl
at_party T Investor number cents = refl
at_party T (Custodial T) number cents = omega (arith, ints)
at_party T (Custodial P) number cents = omega (arith, ints)
at_party P Borrower number cents = refl
at_party P Payee number cents = refl
at_party P Servicer number cents = refl
at_party P Investor number cents = refl
at_party P (Custodial T) number cents = omega (arith, ints)
at_party P (Custodial P) number cents = omega (arith, ints)

-- ---- sums of cents

cents_from : (z : ℤ) (rows : List Row) → fold ◌+ℤ◌ z (map (λ (r : Row). r.cents) rows) ≡ z +ℤ cents_of rows
cents_from z [] = omega (arith, ints)
cents_from z (r ∷ rows) =
    let a = cents_from (z +ℤ r.cents) rows in
    let b = cents_from (pos 0 +ℤ r.cents) rows in
    omega (arith, ints)

cents_if : (b : Bool) (r : Row) (rows : List Row) → cents_of (cond b (r ∷ rows) rows) ≡ cond b r.cents (pos 0) +ℤ cents_of rows
cents_if true r rows = (let a = cents_from (pos 0 +ℤ r.cents) rows in omega (arith, ints))
cents_if false r rows = omega (arith, ints)

negated_if : (b : Bool) (z : ℤ) → cond b (pos 0 -ℤ z) (pos 0) ≡ pos 0 -ℤ cond b z (pos 0)
negated_if true z = refl
negated_if false z = omega (arith, ints)

-- an account's balance over rows is the sum of their items
pub rows_are_items : (account : Account) (rows : List Row) → balance_of account rows ≡ sum_in account (flat_map items_of rows)
unfolding balance_of
rows_are_items account [] = omega (arith, ints)
rows_are_items account (r ∷ rows) =
    let into = cents_if (is_account account (paid_to r.part)) r (filter (λ (x : Row). is_account account (paid_to x.part)) rows) in
    let out = cents_if (is_account account (paid_from r.part)) r (filter (λ (x : Row). is_account account (paid_from x.part)) rows) in
    let rest = rows_are_items account rows in
    let own = total_by-append (cents_in account) (items_of r) (flat_map items_of rows) in
    let both = total_by-append (cents_in account) (item_at (paid_from r.part) r.number (pos 0 -ℤ r.cents)) (item_at (paid_to r.part) r.number r.cents) in
    let a = at_party account (paid_from r.part) r.number (pos 0 -ℤ r.cents) in
    let b = at_party account (paid_to r.part) r.number r.cents in
    let n = negated_if (is_account account (paid_from r.part)) r.cents in
    omega (arith, ints)

-- ---- the items of a row, one after the other

pub row_pushed : {A E : Type 0} (r : Result A E) (row : Row) (old mid new : List BankItem) (f t : Party) (x y : ℤ) → f ≡ paid_from row.part → t ≡ paid_to row.part → x ≡ pos 0 -ℤ row.cents → y ≡ row.cents
    → mid ≡ old ++ item_at f row.number x → OnOk r (new ≡ mid ++ item_at t row.number y) → OnOk r (new ≡ old ++ items_of row)
row_pushed r row old mid new f t x y ef et ex ey m n =
    let one : mid ≡ old ++ item_at (paid_from row.part) row.number (pos 0 -ℤ row.cents) = m ∙ ap (λ p. old ++ item_at p row.number x) ef ∙ ap (λ z. old ++ item_at (paid_from row.part) row.number z) ex in
    on_ok_weaker r (λ e. e ∙ ap (λ p. mid ++ item_at p row.number y) et ∙ ap (λ z. mid ++ item_at (paid_to row.part) row.number z) ey
    ∙ ap (λ l. l ++ item_at (paid_to row.part) row.number row.cents) one
    ∙ append_assoc old (item_at (paid_from row.part) row.number (pos 0 -ℤ row.cents)) (item_at (paid_to row.part) row.number row.cents)) n

-- ---- sums along a list

-- one item more
pub sum_more : (account : Account) (xs : List BankItem) (i : ℕ) (d : BankItem) → i < length xs → sum_in account (take (i + 1) xs) ≡ sum_in account (take i xs) +ℤ cents_in account (get_or xs i d)
sum_more account xs i d h = ap (sum_in account) (take_more xs i d h) ∙ total_by-push (cents_in account) (take i xs) (get_or xs i d)

pub lines_more : (account : Account) (xs : List (BankItem × Reason)) (i : ℕ) (d : BankItem × Reason) → i < length xs → sum_in account (lines_of (take (i + 1) xs)) ≡ sum_in account (lines_of (take i xs)) +ℤ cents_in account (get_or xs i d).0
lines_more account xs i d h =
    ap (λ ys. sum_in account (lines_of ys)) (take_more xs i d h)
    ∙ ap (sum_in account) (map_push (λ (l : BankItem × Reason). l.0) (take i xs) (get_or xs i d))
    ∙ total_by-push (cents_in account) (lines_of (take i xs)) (get_or xs i d).0
