-- What the rows of a command do to a balance: they bring into an account what its cash of the loan
-- changed by.
use Rattle.std.proofs.Common.{◌≡◌, ℕ, Bool, true, false, cond, ℤ, pos, ◌+ℤ◌, ◌-ℤ◌, List, [], ◌∷◌, ◌++◌, Some, None, arith, refl, ap, sym, ◌∙◌, append-nil}
use Rattle.std.proofs.lemmas.Int.{ints}
use Rattle.std.proofs.lemmas.List.{append_assoc}
use Rattle.std.proofs.lemmas.Bool.Decides.{Decides-int_eq}
use Rattle.std.specs.List.{filter_map, cons_option}
use Rattle.std.specs.Ordering.{int_eq}
use Rattle.custodial_book.specs.declared.part.Account.{Account}
use Rattle.custodial_book.specs.declared.part.Account.TheVariants.{T, P}
use Rattle.custodial_book.specs.declared.part.Part.{Part}
use Rattle.custodial_book.specs.declared.row.Row.{Row}
use Rattle.custodial_book.specs.declared.row.Totals.{Totals}
use Rattle.custodial_book.specs.Parts.{parts, paid_from, paid_to, is_account}
use Rattle.custodial_book.specs.Rows.{total_of, row_of, rows_of, balance_of, moved, cash_of, balance_with}
use Rattle.custodial_book.proofs.RowLemmas.{balance_push}

-- what the changes of some parts bring into an account
abbrev flow : Account → Totals → Totals → List Part → ℤ
flow account before after [] = pos 0
flow account before after (part ∷ ps) = moved account part (total_of after part -ℤ total_of before part) +ℤ flow account before after ps

nothing : (x y : Bool) → cond x (pos 0) (pos 0) -ℤ cond y (pos 0) (pos 0) ≡ pos 0
nothing true true = refl
nothing true false = refl
nothing false true = refl
nothing false false = refl

moved_nothing : (account : Account) (part : Part) (cents : ℤ) → cents ≡ pos 0 → moved account part cents ≡ pos 0
unfolding moved
moved_nothing account part cents e =
    ap (λ z. cond (is_account account (paid_to part)) z (pos 0) -ℤ cond (is_account account (paid_from part)) z (pos 0)) e ∙ nothing (is_account account (paid_to part)) (is_account account (paid_from part))

-- a balance with rows that may begin with one row more
one_more : (account : Account) (rows rest : List Row) (row : Row) (b : Bool) (f m : ℤ) → ((rs : List Row) → balance_of account (rs ++ rest) ≡ balance_of account rs +ℤ f) → (b ≡ true → m ≡ pos 0) → moved account row.part row.cents ≡ m → balance_of account (rows ++ cons_option (cond b None (Some row)) rest) ≡ balance_of account rows +ℤ (m +ℤ f)
one_more account rows rest row true f m others zero is =
    let e = others rows in
    let none = zero refl in
    omega (arith, ints)
one_more account rows rest row false f m others zero is =
    let assoc : balance_of account (rows ++ (row ∷ rest)) ≡ balance_of account ((rows ++ row ∷ []) ++ rest) = ap (balance_of account) (sym (append_assoc rows (row ∷ []) rest)) in
    let e = others (rows ++ row ∷ []) in
    let push = balance_push account rows row in
    omega (arith, ints)

flow_adds : (account : Account) (number loan : ℕ) (before after : Totals) (ps : List Part) (rows : List Row) → balance_of account (rows ++ filter_map (row_of number loan before after) ps) ≡ balance_of account rows +ℤ flow account before after ps
unfolding row_of
flow_adds account number loan before after [] rows =
    let e : balance_of account (rows ++ []) ≡ balance_of account rows = ap (balance_of account) (append-nil rows) in
    omega (arith, ints)
flow_adds account number loan before after (part ∷ ps) rows =
    one_more account rows (filter_map (row_of number loan before after) ps) (record { number = number; loan = loan; part = part; cents = total_of after part -ℤ total_of before part }) (int_eq (total_of after part -ℤ total_of before part) (pos 0)) (flow account before after ps) (moved account part (total_of after part -ℤ total_of before part)) (λ rs. flow_adds account number loan before after ps rs) (λ e. moved_nothing account part (total_of after part -ℤ total_of before part) ((Decides-int_eq (total_of after part -ℤ total_of before part) (pos 0)).0 e)) refl

flow-parts : (account : Account) (before after : Totals) → flow account before after parts ≡ cash_of account after -ℤ cash_of account before
unfolding moved
flow-parts T before after = omega (arith, ints)
flow-parts P before after = omega (arith, ints)

-- the balance after the rows of a command
pub balance_rows : (account : Account) (rows : List Row) (number loan : ℕ) (before after : Totals) → balance_of account (rows ++ rows_of number loan before after) ≡ balance_with account rows before after
balance_rows account rows number loan before after =
    let adds = flow_adds account number loan before after parts rows in
    let flows = flow-parts account before after in
    omega (arith, ints)
