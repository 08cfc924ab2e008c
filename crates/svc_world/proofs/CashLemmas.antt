-- The balances of the custodial accounts are what they hold for all loans.
use Rattle.std.proofs.Common.{◌≡◌, ℕ, Bool, true, false, List, [], ◌∷◌, ◌++◌, arith, refl, sym, ap, ◌∙◌, append_assoc, append-nil}
use Rattle.std.specs.Prelude.{nat_lt, ℤ, pos, ◌+ℤ◌, ◌-ℤ◌, Option, Some, None, if◌then◌else◌}
use Rattle.std.specs.List.{All, AllPairs}
use Rattle.std.proofs.lemmas.Int.{ints, clamps}
use Rattle.svc_base.specs.Sums.{total_by}
use Rattle.svc_base.proofs.SumLemmas.{total_by-same}
use Rattle.svc_spec.specs.Accounts.{IsAccount}
use Rattle.svc_spec.proofs.TotalLemmas.{account_total}
use Rattle.advance_book.specs.Positions.{pi_held, pi_advanced, pi_residual}
use Rattle.custodial_book.specs.declared.part.Account.{Account as CashAccount}
use Rattle.custodial_book.specs.declared.part.Account.TheVariants.{T, P}
use Rattle.custodial_book.specs.declared.row.Row.{Row}
use Rattle.custodial_book.specs.Rows.{rows_of, balance_of, cash_of}
use Rattle.custodial_book.proofs.CashLemmas.{balance_rows}
use Rattle.svc_world.specs.Held.{Held, find_loan, with_loan, books_now}
use Rattle.svc_world.specs.World.{World}
use Rattle.svc_world.specs.Custody.{collected, remitted_for, is_settled, held_for, totals_of, no_totals, totals_before, rows_between, rows_made, borrower_cash}
use Rattle.svc_world.specs.Laws.{IsHeldBack}
use Rattle.svc_world.proofs.LoanListLemmas.{rises, IsFound, all_found, numbers_of}

-- ---- one loan

pub held_back : (c r : ℤ) (settled : Bool) → pi_held c r settled ≡ c -ℤ r -ℤ pi_residual c r settled +ℤ pi_advanced c r settled
held_back c r true = omega (arith, ints)
held_back c r false = omega (arith, ints, clamps)

pub is_held_back : (w : World) (l : Held) → IsHeldBack w l
is_held_back w l = held_back (collected (books_now l)) (remitted_for w l.id) (is_settled w l)

-- what an account holds for a loan
abbrev pub holds : CashAccount → World → Held → ℤ
holds T w l = borrower_cash l
holds P w l = held_for w l

pub cash_is_held : (account : CashAccount) (w : World) (l : Held) → IsAccount l.account → cash_of account (totals_of w l) ≡ holds account w l
unfolding totals_of
cash_is_held T w l h = let whole = account_total l.account h in omega (arith, ints, whole)
cash_is_held P w l h = let back = is_held_back w l in omega (arith, ints, back)

pub cash_none : (account : CashAccount) → cash_of account no_totals ≡ pos 0
cash_none T = refl
cash_none P = refl

-- ---- the rows of a command

pub rows_nil : (n : ℕ) (before later : World) → rows_between n before later [] ≡ []
unfolding rows_between
rows_nil n before later = refl

pub rows_cons : (n : ℕ) (before later : World) (l : Held) (ls : List Held) → rows_between n before later (l ∷ ls) ≡ rows_of n l.id (totals_before before (find_loan l.id before.loans)) (totals_of later l) ++ rows_between n before later ls
unfolding rows_between
rows_cons n before later l ls = refl

-- what an account held before a command for the loan of a number
abbrev pub cash_before : CashAccount → World → Held → ℤ
cash_before account before l = cash_of account (totals_before before (find_loan l.id before.loans))

pub between_cash : (account : CashAccount) (n : ℕ) (before later : World) (ls : List Held) (rows : List Row) → balance_of account (rows ++ rows_between n before later ls) ≡ balance_of account rows +ℤ (total_by (λ (l : Held). cash_of account (totals_of later l)) ls -ℤ total_by (cash_before account before) ls)
between_cash account n before later [] rows =
    let same : balance_of account (rows ++ rows_between n before later []) ≡ balance_of account rows = ap (λ xs. balance_of account (rows ++ xs)) (rows_nil n before later) ∙ ap (balance_of account) (append-nil rows) in
    omega (arith, ints, same)
between_cash account n before later (l ∷ ls) rows =
    let mine = rows_of n l.id (totals_before before (find_loan l.id before.loans)) (totals_of later l) in
    let split : balance_of account (rows ++ rows_between n before later (l ∷ ls)) ≡ balance_of account ((rows ++ mine) ++ rows_between n before later ls) = ap (λ xs. balance_of account (rows ++ xs)) (rows_cons n before later l ls) ∙ ap (balance_of account) (sym (append_assoc rows mine (rows_between n before later ls))) in
    let rest = between_cash account n before later ls (rows ++ mine) in
    let one = balance_rows account rows n l.id (totals_before before (find_loan l.id before.loans)) (totals_of later l) in
    omega (arith, ints, split, rest, one)

-- ---- the loans before and after a command

-- an amount by what is found under each number
pub found_sum : (g : Option Held → ℤ) (all ls : List Held) → All (IsFound all) ls → total_by (λ (l : Held). g (find_loan l.id all)) ls ≡ total_by (λ (l : Held). g (Some l)) ls
found_sum g all ls h = total_by-same (λ (l : Held). g (find_loan l.id all)) (λ (l : Held). g (Some l)) ls (λ k d lt. ap g (h k d lt))

-- loans with the same numbers
pub numbered_sum : (g : Option Held → ℤ) (all ks ls : List Held) → numbers_of ks ≡ numbers_of ls → total_by (λ (l : Held). g (find_loan l.id all)) ks ≡ total_by (λ (l : Held). g (find_loan l.id all)) ls
numbered_sum g all [] [] e = refl
numbered_sum g all [] (l ∷ ls) e = absurd (cc)
numbered_sum g all (k ∷ ks) [] e = absurd (cc)
numbered_sum g all (k ∷ ks) (l ∷ ls) e =
    let one : k.id ≡ l.id = cc in
    let rest : numbers_of ks ≡ numbers_of ls = cc in
    let here = ap (λ i. g (find_loan i all)) one in
    omega (arith, ints, here, numbered_sum g all ks ls rest)

pub sum_with_loan : (g : Held → ℤ) (l : Held) (ls : List Held) → total_by g (with_loan l ls) ≡ g l +ℤ total_by g ls
sum_with_loan g l [] = refl
sum_with_loan g l (k ∷ ks) =
    elim (nat_lt l.id k.id) as (λ v. total_by g (if v then l ∷ k ∷ ks else k ∷ with_loan l ks) ≡ g l +ℤ (g k +ℤ total_by g ks)) [
      | true ↦ refl
      | false ↦ omega (arith, ints, sum_with_loan g l ks)
    ]

pub cash_by : CashAccount → World → Option Held → ℤ
cash_by account before o = cash_of account (totals_before before o)

pub held_sum : (account : CashAccount) (w : World) (ls : List Held) → All (λ (l : Held). IsAccount l.account) ls → total_by (λ (l : Held). cash_of account (totals_of w l)) ls ≡ total_by (holds account w) ls
held_sum account w ls h = total_by-same (λ (l : Held). cash_of account (totals_of w l)) (holds account w) ls (λ k d lt. cash_is_held account w _ (h k d lt))

-- where the loans after a command have the numbers of those before it
pub rows_are_cash : (account : CashAccount) (n : ℕ) (before later : World) (rows : List Row) → AllPairs rises before.loans → numbers_of later.loans ≡ numbers_of before.loans → All (λ (l : Held). IsAccount l.account) before.loans → All (λ (l : Held). IsAccount l.account) later.loans → balance_of account (rows ++ rows_made n before later) ≡ balance_of account rows +ℤ (total_by (holds account later) later.loans -ℤ total_by (holds account before) before.loans)
unfolding cash_by
rows_are_cash account n before later rows rise same hb hl =
    let all = before.loans in
    let moved = between_cash account n before later later.loans rows in
    let now = held_sum account later later.loans hl in
    let old = numbered_sum (cash_by account before) all later.loans all same ∙ found_sum (cash_by account before) all all (all_found all rise) ∙ held_sum account before all hb in
    omega (arith, ints, moved, now, old)

-- where a loan was taken on
pub boarding_rows_are_cash : (account : CashAccount) (n : ℕ) (before later : World) (rows : List Row) (l : Held) → AllPairs rises before.loans → later.loans ≡ with_loan l before.loans → find_loan l.id before.loans ≡ None → All (λ (l : Held). IsAccount l.account) before.loans → All (λ (l : Held). IsAccount l.account) later.loans → balance_of account (rows ++ rows_made n before later) ≡ balance_of account rows +ℤ (total_by (holds account later) later.loans -ℤ total_by (holds account before) before.loans)
unfolding cash_by
boarding_rows_are_cash account n before later rows l rise more none hb hl =
    let all = before.loans in
    let moved = between_cash account n before later later.loans rows in
    let now = held_sum account later later.loans hl in
    let before' : total_by (cash_before account before) later.loans ≡ total_by (cash_before account before) (with_loan l all) = ap (total_by (cash_before account before)) more in
    let with' = sum_with_loan (cash_before account before) l all in
    let new : cash_before account before l ≡ pos 0 = ap (λ o. cash_of account (totals_before before o)) none ∙ cash_none account in
    let old = found_sum (cash_by account before) all all (all_found all rise) ∙ held_sum account before all hb in
    omega (arith, ints, moved, now, before', with', new, old)
