-- The rows of a span of commands, number by number.
use Rattle.std.proofs.Common.{◌≡◌, ◌≢◌, ℕ, zero, suc, ◌+◌, ◌-◌, ◌<◌, ◌≤◌, true, false, cond, List, [], ◌∷◌, ◌++◌, length, get_or, take, min, eqb, refl, sym, ap, ◌∙◌, arith, ⊎_elim, append-nil, append_assoc}
use Rattle.std.specs.Prelude.{ℤ, pos, ◌-ℤ◌, Option, Some, None, IfSome, if◌then◌else◌}
use Rattle.std.specs.List.{All, filter_map, cons_option, flat_map, range_with_len}
use Rattle.std.specs.Ordering.{int_eq}
use Rattle.std.proofs.lemmas.Bool.{cases_lt}
use Rattle.std.proofs.lemmas.Bool.Decides.{nat_tests}
use Rattle.std.proofs.lemmas.Int.{ints}
use Rattle.std.proofs.lemmas.List.{take_all}
use Rattle.std.proofs.lemmas.List.Concat.{flat_map-append}
use Rattle.std.proofs.lemmas.List.Elements.{All-append, All-nil, All-cons, All-head, All-tail, filter-append}
use Rattle.svc_base.proofs.SumLemmas.{total_by-append}
use Rattle.custodial_book.specs.declared.part.Account.{Account}
use Rattle.custodial_book.specs.declared.part.Part.{Part}
use Rattle.custodial_book.specs.declared.part.Part.TheVariants.{Received, Returned, Refunded, Disbursed, Collected, Fee, Late, PiAdvance, EscrowAdvance, Remitted, Residual}
use Rattle.custodial_book.specs.declared.row.Row.{Row}
use Rattle.custodial_book.specs.declared.row.Totals.{Totals}
use Rattle.custodial_book.specs.Parts.{parts}
use Rattle.custodial_book.specs.Rows.{row_of, rows_of, total_of, rows_of_command, balance_of, IsTotal, AreTotals, IsChange}
use Rattle.svc_world.specs.Held.{Held, find_loan}
use Rattle.svc_world.specs.World.{World, Accepted, first_world, after}
use Rattle.svc_world.specs.Judging.{IsHistory}
use Rattle.svc_world.specs.Custody.{totals_of, no_totals, totals_before, rows_between, rows_made, rows_from, rows_in}
use Rattle.svc_world.specs.Worlds.{IsHeld, IsWorld, AreWorlds}
use Rattle.svc_world.proofs.LoanListLemmas.{found_all}
use Rattle.svc_world.proofs.RemittedLemmas.{totals_within}
use Rattle.svc_world.proofs.HistoryLemmas.{are_worlds}
use Rattle.bank_recon.specs.declared.item.BankItem.{BankItem}
use Rattle.bank_recon.specs.Items.{items_of, rows_of_span, items_in}
use Rattle.bank_recon.specs.Moving.{IsMovable}
use Rattle.bank_recon.specs.Reconciling.{cents_in, sum_in, balance_after, book_of}
use Rattle.bank_recon.proofs.RowLemmas.{rows_are_items}

-- ---- what holds of each row of a command

row_all : (Q : Row → Type 0) (n id : ℕ) (b a : Totals) (p : Part) → Q (record { number = n; loan = id; part = p; cents = total_of a p -ℤ total_of b p }) → IfSome (row_of n id b a p) Q
unfolding row_of
row_all Q n id b a p h =
    elim (int_eq (total_of a p -ℤ total_of b p) (pos 0)) as (λ v. IfSome (if v then None else Some (record { number = n; loan = id; part = p; cents = total_of a p -ℤ total_of b p })) Q) [
      | true ↦ tt
      | false ↦ h
    ]

option_all : (Q : Row → Type 0) (o : Option Row) (rows : List Row) → IfSome o Q → All Q rows → All Q (cons_option o rows)
option_all Q None rows h rest = rest
option_all Q (Some r) rows h rest = All-cons Q r rows h rest

parts_all : (Q : Row → Type 0) (n id : ℕ) (b a : Totals) (ps : List Part) → ((p : Part) → Q (record { number = n; loan = id; part = p; cents = total_of a p -ℤ total_of b p })) → All Q (filter_map (row_of n id b a) ps)
parts_all Q n id b a [] h = All-nil Q
parts_all Q n id b a (p ∷ ps) h = option_all Q (row_of n id b a p) (filter_map (row_of n id b a) ps) (row_all Q n id b a p (h p)) (parts_all Q n id b a ps h)

between_all : (Q : Row → Type 0) (n : ℕ) (w later : World) (ls : List Held) → All (λ (l : Held). (p : Part) → Q (record { number = n; loan = l.id; part = p; cents = total_of (totals_of later l) p -ℤ total_of (totals_before w (find_loan l.id w.loans)) p })) ls → All Q (rows_between n w later ls)
unfolding rows_between
between_all Q n w later [] h = All-nil Q
between_all Q n w later (l ∷ ls) h =
    let R : Held → Type 0 = λ (k : Held). (p : Part) → Q (record { number = n; loan = k.id; part = p; cents = total_of (totals_of later k) p -ℤ total_of (totals_before w (find_loan k.id w.loans)) p }) in
    All-append Q (rows_of n l.id (totals_before w (find_loan l.id w.loans)) (totals_of later l)) (rows_between n w later ls)
    (parts_all Q n l.id (totals_before w (find_loan l.id w.loans)) (totals_of later l) parts (All-head R l ls h))
    (between_all Q n w later ls (All-tail R l ls h))

-- ---- numbers

made_numbers : (n : ℕ) (w later : World) → All (λ (r : Row). r.number ≡ n) (rows_made n w later)
made_numbers n w later = between_all (λ (r : Row). r.number ≡ n) n w later later.loans (λ k d lt. λ p. refl)

from_above : (n : ℕ) (w : World) (h : List Accepted) → All (λ (r : Row). n < r.number) (rows_from n w h)
unfolding rows_from
from_above n w [] = All-nil (λ (r : Row). n < r.number)
from_above n w (a ∷ h) =
    let later = after (n + 1) w a.command in
    All-append (λ (r : Row). n < r.number) (rows_made (n + 1) w later) (rows_from (n + 1) later h)
    (λ k d lt. let e = made_numbers (n + 1) w later k d lt in omega arith)
    (λ k d lt. let e = from_above (n + 1) later h k d lt in omega arith)

own_rows : (n : ℕ) (rows : List Row) → All (λ (r : Row). r.number ≡ n) rows → rows_of_command n rows ≡ rows
own_rows n [] h = refl
own_rows n (r ∷ rows) h =
    let e : r.number ≡ n = All-head (λ (x : Row). x.number ≡ n) r rows h in
    let test : eqb r.number n ≡ true = grind (arith, nat_tests) in
    ap (λ b. cond b (r ∷ rows_of_command n rows) (rows_of_command n rows)) test ∙ ap (λ l. r ∷ l) (own_rows n rows (All-tail (λ (x : Row). x.number ≡ n) r rows h))

other_rows : (n : ℕ) (rows : List Row) → All (λ (r : Row). r.number ≢ n) rows → rows_of_command n rows ≡ []
other_rows n [] h = refl
other_rows n (r ∷ rows) h =
    let e : r.number ≢ n = All-head (λ (x : Row). x.number ≢ n) r rows h in
    let test : eqb r.number n ≡ false = grind (arith, nat_tests) in
    ap (λ b. cond b (r ∷ rows_of_command n rows) (rows_of_command n rows)) test ∙ other_rows n rows (All-tail (λ (x : Row). x.number ≢ n) r rows h)

none_of : (n m : ℕ) (w later : World) → m ≢ n → rows_of_command m (rows_made n w later) ≡ []
none_of n m w later ne = other_rows m (rows_made n w later) (λ k d lt. λ e. ne (sym e ∙ made_numbers n w later k d lt))

-- ---- one command after the other

-- the rows of the first so many commands and of one more
next_rows : (n : ℕ) (w : World) (h : List Accepted) (k : ℕ) → rows_from n w (take (k + 1) h) ≡ rows_from n w (take k h) ++ rows_of_command (n + k + 1) (rows_from n w h)
unfolding rows_from
next_rows n w [] zero = refl
next_rows n w [] (suc k) = (let e : suc k + 1 ≡ suc (k + 1) = omega arith in ap (λ m. rows_from n w (take m [])) e)
next_rows n w (a ∷ h) zero =
    let later = after (n + 1) w a.command in
    let made = rows_made (n + 1) w later in
    let more = rows_from (n + 1) later h in
    let number : n + 0 + 1 ≡ n + 1 = omega arith in
    let split : rows_of_command (n + 0 + 1) (made ++ more) ≡ made =
    ap (λ m. rows_of_command m (made ++ more)) number ∙ filter-append (λ (r : Row). eqb r.number (n + 1)) made more
    ∙ ap (λ l. l ++ rows_of_command (n + 1) more) (own_rows (n + 1) made (made_numbers (n + 1) w later))
    ∙ ap (λ l. made ++ l) (other_rows (n + 1) more (λ k d lt. let e = from_above (n + 1) later h k d lt in λ f. omega arith))
    ∙ append-nil made in
    append-nil made ∙ sym split
next_rows n w (a ∷ h) (suc k) =
    let later = after (n + 1) w a.command in
    let made = rows_made (n + 1) w later in
    let more = rows_from (n + 1) later h in
    let number : n + 1 + k + 1 ≡ n + suc k + 1 = omega arith in
    let rest : rows_from (n + 1) later (take (k + 1) h) ≡ rows_from (n + 1) later (take k h) ++ rows_of_command (n + suc k + 1) more =
    next_rows (n + 1) later h k ∙ ap (λ m. rows_from (n + 1) later (take k h) ++ rows_of_command m more) number in
    let split : rows_of_command (n + suc k + 1) (made ++ more) ≡ rows_of_command (n + suc k + 1) more =
    filter-append (λ (r : Row). eqb r.number (n + suc k + 1)) made more
    ∙ ap (λ l. l ++ rows_of_command (n + suc k + 1) more) (none_of (n + 1) (n + suc k + 1) w later (λ e. omega arith)) in
    let one : take (suc k + 1) (a ∷ h) ≡ a ∷ take (k + 1) h = (let e : suc k + 1 ≡ suc (k + 1) = omega arith in ap (λ m. take m (a ∷ h)) e) in
    ap (rows_from n w) one ∙ ap (λ l. made ++ l) rest ∙ sym (append_assoc made (rows_from (n + 1) later (take k h)) (rows_of_command (n + suc k + 1) more))
    ∙ ap (λ l. (made ++ rows_from (n + 1) later (take k h)) ++ l) (sym split)

pub rows_next : (h : List Accepted) (k : ℕ) → rows_in (take (k + 1) h) ≡ rows_in (take k h) ++ rows_of_command (k + 1) (rows_in h)
rows_next h k =
    let number : 0 + k + 1 ≡ k + 1 = omega arith in
    next_rows 0 first_world h k ∙ ap (λ m. rows_in (take k h) ++ rows_of_command m (rows_in h)) number

-- the rows of a number of commands behind the first k
rows_along : (h : List Accepted) (m k : ℕ) → rows_in (take (k + m) h) ≡ rows_in (take k h) ++ flat_map (λ number. rows_of_command number (rows_in h)) (range_with_len (k + 1) m)
rows_along h zero k = (let e : k + 0 ≡ k = omega arith in ap (λ n. rows_in (take n h)) e ∙ sym (append-nil (rows_in (take k h))))
rows_along h (suc m) k =
    let e : k + suc m ≡ k + 1 + m = omega arith in
    let own = rows_of_command (k + 1) (rows_in h) in
    let rest = flat_map (λ number. rows_of_command number (rows_in h)) (range_with_len (k + 1 + 1) m) in
    ap (λ n. rows_in (take n h)) e ∙ rows_along h m (k + 1) ∙ ap (λ l. l ++ rest) (rows_next h k) ∙ append_assoc (rows_in (take k h)) own rest

-- the rows up to the last number of a span are those before it and its own
pub span_rows : (first last : ℕ) (h : List Accepted) → 1 ≤ first → first ≤ last → rows_in (take last h) ≡ rows_in (take (first - 1) h) ++ rows_of_span first last h
span_rows first last h low high =
    let all : first - 1 + (last + 1 - first) ≡ last = omega arith in
    let one : first - 1 + 1 ≡ first = omega arith in
    ap (λ n. rows_in (take n h)) (sym all) ∙ rows_along h (last + 1 - first) (first - 1)
    ∙ ap (λ n. rows_in (take (first - 1) h) ++ flat_map (λ number. rows_of_command number (rows_in h)) (range_with_len n (last + 1 - first))) one

-- the change of an account's balance over a span is the sum of the items
pub book_is : (account : Account) (carried : List BankItem) (first last : ℕ) (h : List Accepted) → 1 ≤ first → first ≤ last → book_of account carried first last h ≡ sum_in account (items_in carried first last h)
book_is account carried first last h low high =
    let before = rows_in (take (first - 1) h) in
    let own = rows_of_span first last h in
    let f = cents_in account in
    let upto : balance_after account last h ≡ sum_in account (flat_map items_of before ++ flat_map items_of own) =
    ap (balance_of account) (span_rows first last h low high) ∙ rows_are_items account (before ++ own) ∙ ap (sum_in account) (flat_map-append items_of before own) in
    let start = rows_are_items account before in
    let both = total_by-append f (flat_map items_of before) (flat_map items_of own) in
    let all = total_by-append f carried (flat_map items_of own) in
    omega (arith, ints)

-- ---- the items of a span, command by command

none_behind : (h : List Accepted) (k : ℕ) → length h ≤ k → rows_of_command (k + 1) (rows_in h) ≡ []
none_behind h k le =
    let same : rows_in h ≡ rows_in h ++ rows_of_command (k + 1) (rows_in h) =
    ap rows_in (sym (take_all (k + 1) h (omega arith))) ∙ rows_next h k ∙ ap (λ l. rows_in l ++ rows_of_command (k + 1) (rows_in h)) (take_all k h le) in
    rest_none (rows_in h) (rows_of_command (k + 1) (rows_in h)) same
  where
    rest_none : (xs ys : List Row) → xs ≡ xs ++ ys → ys ≡ []
    rest_none [] ys e = sym e
    rest_none (x ∷ xs) ys e = rest_none xs ys (let t : xs ≡ xs ++ ys = cc in t)

-- what a loop has after some numbers of a span
abbrev pub items_to : List BankItem → ℕ → ℕ → List Accepted → List BankItem
items_to carried first count h = carried ++ flat_map items_of (flat_map (λ number. rows_of_command number (rows_in h)) (range_with_len first count))

range_more : (a n : ℕ) → range_with_len a (n + 1) ≡ range_with_len a n ++ (a + n) ∷ []
range_more a zero = (let e : a ≡ a + 0 = omega arith in ap (λ k. k ∷ []) e)
range_more a (suc n) =
    let one : suc n + 1 ≡ suc (n + 1) = omega arith in
    let e : a + 1 + n ≡ a + suc n = omega arith in
    ap (range_with_len a) one ∙ ap (λ l. a ∷ l) (range_more (a + 1) n ∙ ap (λ k. range_with_len (a + 1) n ++ k ∷ []) e)

-- one command more
pub items_next : (carried : List BankItem) (first count number : ℕ) (h : List Accepted) → number ≡ first + count → items_to carried first (count + 1) h ≡ items_to carried first count h ++ flat_map items_of (rows_of_command number (rows_in h))
items_next carried first count number h is =
    let rows = λ (n : ℕ). rows_of_command n (rows_in h) in
    let done = flat_map rows (range_with_len first count) in
    let last : flat_map rows (range_with_len first (count + 1)) ≡ done ++ rows number =
    ap (flat_map rows) (range_more first count ∙ ap (λ n. range_with_len first count ++ n ∷ []) (sym is))
    ∙ flat_map-append rows (range_with_len first count) (number ∷ []) ∙ ap (λ l. done ++ l) (append-nil (rows number)) in
    ap (λ l. carried ++ flat_map items_of l) last ∙ ap (λ l. carried ++ l) (flat_map-append items_of done (rows number))
    ∙ sym (append_assoc carried (flat_map items_of done) (flat_map items_of (rows number)))

nothing_along : (h : List Accepted) (m k : ℕ) → length h ≤ k → flat_map (λ number. rows_of_command number (rows_in h)) (range_with_len (k + 1) m) ≡ []
nothing_along h zero k le = refl
nothing_along h (suc m) k le = ap (λ l. l ++ flat_map (λ number. rows_of_command number (rows_in h)) (range_with_len (k + 1 + 1) m)) (none_behind h k le) ∙ nothing_along h m (k + 1) (omega arith)

range_joins : (a m n : ℕ) → range_with_len a (m + n) ≡ range_with_len a m ++ range_with_len (a + m) n
range_joins a zero n = (let e : a ≡ a + 0 = omega arith in let f : 0 + n ≡ n = omega arith in ap (range_with_len a) f ∙ ap (λ k. range_with_len k n) e)
range_joins a (suc m) n =
    let one : suc m + n ≡ suc (m + n) = omega arith in
    let e : a + 1 + m ≡ a + suc m = omega arith in
    ap (range_with_len a) one ∙ ap (λ l. a ∷ l) (range_joins (a + 1) m n ∙ ap (λ k. range_with_len (a + 1) m ++ range_with_len k n) e)

-- numbers behind the last command have no rows
pub items_all : (carried : List BankItem) (first last count : ℕ) (h : List Accepted) → 1 ≤ first → first ≤ last → count ≡ min last (length h) - (first - 1) → items_to carried first count h ≡ items_in carried first last h
items_all carried first last count h low high is =
    let rows = λ (n : ℕ). rows_of_command n (rows_in h) in
    let rest = last + 1 - first - count in
    let all : count + rest ≡ last + 1 - first = omega arith in
    let place : first + count - 1 + 1 ≡ first + count = omega arith in
    let nothing : flat_map rows (range_with_len (first + count) rest) ≡ [] =
    ⊎_elim (λ lt. let none : rest ≡ 0 = omega arith in ap (λ n. flat_map rows (range_with_len (first + count) n)) none)
    (λ le. ap (λ n. flat_map rows (range_with_len n rest)) (sym place) ∙ nothing_along h rest (first + count - 1) le)
    (cases_lt (first + count - 1) (length h)) in
    let joined : flat_map rows (range_with_len first (last + 1 - first)) ≡ flat_map rows (range_with_len first count) =
    ap (λ n. flat_map rows (range_with_len first n)) (sym all) ∙ ap (flat_map rows) (range_joins first count rest)
    ∙ flat_map-append rows (range_with_len first count) (range_with_len (first + count) rest)
    ∙ ap (λ l. flat_map rows (range_with_len first count) ++ l) nothing ∙ append-nil (flat_map rows (range_with_len first count)) in
    ap (λ l. carried ++ flat_map items_of l) (sym joined)

-- ---- cents

nothing_within : IsTotal (pos 0)
nothing_within = (omega (arith, ints), omega (arith, ints))

start_within : AreTotals no_totals
start_within Received = nothing_within
start_within Returned = nothing_within
start_within Refunded = nothing_within
start_within Disbursed = nothing_within
start_within Collected = nothing_within
start_within Fee = nothing_within
start_within Late = nothing_within
start_within PiAdvance = nothing_within
start_within EscrowAdvance = nothing_within
start_within Remitted = nothing_within
start_within Residual = nothing_within

-- a total changes by no more than twice what it may be
change_within : (y z : ℤ) → IsTotal y → IsTotal z → IsChange (z -ℤ y)
change_within y z h k = (omega (arith, ints), omega (arith, ints))

before_within : (n : ℕ) (w : World) (o : Option Held) → IsWorld n w → IfSome o (λ (l : Held). IsHeld n w.today l) → AreTotals (totals_before w o)
before_within n w None is h = start_within
before_within n w (Some l) is h = totals_within w l h.limited is.reports

found_held : (n : ℕ) (w : World) (id : ℕ) (o : Option Held) → IsWorld n w → o ≡ find_loan id w.loans → IfSome o (λ (l : Held). IsHeld n w.today l)
found_held n w id None is e = tt
found_held n w id (Some l) is e = found_all (λ (k : Held). IsHeld n w.today k) id w.loans l (sym e) is.held

made_movable : (n : ℕ) (w later : World) → IsWorld n w → IsWorld (n + 1) later → All IsMovable (rows_made (n + 1) w later)
made_movable n w later is next =
    between_all IsMovable (n + 1) w later later.loans (λ k d lt. λ p.
    let l = get_or later.loans k d in
    let o = find_loan l.id w.loans in
    change_within (total_of (totals_before w o) p) (total_of (totals_of later l) p)
    (before_within n w o is (found_held n w l.id o is refl) p)
    (totals_within later l (next.held k d lt).limited next.reports p))

from_movable : (n : ℕ) (w : World) (h : List Accepted) → AreWorlds n w h → All IsMovable (rows_from n w h)
unfolding rows_from
from_movable n w [] is = All-nil IsMovable
from_movable n w (a ∷ []) is =
    let later = after (n + 1) w a.command in
    All-append IsMovable (rows_made (n + 1) w later) [] (made_movable n w later is.0 is.1) (All-nil IsMovable)
from_movable n w (a ∷ b ∷ h) is =
    let later = after (n + 1) w a.command in
    All-append IsMovable (rows_made (n + 1) w later) (rows_from (n + 1) later (b ∷ h)) (made_movable n w later is.0 is.1.0) (from_movable (n + 1) later (b ∷ h) is.1)

-- the rows of a history have cents that go either way
pub rows_movable : (h : List Accepted) → IsHistory h → All IsMovable (rows_in h)
rows_movable h is = from_movable 0 first_world h (are_worlds h is)
