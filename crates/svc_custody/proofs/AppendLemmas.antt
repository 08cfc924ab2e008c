-- The rows of a command for all loans come after those of earlier commands, and the balances stay within the limits.
use Rattle.std.proofs.Common.{◌≡◌, ℕ, zero, suc, ◌+◌, ◌-◌, ◌*◌, ◌≤◌, ◌<◌, true, false, cond, inl, inr, List, [], ◌∷◌, ◌++◌, map, length, take, drop, get_or, arith, refl, sym, ap, subst, ◌∙◌, append-nil, append_assoc}
use Rattle.std.specs.Prelude.{ℤ, pos, ◌+ℤ◌, ◌-ℤ◌, Option, Some, None, IfSome, slice_get}
use Rattle.std.specs.Ordering.{int_eq}
use Rattle.std.specs.List.{All, AllPairs, filter_map, cons_option}
use Rattle.std.proofs.lemmas.Int.{ints}
use Rattle.std.proofs.lemmas.List.{length-take, length-drop, length-map}
use Rattle.std.proofs.lemmas.List.Elements.{All-nil, All-cons, All-head, All-tail, All-append, All-take, All-drop}
use Rattle.svc_base.specs.Sums.{total_by}
use Rattle.custodial_book.specs.declared.part.Account.{Account}
use Rattle.custodial_book.specs.declared.part.Account.TheVariants.{T, P}
use Rattle.custodial_book.specs.declared.row.Row.{Row}
use Rattle.custodial_book.specs.declared.row.Totals.{Totals}
use Rattle.custodial_book.specs.Parts.{parts}
use Rattle.custodial_book.specs.Rows.{total_of, row_of, rows_of, balance_of, balance_with, cash_of, AreTotals, IsBalance, IsBefore, ComesNext}
use Rattle.custodial_book.proofs.CashLemmas.{balance_rows}
use Rattle.svc_world.specs.Held.{Held, find_loan}
use Rattle.svc_world.specs.World.{World}
use Rattle.svc_world.specs.Custody.{totals_of, totals_before, rows_between}
use Rattle.svc_world.proofs.SumsWithin.{IsUpTo, total_up_to}
use Rattle.svc_world.proofs.LoanListLemmas.{rises, IsFound, numbers_of}
use Rattle.svc_world.specs.Worlds.{IsLimited, AreReports}
use Rattle.svc_world.proofs.CashLemmas.{cash_is_held, rows_nil, rows_cons}
use Rattle.svc_world.proofs.RemittedLemmas.{held_within, totals_within}
use Rattle.svc_loan.specs.Kept.{KeptLoan}
use Rattle.svc_loan.specs.Loans.{held_in}
use Rattle.svc_custody.specs.declared.position.Position.{Position}
use Rattle.svc_custody.specs.Positions.{CanRead, position_of}
use Rattle.svc_custody.proofs.PositionLemmas.{held_limited}
use Rattle.svc_custody.specs.Appending.{MayAppend, rows_along, IsCashOf, MayAppendAll}

-- ---- where rows stand

some_of : {X : Type 0} (Q : X → Type 0) (xs : List X) (k : ℕ) → All Q xs → IfSome (slice_get xs k) Q
some_of Q [] k h = tt
some_of Q (x ∷ xs) zero h = All-head Q x xs h
some_of Q (x ∷ xs) (suc k) h = some_of Q xs k (All-tail Q x xs h)

pub next_after : (n id : ℕ) (rows : List Row) → All (IsBefore n id) rows → ComesNext n id rows
next_after n id rows h = some_of (IsBefore n id) rows _ h

-- the rows of earlier commands stand before those of any loan
pub earlier_before : (n id : ℕ) (rows : List Row) → All (λ (r : Row). r.number < n) rows → All (IsBefore n id) rows
earlier_before n id rows h = λ k d lt. inl (h k d lt)

kept_all : {X Y : Type 0} (Q : Y → Type 0) (h : X → Option Y) (xs : List X) → ((x : X) → IfSome (h x) Q) → All Q (filter_map h xs)
kept_all Q h [] all = All-nil Q
kept_all {Y = Y} Q h (x ∷ xs) all = one (h x) (filter_map h xs) (all x) (kept_all Q h xs all)
  where
    one : (o : Option Y) (ys : List Y) → IfSome o Q → All Q ys → All Q (cons_option o ys)
    one None ys here rest = rest
    one (Some y) ys here rest = All-cons Q y ys here rest

-- so do those of a loan with a lower number
rows_before : (n id loan : ℕ) (x y : Totals) → loan < id → All (IsBefore n id) (rows_of n loan x y)
unfolding row_of
rows_before n id loan x y lt = kept_all (IsBefore n id) (row_of n loan x y) parts (λ part. elim (int_eq (total_of y part -ℤ total_of x part) (pos 0)) as (λ b. IfSome (cond b None (Some (record { number = n; loan = loan; part = part; cents = total_of y part -ℤ total_of x part }))) (IsBefore n id)) [ true ↦ tt | false ↦ inr (refl, lt) ])

few_kept : {X Y : Type 0} (h : X → Option Y) (xs : List X) → length (filter_map h xs) ≤ length xs
few_kept h [] = omega arith
few_kept {Y = Y} h (x ∷ xs) = one (h x) (filter_map h xs) (few_kept h xs)
  where
    one : (o : Option Y) (ys : List Y) → length ys ≤ length xs → length (cons_option o ys) ≤ suc (length xs)
    one None ys le = omega arith
    one (Some y) ys le = omega arith

-- there are at most eleven rows for a loan
pub few_rows : (n id : ℕ) (x y : Totals) → length (rows_of n id x y) ≤ 11
few_rows n id x y = few_kept (row_of n id x y) parts

-- ---- the rows of some loans

pub along_cons : (n : ℕ) (w : World) (x : Totals) (xs : List Totals) (l : Held) (ls : List Held) → rows_along n w (x ∷ xs) (l ∷ ls) ≡ rows_of n l.id x (totals_of w l) ++ rows_along n w xs ls
unfolding rows_along
along_cons n w x xs l ls = refl

pub along_none : (n : ℕ) (w : World) (ls : List Held) → rows_along n w [] ls ≡ []
unfolding rows_along
along_none n w ls = refl

along_before : (n id : ℕ) (w : World) (xs : List Totals) (ls : List Held) → All (λ (l : Held). l.id < id) ls → All (IsBefore n id) (rows_along n w xs ls)
unfolding rows_along
along_before n id w [] ls h = All-nil (IsBefore n id)
along_before n id w (x ∷ xs) [] h = All-nil (IsBefore n id)
along_before n id w (x ∷ xs) (l ∷ ls) h =
    All-append (IsBefore n id) (rows_of n l.id x (totals_of w l)) (rows_along n w xs ls) (rows_before n id l.id x (totals_of w l) (All-head (λ (k : Held). k.id < id) l ls h)) (along_before n id w xs ls (All-tail (λ (k : Held). k.id < id) l ls h))

-- with one loan more
pub along_more : (n : ℕ) (w : World) (xs : List Totals) (ls : List Held) (i : ℕ) (d : Totals) (e : Held) → i < length xs → i < length ls → rows_along n w (take (i + 1) xs) (take (i + 1) ls) ≡ rows_along n w (take i xs) (take i ls) ++ rows_of n (get_or ls i e).id (get_or xs i d) (totals_of w (get_or ls i e))
along_more n w [] ls i d e lt within = absurd (omega arith)
along_more n w (x ∷ xs) [] i d e lt within = absurd (omega arith)
along_more n w (x ∷ xs) (l ∷ ls) zero d e lt within =
    let mine = rows_of n l.id x (totals_of w l) in
    along_cons n w x [] l [] ∙ ap (λ rs. mine ++ rs) (along_none n w []) ∙ append-nil mine ∙ sym (ap (λ rs. rs ++ mine) (along_none n w []))
along_more n w (x ∷ xs) (l ∷ ls) (suc i) d e lt within =
    let mine = rows_of n l.id x (totals_of w l) in
    let next : suc i + 1 ≡ suc (i + 1) = omega arith in
    let new = rows_of n (get_or ls i e).id (get_or xs i d) (totals_of w (get_or ls i e)) in
    ap (λ j. rows_along n w (take j (x ∷ xs)) (take j (l ∷ ls))) next
    ∙ along_cons n w x (take (i + 1) xs) l (take (i + 1) ls)
    ∙ ap (λ rs. mine ++ rs) (along_more n w xs ls i d e (omega arith) (omega arith))
    ∙ sym (append_assoc mine (rows_along n w (take i xs) (take i ls)) new)
    ∙ ap (λ rs. rs ++ new) (sym (along_cons n w x (take i xs) l (take i ls)))

-- what they do to a balance
abbrev later_cash : Account → World → Held → ℤ
later_cash account w l = cash_of account (totals_of w l)

along_cash : (account : Account) (n : ℕ) (w : World) (xs : List Totals) (ls : List Held) (rows : List Row) → length xs ≡ length ls → balance_of account (rows ++ rows_along n w xs ls) ≡ balance_of account rows +ℤ (total_by (later_cash account w) ls -ℤ total_by (cash_of account) xs)
along_cash account n w [] [] rows e =
    let same : balance_of account (rows ++ rows_along n w [] []) ≡ balance_of account rows = ap (λ rs. balance_of account (rows ++ rs)) (along_none n w []) ∙ ap (balance_of account) (append-nil rows) in
    omega (arith, ints, same)
along_cash account n w [] (l ∷ ls) rows e = absurd (omega arith)
along_cash account n w (x ∷ xs) [] rows e = absurd (omega arith)
along_cash account n w (x ∷ xs) (l ∷ ls) rows e =
    let mine = rows_of n l.id x (totals_of w l) in
    let split : balance_of account (rows ++ rows_along n w (x ∷ xs) (l ∷ ls)) ≡ balance_of account ((rows ++ mine) ++ rows_along n w xs ls) = ap (λ rs. balance_of account (rows ++ rs)) (along_cons n w x xs l ls) ∙ ap (balance_of account) (sym (append_assoc rows mine (rows_along n w xs ls))) in
    let rest = along_cash account n w xs ls (rows ++ mine) (omega arith) in
    let one = balance_rows account rows n l.id x (totals_of w l) in
    omega (arith, ints, split, rest, one)

-- they are those of the command, where the totals are those before it
pub along_is : (n : ℕ) (w v : World) (ks ls : List Held) → numbers_of ls ≡ numbers_of ks → All (IsFound w.loans) ks → rows_along n v (map (totals_of w) ks) ls ≡ rows_between n w v ls
along_is n w v [] [] same found = along_none n v [] ∙ sym (rows_nil n w v)
along_is n w v [] (l ∷ ls) same found = absurd (cc)
along_is n w v (k ∷ ks) [] same found = absurd (cc)
along_is n w v (k ∷ ks) (l ∷ ls) same found =
    let one : l.id ≡ k.id = cc in
    let rest : numbers_of ls ≡ numbers_of ks = cc in
    let there : find_loan l.id w.loans ≡ Some k = ap (λ i. find_loan i w.loans) one ∙ All-head (IsFound w.loans) k ks found in
    along_cons n v (totals_of w k) (map (totals_of w) ks) l ls
    ∙ ap (λ rs. rows_of n l.id (totals_of w k) (totals_of v l) ++ rs) (along_is n w v ks ls rest (All-tail (IsFound w.loans) k ks found))
    ∙ ap (λ o. rows_of n l.id (totals_before w o) (totals_of v l) ++ rows_between n w v ls) (sym there)
    ∙ sym (rows_cons n w v l ls)

-- ---- the balances on the way

total_split : {A : Type 0} (f : A → ℤ) (xs : List A) (i : ℕ) (d : A) → i < length xs → total_by f xs ≡ total_by f (take i xs) +ℤ f (get_or xs i d) +ℤ total_by f (drop (i + 1) xs)
total_split f [] i d lt = absurd (omega arith)
total_split f (x ∷ xs) zero d lt = omega (arith, ints)
total_split f (x ∷ xs) (suc i) d lt =
    let next : suc i + 1 ≡ suc (i + 1) = omega arith in
    let same = ap (λ j. total_by f (drop j (x ∷ xs))) next in
    omega (arith, ints, same, total_split f xs i d (omega arith))

up_to : (account : Account) (xs : List Totals) → All (IsCashOf account) xs → IsUpTo (40_960_000_000_000 * length xs) (total_by (cash_of account) xs)
up_to account xs h = total_up_to 40_960_000_000_000 (cash_of account) xs (λ k d lt. (let x = h k d lt in record { low = x.low; high = x.high }))

later_up_to : (account : Account) (w : World) (ls : List Held) → All (λ (l : Held). IsCashOf account (totals_of w l)) ls → IsUpTo (40_960_000_000_000 * length ls) (total_by (later_cash account w) ls)
later_up_to account w ls h = total_up_to 40_960_000_000_000 (later_cash account w) ls (λ k d lt. (let x = h k d lt in record { low = x.low; high = x.high }))

pub cash_within : (account : Account) (w : World) (l : Held) → IsLimited l.account → AreReports w → IsCashOf account (totals_of w l)
cash_within account w l h r =
    let held = held_within account w l h r in
    let low = held.low in let high = held.high in
    let same = cash_is_held account w l h.account in
    record { low = omega (arith, ints, low, same); high = omega (arith, ints, high, same) }

-- all loans after a command: their totals are such as a loan may have, and so is the cash of each
pub record AreLater (w : World) : Type 0 where
  pub few : length w.loans ≤ 12_000
  pub each : All (λ (l : Held). AreTotals (totals_of w l)) w.loans
  pub cash : (account : Account) → All (λ (l : Held). IsCashOf account (totals_of w l)) w.loans

balance_at : (account : Account) (n : ℕ) (w : World) (xs : List Totals) (rows : List Row) (i : ℕ) (d : Totals) (e : Held) → AreLater w → MayAppendAll n w xs rows → i < length w.loans → IsBalance (balance_with account (rows ++ rows_along n w (take i xs) (take i w.loans)) (get_or xs i d) (totals_of w (get_or w.loans i e)))
balance_at account n w xs rows i d e later may lt =
    let ls = w.loans in
    let count = may.count in
    let few = later.few in
    let short : length (take i xs) ≡ length (take i ls) = omega (arith, length-take i xs, length-take i ls) in
    let some : length (take i ls) ≡ i = omega (arith, length-take i ls) in
    let left : length (drop (i + 1) xs) ≡ length xs - (i + 1) = length-drop (i + 1) xs in
    let first = along_cash account n w (take i xs) (take i ls) rows short in
    let whole = may.balances account in
    let split = total_split (cash_of account) xs i d (omega arith) in
    let done = later_up_to account w (take i ls) (All-take (λ (l : Held). IsCashOf account (totals_of w l)) i ls (later.cash account)) in
    let rest = up_to account (drop (i + 1) xs) (All-drop (IsCashOf account) (i + 1) xs (may.cash account)) in
    let here = later.cash account i e lt in
    let l1 = done.low in let h1 = done.high in
    let l2 = rest.low in let h2 = rest.high in
    let l3 = here.low in let h3 = here.high in
    (omega (arith, ints, first, whole, split, l1, l2, l3), omega (arith, ints, first, whole, split, h1, h2, h3, some, left, count, few, lt))

numbers_below : (ls : List Held) (i : ℕ) (e : Held) → AllPairs rises ls → i < length ls → All (λ (l : Held). l.id < (get_or ls i e).id) (take i ls)
numbers_below ls i e h lt = λ k d within. (let below : k < i = omega (arith, within, length-take i ls) in subst (λ (x : Held). x.id < (get_or ls i e).id) (sym (taken ls i k d below)) (apart k d below))
  where
    taken : (xs : List Held) (j k : ℕ) (d : Held) → k < j → get_or (take j xs) k d ≡ get_or xs k d
    taken [] zero k d lt = absurd (omega arith)
    taken [] (suc j) k d lt = refl
    taken (x ∷ xs) zero k d lt = absurd (omega arith)
    taken (x ∷ xs) (suc j) zero d lt = refl
    taken (x ∷ xs) (suc j) (suc k) d lt = taken xs j k d (omega arith)

    default : (xs : List Held) (k : ℕ) (d f : Held) → k < length xs → get_or xs k d ≡ get_or xs k f
    default [] k d f lt = absurd (omega arith)
    default (x ∷ xs) zero d f lt = refl
    default (x ∷ xs) (suc k) d f lt = default xs k d f (omega arith)

    apart : (k : ℕ) (d : Held) → k < i → (get_or ls k d).id < (get_or ls i e).id
    apart k d below = (let less = h k i e below lt in subst (λ (x : Held). x.id < (get_or ls i e).id) (default ls k e d (omega arith)) less)

-- so the rows of the loan at each place may be added in turn
pub may_append_at : (n : ℕ) (w : World) (xs : List Totals) (rows : List Row) (i : ℕ) (d : Totals) (e : Held) → AreLater w → MayAppendAll n w xs rows → i < length w.loans → MayAppend n (get_or w.loans i e).id (rows ++ rows_along n w (take i xs) (take i w.loans)) (get_or xs i d) (totals_of w (get_or w.loans i e))
may_append_at n w xs rows i d e later may lt =
    let id = (get_or w.loans i e).id in
    let done = rows_along n w (take i xs) (take i w.loans) in
    let count = may.count in
    let before = All-append (IsBefore n id) rows done (earlier_before n id rows may.earlier) (along_before n id w (take i xs) (take i w.loans) (numbers_below w.loans i e may.rising lt)) in
    record {
      next = next_after n id (rows ++ done) before;
      old = may.each i d (omega arith);
      new = later.each i e lt;
      t = balance_at T n w xs rows i d e later may lt;
      p = balance_at P n w xs rows i d e later may lt;
    }

-- ---- a loop over all loans

pub are_later : (w : World) (ks : List KeptLoan) → CanRead w ks → w.loans ≡ held_in ks → AreLater w
are_later w ks h same =
    let limited = subst (All (λ (l : Held). IsLimited l.account)) (sym same) (held_limited ks h.limited) in
    let few = h.few in
    record {
      few = (let count = ap length same ∙ length-map ks (λ (k : KeptLoan). k.held) in omega (arith, few, count));
      each = λ k d lt. totals_within w _ (limited k d lt) h.reports;
      cash = λ account k d lt. cash_within account w _ (limited k d lt) h.reports;
    }

-- the rows of the loan at a place may be added, and then those of all loans up to it are there
pub may_append_here : (n id : ℕ) (w : World) (xs : List Totals) (rows now : List Row) (i : ℕ) (d : Totals) (e : Held) (x : Position) → AreLater w → MayAppendAll n w xs rows → i < length w.loans → id ≡ (get_or w.loans i e).id → now ≡ rows ++ rows_along n w (take i xs) (take i w.loans) → x ≡ position_of w (get_or w.loans i e) → MayAppend n id now (get_or xs i d) x.totals
may_append_here n id w xs rows now i d e x later may lt number are is =
    let y = get_or xs i d in
    let done = rows ++ rows_along n w (take i xs) (take i w.loans) in
    subst (λ j. MayAppend n j now y x.totals) (sym number)
    (subst (λ rs. MayAppend n (get_or w.loans i e).id rs y x.totals) (sym are)
    (subst (λ (z : Position). MayAppend n (get_or w.loans i e).id done y z.totals) (sym is) (may_append_at n w xs rows i d e later may lt)))

pub rows_here : (n id : ℕ) (w : World) (xs : List Totals) (rows now next : List Row) (i : ℕ) (d : Totals) (e : Held) (x : Position) → MayAppendAll n w xs rows → i < length w.loans → id ≡ (get_or w.loans i e).id → now ≡ rows ++ rows_along n w (take i xs) (take i w.loans) → x ≡ position_of w (get_or w.loans i e) → next ≡ now ++ rows_of n id (get_or xs i d) x.totals → next ≡ rows ++ rows_along n w (take (i + 1) xs) (take (i + 1) w.loans)
rows_here n id w xs rows now next i d e x may lt number are is added =
    let y = get_or xs i d in
    let done = rows_along n w (take i xs) (take i w.loans) in
    let count = may.count in
    added
    ∙ ap (λ rs. rs ++ rows_of n id y x.totals) are
    ∙ ap (λ j. (rows ++ done) ++ rows_of n j y x.totals) number
    ∙ ap (λ (z : Position). (rows ++ done) ++ rows_of n (get_or w.loans i e).id y z.totals) is
    ∙ append_assoc rows done (rows_of n (get_or w.loans i e).id y (totals_of w (get_or w.loans i e)))
    ∙ ap (λ rs. rows ++ rs) (sym (along_more n w xs w.loans i d e (omega arith) lt))
