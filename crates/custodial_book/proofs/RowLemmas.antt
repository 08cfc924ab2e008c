-- What a row more does to a balance, and which rows are those of a command.
use Rattle.std.proofs.Common.{◌≡◌, ℕ, zero, suc, ◌+◌, ◌-◌, ◌<◌, ◌≤◌, Bool, true, false, cond, eqb, ltb, leb, ℤ, pos, ◌+ℤ◌, ◌-ℤ◌, List, [], ◌∷◌, ◌++◌, map, length, get_or, take, drop, Option, Some, None, arith, refl, ap, sym, ◌∙◌, ⊎_elim, fold, append-nil}
use Rattle.std.proofs.lemmas.Int.{ints}
use Rattle.std.proofs.lemmas.List.{take_more, append_assoc, get_or-map, map-append, get_or-take, get_or-drop, length-take-le, length-drop}
use Rattle.std.proofs.lemmas.List.Sums.{fold_push}
use Rattle.std.proofs.lemmas.List.Elements.{filter-append, filter_map-append, All-head, All-tail}
use Rattle.std.proofs.Math.Seq.{get_or-append_seam}
use Rattle.std.proofs.Common.{length-append, take-append-drop}
use Rattle.std.specs.List.{All, filter, filter_map, cons_option, slice_get}
use Rattle.std.specs.Option.{IfSome, option_to_list}
use Rattle.std.specs.List.Sorted.{IsPartitionPoint, IsNonDecreasingBy}
use Rattle.custodial_book.specs.declared.part.Account.{Account}
use Rattle.custodial_book.specs.declared.part.Part.{Part}
use Rattle.std.proofs.lemmas.List.Sorted.{IsNonDecreasingBy-push}
use Rattle.custodial_book.specs.declared.row.Row.{Row}
use Rattle.custodial_book.specs.Parts.{parts, paid_from, paid_to, is_account}
use Rattle.custodial_book.specs.declared.row.Totals.{Totals}
use Rattle.custodial_book.specs.Rows.{total_of, change_of, AreTotals, IsChange, row_of, rows_of, cents_of, balance_of, moved, rows_of_command, IsBefore, ComesNext}
use Rattle.std.specs.Ordering.{int_eq}
use Rattle.std.proofs.lemmas.Bool.Decides.{Decides-int_eq}

pub balance_none : (account : Account) → balance_of account [] ≡ pos 0
unfolding balance_of
balance_none account = refl

-- one row more in a sum
cents_push : (rows : List Row) (row : Row) → cents_of (rows ++ row ∷ []) ≡ cents_of rows +ℤ row.cents
cents_push rows row = ap (λ zs. fold ◌+ℤ◌ (pos 0) zs) (map-append (λ r. r.cents) rows (row ∷ [])) ∙ fold_push ◌+ℤ◌ (pos 0) (map (λ r. r.cents) rows) row.cents

-- one row more, where it passes and where it does not
passed_push : (b : Bool) (rows : List Row) (row : Row) → cents_of (rows ++ cond b (row ∷ []) []) ≡ cents_of rows +ℤ cond b row.cents (pos 0)
passed_push true rows row = cents_push rows row
passed_push false rows row = ap cents_of (append-nil rows) ∙ no_more (cents_of rows)
  where
    no_more : (z : ℤ) → z ≡ z +ℤ pos 0
    no_more z = omega (arith, ints)

filtered_push : (p : Row → Bool) (rows : List Row) (row : Row) → cents_of (filter p (rows ++ row ∷ [])) ≡ cents_of (filter p rows) +ℤ cond (p row) row.cents (pos 0)
filtered_push p rows row = ap cents_of (filter-append p rows (row ∷ [])) ∙ passed_push (p row) (filter p rows) row

both_more : (into into' out out' a b : ℤ) → into' ≡ into +ℤ a → out' ≡ out +ℤ b → into' -ℤ out' ≡ (into -ℤ out) +ℤ (a -ℤ b)
both_more into into' out out' a b p q = omega (arith, ints)

-- one row more in a balance
pub balance_push : (account : Account) (rows : List Row) (row : Row) → balance_of account (rows ++ row ∷ []) ≡ balance_of account rows +ℤ moved account row.part row.cents
unfolding balance_of moved
balance_push account rows row =
    both_more (cents_of (filter (λ r. is_account account (paid_to r.part)) rows)) _ (cents_of (filter (λ r. is_account account (paid_from r.part)) rows)) _ (cond (is_account account (paid_to row.part)) row.cents (pos 0)) (cond (is_account account (paid_from row.part)) row.cents (pos 0)) (filtered_push (λ r. is_account account (paid_to r.part)) rows row) (filtered_push (λ r. is_account account (paid_from r.part)) rows row)

held_at : (rows : List Row) (k : ℕ) (number loan : ℕ) (d : Row) → IfSome (slice_get rows k) (IsBefore number loan) → k < length rows → (get_or rows k d).number ≤ number
held_at [] k number loan d h low = absurd (omega arith)
held_at (row ∷ rows) zero number loan d h low = ⊎_elim (λ less. omega arith) (λ same. omega arith) h
held_at (row ∷ rows) (suc k) number loan d h low = held_at rows k number loan d h (omega arith)

-- no row's number is above that of the rows that come next
pub last_before : (rows : List Row) (number loan : ℕ) → ComesNext number loan rows → (d : Row) → 0 < length rows → (get_or rows (length rows - 1) d).number ≤ number
last_before rows number loan h d some = held_at rows (length rows - 1) number loan d h (omega arith)

pub last_of_push : (rows : List Row) (row d : Row) → get_or (rows ++ row ∷ []) (length (rows ++ row ∷ []) - 1) d ≡ row
last_of_push rows row d =
    let place : length (rows ++ row ∷ []) - 1 ≡ length rows = omega (arith, length-append rows (row ∷ [])) in
    ap (λ k. get_or (rows ++ row ∷ []) k d) place ∙ get_or-append_seam rows row [] d

filter_none : (p : Row → Bool) (rows : List Row) → All (λ row. p row ≡ false) rows → filter p rows ≡ []
filter_none p [] h = refl
filter_none p (row ∷ rows) h = ap (λ b. cond b (row ∷ filter p rows) (filter p rows)) (All-head (λ r. p r ≡ false) row rows h) ∙ filter_none p rows (All-tail (λ r. p r ≡ false) row rows h)

filter_all : (p : Row → Bool) (rows : List Row) → All (λ row. p row ≡ true) rows → filter p rows ≡ rows
filter_all p [] h = refl
filter_all p (row ∷ rows) h = ap (λ b. cond b (row ∷ filter p rows) (filter p rows)) (All-head (λ r. p r ≡ true) row rows h) ∙ ap (λ rs. row ∷ rs) (filter_all p rows (All-tail (λ r. p r ≡ true) row rows h))

is_less : (a b : ℕ) → ltb a b ≡ true → eqb a b ≡ false
is_less a b h = grind arith

is_more : (a b : ℕ) → leb a b ≡ false → eqb a b ≡ false
is_more a b h = grind arith

is_same : (a b : ℕ) → ltb a b ≡ false → leb a b ≡ true → eqb a b ≡ true
is_same a b h k = grind arith

-- the rows from the first that is not below the number, up to the last that is not above it
pub found_rows : (rows onward : List Row) (number s e : ℕ) → s ≤ length rows → onward ≡ drop s rows → e ≤ length onward → IsPartitionPoint (λ row. ltb row.number number ≡ true) (λ row. ltb row.number number ≡ false) rows s → IsPartitionPoint (λ row. leb row.number number ≡ true) (λ row. leb row.number number ≡ false) onward e → take e onward ≡ rows_of_command number rows
found_rows rows onward number s e s_in are e_in below above =
    let p : Row → Bool = λ row. eqb row.number number in
    let size : length onward ≡ length rows - s = ap length are ∙ length-drop s rows in
    let front : filter p (take s rows) ≡ [] = filter_none p (take s rows) (λ k d h.
    let in' : k < s = omega (arith, length-take-le s rows s_in) in
    ap p (get_or-take s rows k d in') ∙ is_less _ _ (below.0 k d (omega arith) in')) in
    let at : (k : ℕ) (d : Row) → get_or onward k d ≡ get_or rows (s + k) d = λ k d. ap (λ rs. get_or rs k d) are ∙ get_or-drop s rows k d in
    let middle : filter p (take e onward) ≡ take e onward = filter_all p (take e onward) (λ k d h.
    let in' : k < e = omega (arith, length-take-le e onward e_in) in
    let low : ltb (get_or onward k d).number number ≡ false = ap (λ r. ltb r.number number) (at k d) ∙ below.1 (s + k) d (omega arith) (omega (arith, size)) in
    ap p (get_or-take e onward k d in') ∙ is_same _ _ low (above.0 k d (omega arith) in')) in
    let back : filter p (drop e onward) ≡ [] = filter_none p (drop e onward) (λ k d h.
    let in' : e + k < length onward = omega (arith, length-drop e onward) in
    ap p (get_or-drop e onward k d) ∙ is_more _ _ (above.1 (e + k) d (omega arith) in')) in
    let later : filter p onward ≡ take e onward =
    ap (filter p) (sym (take-append-drop e onward)) ∙ filter-append p (take e onward) (drop e onward) ∙ ap (λ rs. filter p (take e onward) ++ rs) back ∙ append-nil (filter p (take e onward)) ∙ middle in
    let whole : filter p rows ≡ take e onward =
    ap (filter p) (sym (take-append-drop s rows)) ∙ filter-append p (take s rows) (drop s rows) ∙ ap (λ rs. rs ++ filter p (drop s rows)) front ∙ ap (filter p) (sym are) ∙ later in
    sym whole

one_part : (r : Option Row) → cons_option r [] ≡ option_to_list r
one_part None = refl
one_part (Some row) = refl

-- the rows so far, after one part more
pub rows_more : (h : Part → Option Row) (old items items' : List Row) (i : ℕ) (part : Part) (r : Option Row) → i < length parts → get_or parts i part ≡ part → items ≡ old ++ filter_map h (take i parts) → r ≡ h part → items' ≡ items ++ option_to_list r → items' ≡ old ++ filter_map h (take (i + 1) parts)
rows_more h old items items' i part r inside at so_far is adds =
    let more : take (i + 1) parts ≡ take i parts ++ part ∷ [] = take_more parts i part inside ∙ ap (λ x. take i parts ++ x ∷ []) at in
    let onward : filter_map h (take (i + 1) parts) ≡ filter_map h (take i parts) ++ option_to_list r =
    ap (filter_map h) more ∙ filter_map-append h (take i parts) (part ∷ []) ∙ ap (λ o. filter_map h (take i parts) ++ cons_option o []) (sym is) ∙ ap (λ rs. filter_map h (take i parts) ++ rs) (one_part r) in
    adds ∙ ap (λ rs. rs ++ option_to_list r) so_far ∙ append_assoc old (filter_map h (take i parts)) (option_to_list r) ∙ ap (λ rs. old ++ rs) (sym onward)

-- the rows still rise after one of the command with that number
pub rising_push : (rows : List Row) (row : Row) (number : ℕ) → IsNonDecreasingBy (λ r. r.number) rows → ((d : Row) → 0 < length rows → (get_or rows (length rows - 1) d).number ≤ number) → row.number ≡ number → IsNonDecreasingBy (λ r. r.number) (rows ++ row ∷ [])
rising_push rows row number rising last is = IsNonDecreasingBy-push (λ r. r.number) rows row rising (λ d some. let before : (get_or rows (length rows - 1) d).number ≤ number = last d some in omega arith)

-- an element within a list does not depend on the default
same_at : (xs : List Part) (i : ℕ) (d e : Part) → i < length xs → get_or xs i e ≡ get_or xs i d
same_at [] i d e h = absurd (omega arith)
same_at (x ∷ xs) zero d e h = refl
same_at (x ∷ xs) (suc i) d e h = same_at xs i d e (omega arith)

pub part_at : (i : ℕ) (d : Part) → i < length parts → get_or parts i (get_or parts i d) ≡ get_or parts i d
part_at i d h = same_at parts i d (get_or parts i d) h

-- ---- what each total changed by

pub changed_at : (before after : Totals) (changes : List ℤ) (k : ℕ) (d : ℤ) (part : Part) → changes ≡ map (change_of before after) parts → k < 11 → get_or changes k d ≡ change_of before after (get_or parts k part)
changed_at before after changes k d part is inside = ap (λ zs. get_or zs k d) is ∙ get_or-map (change_of before after) parts k part d inside

pub change_bound : (before after : Totals) (part : Part) → AreTotals before → AreTotals after → IsChange (change_of before after part)
change_bound before after part b a =
    let low = b part in
    let high = a part in
    (omega (arith, ints), omega (arith, ints))

-- ---- totals that did not change

no_row : (number loan : ℕ) (t : Totals) (part : Part) → row_of number loan t t part ≡ None
unfolding row_of
no_row number loan t part =
    let nothing : total_of t part -ℤ total_of t part ≡ pos 0 = omega (arith, ints) in
    let is : int_eq (total_of t part -ℤ total_of t part) (pos 0) ≡ true = (Decides-int_eq (total_of t part -ℤ total_of t part) (pos 0)).1 nothing in
    rw is refl

no_rows_among : (number loan : ℕ) (t : Totals) (ps : List Part) → filter_map (row_of number loan t t) ps ≡ []
no_rows_among number loan t [] = refl
no_rows_among number loan t (p ∷ ps) = rw (no_row number loan t p) (no_rows_among number loan t ps)

pub no_rows : (number loan : ℕ) (before after : Totals) → before ≡ after → rows_of number loan before after ≡ []
no_rows number loan before after same = rw same (no_rows_among number loan after parts)
