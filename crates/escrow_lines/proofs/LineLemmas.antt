-- How the list of lines goes on when a line is set or dropped.
use Rattle.std.proofs.Common.{◌≡◌, ℕ, zero, suc, IsTrue, ◌+◌, ◌<◌, ◌≤◌, Bool, true, false, cond, not, ◌||◌, eqb, ltb, List, [], ◌∷◌, ◌++◌, length, set, take, drop, Option, Some, None, arith, refl, ap, sym, ◌∙◌, pos, ◌+ℤ◌, map, fold, get_or, ◌&&◌, take_all, eq-eqb, if◌then◌else◌}
use Rattle.std.specs.List.{list_any, position, position_or_len, remove}
use Rattle.escrow_lines.specs.declared.line.Line.{Line}
use Rattle.std.specs.List.{All, refill}
use Rattle.std.specs.Option.{option_map_or}
use Rattle.escrow_lines.specs.declared.line.EscrowLineFault.TheVariants.{BadLine, Full}
use Rattle.svc_types.specs.declared.faults.LineWhy.{LineWhy}
use Rattle.escrow_lines.specs.Bills.{is_period, line_fault}
use Rattle.std.proofs.lemmas.List.{take-append-le, take_more, map-append}
use Rattle.std.proofs.lemmas.List.Sums.{fold_push, length-filter, count_by-le-length}
use Rattle.std.proofs.lemmas.List.Elements.{All-nil, All-cons, All-head, All-tail, All-filter}
use Rattle.escrow_lines.specs.Bills.{IsBill, cents_in}
use Rattle.escrow_lines.specs.BillLists.{has_id, with_line, without_line, HasDistinctIds, AreLines, month_total, full_fault, set_fault}

-- a period is a month or more
pub period_low : (n : ℕ) → IsTrue (is_period n) → 1 ≤ n
period_low zero h = absurd (cc)
period_low (suc n) h = omega arith

found_at : (b : Bool) (k place : ℕ) → Some place ≡ cond b (Some k) None → (b ≡ true) × (k ≡ place)
found_at true k place e = (refl, cc)
found_at false k place e = cc

missing_at : (b : Bool) (k : ℕ) → None ≡ cond b (Some k) None → b ≡ false
missing_at true k e = cc
missing_at false k e = refl

or_left : (a b : Bool) → (a || b) ≡ false → a ≡ false
or_left true b e = e
or_left false b e = refl

or_right : (a b : Bool) → (a || b) ≡ false → b ≡ false
or_right true b e = cc
or_right false b e = e

or_none : (a b : Bool) → a ≡ false → b ≡ false → (a || b) ≡ false
or_none a b p q = ap (λ c. c || b) p ∙ q

same_id : (a b : ℕ) → eqb a b ≡ true → a ≡ b
same_id a b h = grind arith

-- the first line with the id, by the count of lines before it
any_go : (b rest : Bool) (n m : ℕ) → (ltb n m ≡ rest) → ltb (cond (not b) (1 + n) 0) (suc m) ≡ (b || rest)
any_go true rest n m e = grind arith
any_go false rest n m e = grind arith

any_by_place : (id : ℕ) (lines : List Line) → ltb (position_or_len (has_id id) lines) (length lines) ≡ list_any (has_id id) lines
any_by_place id [] = refl
any_by_place id (x ∷ xs) = any_go (has_id id x) (list_any (has_id id) xs) (position_or_len (has_id id) xs) (length xs) (any_by_place id xs)

pub present : (id place : ℕ) (lines : List Line) → Some place ≡ position (has_id id) lines → list_any (has_id id) lines ≡ true
present id place lines e = sym (any_by_place id lines) ∙ (found_at _ _ place e).0

pub absent : (id : ℕ) (lines : List Line) → None ≡ position (has_id id) lines → list_any (has_id id) lines ≡ false
absent id lines e = sym (any_by_place id lines) ∙ missing_at _ _ e

set_go : (b : Bool) (n : ℕ) (line x : Line) (xs : List Line) → (n < length xs → set xs n line ≡ with_line line xs) → cond (not b) (1 + n) 0 < suc (length xs) → set (x ∷ xs) (cond (not b) (1 + n) 0) line ≡ cond b (line ∷ xs) (x ∷ with_line line xs)
set_go true n line x xs ih h = refl
set_go false n line x xs ih h =
    let e : 1 + n ≡ suc n = omega arith in
    ap (λ k. set (x ∷ xs) k line) e ∙ ap (λ rs. x ∷ rs) (ih (omega arith))

set_first : (line : Line) (lines : List Line) → position_or_len (has_id line.id) lines < length lines → set lines (position_or_len (has_id line.id) lines) line ≡ with_line line lines
set_first line [] h = absurd (omega arith)
set_first line (x ∷ xs) h = set_go (has_id line.id x) (position_or_len (has_id line.id) xs) line x xs (set_first line xs) h

-- a write at the place of the id
pub set_place : (line : Line) (place : ℕ) (lines : List Line) → Some place ≡ position (has_id line.id) lines → set lines place line ≡ with_line line lines
set_place line place lines e =
    let at = found_at _ _ place e in
    let inside : position_or_len (has_id line.id) lines < length lines = grind (arith, at.0) in
    ap (λ k. set lines k line) (sym at.1) ∙ set_first line lines inside

-- a push where no line has the id
pub push_absent : (line : Line) (lines : List Line) → list_any (has_id line.id) lines ≡ false → lines ++ line ∷ [] ≡ with_line line lines
push_absent line [] h = refl
push_absent line (x ∷ xs) h =
    ap (λ rs. x ∷ rs) (push_absent line xs (or_right (has_id line.id x) (list_any (has_id line.id) xs) h)) ∙ sym (ap (λ b. cond b (line ∷ xs) (x ∷ with_line line xs)) (or_left (has_id line.id x) (list_any (has_id line.id) xs) h))

-- nothing to drop where no line has the id
nothing_dropped : (id : ℕ) (lines : List Line) → list_any (has_id id) lines ≡ false → without_line id lines ≡ lines
nothing_dropped id [] h = refl
nothing_dropped id (x ∷ xs) h =
    ap (λ b. cond (not b) (x ∷ without_line id xs) (without_line id xs)) (or_left (has_id id x) (list_any (has_id id) xs) h) ∙ ap (λ rs. x ∷ rs) (nothing_dropped id xs (or_right (has_id id x) (list_any (has_id id) xs) h))

remove_go : (b : Bool) (n id : ℕ) (x : Line) (xs : List Line) → (b ≡ true → without_line id xs ≡ xs) → (n < length xs → remove xs n ≡ without_line id xs) → cond (not b) (1 + n) 0 < suc (length xs) → remove (x ∷ xs) (cond (not b) (1 + n) 0) ≡ cond (not b) (x ∷ without_line id xs) (without_line id xs)
remove_go true n id x xs only ih h = sym (only refl)
remove_go false n id x xs only ih h =
    let e : 1 + n ≡ suc n = omega arith in
    ap (remove (x ∷ xs)) e ∙ ap (λ rs. x ∷ rs) (ih (omega arith))

remove_first : (id : ℕ) (lines : List Line) → HasDistinctIds lines → position_or_len (has_id id) lines < length lines → remove lines (position_or_len (has_id id) lines) ≡ without_line id lines
remove_first id [] d h = absurd (omega arith)
remove_first id (x ∷ xs) d h =
    remove_go (has_id id x) (position_or_len (has_id id) xs) id x xs
    (λ e. nothing_dropped id xs (ap (λ k. list_any (has_id k) xs) (sym (same_id x.id id e)) ∙ d.0))
    (remove_first id xs d.1) h

-- the line at the place of the id is the only one with it
pub remove_place : (id place : ℕ) (lines : List Line) → HasDistinctIds lines → Some place ≡ position (has_id id) lines → remove lines place ≡ without_line id lines
remove_place id place lines d e =
    let at = found_at _ _ place e in
    let inside : position_or_len (has_id id) lines < length lines = grind (arith, at.0) in
    ap (remove lines) (sym at.1) ∙ remove_first id lines d inside

any_go_with : (b : Bool) (id : ℕ) (line x : Line) (xs : List Line) → has_id id line ≡ false → has_id id x ≡ false → list_any (has_id id) xs ≡ false → list_any (has_id id) (with_line line xs) ≡ false → list_any (has_id id) (cond b (line ∷ xs) (x ∷ with_line line xs)) ≡ false
any_go_with true id line x xs p q r s = or_none _ _ p r
any_go_with false id line x xs p q r s = or_none _ _ q s

any_with : (id : ℕ) (line : Line) (lines : List Line) → has_id id line ≡ false → list_any (has_id id) lines ≡ false → list_any (has_id id) (with_line line lines) ≡ false
any_with id line [] p h = or_none (has_id id line) false p refl
any_with id line (x ∷ xs) p h =
    let rest = or_right (has_id id x) (list_any (has_id id) xs) h in
    any_go_with (has_id line.id x) id line x xs p (or_left (has_id id x) (list_any (has_id id) xs) h) rest (any_with id line xs p rest)

turned : (a b : ℕ) → eqb a b ≡ false → eqb b a ≡ false
turned a b h = grind arith

distinct_go : (b : Bool) (line x : Line) (xs : List Line) → has_id line.id x ≡ b → list_any (has_id x.id) xs ≡ false → HasDistinctIds xs → HasDistinctIds (with_line line xs) → HasDistinctIds (cond b (line ∷ xs) (x ∷ with_line line xs))
distinct_go true line x xs e none d ih = (ap (λ k. list_any (has_id k) xs) (sym (same_id x.id line.id e)) ∙ none, d)
distinct_go false line x xs e none d ih = (any_with x.id line xs (turned x.id line.id e) none, ih)

-- ids stay distinct where a line is set
pub distinct_with : (line : Line) (lines : List Line) → HasDistinctIds lines → HasDistinctIds (with_line line lines)
distinct_with line [] d = (refl, tt)
distinct_with line (x ∷ xs) d = distinct_go (has_id line.id x) line x xs refl d.0 d.1 (distinct_with line xs d.1)

any_go_without : (b : Bool) (id other : ℕ) (x : Line) (xs : List Line) → has_id other x ≡ false → list_any (has_id other) (without_line id xs) ≡ false → list_any (has_id other) (cond b (x ∷ without_line id xs) (without_line id xs)) ≡ false
any_go_without true id other x xs p h = or_none _ _ p h
any_go_without false id other x xs p h = h

any_without : (id other : ℕ) (lines : List Line) → list_any (has_id other) lines ≡ false → list_any (has_id other) (without_line id lines) ≡ false
any_without id other [] h = refl
any_without id other (x ∷ xs) h = any_go_without (not (has_id id x)) id other x xs (or_left (has_id other x) (list_any (has_id other) xs) h) (any_without id other xs (or_right (has_id other x) (list_any (has_id other) xs) h))

distinct_go_without : (b : Bool) (id : ℕ) (x : Line) (xs : List Line) → list_any (has_id x.id) (without_line id xs) ≡ false → HasDistinctIds (without_line id xs) → HasDistinctIds (cond b (x ∷ without_line id xs) (without_line id xs))
distinct_go_without true id x xs none d = (none, d)
distinct_go_without false id x xs none d = d

-- and where one is dropped
pub distinct_without : (id : ℕ) (lines : List Line) → HasDistinctIds lines → HasDistinctIds (without_line id lines)
distinct_without id [] d = tt
distinct_without id (x ∷ xs) d = distinct_go_without (not (has_id id x)) id x xs (any_without id x.id xs d.0) (distinct_without id xs d.1)

bills_go : (b : Bool) (line x : Line) (xs : List Line) → IsBill line → IsBill x → All IsBill xs → All IsBill (with_line line xs) → All IsBill (cond b (line ∷ xs) (x ∷ with_line line xs))
bills_go true line x xs p q r s = All-cons IsBill line xs p r
bills_go false line x xs p q r s = All-cons IsBill x (with_line line xs) q s

bills_with : (line : Line) (lines : List Line) → IsBill line → All IsBill lines → All IsBill (with_line line lines)
bills_with line [] p h = All-cons IsBill line [] p (All-nil IsBill)
bills_with line (x ∷ xs) p h = bills_go (has_id line.id x) line x xs p (All-head IsBill x xs h) (All-tail IsBill x xs h) (bills_with line xs p (All-tail IsBill x xs h))

-- the lines stay such as a loan may have
pub are_with : (line : Line) (lines : List Line) → AreLines lines → IsBill line → length (with_line line lines) ≤ 16 → AreLines (with_line line lines)
are_with line lines are bill few = record { few = few; bills = bills_with line lines bill are.bills; distinct = distinct_with line lines are.distinct }

pub are_without : (id : ℕ) (lines : List Line) → AreLines lines → AreLines (without_line id lines)
are_without id lines are = record {
  few = omega (arith, are.few, length-filter (λ (line : Line). not (has_id id line)) lines, count_by-le-length (λ (line : Line). not (has_id id line)) lines);
  bills = All-filter (λ (line : Line). not (has_id id line)) IsBill lines are.bills;
  distinct = distinct_without id lines are.distinct;
}

-- one line more in a month's total
pub total_more : (number : ℕ) (lines : List Line) (k : ℕ) (d : Line) → k < length lines → month_total (take (k + 1) lines) number ≡ month_total (take k lines) number +ℤ cents_in number (get_or lines k d)
total_more number lines k d h =
    ap (λ xs. month_total xs number) (take_more lines k d h) ∙ ap (λ zs. fold ◌+ℤ◌ (pos 0) zs) (map-append (cents_in number) (take k lines) (get_or lines k d ∷ [])) ∙ fold_push ◌+ℤ◌ (pos 0) (map (cents_in number) (take k lines)) (cents_in number (get_or lines k d))

-- a write of as many elements takes the place of all
pub refill_same : (xs ws : List Line) → length ws ≡ length xs → refill (length xs) xs ws ≡ ws
refill_same xs ws e = take-append-le (length xs) ws (drop (length ws) xs) (omega arith) ∙ take_all (length xs) ws (omega arith)

and_false : (b : Bool) → (b && false) ≡ false
and_false true = refl
and_false false = refl

right_line : (line : Line) (lines : List Line) → None ≡ line_fault line → set_fault line lines ≡ full_fault line lines
right_line line lines e = ap (λ (o : Option LineWhy). option_map_or (λ why. Some (BadLine why)) o (full_fault line lines)) (sym e)

full_is : (b c : Bool) (full known : Bool) → b ≡ full → c ≡ known → (if b && not c then Some Full else None) ≡ (if full && not known then Some Full else None)
full_is b c full known p q = ap (λ d. if d && not c then Some Full else None) p ∙ ap (λ d. if full && not d then Some Full else None) q

-- when a right line can and cannot be set
pub set_full : (line : Line) (lines : List Line) → None ≡ line_fault line → length lines ≡ 16 → list_any (has_id line.id) lines ≡ false → set_fault line lines ≡ Some Full
set_full line lines right full none = right_line line lines right ∙ full_is (eqb (length lines) 16) (list_any (has_id line.id) lines) true false (eq-eqb (length lines) 16 full) none

pub set_known : (line : Line) (lines : List Line) → None ≡ line_fault line → list_any (has_id line.id) lines ≡ true → set_fault line lines ≡ None
set_known line lines right known = right_line line lines right ∙ full_is (eqb (length lines) 16) (list_any (has_id line.id) lines) (eqb (length lines) 16) true refl known ∙ ap (λ b. if b then Some Full else None) (and_false (eqb (length lines) 16))

pub sixteen : (n : ℕ) → true ≡ eqb n 16 → n ≡ 16
sixteen n h = same_id n 16 (sym h)

pub below_sixteen : (n : ℕ) → false ≡ eqb n 16 → n ≤ 16 → n + 1 ≤ 16
below_sixteen n h k = grind arith
