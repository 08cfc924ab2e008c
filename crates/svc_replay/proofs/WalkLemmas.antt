-- A walk over a loan's events: the lines so far and those of the events that are left.
use Rattle.std.proofs.Common.{◌≡◌, ℕ, zero, suc, ◌≤◌, ◌<◌, FitsSigned, w64, to_z, of_z, ◌∷◌, [], ◌++◌, List, true, false, cond, map, length, get_or, drop, arith, refl, sym, ap, ◌∙◌}
use Rattle.std.specs.Prelude.{Option, Some, ℤ, pos, ◌+ℤ◌, ◌-ℤ◌, ◌≤ℤ◌}
use Rattle.std.proofs.lemmas.Int.{ints, to_z-of_z}
use Rattle.std.specs.List.{filter}
use Rattle.svc_types.specs.declared.terms.Terms.{Terms}
use Rattle.svc_types.specs.declared.books.Books.{Books}
use Rattle.svc_types.specs.declared.account.Entry.{Entry}
use Rattle.svc_types.specs.declared.account.Event.{Event}
use Rattle.svc_types.specs.declared.account.What.{What}
use Rattle.svc_types.specs.declared.desk.HistoryLine.{HistoryLine}
use Rattle.svc_spec.specs.Step.{step}
use Rattle.svc_spec.specs.Books.{start}
use Rattle.svc_spec.specs.Events.{events_to, folded, books_at}
use Rattle.svc_spec.specs.History.{Passed, passed, first_number, but_first, number_for, left_behind, has_line, history_line, lines_of_passed}

pub number_at : (live : List Entry) (i : ℕ) (e : Entry) → i < length live → e ≡ get_or live i e → first_number (drop i live) ≡ Some e.number
number_at [] i e lt is = absurd (omega arith)
number_at (x ∷ xs) zero e lt is = ap (λ (y : Entry). Some y.number) (sym is)
number_at (x ∷ xs) (suc i) e lt is = number_at xs i e (omega arith) is

pub no_number : (live : List Entry) (i : ℕ) → length live ≤ i → drop i live ≡ []
no_number [] zero le = refl
no_number [] (suc i) le = refl
no_number (x ∷ xs) zero le = absurd (omega arith)
no_number (x ∷ xs) (suc i) le = no_number xs i (omega arith)

pub left_at : (live : List Entry) (i : ℕ) → i < length live → but_first (drop i live) ≡ drop (suc i) live
left_at [] i lt = absurd (omega arith)
left_at (x ∷ xs) zero lt = refl
left_at (x ∷ xs) (suc i) lt = left_at xs i (omega arith)

-- the lines of the first event, then those of the others
pub first_lines : (t : Terms) (p : Passed) (ps : List Passed) → lines_of_passed t (p ∷ ps) ≡ lines_of_passed t (p ∷ []) ++ lines_of_passed t ps
first_lines t p ps =
    elim (has_line p) as (λ v. map (history_line t) (cond v (p ∷ filter has_line ps) (filter has_line ps)) ≡ map (history_line t) (cond v (p ∷ []) []) ++ lines_of_passed t ps) [
      | true ↦ refl
      | false ↦ refl
    ]

pub shown_line : (t : Terms) (p : Passed) → has_line p ≡ true → lines_of_passed t (p ∷ []) ≡ history_line t p ∷ []
shown_line t p shown = rw shown

append_first : (xs ys zs : List HistoryLine) → xs ++ (ys ++ zs) ≡ (xs ++ ys) ++ zs
append_first [] ys zs = refl
append_first (x ∷ xs) ys zs = ap (λ l. x ∷ l) (append_first xs ys zs)

-- one event more is passed
pub walked : (t : Terms) (b : Books) (live : List Entry) (e : Event) (es : List Event) (lines : List HistoryLine) → lines ++ lines_of_passed t (passed t b live (e ∷ es)) ≡ (lines ++ lines_of_passed t ((let p : Passed = record { event = e; number = number_for e.what live; before = b; after = step t e b } in p) ∷ [])) ++ lines_of_passed t (passed t (step t e b) (left_behind e.what live) es)
unfolding passed
walked t b live e es lines =
    let p : Passed = record { event = e; number = number_for e.what live; before = b; after = step t e b } in
    let ps = passed t (step t e b) (left_behind e.what live) es in
    ap (λ l. lines ++ l) (first_lines t p ps) ∙ append_first lines (lines_of_passed t (p ∷ [])) (lines_of_passed t ps)

-- the open installment of a day's books is that of all events
pub books_next : (t : Terms) (live : List Entry) (d : ℕ) → (books_at t live d).next ≡ (folded t (start t) (events_to t live d)).next
unfolding books_at
books_next t live d = refl

-- ---- a line is its fields

-- a difference of amounts fits
pub cast_gap : (x y : ℤ) → pos 0 ≤ℤ (x +ℤ pos 1_000_000_000_000_000_000) → x ≤ℤ pos 1_000_000_000_000_000_000 → pos 0 ≤ℤ (y +ℤ pos 1_000_000_000_000_000_000) → y ≤ℤ pos 1_000_000_000_000_000_000 → to_z w64 (of_z w64 (to_z w64 (of_z w64 x) -ℤ to_z w64 (of_z w64 y))) ≡ x -ℤ y
cast_gap x y low high low' high' =
    let fx : FitsSigned w64 x = omega (arith, ints) in
    let fy : FitsSigned w64 y = omega (arith, ints) in
    let fits : FitsSigned w64 (x -ℤ y) = omega (arith, ints) in
    let first : to_z w64 (of_z w64 x) ≡ x = simp to_z-of_z in
    let second : to_z w64 (of_z w64 y) ≡ y = simp to_z-of_z in
    rw (first, second) (simp to_z-of_z)

pub line_same : (d : ℕ) (n : Option ℕ) (w : What) (i i' p p' e e' l l' q q' s s' u u' : ℤ) (m m' : Option ℕ) → i ≡ i' → p ≡ p' → e ≡ e' → l ≡ l' → q ≡ q' → s ≡ s' → u ≡ u' → m ≡ m' → (let x : HistoryLine = record { day = d; number = n; what = w; interest = i; principal = p; escrow = e; late = l; charges = q; suspense = s; upb = u; next = m } in let y : HistoryLine = record { day = d; number = n; what = w; interest = i'; principal = p'; escrow = e'; late = l'; charges = q'; suspense = s'; upb = u'; next = m' } in x ≡ y)
line_same d n w i i' p p' e e' l l' q q' s s' u u' m m' h1 h2 h3 h4 h5 h6 h7 h8 = cc
