-- A year of at most 500 loans has few works.
use Rattle.std.proofs.Common.{◌≡◌, ℕ, zero, suc, ◌+◌, ◌*◌, ◌^◌, ◌<◌, ◌≤◌, List, [], ◌∷◌, ◌++◌, length, arith, length-append, true, false}
use Rattle.std.specs.Prelude.{Bool, ◌==◌, ◌||◌, if◌then◌else◌}
use Rattle.svc_base.specs.Calendar.{first_day}
use Rattle.serv_drill.specs.Draws.{draw}
use Rattle.serv_drill.specs.Works.{Work, Do, TakeBack, each, payment, work_of, late_work_of, works, asked_at, late_before, turn, month_before, month_at, month_from, month_works, asked_at, all_months, boarding_at, boardings, december, first_works, asked_at, year_works}

length_each : (f : ℕ → List Work) (k n : ℕ) → ((i : ℕ) → length (f i) ≤ k) → length (each f n) ≤ n * k
unfolding each
length_each f k zero most = omega arith
length_each f k (suc n) most =
    let rest = length_each f k n most in
    let one = most n in
    let both = length-append (each f n) (f n) in
    omega (arith, rest, one, both)

one_of : (b : Bool) (w : Work) → length (if b then [] else w ∷ []) ≤ 1
one_of true w = omega arith
one_of false w = omega arith

one_of_two : (b b' : Bool) (w w' : Work) → length (if b then w ∷ [] else if b' then w' ∷ [] else []) ≤ 1
one_of_two true b' w w' = omega arith
one_of_two false true w w' = omega arith
one_of_two false false w w' = omega arith

length_work : (month loan r : ℕ) → length (work_of month loan r) ≤ 1
unfolding work_of
length_work month loan r = one_of ((r == 7) || (r == 8)) (Do (payment loan (first_day month)))

length_late : (month loan r : ℕ) → length (late_work_of month loan r) ≤ 1
unfolding late_work_of
length_late month loan r = one_of_two (r == 8) (r == 9) (Do (payment loan (first_day month + 9))) (TakeBack loan)

length_works : (asks : ℕ → ℕ → ℕ → List Work) (month x loans : ℕ) → ((loan r : ℕ) → length (asks month loan r) ≤ 1) → length (works asks month x loans) ≤ loans * 1
unfolding works
length_works asks month x loans one = length_each (asked_at asks month x) 1 loans (λ i. one (i + 1) (draw x i))

length_before : (j x loans : ℕ) → length (late_before j x loans) ≤ loans * 1
unfolding late_before
length_before zero x loans = omega arith
length_before (suc j) x loans = length_works late_work_of (month_at j) x loans (length_late (month_at j))

length_turn : (month : ℕ) → length (turn month) ≡ 3
unfolding turn
length_turn month = omega arith

length_month : (j earlier now loans : ℕ) → length (month_from j earlier now loans) ≤ 3 + 2 * loans
unfolding month_from
length_month j earlier now loans =
    let first = length_turn (month_before j) in
    let late = length_before j earlier loans in
    let this = length_works work_of (month_at j) now loans (length_work (month_at j)) in
    let a = length-append (turn (month_before j)) (late_before j earlier loans ++ works work_of (month_at j) now loans) in
    let b = length-append (late_before j earlier loans) (works work_of (month_at j) now loans) in
    omega (arith, first, late, this, a, b)

length_first : (loans : ℕ) → length (first_works loans) ≤ 4 + loans
unfolding first_works boardings
length_first loans =
    let all = length_each boarding_at 1 loans (λ i. omega arith) in
    let last = length_turn december in
    let both = length-append (each boarding_at loans) (turn december) in
    omega (arith, all, last, both)

pub length_year : (loans number : ℕ) → loans ≤ 500 → length (year_works loans number) < 2 ^ 64
unfolding year_works
length_year loans number few =
    let first = length_first loans in
    let months = length_each (month_works loans number) (3 + 2 * loans) 12 (λ j. length_month j _ _ loans) in
    let both = length-append (first_works loans) (all_months loans number) in
    omega (arith, first, months, both)
