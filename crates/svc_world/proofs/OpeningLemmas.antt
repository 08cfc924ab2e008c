-- The least opening of a year is the greatest of the cushion and of what each month's trial balance lacks to it.
use Rattle.std.proofs.Common.{◌≡◌, ℕ, ◌*◌, ◌/◌, List, [], ◌∷◌, length, take, arith, sym, subst}
use Rattle.std.specs.Prelude.{ℤ, pos, negsuc, ◌+ℤ◌, ◌-ℤ◌, ◌≤ℤ◌, unsigned_abs, fold}
use Rattle.std.specs.Int.{int_max}
use Rattle.std.specs.List.{All}
use Rattle.std.proofs.lemmas.Int.{ints, clamps}
use Rattle.std.proofs.lemmas.List.{take_all}
use Rattle.std.proofs.lemmas.List.Elements.{All-cons, All-head, All-tail, All-nil}
use Rattle.escrow_analysis.specs.AggregateAnalysis.{months, total, base, cushion, trial, target, IsLeastOpening}
use Rattle.svc_world.specs.Analysing.{least_opening}

most : (ℕ → ℤ) → ℤ → List ℕ → ℤ
most g z ks = fold (λ x k. int_max x (g k)) z ks

most_low : (g : ℕ → ℤ) (z : ℤ) (ks : List ℕ) → z ≤ℤ most g z ks
unfolding most
most_low g z [] = omega (arith, ints)
most_low g z (k ∷ ks) = let rest = most_low g (int_max z (g k)) ks in omega (arith, ints, clamps, rest)

most_high : (m : ℤ) (g : ℕ → ℤ) (z : ℤ) (ks : List ℕ) → z ≤ℤ m → All (λ k. g k ≤ℤ m) ks → most g z ks ≤ℤ m
unfolding most
most_high m g z [] le h = le
most_high m g z (k ∷ ks) le h =
    let here = All-head (λ x. g x ≤ℤ m) k ks h in
    most_high m g (int_max z (g k)) ks (omega (arith, ints, clamps, le, here)) (All-tail (λ x. g x ≤ℤ m) k ks h)

most_all : (g : ℕ → ℤ) (z : ℤ) (ks : List ℕ) → All (λ k. g k ≤ℤ most g z ks) ks
unfolding most
most_all g z [] = All-nil (λ k. g k ≤ℤ z)
most_all g z (k ∷ ks) =
    let m = most g (int_max z (g k)) ks in
    let low = most_low g (int_max z (g k)) ks in
    All-cons (λ x. g x ≤ℤ m) k ks (omega (arith, ints, clamps, low)) (most_all g (int_max z (g k)) ks)

each_lack : (year : List ℤ) (n : ℕ) (o : ℤ) (ks : List ℕ) → All (λ k. cushion year n ≤ℤ target year o k) ks → All (λ k. (cushion year n -ℤ trial year k) ≤ℤ o) ks
each_lack year n o ks h = λ i d lt. let one = h i d lt in omega (arith, ints, one)

each_kept : (year : List ℤ) (n : ℕ) (o : ℤ) (ks : List ℕ) → All (λ k. (cushion year n -ℤ trial year k) ≤ℤ o) ks → All (λ k. cushion year n ≤ℤ target year o k) ks
each_kept year n o ks h = λ i d lt. let one = h i d lt in omega (arith, ints, one)

-- an opening that keeps the cushion, is not below it, and is the least one to keep it
pub opening_is : (year : List ℤ) (n : ℕ) (o : ℤ) → IsLeastOpening year n o → cushion year n ≤ℤ o → o ≡ least_opening year n
unfolding most
opening_is year n o h above =
    let g : ℕ → ℤ = λ k. cushion year n -ℤ trial year k in
    let high = most_high o g (cushion year n) months above (each_lack year n o months h.keeps) in
    let keeps = each_kept year n (least_opening year n) months (most_all g (cushion year n) months) in
    let low = h.least (least_opening year n) keeps in
    omega (arith, ints, high, low)

-- ---- of a year with 12 months, nothing of which is negative, it is the least one to keep the cushion

total_low : (z : ℤ) (xs : List ℤ) → pos 0 ≤ℤ z → All (λ c. pos 0 ≤ℤ c) xs → pos 0 ≤ℤ fold ◌+ℤ◌ z xs
total_low z [] low h = low
total_low z (x ∷ xs) low h =
    let first = All-head (λ c. pos 0 ≤ℤ c) x xs h in
    total_low (z +ℤ x) xs (omega (arith, ints, low, first)) (All-tail (λ c. pos 0 ≤ℤ c) x xs h)

last_at_most : (t : ℤ) → pos 0 ≤ℤ t → (pos (12 * unsigned_abs (pos (unsigned_abs t / 12))) -ℤ t) ≤ℤ pos 0
last_at_most (pos t) low = omega (arith, ints)
last_at_most (negsuc t) low = absurd (omega (arith, ints, low))

-- after the twelfth payment no more was paid in than was paid out
last_trial : (year : List ℤ) → length year ≡ 12 → All (λ c. pos 0 ≤ℤ c) year → trial year 12 ≤ℤ pos 0
last_trial year twelve all =
    let whole : take 12 year ≡ year = take_all 12 year (omega arith) in
    subst (λ xs. (pos (12 * unsigned_abs (base year)) -ℤ total xs) ≤ℤ pos 0) (sym whole) (last_at_most (total year) (total_low (pos 0) year (omega (arith, ints)) all))

pub is_least : (year : List ℤ) (n : ℕ) → length year ≡ 12 → All (λ c. pos 0 ≤ℤ c) year → IsLeastOpening year n (least_opening year n)
unfolding most
is_least year n twelve all =
    let g : ℕ → ℤ = λ k. cushion year n -ℤ trial year k in
    let last = last_trial year twelve all in
    record {
      keeps = each_kept year n (least_opening year n) months (most_all g (cushion year n) months);
      least = λ other h.
          let lacks = each_lack year n other months h in
          let end = lacks 11 0 (omega arith) in
          most_high other g (cushion year n) months (omega (arith, ints, last, end)) lacks;
    }
