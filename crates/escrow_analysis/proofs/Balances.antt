-- How the balances of a year go on from month to month.
use Rattle.std.proofs.Common.{◌≡◌, ℕ, ◌+◌, ◌*◌, ◌<◌, ℤ, pos, ◌+ℤ◌, ◌-ℤ◌, ◌≤ℤ◌, List, [], ◌∷◌, map, length, get_or, take, take_all, ◌/◌, unsigned_abs, arith, refl, ap, ◌∙◌, sym, subst}
use Rattle.std.proofs.lemmas.Int.{ints}
use Rattle.std.proofs.lemmas.List.Sums.{fold_more}
use Rattle.std.proofs.lemmas.List.Elements.{All-nil, All-cons, All-head, All-tail, All-map}
use Rattle.std.specs.List.{All}
use Rattle.escrow_analysis.specs.AggregateAnalysis.{months, total, cushion, trial, target, balance_after, KeepsCushion, IsLeastOpening}

-- one month more in the total
pub total_more : (year : List ℤ) (k : ℕ) → k < length year → total (take (k + 1) year) ≡ total (take k year) +ℤ get_or year k (pos 0)
total_more year k h = fold_more ◌+ℤ◌ (pos 0) year k (pos 0) h

one_more : (opening paid t t' : ℤ) (n k : ℕ) → t' ≡ t +ℤ paid → opening +ℤ (pos ((k + 1) * n) -ℤ t') ≡ (opening +ℤ (pos (k * n) -ℤ t)) +ℤ (pos n -ℤ paid)
one_more opening paid t t' n k e = omega (arith, ints)

-- one month more: the payment comes in, and what the month pays goes out
pub balance_more : (year : List ℤ) (opening : ℤ) (n k : ℕ) → k < length year → balance_after year opening n (k + 1) ≡ balance_after year opening n k +ℤ (pos n -ℤ get_or year k (pos 0))
balance_more year opening n k h = one_more opening (get_or year k (pos 0)) (total (take k year)) (total (take (k + 1) year)) n k (total_more year k h)

-- the trial balances are those of an account that opens with nothing
pub balance_from_nothing : (year : List ℤ) (n k : ℕ) → balance_after year (pos 0) n k ≡ pos (k * n) -ℤ total (take k year)
balance_from_nothing year n k = omega (arith, ints)

pub balance_step : (year : List ℤ) (opening balance : ℤ) (n k : ℕ) → k < length year → balance ≡ balance_after year opening n k → balance +ℤ (pos n -ℤ get_or year k (pos 0)) ≡ balance_after year opening n (k + 1)
balance_step year opening balance n k h e = ap (λ b. b +ℤ (pos n -ℤ get_or year k (pos 0))) e ∙ sym (balance_more year opening n k h)

map_agree : (f g : ℕ → ℤ) → ((k : ℕ) → f k ≡ g k) → (ks : List ℕ) → map f ks ≡ map g ks
map_agree f g e [] = refl
map_agree f g e (k ∷ ks) = cc (e k, map_agree f g e ks)

-- the balances of an account that opens with nothing are the trial balances
pub trials_are : (year : List ℤ) (t : ℕ) → total year ≡ pos t → map (balance_after year (pos 0) (t / 12)) months ≡ map (trial year) months
trials_are year t e =
    let rate : unsigned_abs (total year) ≡ t = ap unsigned_abs e in
    map_agree _ _ (λ k. balance_from_nothing year (t / 12) k ∙ ap (λ s. pos (k * (s / 12)) -ℤ total (take k year)) (sym rate)) months

-- those of one that opens with the opening are the targets
pub targets_are : (year : List ℤ) (opening : ℤ) (t : ℕ) → total year ≡ pos t → map (balance_after year opening (t / 12)) months ≡ map (target year opening) months
targets_are year opening t e =
    let rate : unsigned_abs (total year) ≡ t = ap unsigned_abs e in
    map_agree _ _ (λ k. ap (λ s. opening +ℤ (pos (k * (s / 12)) -ℤ total (take k year))) (sym rate)) months

All_of_map : (P : ℤ → Type 0) (f : ℕ → ℤ) (ks : List ℕ) → All P (map f ks) → All (λ k. P (f k)) ks
All_of_map P f [] h = All-nil (λ k. P (f k))
All_of_map P f (k ∷ ks) h = All-cons (λ k. P (f k)) k ks (All-head P (f k) (map f ks) h) (All_of_map P f ks (All-tail P (f k) (map f ks) h))

-- the year's last trial balance is no more than nothing, so the opening is at least the cushion
above_from_last : (low other : ℤ) (t : ℕ) (whole : ℤ) → whole ≡ pos t → low ≤ℤ (other +ℤ (pos (12 * (t / 12)) -ℤ whole)) → low ≤ℤ other
above_from_last low other t whole e h = omega (arith, ints)

last_month : (year : List ℤ) (n t : ℕ) (other : ℤ) → unsigned_abs (total year) ≡ t → cushion year n ≡ pos (n * t / 12) → length year ≡ 12 → cushion year n ≤ℤ (other +ℤ trial year 12) → pos (n * t / 12) ≤ℤ (other +ℤ (pos (12 * (t / 12)) -ℤ total year))
last_month year n t other rate low twelve h =
    let whole : take 12 year ≡ year = take_all 12 year (omega (arith, twelve)) in
    let h' : pos (n * t / 12) ≤ℤ (other +ℤ trial year 12) = subst (λ z. z ≤ℤ (other +ℤ trial year 12)) low h in
    let h'' : pos (n * t / 12) ≤ℤ (other +ℤ (pos (12 * (t / 12)) -ℤ total (take 12 year))) = subst (λ s. pos (n * t / 12) ≤ℤ (other +ℤ (pos (12 * (s / 12)) -ℤ total (take 12 year)))) rate h' in
    subst (λ xs. pos (n * t / 12) ≤ℤ (other +ℤ (pos (12 * (t / 12)) -ℤ total xs))) whole h''

pub least_opening_is : (year trials : List ℤ) (n t o : ℕ) → total year ≡ pos t → length year ≡ 12 → trials ≡ map (trial year) months → All (λ balance. pos (n * t / 12) ≤ℤ (pos o +ℤ balance)) trials → ((other : ℤ) → pos (n * t / 12) ≤ℤ other → All (λ balance. pos (n * t / 12) ≤ℤ (other +ℤ balance)) trials → pos o ≤ℤ other) → IsLeastOpening year n (pos o)
least_opening_is year trials n t o e twelve are keeps least =
    let rate : unsigned_abs (total year) ≡ t = ap unsigned_abs e in
    let low : cushion year n ≡ pos (n * t / 12) = ap (λ s. pos (n * s / 12)) rate in
    let kept : All (λ balance. pos (n * t / 12) ≤ℤ (pos o +ℤ balance)) (map (trial year) months) = subst (All (λ balance. pos (n * t / 12) ≤ℤ (pos o +ℤ balance))) are keeps in
    let last : (other : ℤ) → KeepsCushion year n other → pos (n * t / 12) ≤ℤ other = λ other all.
    let month : cushion year n ≤ℤ (other +ℤ trial year 12) = all 11 0 (omega arith) in
    above_from_last (pos (n * t / 12)) other t (total year) e (last_month year n t other rate low twelve month) in
    record {
      keeps = subst (λ z. All (λ k. z ≤ℤ (pos o +ℤ trial year k)) months) (sym low) (All_of_map (λ balance. pos (n * t / 12) ≤ℤ (pos o +ℤ balance)) (trial year) months kept);
      least = λ other all.
          let all' : All (λ k. pos (n * t / 12) ≤ℤ (other +ℤ trial year k)) months = subst (λ z. All (λ k. z ≤ℤ (other +ℤ trial year k)) months) low all in
          least other (last other all) (subst (All (λ balance. pos (n * t / 12) ≤ℤ (other +ℤ balance))) (sym are) (All-map (λ balance. pos (n * t / 12) ≤ℤ (other +ℤ balance)) (trial year) months all'));
    }
