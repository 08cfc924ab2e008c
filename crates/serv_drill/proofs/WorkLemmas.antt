-- Works one after another, and their steps.
use Rattle.std.proofs.Common.{◌≡◌, ℕ, zero, suc, ◌+◌, ◌-◌, ◌≤◌, ◌<◌, List, [], ◌∷◌, ◌++◌, arith, refl, sym, ap, ◌∙◌, add-one, add-zero, inl, inr, ◌⊎◌, ◌*◌, true, false}
use Rattle.std.specs.Prelude.{◌==◌, ◌||◌, if◌then◌else◌}
use Rattle.std.proofs.lemmas.Bool.Decides.{nat_tests}
use Rattle.std.proofs.Math.Nat.{mul-le-mul_right}
use Rattle.svc_base.specs.Calendar.{first_day}
use Rattle.serv_drill.specs.Works.{Work, Do, TakeBack, payment, work_of, late_work_of, each, month_at, month_before, month_from, month_works, state_at, turn, late_before, works}
use Rattle.serv_drill.specs.Machine.{Tally, after_work, after_works, cost_of_works}

pub after_append : (t : Tally) (xs ys : List Work) → after_works t (xs ++ ys) ≡ after_works (after_works t xs) ys
unfolding after_works
after_append t [] ys = refl
after_append t (w ∷ xs) ys = after_append (after_work t w) xs ys

pub cost_append : (t : Tally) (xs ys : List Work) → cost_of_works t (xs ++ ys) ≡ cost_of_works t xs + cost_of_works (after_works t xs) ys
unfolding after_works cost_of_works
cost_append t [] ys = omega arith
cost_append t (w ∷ xs) ys = let rest = cost_append (after_work t w) xs ys in omega (arith, rest)

-- a part of some works, and the next part
pub then_after : (t t1 t2 : Tally) (xs ys : List Work) → t1 ≡ after_works t xs → t2 ≡ after_works t1 ys → t2 ≡ after_works t (xs ++ ys)
then_after t t1 t2 xs ys p q = q ∙ ap (λ s. after_works s ys) p ∙ sym (after_append t xs ys)

pub then_cost : (t t1 : Tally) (xs ys : List Work) (n n1 n2 : ℕ) → t1 ≡ after_works t xs → n1 ≤ n + cost_of_works t xs → n2 ≤ n1 + cost_of_works t1 ys → n2 ≤ n + cost_of_works t (xs ++ ys)
then_cost t t1 xs ys n n1 n2 p a b =
    let both = cost_append t xs ys in
    let same = ap (λ s. cost_of_works s ys) p in
    omega (arith, both, same, a, b)

-- where only a front part was done
pub front_cost : (t : Tally) (xs ys : List Work) (n n1 : ℕ) → n1 ≤ n + cost_of_works t xs → n1 ≤ n + cost_of_works t (xs ++ ys)
front_cost t xs ys n n1 a = let both = cost_append t xs ys in omega (arith, both, a)

-- ---- one index after another

pub each_more : (f : ℕ → List Work) (i : ℕ) → each f (i + 1) ≡ each f i ++ f i
unfolding each
each_more f i = rw add-one refl

pub more_after : (f : ℕ → List Work) (i : ℕ) (t t1 t2 : Tally) → t1 ≡ after_works t (each f i) → t2 ≡ after_works t1 (f i) → t2 ≡ after_works t (each f (i + 1))
more_after f i t t1 t2 p q = then_after t t1 t2 (each f i) (f i) p q ∙ ap (after_works t) (sym (each_more f i))

pub more_cost : (f : ℕ → List Work) (i : ℕ) (t t1 : Tally) (n n1 n2 : ℕ) → t1 ≡ after_works t (each f i) → n1 ≤ n + cost_of_works t (each f i) → n2 ≤ n1 + cost_of_works t1 (f i) → n2 ≤ n + cost_of_works t (each f (i + 1))
more_cost f i t t1 n n1 n2 p a b =
    let whole = then_cost t t1 (each f i) (f i) n n1 n2 p a b in
    let same = ap (cost_of_works t) (each_more f i) in
    omega (arith, whole, same)

-- a front part costs no more than the whole
pub each_cost : (f : ℕ → List Work) (t : Tally) (i k : ℕ) → cost_of_works t (each f i) ≤ cost_of_works t (each f (i + k))
each_cost f t i zero = rw add-zero (omega arith)
each_cost f t i (suc k) =
    let e : i + suc k ≡ (i + k) + 1 = omega arith in
    let same = ap (λ n. cost_of_works t (each f n)) e in
    let more = ap (cost_of_works t) (each_more f (i + k)) in
    let both = cost_append t (each f (i + k)) (f (i + k)) in
    let rest = each_cost f t i k in
    omega (arith, same, more, both, rest)

pub part_cost : (f : ℕ → List Work) (t : Tally) (i k n n1 : ℕ) → i ≤ k → n1 ≤ n + cost_of_works t (each f i) → n1 ≤ n + cost_of_works t (each f k)
part_cost f t i k n n1 h a =
    let e : i + (k - i) ≡ k = omega arith in
    let same = ap (λ m. cost_of_works t (each f m)) e in
    let less = each_cost f t i (k - i) in
    omega (arith, same, less, a)

-- late work of the month before month j
pub late_before-first : (j x loans : ℕ) → j ≡ 0 → late_before j x loans ≡ []
unfolding late_before
late_before-first zero x loans e = refl
late_before-first (suc j) x loans e = absurd (omega arith)

pub late_before-later : (j m x loans : ℕ) → 0 < j → m ≡ month_before j → works late_work_of m x loans ≡ late_before j x loans
unfolding late_before
late_before-later zero m x loans some e = absurd (omega arith)
late_before-later (suc j) m x loans some e = let same : m ≡ month_at j = omega arith in ap (λ k. works late_work_of k x loans) same

-- ---- what a draw asks for

is_free : (r : ℕ) → 7 ≤ r → r ≤ 8 → ((r == 7) || (r == 8)) ≡ true
is_free r low high = grind (arith, nat_tests)

is_paid : (r : ℕ) → (r < 7) ⊎ (8 < r) → ((r == 7) || (r == 8)) ≡ false
is_paid r (inl low) = grind (arith, nat_tests)
is_paid r (inr high) = grind (arith, nat_tests)

pub work_free : (m loan r : ℕ) → 7 ≤ r → r ≤ 8 → work_of m loan r ≡ []
unfolding work_of
work_free m loan r low high = ap (λ b. if b then [] else Do (payment loan (first_day m)) ∷ []) (is_free r low high)

pub work_paid : (m loan r d : ℕ) → (r < 7) ⊎ (8 < r) → d ≡ first_day m → Do (payment loan d) ∷ [] ≡ work_of m loan r
unfolding work_of
work_paid m loan r d h e = ap (λ k. Do (payment loan k) ∷ []) e ∙ sym (ap (λ b. if b then [] else Do (payment loan (first_day m)) ∷ []) (is_paid r h))

is_not : (r k : ℕ) → (r ≡ k → ⊥) → (r == k) ≡ false
is_not r k h = grind (arith, nat_tests)

pub late_8 : (m loan r d : ℕ) → r ≡ 8 → d ≡ first_day m + 9 → Do (payment loan d) ∷ [] ≡ late_work_of m loan r
unfolding late_work_of
late_8 m loan r d e day = ap (λ k. Do (payment loan k) ∷ []) day ∙ sym (ap (late_work_of m loan) e)

pub late_9 : (m loan r : ℕ) → r ≡ 9 → TakeBack loan ∷ [] ≡ late_work_of m loan r
unfolding late_work_of
late_9 m loan r e = sym (ap (late_work_of m loan) e)

pub late_free : (m loan r : ℕ) → (r ≡ 8 → ⊥) → (r ≡ 9 → ⊥) → late_work_of m loan r ≡ []
unfolding late_work_of
late_free m loan r a b =
    ap (λ v. if v then Do (payment loan (first_day m + 9)) ∷ [] else if r == 9 then TakeBack loan ∷ [] else []) (is_not r 8 a)
    ∙ ap (λ v. if v then TakeBack loan ∷ [] else []) (is_not r 9 b)

-- ---- a month

pub month_parts : (j m m' earlier now loans : ℕ) → m ≡ month_before j → m' ≡ month_at j → turn m ++ (late_before j earlier loans ++ works work_of m' now loans) ≡ month_from j earlier now loans
unfolding month_from
month_parts j m m' earlier now loans p q = ap (λ k. turn k ++ (late_before j earlier loans ++ works work_of m' now loans)) p ∙ ap (λ k. turn (month_before j) ++ (late_before j earlier loans ++ works work_of k now loans)) q

pub month_is : (loans number j earlier now : ℕ) → earlier ≡ state_at loans number (j - 1) → now ≡ state_at loans number j → month_from j earlier now loans ≡ month_works loans number j
month_is loans number j earlier now p q = ap (λ x. month_from j x now loans) p ∙ ap (λ x. month_from j (state_at loans number (j - 1)) x loans) q

-- so many commands are made in the first months
pub few_made : (j k : ℕ) → j ≤ 12 → j * k ≤ 12 * k
few_made j k h = mul-le-mul_right k h
