-- Running sums of each loan: where a loan's stand, and what one more adjustment does.
use Rattle.std.proofs.Common.{◌≡◌, ◌≢◌, ℕ, zero, suc, ◌<◌, ◌≤◌, Bool, true, false, List, [], ◌∷◌, ◌++◌, length, take, drop, get_or, set, ltb, ℤ, pos, ◌+ℤ◌, refl, arith, ap, sym, ◌∙◌, subst, inl, inr}
use Rattle.std.specs.Prelude.{◌==◌, ◌||◌, if◌then◌else◌, FitsSigned, Result, Ok, Err, MatchResult}
use Rattle.std.specs.Result.{is_ok}
use Rattle.std.specs.Int.{w64}
use Rattle.std.specs.List.{All, AllWithin, insert, list_any}
use Rattle.std.specs.List.Sorted.{IsPartitionPoint, IsNonDecreasingBy, IsPartitionedBy}
use Rattle.std.proofs.lemmas.Int.{ints}
use Rattle.std.proofs.lemmas.Bool.{cases_lt}
use Rattle.std.proofs.lemmas.Bool.Decides.{nat_tests}
use Rattle.std.proofs.lemmas.List.{get_or_default, take_all, take-append-drop, take-append-le}
use Rattle.std.proofs.lemmas.List.Folds.{list_any-append, list_any_none, list_any_at}
use Rattle.std.proofs.Math.Seq.{take-append_seam}
use Rattle.std.proofs.lemmas.List.Sorted.{IsPartitionedBy-ltb}
use Rattle.svc_base.specs.Sums.{total_by}
use Rattle.svc_base.proofs.SumLemmas.{total_by-zero, total_by-insert, total_by-push}
use Rattle.period_adjust.specs.declared.adjustment.Adjustment.{Adjustment}
use Rattle.period_adjust.specs.declared.loan_sums.LoanSums.{LoanSums}
use Rattle.period_adjust.specs.Sums.{DuePart, Interest, Principal, part_of_adjustment, share}
use Rattle.period_adjust.specs.Pending.{part_of_running, running, is_of, is_kept_of, IsRisingByLoan, AreRunning, SumsFit}
use Rattle.period_adjust.specs.Places.{IsPlaceOf, IsPlaceFor, IsSumWith}
use Rattle.svc_types.proofs.OrderLemmas.{pairs_head, pairs_tail}

-- each one's loan is above that of the one before
abbrev pub sums_by_loan : LoanSums → LoanSums → Type 0
sums_by_loan s t = s.loan < t.loan

-- sums of nothing
abbrev pub zero_sums : ℕ → LoanSums
zero_sums loan = record { loan = loan; interest = pos 0; principal = pos 0 }

-- Where a loan's sums stand.

rising_loans : (ss : List LoanSums) → IsRisingByLoan ss → IsNonDecreasingBy (λ s. s.loan) ss
rising_loans ss h i j d le lt = elim (cases_lt i j) [
  | inl less ↦ let below : (get_or ss i d).loan < (get_or ss j d).loan = h i j d less lt in omega arith
  | inr more ↦ let same : i ≡ j = omega arith in subst (λ (k : ℕ). (get_or ss i d).loan ≤ (get_or ss k d).loan) same (omega arith)
]

pub partitioned : (ss : List LoanSums) (loan : ℕ) → IsRisingByLoan ss → IsPartitionedBy (λ s. ltb s.loan loan) ss
partitioned ss loan h = IsPartitionedBy-ltb (λ (s : LoanSums). s.loan) ss loan (rising_loans ss h)

abbrev pub IsPoint : List LoanSums → ℕ → ℕ → Type 0
IsPoint ss loan i = IsPartitionPoint (λ s. ltb s.loan loan ≡ true) (λ s. ltb s.loan loan ≡ false) ss i

below_point : (ss : List LoanSums) (loan i : ℕ) → IsPoint ss loan i → AllWithin (λ s. s.loan < loan) ss 0 i
below_point ss loan i point = λ k d low high.
    let less : ltb (get_or ss k d).loan loan ≡ true = point.0 k d low high in
    grind (arith, nat_tests)

from_point : (ss : List LoanSums) (loan i : ℕ) → IsPoint ss loan i → AllWithin (λ s. loan ≤ s.loan) ss i (length ss)
from_point ss loan i point = λ k d low high.
    let more : ltb (get_or ss k d).loan loan ≡ false = point.1 k d low high in
    grind (arith, nat_tests)

-- after the last
pub place_at_end : (ss : List LoanSums) (loan i : ℕ) → IsPoint ss loan i → i ≡ length ss → IsPlaceFor ss loan i
place_at_end ss loan i point end = record {
  bound = omega arith;
  below = below_point ss loan i point;
  above = λ k d low high. absurd (omega arith);
}

-- before another loan
pub place_between : (ss : List LoanSums) (loan i : ℕ) (d : LoanSums) → IsRisingByLoan ss → IsPoint ss loan i → i < length ss → (get_or ss i d).loan ≢ loan → IsPlaceFor ss loan i
place_between ss loan i d up point in' apart =
    let here : loan ≤ (get_or ss i d).loan = from_point ss loan i point i d (omega arith) in' in
    let first : loan < (get_or ss i d).loan = omega arith in
    record {
      bound = omega arith;
      below = below_point ss loan i point;
      above = λ k e low high.
          elim (cases_lt i k) as (λ _. loan < (get_or ss k e).loan) [
            | inl less ↦
                let later : (get_or ss i e).loan < (get_or ss k e).loan = up i k e less high in
                let at : loan ≤ (get_or ss i e).loan = from_point ss loan i point i e (omega arith) in' in
                omega arith
            | inr more ↦
                let same : k ≡ i = omega arith in
                let at : (get_or ss k e).loan ≡ (get_or ss i d).loan = ap (λ (j : ℕ). (get_or ss j e).loan) same ∙ ap (λ (t : LoanSums). t.loan) (get_or_default ss i e d in') in
                omega arith
          ];
    }

-- What the sums say of a loan.

own_running : (p : DuePart) (loan : ℕ) (s : LoanSums) → s.loan ≡ loan → running p loan s ≡ part_of_running p s
own_running p loan s h =
    let own : (s.loan == loan) ≡ true = grind (arith, nat_tests) in
    rw own refl

other_running : (p : DuePart) (loan : ℕ) (s : LoanSums) → s.loan ≢ loan → running p loan s ≡ pos 0
other_running p loan s h =
    let apart : (s.loan == loan) ≡ false = grind (arith, nat_tests) in
    rw apart refl

-- of a loan that has none
pub running-absent : (p : DuePart) (ss : List LoanSums) (loan i : ℕ) → IsPlaceFor ss loan i → total_by (running p loan) ss ≡ pos 0
running-absent p ss loan i h =
    total_by-zero (running p loan) ss (λ k d l. other_running p loan (get_or ss k d) (λ same.
    elim (cases_lt k i) as (λ _. ⊥) [
      | inl less ↦ let below : (get_or ss k d).loan < loan = h.below k d (omega arith) less in absurd (omega arith)
      | inr more ↦ let above : loan < (get_or ss k d).loan = h.above k d more l in absurd (omega arith)
    ]))

later_running : (p : DuePart) (loan : ℕ) (ss : List LoanSums) → All (λ s. loan < s.loan) ss → total_by (running p loan) ss ≡ pos 0
later_running p loan ss h =
    total_by-zero (running p loan) ss (λ k d l. other_running p loan (get_or ss k d) (λ same. let above : loan < (get_or ss k d).loan = h k d l in absurd (omega arith)))

-- of a loan that has some
pub running-found : (p : DuePart) (ss : List LoanSums) (loan i : ℕ) (d : LoanSums) → IsRisingByLoan ss → i < length ss → (get_or ss i d).loan ≡ loan → total_by (running p loan) ss ≡ part_of_running p (get_or ss i d)
running-found p [] loan i d up in' is = absurd (omega arith)
running-found p (s ∷ ss) loan zero d up in' is =
    let here : running p loan s ≡ part_of_running p s = own_running p loan s is in
    let above : All (λ (t : LoanSums). loan < t.loan) ss = subst (λ (n : ℕ). All (λ (t : LoanSums). n < t.loan) ss) is (pairs_head sums_by_loan s ss up) in
    let rest = later_running p loan ss above in
    omega (arith, ints)
running-found p (s ∷ ss) loan (suc i) d up in' is =
    let below : s.loan < (get_or ss i d).loan = pairs_head sums_by_loan s ss up i d (omega arith) in
    let apart : s.loan ≢ loan = λ same. absurd (omega arith) in
    let here : running p loan s ≡ pos 0 = other_running p loan s apart in
    let rest = running-found p ss loan i d (pairs_tail sums_by_loan s ss up) (omega arith) is in
    omega (arith, ints)

-- Sums of 0 that are put in.

none_running : (p : DuePart) (loan other : ℕ) → running p other (zero_sums loan) ≡ pos 0
none_running Interest loan other = elim (loan == other) as (λ t. (if t then pos 0 else pos 0) ≡ pos 0) [ true ↦ refl | false ↦ refl ]
none_running Principal loan other = elim (loan == other) as (λ t. (if t then pos 0 else pos 0) ≡ pos 0) [ true ↦ refl | false ↦ refl ]

pub running-insert : (p : DuePart) (other loan : ℕ) (ss : List LoanSums) (i : ℕ) → total_by (running p other) (insert ss i (zero_sums loan)) ≡ total_by (running p other) ss
running-insert p other loan ss i =
    let whole : total_by (running p other) (take i ss ++ drop i ss) ≡ total_by (running p other) ss = ap (total_by (running p other)) (take-append-drop i ss) in
    let nothing : running p other (zero_sums loan) ≡ pos 0 = none_running p loan other in
    omega (arith, ints, total_by-insert (running p other) (take i ss) (drop i ss) (zero_sums loan))

-- One more adjustment.

total_by-set : {A : Type 0} (f : A → ℤ) (xs : List A) (i : ℕ) (d y : A) → i < length xs → total_by f (set xs i y) +ℤ f (get_or xs i d) ≡ total_by f xs +ℤ f y
total_by-set f [] i d y in' = absurd (omega arith)
total_by-set f (x ∷ xs) zero d y in' = omega (arith, ints)
total_by-set f (x ∷ xs) (suc i) d y in' = omega (arith, ints, total_by-set f xs i d y (omega arith))

running_parts : (p : DuePart) (a : Adjustment) (x y : LoanSums) → IsSumWith x a y → part_of_running p y ≡ part_of_running p x +ℤ part_of_adjustment p a
running_parts Interest a x y sum = sum.interest
running_parts Principal a x y sum = sum.principal

running-sum : (p : DuePart) (loan : ℕ) (a : Adjustment) (x y : LoanSums) → x.loan ≡ a.loan → IsSumWith x a y → running p loan y ≡ running p loan x +ℤ share p loan a
running-sum p loan a x y own sum =
    let test : (y.loan == loan) ≡ (a.loan == loan) = ap (λ n. n == loan) (sum.own ∙ own) in
    let test' : (x.loan == loan) ≡ (a.loan == loan) = ap (λ n. n == loan) own in
    let parts : part_of_running p y ≡ part_of_running p x +ℤ part_of_adjustment p a = running_parts p a x y sum in
    rw (test, test')
    (elim (a.loan == loan) as (λ t. (if t then part_of_running p y else pos 0) ≡ (if t then part_of_running p x else pos 0) +ℤ (if t then part_of_adjustment p a else pos 0)) [
      | true ↦ parts
      | false ↦ omega (arith, ints)
    ])

pub running-set : (p : DuePart) (loan : ℕ) (a : Adjustment) (ss : List LoanSums) (i : ℕ) (d y : LoanSums) → IsPlaceOf ss a.loan i → IsSumWith (get_or ss i d) a y → total_by (running p loan) (set ss i y) ≡ total_by (running p loan) ss +ℤ share p loan a
running-set p loan a ss i d y place sum =
    let moved = total_by-set (running p loan) ss i d y place.bound in
    let adds = running-sum p loan a (get_or ss i d) y (place.own d) sum in
    omega (arith, ints)

own_share : (p : DuePart) (a : Adjustment) → share p a.loan a ≡ part_of_adjustment p a
own_share p a =
    let own : (a.loan == a.loan) ≡ true = grind (arith, nat_tests) in
    rw own refl

-- its loan's sums with it are numbers of 64 bits
pub push_fits : (xs : List Adjustment) (a : Adjustment) (ss : List LoanSums) (p : DuePart) → AreRunning xs ss → SumsFit (xs ++ a ∷ []) → FitsSigned w64 (total_by (running p a.loan) ss +ℤ part_of_adjustment p a)
push_fits xs a ss p are fit =
    let whole : take (length (xs ++ a ∷ [])) (xs ++ a ∷ []) ≡ xs ++ a ∷ [] = take_all (length (xs ++ a ∷ [])) (xs ++ a ∷ []) (omega arith) in
    let fits : FitsSigned w64 (total_by (share p a.loan) (xs ++ a ∷ [])) = subst (λ (ys : List Adjustment). FitsSigned w64 (total_by (share p a.loan) ys)) whole (fit (length (xs ++ a ∷ [])) p a.loan) in
    let more : total_by (share p a.loan) (xs ++ a ∷ []) ≡ total_by (running p a.loan) ss +ℤ part_of_adjustment p a = omega (arith, ints, total_by-push (share p a.loan) xs a, are.exact p a.loan, own_share p a) in
    subst (λ (z : ℤ). FitsSigned w64 z) more fits

-- Of which loans sums are kept.

pub kept-found : (ss : List LoanSums) (loan i : ℕ) (d : LoanSums) → i < length ss → (get_or ss i d).loan ≡ loan → list_any (is_kept_of loan) ss ≡ true
kept-found ss loan i d in' is = list_any_at (is_kept_of loan) ss i d in' (grind (arith, nat_tests))

pub kept-absent : (ss : List LoanSums) (loan i : ℕ) → IsPlaceFor ss loan i → list_any (is_kept_of loan) ss ≡ false
kept-absent ss loan i h =
    list_any_none (is_kept_of loan) ss (λ k d l.
    elim (cases_lt k i) as (λ _. ((get_or ss k d).loan == loan) ≡ false) [
      | inl less ↦ let below : (get_or ss k d).loan < loan = h.below k d (omega arith) less in grind (arith, nat_tests)
      | inr more ↦ let above : loan < (get_or ss k d).loan = h.above k d more l in grind (arith, nat_tests)
    ])

-- what a look-up of a loan's place says of it
pub kept-looked-up : (ss : List LoanSums) (loan : ℕ) (r : Result ℕ ℕ) → MatchResult r (IsPlaceOf ss loan) (IsPlaceFor ss loan) → is_ok r ≡ list_any (is_kept_of loan) ss
kept-looked-up ss loan (Ok i) h = sym (kept-found ss loan i (zero_sums loan) h.bound (h.own (zero_sums loan)))
kept-looked-up ss loan (Err i) h = sym (kept-absent ss loan i h)

-- where sums of the loan are kept already
pub kept-there : (ss : List LoanSums) (loan i : ℕ) (d : LoanSums) (other : ℕ) → i < length ss → (get_or ss i d).loan ≡ loan → list_any (is_kept_of other) ss ≡ (list_any (is_kept_of other) ss || (loan == other))
kept-there ss loan i d other in' is =
    elim (loan == other) as (λ v. (loan == other) ≡ v → list_any (is_kept_of other) ss ≡ (list_any (is_kept_of other) ss || v)) [
      | true ↦ λ same.
          let here : loan ≡ other = grind (arith, nat_tests) in
          let there : list_any (is_kept_of other) ss ≡ true = kept-found ss other i d in' (is ∙ here) in
          rw there refl
      | false ↦ λ apart. or_false (list_any (is_kept_of other) ss)
    ] refl
  where
    or_false : (b : Bool) → b ≡ (b || false)
    or_false true = refl
    or_false false = refl

pub kept-insert : (other loan : ℕ) (ss : List LoanSums) (i : ℕ) → list_any (is_kept_of other) (insert ss i (zero_sums loan)) ≡ (list_any (is_kept_of other) ss || (loan == other))
kept-insert other loan ss i =
    let whole = sym (list_any-append (is_kept_of other) (take i ss) (drop i ss)) ∙ ap (list_any (is_kept_of other)) (take-append-drop i ss) in
    list_any-append (is_kept_of other) (take i ss) (zero_sums loan ∷ drop i ss)
    ∙ among (list_any (is_kept_of other) (take i ss)) (loan == other) (list_any (is_kept_of other) (drop i ss))
    ∙ ap (λ b. b || (loan == other)) whole
  where
    among : (a b c : Bool) → (a || (b || c)) ≡ ((a || c) || b)
    among true true c = elim c as (λ v. (true || (true || v)) ≡ ((true || v) || true)) [ true ↦ refl | false ↦ refl ]
    among true false c = elim c as (λ v. (true || (false || v)) ≡ ((true || v) || false)) [ true ↦ refl | false ↦ refl ]
    among false true c = elim c as (λ v. (false || (true || v)) ≡ ((false || v) || true)) [ true ↦ refl | false ↦ refl ]
    among false false c = elim c as (λ v. (false || (false || v)) ≡ ((false || v) || false)) [ true ↦ refl | false ↦ refl ]

kept-same : (other : ℕ) (ss : List LoanSums) (i : ℕ) (d y : LoanSums) → y.loan ≡ (get_or ss i d).loan → list_any (is_kept_of other) (set ss i y) ≡ list_any (is_kept_of other) ss
kept-same other [] i d y is = refl
kept-same other (s ∷ ss) zero d y is = ap (λ n. (n == other) || list_any (is_kept_of other) ss) is
kept-same other (s ∷ ss) (suc i) d y is = ap (λ b. (s.loan == other) || b) (kept-same other ss i d y is)

pub kept-set : (other : ℕ) (a : Adjustment) (ss : List LoanSums) (i : ℕ) (d y : LoanSums) → IsSumWith (get_or ss i d) a y → list_any (is_kept_of other) (set ss i y) ≡ list_any (is_kept_of other) ss
kept-set other a ss i d y sum = kept-same other ss i d y sum.own

-- the sums with it are those of the adjustments with it
pub push_running : (xs : List Adjustment) (a : Adjustment) (ss ts : List LoanSums) → AreRunning xs ss → IsRisingByLoan ts → ((p : DuePart) (loan : ℕ) → total_by (running p loan) ts ≡ total_by (running p loan) ss +ℤ share p loan a) → ((loan : ℕ) → list_any (is_kept_of loan) ts ≡ (list_any (is_kept_of loan) ss || (a.loan == loan))) → AreRunning (xs ++ a ∷ []) ts
push_running xs a ss ts are up adds there = record {
  rising = up;
  exact = λ p loan. omega (arith, ints, total_by-push (share p loan) xs a, are.exact p loan, adds p loan);
  there = λ loan.
      there loan ∙ ap (λ b. b || (a.loan == loan)) (are.there loan)
      ∙ last (list_any (is_of loan) xs) (a.loan == loan)
      ∙ sym (list_any-append (is_of loan) xs (a ∷ []));
}
  where
    last : (b c : Bool) → (b || c) ≡ (b || (c || false))
    last true true = refl
    last true false = refl
    last false true = refl
    last false false = refl

-- sums of the first adjustments alone
pub fits_front : (xs ys : List Adjustment) → SumsFit (xs ++ ys) → SumsFit xs
fits_front xs ys fit k p loan =
    elim (cases_lt (length xs) k) as (λ _. FitsSigned w64 (total_by (share p loan) (take k xs))) [
      | inl more ↦
          let all : take k xs ≡ xs = take_all k xs (omega arith) in
          subst (λ (zs : List Adjustment). FitsSigned w64 (total_by (share p loan) zs)) (take-append_seam xs ys ∙ sym all) (fit (length xs) p loan)
      | inr few ↦
          subst (λ (zs : List Adjustment). FitsSigned w64 (total_by (share p loan) zs)) (take-append-le k xs ys few) (fit k p loan)
    ]
