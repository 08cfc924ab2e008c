-- One loan more among those that were counted and listed.
use Rattle.std.proofs.Common.{◌≡◌, ℕ, ◌+◌, ◌≤◌, ◌<◌, Bool, true, false, cond, List, [], ◌∷◌, ◌++◌, length, map, take, get_or, arith, refl, sym, ap, ◌∙◌, rules}
use Rattle.std.specs.Prelude.{not, ◌&&◌, nat_le, ℤ, pos, int_le, int_lt, if◌then◌else◌}
use Rattle.std.specs.List.{filter}
use Rattle.std.proofs.lemmas.Bool.Decides.{nat_tests}
use Rattle.std.proofs.lemmas.List.{take_more, map-append, length-take}
use Rattle.std.proofs.lemmas.List.Elements.{filter-append}
use Rattle.std.proofs.lemmas.List.Filters.{length-filter_more}
use Rattle.svc_spec.proofs.AccountLemmas.{filter_length}
use Rattle.svc_world.specs.declared.desk.AgingCounts.{AgingCounts}
use Rattle.svc_world.specs.Held.{Held, books_now}
use Rattle.svc_world.specs.Desk.{days_late, is_late, late_loan, late_loans, is_current, is_late_from, is_satisfied, counts_of}
use Rattle.svc_desk.specs.Counts.{and, AreUpTo, counts_of_one, one_if}

-- counts are their six numbers
six : ℕ → ℕ → ℕ → ℕ → ℕ → ℕ → AgingCounts
six a b c d e f = record { current = a; late1 = b; late30 = c; late60 = d; late90 = e; satisfied = f }

same_counts : (a b : AgingCounts) → a.current ≡ b.current → a.late1 ≡ b.late1 → a.late30 ≡ b.late30 → a.late60 ≡ b.late60 → a.late90 ≡ b.late90 → a.satisfied ≡ b.satisfied → a ≡ b
unfolding six
same_counts a b e1 e2 e3 e4 e5 e6 =
    ap (λ x. six x a.late1 a.late30 a.late60 a.late90 a.satisfied) e1
    ∙ ap (λ x. six b.current x a.late30 a.late60 a.late90 a.satisfied) e2
    ∙ ap (λ x. six b.current b.late1 x a.late60 a.late90 a.satisfied) e3
    ∙ ap (λ x. six b.current b.late1 b.late30 x a.late90 a.satisfied) e4
    ∙ ap (λ x. six b.current b.late1 b.late30 b.late60 x a.satisfied) e5
    ∙ ap (λ x. six b.current b.late1 b.late30 b.late60 b.late90 x) e6

one_length : (p : Held → Bool) (l : Held) → length (filter p (l ∷ [])) ≡ one_if (p l)
one_length p l = elim (p l) as (λ v. length (cond v (l ∷ []) []) ≡ (if v then 1 else 0)) [ true ↦ refl | false ↦ refl ]

to_one : (b : Bool) → cond b 1 0 ≡ one_if b
to_one true = refl
to_one false = refl

one_more : (p : Held → Bool) (ls : List Held) (i : ℕ) (d : Held) → i < length ls → length (filter p (take i ls)) + length (filter p (get_or ls i d ∷ [])) ≡ length (filter p (take (i + 1) ls))
one_more p ls i d lt =
    let more = length-filter_more p ls i d lt in
    let one = one_length p (get_or ls i d) in
    let same = to_one (p (get_or ls i d)) in
    omega (arith, more, one, same)

pub counts_more : (day : ℕ) (ls : List Held) (i : ℕ) (d : Held) → i < length ls → and (counts_of day (take i ls)) (counts_of day (get_or ls i d ∷ [])) ≡ counts_of day (take (i + 1) ls)
unfolding counts_of
counts_more day ls i d lt =
    same_counts _ _ (one_more (is_current day) ls i d lt) (one_more (is_late_from 1 29 day) ls i d lt) (one_more (is_late_from 30 59 day) ls i d lt)
    (one_more (is_late_from 60 89 day) ls i d lt) (one_more (λ l. nat_le 90 (days_late day l)) ls i d lt) (one_more is_satisfied ls i d lt)

pub late_more : (day : ℕ) (ls : List Held) (i : ℕ) (d : Held) → i < length ls → late_loans day (take i ls) ++ late_loans day (get_or ls i d ∷ []) ≡ late_loans day (take (i + 1) ls)
unfolding late_loans
late_more day ls i d lt =
    let l = get_or ls i d in
    sym (ap (λ xs. map (late_loan day) (filter (is_late day) xs)) (take_more ls i d lt)
    ∙ ap (map (late_loan day)) (filter-append (is_late day) (take i ls) (l ∷ []))
    ∙ map-append (late_loan day) (filter (is_late day) (take i ls)) (filter (is_late day) (l ∷ [])))

-- so many loans are at most so many of each kind
pub counts_few : (day : ℕ) (ls : List Held) (i : ℕ) → i ≤ 11_999 → AreUpTo 11_999 (counts_of day (take i ls))
unfolding counts_of
counts_few day ls i few = record {
  current = within (is_current day);
  late1 = within (is_late_from 1 29 day);
  late30 = within (is_late_from 30 59 day);
  late60 = within (is_late_from 60 89 day);
  late90 = within (λ l. nat_le 90 (days_late day l));
  satisfied = within is_satisfied;
}
  where
    within : (p : Held → Bool) → length (filter p (take i ls)) ≤ 11_999
    within p = let a = filter_length p (take i ls) in let b = length-take i ls in omega (arith, a, b, few)

-- one loan: whether it is late, and how it counts
pub one_listed : (day : ℕ) (l : Held) → 1 ≤ days_late day l → late_loans day (l ∷ []) ≡ late_loan day l ∷ []
unfolding late_loans
one_listed day l some = let e : is_late day l ≡ true = grind (arith, nat_tests) in rw e refl

pub one_passed : (day : ℕ) (l : Held) → days_late day l ≡ 0 → late_loans day (l ∷ []) ≡ []
unfolding late_loans
one_passed day l none = let e : is_late day l ≡ false = grind (arith, nat_tests) in rw e refl

not_satisfied : (z : ℤ) → int_lt (pos 0) z ≡ not (int_le z (pos 0))
not_satisfied z = search rules

pub one_counted : (day : ℕ) (l : Held) (satisfied : Bool) (days : ℕ) → satisfied ≡ is_satisfied l → days ≡ days_late day l → counts_of_one satisfied days ≡ counts_of day (l ∷ [])
unfolding counts_of
one_counted day l satisfied days e f =
    let current : one_if (not satisfied && nat_le days 0) ≡ length (filter (is_current day) (l ∷ [])) = ap (λ v. one_if (not v && nat_le days 0)) e ∙ ap (λ n. one_if (not (is_satisfied l) && nat_le n 0)) f ∙ ap (λ v. one_if (v && nat_le (days_late day l) 0)) (sym (not_satisfied (books_now l).upb)) ∙ sym (one_length (is_current day) l) in
    same_counts _ _ current
    (ap (λ n. one_if (nat_le 1 n && nat_le n 29)) f ∙ sym (one_length (is_late_from 1 29 day) l))
    (ap (λ n. one_if (nat_le 30 n && nat_le n 59)) f ∙ sym (one_length (is_late_from 30 59 day) l))
    (ap (λ n. one_if (nat_le 60 n && nat_le n 89)) f ∙ sym (one_length (is_late_from 60 89 day) l))
    (ap (λ n. one_if (nat_le 90 n)) f ∙ sym (one_length (λ k. nat_le 90 (days_late day k)) l))
    (ap one_if e ∙ sym (one_length is_satisfied l))
