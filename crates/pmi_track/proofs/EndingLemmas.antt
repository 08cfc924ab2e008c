-- The walk over the months: the first that ends the insurance, and its steps.
use Rattle.std.proofs.Common.{◌≡◌, ℕ, zero, suc, ◌+◌, ◌-◌, ◌≤◌, ◌<◌, true, false, [], ◌∷◌, ◌++◌, arith, refl, sym, ap, ◌∙◌}
use Rattle.std.specs.Prelude.{Some, None, ℤ, if◌then◌else◌}
use Rattle.std.specs.List.{range_with_len, sum_by}
use Rattle.std.specs.Option.{option_map}
use Rattle.std.proofs.lemmas.List.Sums.{sum_by-append, sum_by-cons}
use Rattle.svc_base.specs.Calendar.{month_of, first_day}
use Rattle.svc_types.specs.declared.terms.Terms.{Terms}
use Rattle.svc_types.specs.declared.books.Books.{Books}
use Rattle.svc_spec.specs.Accounts.{Account, books_of}
use Rattle.pmi_track.specs.declared.pmi_outcome.Cause.{Cause}
use Rattle.pmi_track.specs.Schedule.{scheduled_on}
use Rattle.pmi_track.specs.Insurance.{ends_with, ends_on, cause_of, end_in, end_on, months_since, automatic_month, automatic_end}
use Rattle.pmi_track.proofs.RangeLemmas.{find_first, find_none}

-- ---- one month

pub ends_told : (a : Account) (b : Books) (t : Terms) (value balance : ℤ) (month : ℕ) → b ≡ books_of a (first_day month) → a.terms ≡ t
    → balance ≡ scheduled_on t (first_day month) → ends_on a value (first_day month) ≡ ends_with b t (first_day month) value balance
ends_told a b t value balance month books terms sched =
    ap (λ x. ends_with x a.terms (first_day month) value (scheduled_on a.terms (first_day month))) (sym books)
    ∙ ap (λ x. ends_with b x (first_day month) value (scheduled_on x (first_day month))) terms
    ∙ ap (ends_with b t (first_day month) value) (sym sched)

pub ended_on : (a : Account) (b : Books) (value : ℤ) (month : ℕ) → b ≡ books_of a (first_day month) → ends_on a value (first_day month) ≡ true
    → Some (first_day month, cause_of b) ≡ end_on a value month
ended_on a b value month books e =
    ap (λ x. Some (first_day month, cause_of x)) books ∙ sym (ap (λ v. if v then Some (end_in a month) else None) e)

pub not_ended_on : (a : Account) (value : ℤ) (month : ℕ) → ends_on a value (first_day month) ≡ false → None ≡ end_on a value month
not_ended_on a value month e = sym (ap (λ v. if v then Some (end_in a month) else None) e)

pub none_ends : (a : Account) (value : ℤ) (month : ℕ) → None ≡ end_on a value month → ends_on a value (first_day month) ≡ false
none_ends a value month e =
    elim (ends_on a value (first_day month)) as (λ v. None ≡ (if v then Some (end_in a month) else None) → v ≡ false) [
      | true ↦ λ x. absurd (cc)
      | false ↦ λ x. refl
    ] e

-- ---- all months

pub automatic_found : (a : Account) (value : ℤ) (month : ℕ) (e : ℕ × Cause) → month_of a.terms.boarded < month → month ≤ month_of a.today
    → ((y : ℕ) → month_of a.terms.boarded + 1 ≤ y → y < month → ends_on a value (first_day y) ≡ false) → Some e ≡ end_on a value month
    → Some e ≡ automatic_end a value
automatic_found a value month e since until before is =
    elim (ends_on a value (first_day month)) as (λ v. ends_on a value (first_day month) ≡ v → Some e ≡ (if v then Some (end_in a month) else None) → Some e ≡ automatic_end a value) [
      | true ↦ λ here same.
          let found : automatic_month a value ≡ Some month =
          find_first (λ m. ends_on a value (first_day m)) (month_of a.terms.boarded + 1) (month_of a.today - month_of a.terms.boarded) month (omega arith) (omega arith) here before
          in
          same ∙ sym (ap (option_map (end_in a)) found)
      | false ↦ λ here same. absurd (cc)
    ] refl is

pub automatic_none : (a : Account) (value : ℤ) → ((y : ℕ) → month_of a.terms.boarded + 1 ≤ y → y ≤ month_of a.today → ends_on a value (first_day y) ≡ false)
    → None ≡ automatic_end a value
automatic_none a value none =
    sym (ap (option_map (end_in a))
    (find_none (λ m. ends_on a value (first_day m)) (month_of a.terms.boarded + 1) (month_of a.today - month_of a.terms.boarded) (λ y low high. none y low (omega arith))))

-- ---- steps

range_more : (a n : ℕ) → range_with_len a (n + 1) ≡ range_with_len a n ++ (a + n) ∷ []
range_more a zero = let e : a ≡ a + 0 = omega arith in ap (λ k. k ∷ []) e
range_more a (suc n) =
    let count : suc n + 1 ≡ suc (n + 1) = omega arith in
    let last : a + 1 + n ≡ a + suc n = omega arith in
    ap (range_with_len a) count ∙ ap (λ xs. a ∷ xs) (range_more (a + 1) n) ∙ ap (λ k. a ∷ (range_with_len (a + 1) n ++ k ∷ [])) last

pub sum_next : (f : ℕ → ℕ) (a n : ℕ) → sum_by f (range_with_len a (n + 1)) ≡ sum_by f (range_with_len a n) + f (a + n)
sum_next f a n =
    let whole = ap (sum_by f) (range_more a n) ∙ sum_by-append f (range_with_len a n) ((a + n) ∷ []) in
    let one = sum_by-cons f (a + n) [] in
    omega (arith, whole, one)

upto : (f : ℕ → ℕ) (a n k : ℕ) → sum_by f (range_with_len a n) ≤ sum_by f (range_with_len a (n + k))
upto f a n zero = let e : n + 0 ≡ n = omega arith in let same = ap (λ m. sum_by f (range_with_len a m)) e in omega (arith, same)
upto f a n (suc k) =
    let rest = upto f a n k in
    let next = sum_next f a (n + k) in
    let e : n + k + 1 ≡ n + suc k = omega arith in
    let same = ap (λ m. sum_by f (range_with_len a m)) e in
    omega (arith, rest, next, same)

-- fewer months cost no more
pub sum_upto : (f : ℕ → ℕ) (a n m : ℕ) → n ≤ m → sum_by f (range_with_len a n) ≤ sum_by f (range_with_len a m)
sum_upto f a n m le =
    let rest = upto f a n (m - n) in
    let e : n + (m - n) ≡ m = omega arith in
    let same = ap (λ k. sum_by f (range_with_len a k)) e in
    omega (arith, rest, same)

-- the steps of some months are within those of all
pub walked_some : (f : ℕ → ℕ) (a : Account) (begin passed old mid : ℕ) → begin ≡ month_of a.terms.boarded + 1 → passed ≤ month_of a.today - month_of a.terms.boarded
    → mid ≤ old + sum_by f (range_with_len begin passed) → mid ≤ old + sum_by f (months_since a)
walked_some f a begin passed old mid first few so_far =
    let same = ap (λ x. sum_by f (range_with_len x passed)) first in
    let whole = sum_upto f (month_of a.terms.boarded + 1) passed (month_of a.today - month_of a.terms.boarded) few in
    omega (arith, same, whole)

-- and those of one month more
pub walked_more : (f : ℕ → ℕ) (begin passed old mid new : ℕ) → mid ≤ old + sum_by f (range_with_len begin passed) → new ≤ mid + f (begin + passed)
    → new ≤ old + sum_by f (range_with_len begin (passed + 1))
walked_more f begin passed old mid new so_far next = let more = sum_next f begin passed in omega (arith, more)
