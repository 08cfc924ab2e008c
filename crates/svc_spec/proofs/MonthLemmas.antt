-- The books at the ends of months.
use Rattle.std.proofs.Common.{◌≡◌, ℕ, ◌≤◌, ◌<◌, true, false, arith, refl, ap, ◌∙◌}
use Rattle.std.specs.Prelude.{nat_lt}
use Rattle.std.proofs.lemmas.Bool.Decides.{nat_tests}
use Rattle.svc_base.specs.Calendar.{month_of, day_in_month, month_length, last_day, IsReadDay}
use Rattle.svc_base.specs.DayLemmas.{month_length_most}
use Rattle.svc_spec.specs.Books.{start}
use Rattle.svc_spec.specs.Accounts.{Account, books_of}
use Rattle.svc_spec.specs.Months.{end_day, books_at_end}

pub boarded_some : (d : ℕ) → IsReadDay d → 0 < month_of d
boarded_some d h = let first = h.first in omega arith

within_month : (d m : ℕ) → day_in_month d ≤ month_length (month_of d) → month_of d ≡ m → d ≤ last_day m
within_month d m exists same =
    let length : day_in_month d ≤ month_length m = rw same at exists in
    omega arith

-- a day is not past the end of its month, nor of a later one
pub day_by_end : (d m : ℕ) → IsReadDay d → month_of d ≤ m → d ≤ last_day m
day_by_end d m h le =
    elim (nat_lt (month_of d) m) as (λ v. nat_lt (month_of d) m ≡ v → d ≤ last_day m) [
      | true ↦ λ lt. let before : month_of d < m = grind (arith, nat_tests) in omega arith
      | false ↦ λ ge. let same : month_of d ≡ m = grind (arith, nat_tests) in within_month d m h.exists same
    ] refl

-- a month ends before the next one begins
pub end_before_next : (m d : ℕ) → m < month_of d → last_day m ≤ d
end_before_next m d lt = omega (arith, month_length_most m)

pub before_boarded : (a : Account) (m : ℕ) → m < month_of a.terms.boarded → books_at_end a m ≡ start a.terms
unfolding books_at_end
before_boarded a m lt = let test : nat_lt m (month_of a.terms.boarded) ≡ true = grind (arith, nat_tests) in rw test

pub from_boarded : (a : Account) (m : ℕ) → month_of a.terms.boarded ≤ m → books_at_end a m ≡ books_of a (end_day a m)
unfolding books_at_end
from_boarded a m le = let test : nat_lt m (month_of a.terms.boarded) ≡ false = grind (arith, nat_tests) in rw test

-- of a month that has ended by the business day
pub past_month : (a : Account) (m d : ℕ) → month_of a.terms.boarded ≤ m → d ≡ last_day m → d ≤ a.today → books_at_end a m ≡ books_of a d
past_month a m d le is past = let day : end_day a m ≡ d = omega arith in from_boarded a m le ∙ ap (books_of a) day
