-- A loan's books on a day, and by how many days they are late.
use Rattle.std.proofs.Common.{◌≡◌, ℕ, suc, ◌+◌, ◌-◌, ◌≤◌, ◌<◌, true, false, arith, refl, ap}
use Rattle.std.specs.Prelude.{nat_le, Some, None, pos, ◌<ℤ◌, int_lt, if◌then◌else◌}
use Rattle.std.specs.Option.{option_map_or}
use Rattle.std.proofs.lemmas.Bool.Decides.{nat_tests}
use Rattle.svc_base.specs.Calendar.{month_length, day_in_month, last_day}
use Rattle.svc_base.specs.DayLemmas.{month_length_least, month_length_most}
use Rattle.svc_base.proofs.CentsRules.{from_int_lt}
use Rattle.svc_types.specs.declared.terms.Terms.{Terms}
use Rattle.svc_types.specs.declared.books.Books.{Books}
use Rattle.svc_spec.specs.Accounts.{advanced_to, books_of}
use Rattle.svc_spec.specs.Installments.{installment}
use Rattle.svc_world.specs.Held.{Held}
use Rattle.svc_world.specs.Desk.{books_on, days_of_months, late_by, late_days}

-- ---- the books on a day

pub on_or_before : (l : Held) (d today : ℕ) → l.account.today ≡ today → d ≤ today → books_of l.account d ≡ books_on l d
unfolding books_on
on_or_before l d today e le = let at : nat_le d l.account.today ≡ true = grind (arith, nat_tests) in rw at refl

pub after_today : (l : Held) (d today : ℕ) → l.account.today ≡ today → today < d → books_of (advanced_to d l.account) d ≡ books_on l d
unfolding books_on
after_today l d today e lt = let at : nat_le d l.account.today ≡ false = grind (arith, nat_tests) in rw at refl

-- ---- days

-- the days of a month are the place of its last day
pub month_days : (m : ℕ) → day_in_month (last_day m) ≡ month_length m
month_days m = let least = month_length_least m in let most = month_length_most m in omega (arith, least, most)

-- a month more
pub days_more : (m last : ℕ) → m < last → days_of_months m (last - m) ≡ month_length m + days_of_months (m + 1) (last - (m + 1))
days_more m last lt = let e : last - m ≡ suc (last - (m + 1)) = omega (arith, lt) in ap (days_of_months m) e

-- ---- late books have an open installment

pub late_is_open : (t : Terms) (d : ℕ) (b : Books) → 1 ≤ late_days d t b → pos 0 <ℤ b.upb
unfolding late_days
late_is_open t d b some =
    elim (int_lt (pos 0) b.upb) as (λ v. int_lt (pos 0) b.upb ≡ v → 1 ≤ option_map_or (late_by d) (if v then Some (installment t b) else None) 0 → pos 0 <ℤ b.upb) [
      | true ↦ λ e le. from_int_lt (pos 0) b.upb e
      | false ↦ λ e le. absurd (omega (arith, le))
    ] refl some
