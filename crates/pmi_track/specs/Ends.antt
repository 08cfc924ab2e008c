-- The end of an insurance by itself, and the schedule that it goes by, in the words of the Act.
use Rattle.std.specs.Prelude.{◌≡◌, ◌≢◌, ℕ, suc, ◌<◌, ◌≤◌, ◌⊎◌, true, is_some, ℤ, pos, ◌*ℤ◌, ◌-ℤ◌, ◌≤ℤ◌}
use Rattle.std.specs.Int.{int_min}
use Rattle.svc_base.specs.Calendar.{first_day}
use Rattle.svc_base.specs.Money.{month_interest}
use Rattle.svc_types.specs.declared.terms.Terms.{Terms}
use Rattle.svc_spec.specs.Accounts.{Account, books_of}
use Rattle.svc_spec.specs.Payoff.{is_current}
use Rattle.pmi_track.specs.Schedule.{scheduled, scheduled_on}

-- on a day the borrower is current, and the loan is satisfied or the scheduled balance is at most 78 percent
pub record MayEnd (a : Account) (value : ℤ) (day : ℕ) : Type 0 where
  pub current : is_current a.terms day (books_of a day) ≡ true
  pub low : (is_some (books_of a day).satisfied ≡ true)
      ⊎ ((pos 100 *ℤ scheduled_on a.terms day) ≤ℤ (pos 78 *ℤ value))

-- a first day of a month after the boarded day, at most the business day
pub record IsFirstDay (a : Account) (month : ℕ) : Type 0 where
  pub after : a.terms.boarded < first_day month
  pub until : first_day month ≤ a.today

-- the least such day on which it may end
pub record IsAutomatic (a : Account) (value : ℤ) (month : ℕ) : Type 0 where
  pub day : IsFirstDay a month
  pub ends : MayEnd a value (first_day month)
  pub least : (m : ℕ) → IsFirstDay a m → MayEnd a value (first_day m) → month ≤ m

abbrev pub NeverEnds : Account → ℤ → Type 0
NeverEnds a value = (m : ℕ) → IsFirstDay a m → MayEnd a value (first_day m) → ⊥

-- the balance of each installment, from the one before it
pub record FollowsSchedule (t : Terms) : Type 0 where
  pub begin : scheduled t 0 ≡ t.principal
  pub step : (k : ℕ) → suc k ≢ t.term
      → scheduled t (suc k) ≡ scheduled t k -ℤ int_min (scheduled t k) (t.pi -ℤ month_interest (scheduled t k) t.rate)
  pub end : scheduled t t.term ≡ pos 0
