-- The schedule of a loan: which installments are due, and the balance that they leave where each is paid when
-- it is due (12 U.S.C. 4901, 'amortization schedule').
use Rattle.std.specs.Prelude.{◌≡◌, ℕ, zero, suc, nat_le, length, ℤ, ◌-ℤ◌}
use Rattle.std.specs.List.{filter, range_with_len}
use Rattle.svc_base.specs.Calendar.{first_day}
use Rattle.svc_types.specs.declared.terms.Terms.{Terms}
use Rattle.svc_spec.specs.Installments.{due_day, principal_part}
use Rattle.pmi_track.specs.declared.schedule.Progress.{Progress}

-- the scheduled balance after k installments; at the term it is 0
unfoldable pub scheduled : Terms → ℕ → ℤ
scheduled t zero = t.principal
scheduled t (suc k) = scheduled t k -ℤ principal_part t (scheduled t k) (suc k)

-- how many installments are due on or before a day
unfoldable pub due_by : Terms → ℕ → ℕ
due_by t day = length (filter (λ k. nat_le (due_day t k) day) (range_with_len 1 t.term))

-- the scheduled balance on a day
abbrev pub scheduled_on : Terms → ℕ → ℤ
scheduled_on t day = scheduled t (due_by t day)

-- how far the schedule has come on the first day of a month: the installments that are due, and their balance
pub record IsProgress (t : Terms) (month : ℕ) (p : Progress) : Type 0 where
  pub due : p.due ≡ due_by t (first_day month)
  pub balance : p.balance ≡ scheduled t p.due
