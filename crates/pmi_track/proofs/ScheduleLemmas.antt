-- The schedule month by month: bounds of its balances, and the count of due installments in closed form.
use Rattle.std.proofs.Common.{◌≡◌, ◌≢◌, ℕ, zero, suc, ◌+◌, ◌-◌, ◌*◌, ◌/◌, ◌≤◌, ◌<◌, min, true, false, cond, ◌∷◌, length, arith, refl, sym, ap, ◌∙◌, subst, add-one}
use Rattle.std.specs.Prelude.{nat_le, ℤ, ◌-ℤ◌}
use Rattle.std.specs.List.{filter, range_with_len}
use Rattle.std.proofs.lemmas.Bool.Decides.{nat_tests}
use Rattle.std.proofs.lemmas.Int.{ints}
use Rattle.svc_base.specs.Calendar.{month_of, first_day}
use Rattle.svc_types.specs.declared.terms.Terms.{Terms}
use Rattle.svc_types.specs.Terms.{IsSound}
use Rattle.svc_spec.specs.Installments.{principal_part}
use Rattle.svc_spec.proofs.InstallmentLemmas.{IsBalance, balance_left}
use Rattle.pmi_track.specs.declared.schedule.Progress.{Progress}
use Rattle.pmi_track.specs.Schedule.{scheduled, due_by, IsProgress}

-- ---- balances

pub scheduled_next : (t : Terms) (k : ℕ) → scheduled t (k + 1) ≡ scheduled t k -ℤ principal_part t (scheduled t k) (k + 1)
unfolding scheduled
scheduled_next t k =
    subst (λ n. scheduled t n ≡ scheduled t k -ℤ principal_part t (scheduled t k) n) (sym (add-one k)) refl

pub scheduled_within : (t : Terms) (k : ℕ) → IsSound t → IsBalance t (scheduled t k)
unfolding scheduled
scheduled_within t zero s = let p = s.principal_low in record { low = omega (arith, ints); high = omega (arith, ints) }
scheduled_within t (suc k) s = balance_left t (scheduled t k) (suc k) s (scheduled_within t k s)

pub scheduled_start : (t : Terms) → scheduled t 0 ≡ t.principal
unfolding scheduled
scheduled_start t = refl

-- ---- installments that are due

counted : (f d a n : ℕ) → 1 ≤ a → length (filter (λ k. nat_le (31 * (f + (k - 1))) d) (range_with_len a n)) ≡ min n (d / 31 + 2 - (f + a))
counted f d a zero h = omega arith
counted f d a (suc n) h =
    let rest = counted f d (a + 1) n (omega arith) in
    elim (nat_le (31 * (f + (a - 1))) d) as (λ v. nat_le (31 * (f + (a - 1))) d ≡ v → length (cond v (a ∷ filter (λ k. nat_le (31 * (f + (k - 1))) d) (range_with_len (a + 1) n)) (filter (λ k. nat_le (31 * (f + (k - 1))) d) (range_with_len (a + 1) n))) ≡ min (suc n) (d / 31 + 2 - (f + a))) [
      | true ↦ λ e. let le : 31 * (f + (a - 1)) ≤ d = grind (arith, nat_tests) in omega (arith, rest)
      | false ↦ λ e. let gt : d < 31 * (f + (a - 1)) = grind (arith, nat_tests) in omega (arith, rest)
    ] refl

-- the installments that are due by a day are those whose months have come
pub due_by_is : (t : Terms) (day : ℕ) → due_by t day ≡ min t.term (month_of day + 1 - t.first)
unfolding due_by
due_by_is t day = let e = counted t.first day 1 t.term (omega arith) in omega (arith, e)

pub due_in_month : (t : Terms) (month : ℕ) → due_by t (first_day month) ≡ min t.term (month + 1 - t.first)
due_in_month t month = let e = due_by_is t (first_day month) in omega (arith, e)

pub due_most : (t : Terms) (day : ℕ) → due_by t day ≤ t.term
due_most t day = let e = due_by_is t day in omega (arith, e)

-- ---- one month more

-- before the first installment nothing is due
pub progress_before : (t : Terms) (month : ℕ) (p : Progress) → 1 ≤ month → month < t.first → IsProgress t (month - 1) p → IsProgress t month p
progress_before t month p some lt h =
    let was = h.due in
    let before = due_in_month t (month - 1) in
    let now = due_in_month t month in
    record { due = omega arith; balance = h.balance }

-- after the last one no more
pub progress_after : (t : Terms) (month : ℕ) (p : Progress) → 1 ≤ month → p.due ≡ t.term → IsProgress t (month - 1) p → IsProgress t month p
progress_after t month p some all h =
    let was = h.due in
    let before = due_in_month t (month - 1) in
    let now = due_in_month t month in
    record { due = omega arith; balance = h.balance }

-- else one more is due
pub progress_next : (t : Terms) (month : ℕ) (p : Progress) (balance : ℤ) → 1 ≤ month → t.first ≤ month → p.due ≢ t.term → IsProgress t (month - 1) p → balance ≡ p.balance -ℤ principal_part t p.balance (p.due + 1) → IsProgress t month (record { due = p.due + 1; balance = balance })
progress_next t month p balance some le left h e =
    let was = h.due in
    let before = due_in_month t (month - 1) in
    let now = due_in_month t month in
    record {
      due = omega arith;
      balance = e ∙ ap (λ b. b -ℤ principal_part t b (p.due + 1)) h.balance ∙ sym (scheduled_next t p.due);
    }

-- fewer than all are due, where one more is to come
pub progress_few : (t : Terms) (month : ℕ) (p : Progress) → IsProgress t month p → p.due ≢ t.term → p.due < t.term
progress_few t month p h left = let was = h.due in let most = due_most t (first_day month) in omega arith

-- in the boarded month nothing is due
pub progress_start : (t : Terms) → IsSound t → IsProgress t (month_of t.boarded) (record { due = 0; balance = t.principal })
progress_start t s =
    let now = due_in_month t (month_of t.boarded) in
    let first = s.first_low in
    record { due = omega arith; balance = sym (scheduled_start t) }

pub progress_within : (t : Terms) (month : ℕ) (p : Progress) → IsSound t → IsProgress t month p → IsBalance t p.balance
progress_within t month p s h = subst (IsBalance t) (sym h.balance) (scheduled_within t p.due s)
