-- Late marks within the month in which their installment is due.
use Rattle.std.proofs.Common.{◌≡◌, ℕ, ◌+◌, ◌-◌, ◌*◌, ◌≤◌, sym, ap, ◌∙◌, arith}
use Rattle.svc_base.specs.Calendar.{month_of, month_length, day_in_month, day_after}
use Rattle.svc_base.specs.DayLemmas.{month_length_least}
use Rattle.svc_base.proofs.CalendarLemmas.{day_after_within}
use Rattle.svc_types.specs.declared.terms.Terms.{Terms}
use Rattle.svc_spec.specs.Installments.{due_month}
use Rattle.svc_spec.specs.Events.{late_day}

pub grace_within : (m grace : ℕ) → grace ≤ 26 → grace + 2 ≤ month_length m
grace_within m grace few = omega (arith, month_length_least m)

-- a day that many days after the first of a month, which has as many
within : (m n : ℕ) → n ≤ 27 → day_after (31 * m) n ≡ 31 * m + n
within m n few =
    let same : month_of (31 * m) ≡ m = omega arith in
    let first : day_in_month (31 * m) ≡ 1 = omega arith in
    let least = month_length_least m in
    let inside : day_in_month (31 * m) + n ≤ month_length (month_of (31 * m)) = rw same (omega (arith, first, least, few)) in
    day_after_within (31 * m) n inside

pub late_within : (t : Terms) (k m day : ℕ) → m ≡ due_month t k → t.grace ≤ 26 → day ≡ 31 * m + (t.grace + 2 - 1) → day ≡ late_day t k
late_within t k m day is few at =
    let some : t.grace + 2 - 1 ≡ t.grace + 1 = omega arith in
    at ∙ ap (λ n. 31 * m + n) some ∙ sym (within m (t.grace + 1) (omega (arith, few))) ∙ ap (λ x. day_after (31 * x) (t.grace + 1)) is
