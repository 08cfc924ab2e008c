-- A command that changes a loan from a month on that is not closed: the world stays sound, and the command has
-- no adjustments.
use Rattle.std.proofs.Common.{◌≡◌, ℕ, ◌+◌, ◌≤◌, ◌<◌, true, false, [], map, arith, refl, sym, ap, subst, ◌∙◌}
use Rattle.std.specs.Prelude.{◌==◌, nat_lt, Option, Some, None, IfSome}
use Rattle.std.specs.List.{range_with_len}
use Rattle.std.proofs.lemmas.Bool.Decides.{nat_tests}
use Rattle.svc_base.specs.Calendar.{IsDay, month_of, last_day, month_length}
use Rattle.period_adjust.specs.Changes.{adjustments_of}
use Rattle.period_adjust.specs.Conditions.{first_month, last_month}
use Rattle.period_adjust.specs.Kept.{month_after}
use Rattle.svc_world.specs.Held.{Held, find_loan, changed}
use Rattle.svc_world.specs.LoanDues.{due_of}
use Rattle.svc_world.specs.Reports.{months_of, changes_of}
use Rattle.svc_world.specs.World.{World}
use Rattle.svc_world.specs.Worlds.{IsWorld}
use Rattle.svc_world.specs.Changing.{world_with}
use Rattle.svc_world.proofs.ChangedWorlds.{IsChange, closed_months, first_by, changes_are, change_keeps}
use Rattle.svc_world.proofs.NamedLoans.{named_loan}

-- a change of a loan that is there, from a month on that is not closed
pub record IsQuiet (n : ℕ) (w : World) (id : ℕ) (f : Held → Held) : Type 0 where
  pub few : n < 1_000_000
  pub loan : Held
  pub found : find_loan id w.loans ≡ Some loan
  pub month : ℕ
  pub end : month_after (last_month w.seals.reports) ≤ month
  pub change : IsChange (n + 1) w.today month f loan

pub quiet_keeps : (n id : ℕ) (w : World) (f : Held → Held) → IsWorld n w → IsQuiet n w id f → IsWorld (n + 1) (world_with w id f (n + 1))
quiet_keeps n id w f h q =
    let is = named_loan n w id q.loan h q.found in
    let most = h.reports.held in
    let end = q.end in
    subst (λ i. IsWorld (n + 1) (world_with w i f (n + 1))) is.number
    (change_keeps n q.month w f q.loan h q.few is.found q.change (omega (arith, most, end)))

pub quiet_none : (n id : ℕ) (w : World) (f : Held → Held) → IsWorld n w → IsQuiet n w id f → changes_of (n + 1) (months_of w.seals.reports) w.loans (changed id f w.loans) ≡ []
quiet_none n id w f h q =
    let l = q.loan in
    let m = q.month in
    let reports = w.seals.reports in
    let is = named_loan n w id l h q.found in
    let end = q.end in
    let first = first_by (first_month reports) m 0 w.loans l h.reports.from_first is.found q.change.since in
    let none : closed_months reports m ≡ 0 = omega (arith, end) in
    ap (λ i. changes_of (n + 1) (months_of reports) w.loans (changed i f w.loans)) (sym is.number)
    ∙ changes_are (n + 1) m reports w.loans f l h.reports.sealed.consecutive first h.rising is.found q.change.number q.change.agree q.change.since
    ∙ ap (λ c. adjustments_of (n + 1) l.id (map (due_of l) (range_with_len m c)) (map (due_of (f l)) (range_with_len m c))) none

-- a day after a month's end is of a later month
pub after_month : (last d : ℕ) → IsDay d → last_day last < d → last < month_of d
after_month last d exists lt =
    elim (month_of d == last) as (λ v. (month_of d == last) ≡ v → last < month_of d) [
      | true ↦ λ e.
          let is : month_of d ≡ last = grind (arith, nat_tests) in
          let same : month_length (month_of d) ≡ month_length last = ap month_length is in
          omega (arith, exists, lt, same, is)
      | false ↦ λ e.
          let apart : month_of d ≡ last → ⊥ = grind (arith, nat_tests) in
          elim (nat_lt last (month_of d)) as (λ v. nat_lt last (month_of d) ≡ v → last < month_of d) [
            | true ↦ λ t. grind (arith, nat_tests)
            | false ↦ λ t. let le : month_of d ≤ last = grind (arith, nat_tests) in grind (arith)
          ] refl
    ] refl

-- the business day's month is not closed
pub today_open : (n : ℕ) (w : World) → IsWorld n w → month_after (last_month w.seals.reports) ≤ month_of w.today
today_open n w h = after_all (last_month w.seals.reports) h.reports.ended
  where
    after_all : (o : Option ℕ) → IfSome o (λ last. last_day last < w.today) → month_after o ≤ month_of w.today
    after_all None e = omega arith
    after_all (Some last) e = let later = after_month last w.today h.today.exists e in omega (arith, later)
