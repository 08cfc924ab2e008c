-- Commands on all loans: what is kept of each, and what they cost.
use Rattle.std.proofs.Common.{◌≡◌, ℕ, ◌+◌, ◌≤◌, max, List, [], ◌∷◌, map, ℤ, arith, refl, sym, ap, ◌∙◌}
use Rattle.std.specs.Prelude.{None, sum_by}
use Rattle.std.specs.List.{All}
use Rattle.std.proofs.lemmas.List.Elements.{All-head, All-tail, All-cons, All-nil}
use Rattle.std.proofs.lemmas.List.Sums.{sum_by-cons}
use Rattle.svc_base.specs.Calendar.{month_of}
use Rattle.svc_types.specs.declared.requests.Command.TheVariants as command
use Rattle.svc_spec.specs.Accounts.{Account, advanced_to}
use Rattle.period_adjust.specs.Sealed.{Reporting, State}
use Rattle.period_adjust.specs.Conditions.{last_month}
use Rattle.period_adjust.specs.Kept.{month_after}
use Rattle.svc_world.specs.Held.{Held, boarded_month, on_day}
use Rattle.svc_world.specs.Reports.{months_of, changes_of}
use Rattle.svc_world.specs.World.{World, loans_after, seals_after, after}
use Rattle.svc_world.specs.Custody.{remitted_for}
use Rattle.svc_world.specs.Refusals.{refusal_of}
use Rattle.svc_world.proofs.DayWorlds.{day_later, day_none, none_pending}
use Rattle.svc_loan.specs.Kept.{KeptLoan}
use Rattle.svc_loan.specs.Loans.{KeptLoans, held_in, closed_in, remitted_in, advance_cost}
use Rattle.svc_loan.proofs.EachLemmas.{held_mapped}
use Rattle.svc_custody.specs.Cash.{IsKeptIn}
use Rattle.svc_core.specs.Costs.{advancing_cost}
use Rattle.svc_core.specs.State.{world_of, IsState}

-- ---- all that is kept

-- what holds of all that is held of loans
pub of_held : (P : Held → Type 0) (ks : List KeptLoan) → All P (held_in ks) → All (λ (k : KeptLoan). P k.held) ks
of_held P [] h = All-nil (λ (k : KeptLoan). P k.held)
of_held P (k ∷ ks) h = All-cons (λ (j : KeptLoan). P j.held) k ks (All-head P k.held (held_in ks) h) (of_held P ks (All-tail P k.held (held_in ks) h))

-- what is kept of a loan is as a world has it
pub record IsKeptAs (w : World) (l : Held) (closed : ℕ) (remitted : ℤ) : Type 0 where
  pub sent : remitted ≡ remitted_for w l.id
  pub months : boarded_month l + closed ≡ max (boarded_month l) (month_after (last_month w.seals.reports))

-- where a command makes the same of each loan
pub kept_by : (w : World) (fh : KeptLoan → Held) (fc : KeptLoan → ℕ) (fr : KeptLoan → ℤ) (ks js : List KeptLoan) → held_in js ≡ map fh ks → closed_in js ≡ map fc ks → remitted_in js ≡ map fr ks → All (λ (k : KeptLoan). IsKeptAs w (fh k) (fc k) (fr k)) ks → All (IsKeptIn w) js
kept_by w fh fc fr [] [] h c r all = All-nil (IsKeptIn w)
kept_by w fh fc fr [] (j ∷ js) h c r all = absurd (cc)
kept_by w fh fc fr (k ∷ ks) [] h c r all = absurd (cc)
kept_by w fh fc fr (k ∷ ks) (j ∷ js) h c r all =
    let P : KeptLoan → Type 0 = λ x. IsKeptAs w (fh x) (fc x) (fr x) in
    let here = All-head P k ks all in
    let eh : j.held ≡ fh k = cc in
    let ec : j.closed ≡ fc k = cc in
    let er : j.remitted ≡ fr k = cc in
    All-cons (IsKeptIn w) j js (record {
      remitted = er ∙ here.sent ∙ ap (λ (l : Held). remitted_for w l.id) (sym eh);
      closed = ap (λ (l : Held). boarded_month l + j.closed) eh ∙ ap (λ n. boarded_month (fh k) + n) ec ∙ here.months ∙ ap (λ (l : Held). max (boarded_month l) (month_after (last_month w.seals.reports))) (sym eh);
    }) (kept_by w fh fc fr ks js (cc) (cc) (cc) (All-tail P k ks all))

-- ---- a business day

pub day_today : (n d today : ℕ) (loans : KeptLoans) (seals : State) → IsState n today loans seals → refusal_of n (world_of today loans seals) (command.Day d) ≡ None → All (λ (k : KeptLoan). k.held.account.today ≤ d) loans.loans
day_today n d today loans seals h fresh =
    let later = (day_later n d (world_of today loans seals) fresh).0 in
    of_held (λ (l : Held). l.account.today ≤ d) loans.loans (λ i x lt. (let is = (h.world.held i x lt).today in omega (arith, later, is)))

pub day_world : (n d today : ℕ) (loans later : KeptLoans) (seals : State) → IsState n today loans seals → refusal_of n (world_of today loans seals) (command.Day d) ≡ None → held_in later.loans ≡ map (on_day d) (held_in loans.loans) → world_of d later seals ≡ after (n + 1) (world_of today loans seals) (command.Day d)
unfolding after loans_after seals_after
day_world n d today loans later seals h fresh held =
    let w = world_of today loans seals in
    let with : List Held → Reporting → World = λ ls s. record { today = d; loans = ls; seals = s; remitted = seals.remitted } in
    let none = none_pending seals.reporting (changes_of (n + 1) (months_of seals.reporting.reports) w.loans (map (on_day d) w.loans)) (day_none n d w h.world fresh) in
    ap (λ ls. with ls seals.reporting) held ∙ ap (with (map (on_day d) w.loans)) (sym none)

pub day_kept : (d today : ℕ) (loans later : KeptLoans) (seals : State) → All (IsKeptIn (world_of today loans seals)) loans.loans → held_in later.loans ≡ map (on_day d) (held_in loans.loans) → closed_in later.loans ≡ closed_in loans.loans → remitted_in later.loans ≡ remitted_in loans.loans → All (IsKeptIn (world_of d later seals)) later.loans
unfolding remitted_for
day_kept d today loans later seals kept held closed remitted =
    kept_by (world_of d later seals) (λ (k : KeptLoan). on_day d k.held) (λ (k : KeptLoan). k.closed) (λ (k : KeptLoan). k.remitted) loans.loans later.loans
    (held ∙ sym (held_mapped (on_day d) loans.loans)) closed remitted
    (λ i x lt. (let k = kept i x lt in record { sent = k.remitted; months = k.closed }))

-- what it costs for each loan
pub day_cost : (cost : Account → ℕ → ℕ) (d today : ℕ) (ks : List KeptLoan) → All (λ (k : KeptLoan). k.held.account.today ≡ today) ks → sum_by (advance_cost cost d) ks ≡ advancing_cost cost today (map (on_day d) (held_in ks))
day_cost cost d today [] h = refl
day_cost cost d today (k ∷ ks) h =
    let P : KeptLoan → Type 0 = λ x. x.held.account.today ≡ today in
    let here : advance_cost cost d k ≡ cost (advanced_to d k.held.account) (month_of today) = ap (λ t. cost (advanced_to d k.held.account) (month_of t)) (All-head P k ks h) in
    let rest = day_cost cost d today ks (All-tail P k ks h) in
    sum_by-cons (advance_cost cost d) k ks
    ∙ ap (λ n. n + sum_by (advance_cost cost d) ks) here
    ∙ ap (λ n. cost (advanced_to d k.held.account) (month_of today) + n) rest
    ∙ sym (sum_by-cons (λ (l : Held). cost l.account (month_of today)) (on_day d k.held) (map (on_day d) (held_in ks)))

pub day_steps : (cost : Account → ℕ → ℕ) (n d today : ℕ) (loans later : KeptLoans) (seals : State) → IsState n today loans seals → held_in later.loans ≡ map (on_day d) (held_in loans.loans) → sum_by (advance_cost cost d) loans.loans ≡ advancing_cost cost today (held_in later.loans)
day_steps cost n d today loans later seals h held =
    day_cost cost d today loans.loans (of_held (λ (l : Held). l.account.today ≡ today) loans.loans (λ i x lt. (h.world.held i x lt).today))
    ∙ ap (advancing_cost cost today) (sym held)
