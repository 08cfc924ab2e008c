-- A loan that is taken on: nothing was remitted for it, and none of its months is closed.
use Rattle.std.proofs.Common.{◌≡◌, ℕ, ◌+◌, true, false, cond, List, [], ◌∷◌, ◌++◌, get_or, arith, refl, sym, ap, subst, ◌∙◌}
use Rattle.std.specs.Prelude.{◌==◌, nat_lt, nat_le, Option, Some, None, pos}
use Rattle.std.specs.List.{All}
use Rattle.std.specs.Option.{option_map}
use Rattle.std.proofs.lemmas.Int.{ints}
use Rattle.std.proofs.lemmas.Bool.Decides.{nat_tests}
use Rattle.std.proofs.lemmas.List.Elements.{All-cons, All-head, All-tail, All-filter}
use Rattle.svc_base.specs.Sums.{total_by}
use Rattle.svc_types.specs.declared.terms.Terms.{Terms}
use Rattle.svc_types.specs.declared.requests.Command.TheVariants as command
use Rattle.period_adjust.specs.declared.report_line.ReportLine.{ReportLine}
use Rattle.period_adjust.specs.Sealed.{Sealed, State, reporting}
use Rattle.period_adjust.specs.Conditions.{last_month}
use Rattle.svc_world.specs.Held.{Held, find_loan, boarded, boarded_month, with_loan}
use Rattle.svc_world.specs.Reports.{months_of, changes_of}
use Rattle.svc_world.specs.World.{World, loans_after, seals_after, after}
use Rattle.svc_world.specs.Custody.{sent_of_line, sent_for, remitted_reports, remitted_for}
use Rattle.svc_world.specs.Refusals.{refusal_of}
use Rattle.svc_world.specs.Worlds.{IsThere, IsListed}
use Rattle.svc_world.proofs.BoardWorlds.{boarding, board_none}
use Rattle.svc_world.proofs.DayWorlds.{none_pending}
use Rattle.svc_world.proofs.LoanWorlds.{end_by}
use Rattle.svc_loan.specs.Kept.{KeptLoan}
use Rattle.svc_loan.specs.Loans.{KeptLoans, find_kept, with_kept, held_in}
use Rattle.svc_custody.specs.Cash.{IsKeptIn}
use Rattle.svc_core.specs.Ready.{IsBoarding}
use Rattle.svc_core.specs.State.{world_of, IsState}
use Rattle.svc_rules.proofs.RuleLemmas.{find-held}
use Rattle.svc_core.proofs.KeptInLemmas.{same_remitted_for}
use Rattle.svc_core.proofs.ChangingLemmas.{same_world}

-- ---- no report has a line of a loan that is not there

other_loan : (loans : List Held) (id other month : ℕ) → find_loan id loans ≡ None → IsThere loans other month → (other == id) ≡ false
other_loan loans id other month none there =
    elim (other == id) as (λ v. (other == id) ≡ v → v ≡ false) [
      | true ↦ λ e.
          let same : other ≡ id = grind (arith, nat_tests) in
          let found : find_loan id loans ≡ Some there.loan = ap (λ i. find_loan i loans) (sym same) ∙ there.found in
          absurd (cc)
      | false ↦ λ e. refl
    ] refl

abbrev OfOthers : ℕ → Sealed → Type 0
OfOthers id r = All (λ (l : ReportLine). (l.loan == id) ≡ false) r.lines

none_sent : (id : ℕ) (ls : List ReportLine) → All (λ (l : ReportLine). (l.loan == id) ≡ false) ls → total_by (λ (l : ReportLine). cond (l.loan == id) (sent_of_line l) (pos 0)) ls ≡ pos 0
none_sent id [] h = refl
none_sent id (l ∷ ls) h =
    let here = All-head (λ (x : ReportLine). (x.loan == id) ≡ false) l ls h in
    let one : cond (l.loan == id) (sent_of_line l) (pos 0) ≡ pos 0 = ap (λ v. cond v (sent_of_line l) (pos 0)) here in
    omega (arith, ints, one, none_sent id ls (All-tail (λ (x : ReportLine). (x.loan == id) ≡ false) l ls h))

none_by_reports : (id : ℕ) (rs : List Sealed) → All (OfOthers id) rs → total_by (sent_for id) rs ≡ pos 0
none_by_reports id [] h = refl
none_by_reports id (r ∷ rs) h =
    let here = none_sent id r.lines (All-head (OfOthers id) r rs h) in
    omega (arith, ints, here, none_by_reports id rs (All-tail (OfOthers id) r rs h))

remitted_others : (id : ℕ) (o : Option ℕ) (rs : List Sealed) → All (OfOthers id) rs → All (OfOthers id) (remitted_reports o rs)
remitted_others id None rs h = λ k d lt. absurd (omega arith)
remitted_others id (Some last) rs h = All-filter (λ (r : Sealed). nat_le r.month last) (OfOthers id) rs h

pub none_remitted : (w : World) (id : ℕ) → find_loan id w.loans ≡ None → All (λ (r : Sealed). All (IsListed w.loans r.month) r.lines) w.seals.reports → remitted_for w id ≡ pos 0
unfolding remitted_for
none_remitted w id none listed =
    none_by_reports id (remitted_reports w.remitted w.seals.reports) (remitted_others id w.remitted w.seals.reports
    (λ k d lt i x within. other_loan w.loans id (get_or (get_or w.seals.reports k d).lines i x).loan (get_or w.seals.reports k d).month none (listed k d lt i x within)))

-- ---- one loan more

with_kept_all : (P : KeptLoan → Type 0) (k : KeptLoan) (ks : List KeptLoan) → P k → All P ks → All P (with_kept k ks)
with_kept_all P k [] here h = All-cons P k [] here h
with_kept_all P k (j ∷ js) here h =
    elim (nat_lt k.held.id j.held.id) as (λ v. All P (cond v (k ∷ j ∷ js) (j ∷ with_kept k js))) [
      | true ↦ All-cons P k (j ∷ js) here h
      | false ↦ All-cons P j (with_kept k js) (All-head P j js h) (with_kept_all P k js here (All-tail P j js h))
    ]

-- a loan that no rule refuses is not there yet
pub none_there : (n today : ℕ) (loans : KeptLoans) (seals : State) (id : ℕ) (t : Terms) (k : KeptLoan) → refusal_of n (world_of today loans seals) (command.Board id t) ≡ None → IsBoarding id t today k → find_kept k.held.id loans.loans ≡ None
none_there n today loans seals id t k e h =
    let none = (boarding n id t (world_of today loans seals) e).new in
    let number : k.held.id ≡ id = ap (λ (l : Held). l.id) h.held in
    ap (λ i. find_kept i loans.loans) number ∙ empty (find_kept id loans.loans) (sym (find-held loans.loans id) ∙ none)
  where
    empty : (o : Option KeptLoan) → option_map (λ (x : KeptLoan). x.held) o ≡ None → o ≡ None
    empty None e = refl
    empty (Some x) e = absurd (cc)

-- the world after it
pub world_on : (n today : ℕ) (loans later : KeptLoans) (seals : State) (id : ℕ) (t : Terms) (k : KeptLoan) → IsState n today loans seals → refusal_of n (world_of today loans seals) (command.Board id t) ≡ None → IsBoarding id t today k → held_in later.loans ≡ with_loan k.held (held_in loans.loans) → world_of today later seals ≡ after (n + 1) (world_of today loans seals) (command.Board id t)
unfolding after loans_after seals_after
world_on n today loans later seals id t k s e h held =
    let w = world_of today loans seals in
    let ls = held_in loans.loans in
    let rs = seals.reporting in
    let new = with_loan (boarded id t today) ls in
    let changes = changes_of (n + 1) (months_of rs.reports) ls new in
    same_world today (held_in later.loans) new rs (reporting rs.reports (rs.pending ++ changes)) seals.remitted seals.remitted
    (held ∙ ap (λ l. with_loan l ls) h.held)
    (sym (none_pending rs changes (board_none n id t w s.world (boarding n id t w e))))
    refl

pub kept_with : (n today : ℕ) (loans later : KeptLoans) (seals : State) (id : ℕ) (t : Terms) (k : KeptLoan) → IsState n today loans seals → refusal_of n (world_of today loans seals) (command.Board id t) ≡ None → IsBoarding id t today k → later.loans ≡ with_kept k loans.loans → All (IsKeptIn (world_of today later seals)) later.loans
kept_with n today loans later seals id t k s e h is =
    let w = world_of today loans seals in
    let v = world_of today later seals in
    let b = boarding n id t w e in
    let number : k.held.id ≡ id = ap (λ (l : Held). l.id) h.held in
    let from : boarded_month k.held ≡ boarded_month (boarded id t today) = ap boarded_month h.held in
    let end = end_by (last_month seals.reporting.reports) (boarded_month (boarded id t today)) b.late in
    let none : k.closed ≡ 0 = h.closed in
    let new : IsKeptIn v k = record {
      remitted = h.remitted ∙ sym (same_remitted_for w v k.held.id refl refl ∙ ap (remitted_for w) number ∙ none_remitted w id b.new s.world.reports.listed);
      closed = omega (arith, from, end, none);
    } in
    let old : All (IsKeptIn v) loans.loans = λ i d lt. (let here = s.kept i d lt in record { remitted = here.remitted ∙ sym (same_remitted_for w v (get_or loans.loans i d).held.id refl refl); closed = here.closed }) in
    subst (All (IsKeptIn v)) (sym is) (with_kept_all (IsKeptIn v) k loans.loans new old)
