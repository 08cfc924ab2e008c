-- The entry of an escrow analysis that no rule refuses.
use Rattle.std.proofs.Common.{◌≡◌, ℕ, ◌+◌, true, false, cond, List, [], ◌∷◌, ◌++◌, refl, sym, ap, subst, ◌∙◌}
use Rattle.std.specs.Prelude.{◌==◌, Some, None}
use Rattle.std.specs.Option.{option_map_or}
use Rattle.svc_types.specs.declared.account.Act.TheVariants as act
use Rattle.svc_types.specs.declared.escrow.Plan.{Plan}
use Rattle.svc_types.specs.declared.escrow.Settled.{Settled}
use Rattle.svc_types.specs.declared.escrow.Figures.{Figures}
use Rattle.svc_types.specs.declared.requests.Command.TheVariants as command
use Rattle.svc_types.specs.declared.replies.Extra.TheVariants.{Plain, Analysed}
use Rattle.svc_spec.specs.Books.{IsAct}
use Rattle.period_adjust.specs.Sealed.{State, reporting}
use Rattle.svc_world.specs.Held.{Held, find_loan, changed, with_entry}
use Rattle.svc_world.specs.Analysing.{loan_plan_fault, settlement_of, settled_figures}
use Rattle.svc_world.specs.Reports.{months_of, changes_of}
use Rattle.svc_world.specs.World.{World, entry, with_analysis, loans_after, seals_after, after}
use Rattle.svc_world.specs.Judging.{extra_of}
use Rattle.svc_world.specs.Refusals.{refusal_of}
use Rattle.svc_world.specs.Changing.{MayEnter, world_with}
use Rattle.svc_world.proofs.NamedLoans.{named_loan}
use Rattle.svc_world.proofs.AnalysedWorlds.{analyse_enters}
use Rattle.svc_loan.specs.Kept.{KeptLoan}
use Rattle.svc_loan.specs.Loans.{KeptLoans, OfLoan, held_in}
use Rattle.svc_loan.proofs.KeptLemmas.{of_found, found_of}
use Rattle.svc_core.specs.State.{world_of, IsState}
use Rattle.svc_core.proofs.KeptInLemmas.{IsKeptOf, kept_of}

-- an analysis that is not refused
pub record IsAnalysing (n today : ℕ) (loans : KeptLoans) (seals : State) (id : ℕ) (plan : Plan) : Type 0 where
  pub loan : Held
  pub kept : IsKeptOf id loans.loans loan
  pub found : find_loan id (held_in loans.loans) ≡ Some loan
  pub today_is : loan.account.today ≡ today
  pub lawful : loan_plan_fault loan plan ≡ None
  pub takes : IsAct (act.Analyse (settlement_of loan plan))
  pub may : MayEnter n (world_of today loans seals) id (entry (n + 1) today (act.Analyse (settlement_of loan plan)))

pub analysing : (n today : ℕ) (loans : KeptLoans) (seals : State) (id : ℕ) (plan : Plan) → IsState n today loans seals → refusal_of n (world_of today loans seals) (command.Analyse id plan) ≡ None → IsAnalysing n today loans seals id plan
analysing n today loans seals id plan s e =
    let w = world_of today loans seals in
    let a = analyse_enters n id plan w s.world e in
    let found : find_loan id (held_in loans.loans) ≡ Some a.loan = a.may.found ∙ ap Some a.same in
    record {
      loan = a.loan;
      kept = kept_of id loans.loans a.loan found;
      found = found;
      today_is = (named_loan n w id a.loan s.world found).held.today;
      lawful = a.lawful;
      takes = a.may.act;
      may = a.may;
    }

-- ---- what is asked of the loan

pub asks_today : {n today : ℕ} {loans : KeptLoans} {seals : State} {id : ℕ} {plan : Plan} → IsAnalysing n today loans seals id plan → OfLoan id loans.loans (λ k. k.held.account.today ≡ today)
asks_today {today = today} {loans = loans} {id = id} a = found_of (λ (k : KeptLoan). k.held.account.today ≡ today) id loans.loans a.kept.kept (subst (λ (l : Held). l.account.today ≡ today) (sym a.kept.held) a.today_is) a.kept.found

pub asks_lawful : {n today : ℕ} {loans : KeptLoans} {seals : State} {id : ℕ} {plan : Plan} → IsAnalysing n today loans seals id plan → OfLoan id loans.loans (λ k. loan_plan_fault k.held plan ≡ None)
asks_lawful {loans = loans} {id = id} {plan = plan} a = found_of (λ (k : KeptLoan). loan_plan_fault k.held plan ≡ None) id loans.loans a.kept.kept (subst (λ (l : Held). loan_plan_fault l plan ≡ None) (sym a.kept.held) a.lawful) a.kept.found

pub asks_act : {n today : ℕ} {loans : KeptLoans} {seals : State} {id : ℕ} {plan : Plan} → IsAnalysing n today loans seals id plan → OfLoan id loans.loans (λ k. IsAct (act.Analyse (settlement_of k.held plan)))
asks_act {loans = loans} {id = id} {plan = plan} a = found_of (λ (k : KeptLoan). IsAct (act.Analyse (settlement_of k.held plan))) id loans.loans a.kept.kept (subst (λ (l : Held). IsAct (act.Analyse (settlement_of l plan))) (sym a.kept.held) a.takes) a.kept.found

-- ---- what was settled

pub settled_is : {n today : ℕ} {loans : KeptLoans} {seals : State} {id : ℕ} {plan : Plan} (s : Settled) (a : IsAnalysing n today loans seals id plan) → OfLoan id loans.loans (λ k. s ≡ settlement_of k.held plan) → s ≡ settlement_of a.loan plan
settled_is {loans = loans} {id = id} {plan = plan} s a h = of_found (λ (k : KeptLoan). s ≡ settlement_of k.held plan) id loans.loans a.kept.kept h a.kept.found ∙ ap (λ (l : Held). settlement_of l plan) a.kept.held

pub may_analyse : {n today : ℕ} {loans : KeptLoans} {seals : State} {id : ℕ} {plan : Plan} (s : Settled) → IsAnalysing n today loans seals id plan → OfLoan id loans.loans (λ k. s ≡ settlement_of k.held plan) → MayEnter n (world_of today loans seals) id (entry (n + 1) today (act.Analyse s))
may_analyse {n = n} {today = today} {loans = loans} {seals = seals} {id = id} s a h = subst (λ x. MayEnter n (world_of today loans seals) id (entry (n + 1) today (act.Analyse x))) (sym (settled_is s a h)) a.may

pub figures_are : {n today : ℕ} {loans : KeptLoans} {seals : State} {id : ℕ} {plan : Plan} (later : World) (x : Figures) → IsAnalysing n today loans seals id plan → OfLoan id loans.loans (λ k. x ≡ settled_figures k.held plan) → Analysed x ≡ extra_of (world_of today loans seals) later (command.Analyse id plan)
figures_are {loans = loans} {id = id} {plan = plan} later x a h =
    let is = of_found (λ (k : KeptLoan). x ≡ settled_figures k.held plan) id loans.loans a.kept.kept h a.kept.found ∙ ap (λ (l : Held). settled_figures l plan) a.kept.held in
    ap Analysed is ∙ sym (ap (λ o. option_map_or (λ (l : Held). Analysed (settled_figures l plan)) o Plain) a.found)

-- changes of the loan with a number are one where they agree on the one that is found
changed_same : (id : ℕ) (f g : Held → Held) (ls : List Held) (l : Held) → find_loan id ls ≡ Some l → f l ≡ g l → changed id f ls ≡ changed id g ls
changed_same id f g [] l e same = refl
changed_same id f g (k ∷ ks) l e same =
    elim (k.id == id) as (λ v. cond v (Some k) (find_loan id ks) ≡ Some l → cond v (f k ∷ ks) (k ∷ changed id f ks) ≡ cond v (g k ∷ ks) (k ∷ changed id g ks)) [
      | true ↦ λ is. let kl : k ≡ l = cc in ap (λ x. x ∷ ks) (ap f kl ∙ same ∙ ap g (sym kl))
      | false ↦ λ is. ap (λ xs. k ∷ xs) (changed_same id f g ks l is same)
    ] e

pub analysed_world : {n today : ℕ} {loans : KeptLoans} {seals : State} {id : ℕ} {plan : Plan} (s : Settled) → IsAnalysing n today loans seals id plan → OfLoan id loans.loans (λ k. s ≡ settlement_of k.held plan) → world_with (world_of today loans seals) id (with_entry (entry (n + 1) today (act.Analyse s))) (n + 1) ≡ after (n + 1) (world_of today loans seals) (command.Analyse id plan)
unfolding after loans_after seals_after
analysed_world {n = n} {today = today} {loans = loans} {seals = seals} {id = id} {plan = plan} s a h =
    let w = world_of today loans seals in
    let e = entry (n + 1) today (act.Analyse s) in
    let is : with_entry e a.loan ≡ with_analysis (n + 1) today plan a.loan = ap (λ x. with_entry (entry (n + 1) today (act.Analyse x)) a.loan) (settled_is s a h) in
    let same = changed_same id (with_entry e) (with_analysis (n + 1) today plan) w.loans a.loan a.found is in
    ap (λ ls. record w { loans = ls; seals = reporting w.seals.reports (w.seals.pending ++ changes_of (n + 1) (months_of w.seals.reports) w.loans ls) }) same
