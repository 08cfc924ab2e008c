-- A command that changes a loan in no closed month: an escrow line, a change of remittance type.
use Rattle.std.proofs.Common.{◌≡◌, ℕ, ◌+◌, ◌-◌, ◌≤◌, Bool, true, false, cond, not, List, [], ◌∷◌, ◌++◌, length, arith, refl, sym, ap, subst, ◌∙◌, append-nil}
use Rattle.std.specs.Prelude.{◌==◌, nat_le, nat_lt, ◌&&◌, Option, Some, None}
use Rattle.std.specs.List.{All, list_any}
use Rattle.std.specs.Option.{option_map_or}
use Rattle.std.proofs.lemmas.Bool.Decides.{nat_tests}
use Rattle.svc_types.specs.declared.terms.RemitType.{RemitType}
use Rattle.svc_types.specs.declared.faults.LineWhy.{LineWhy}
use Rattle.svc_types.specs.declared.requests.Command.TheVariants as command
use Rattle.svc_types.specs.declared.replies.Limit.TheVariants.{Types, Lines}
use Rattle.svc_types.specs.declared.replies.Refusal.TheVariants as refusal
use Rattle.svc_spec.specs.Accounts.{Account}
use Rattle.escrow_lines.specs.declared.line.Line.{Line}
use Rattle.escrow_lines.specs.declared.line.EscrowLineFault.TheVariants as fault
use Rattle.escrow_lines.specs.Bills.{line_fault}
use Rattle.escrow_lines.specs.BillLists.{has_id, full_fault, set_fault}
use Rattle.period_adjust.specs.Sealed.{State, reporting}
use Rattle.period_adjust.specs.Conditions.{last_month}
use Rattle.period_adjust.specs.Kept.{month_after}
use Rattle.svc_world.specs.Held.{Held, find_loan, changed, boarded_month, with_bill, without_bill, with_type}
use Rattle.svc_world.specs.LoanDues.{type_change}
use Rattle.svc_world.specs.Reports.{months_of, changes_of}
use Rattle.svc_world.specs.World.{World, loans_after, seals_after, after}
use Rattle.svc_world.specs.Refusals.{case, case_of, first_of, refusal_of, line_cases, has_line, no_such_line, retype_cases, with_last}
use Rattle.svc_world.specs.Changing.{world_with}
use Rattle.svc_world.proofs.CaseLemmas.{past, past_last}
use Rattle.svc_world.proofs.NamedLoans.{named_loan, asked}
use Rattle.svc_world.proofs.QuietWorlds.{IsQuiet, quiet_none}
use Rattle.svc_world.proofs.LoanWorlds.{retype_quiet, end_by}
use Rattle.svc_world.proofs.LoanListLemmas.{find_changed}
use Rattle.svc_world.proofs.DayWorlds.{none_pending}
use Rattle.svc_loan.specs.Kept.{KeptLoan}
use Rattle.svc_loan.specs.Closed.{months_cost, closed_cost}
use Rattle.svc_loan.specs.Loans.{KeptLoans, OfLoan, held_in}
use Rattle.svc_loan.proofs.KeptLemmas.{of_found, found_of}
use Rattle.svc_custody.specs.Cash.{IsKeptIn}
use Rattle.svc_core.specs.State.{world_of, IsState}
use Rattle.svc_core.proofs.KeptInLemmas.{kept_on, changed_stay, kept_all, kept_of}
use Rattle.svc_core.proofs.ChangingLemmas.{AreChanged, same_world}

-- ---- the world after it

pub quiet_world : {n today : ℕ} {loans : KeptLoans} {seals : State} {id : ℕ} {f : Held → Held} (later : KeptLoans) → IsState n today loans seals → IsQuiet n (world_of today loans seals) id f → AreChanged id f loans later → world_of today later seals ≡ world_with (world_of today loans seals) id f (n + 1)
quiet_world {n = n} {today = today} {loans = loans} {seals = seals} {id = id} {f = f} later s q c =
    let ls = held_in loans.loans in
    let rs = seals.reporting in
    let changes = changes_of (n + 1) (months_of rs.reports) ls (changed id f ls) in
    same_world today (held_in later.loans) (changed id f ls) rs (reporting rs.reports (rs.pending ++ changes)) seals.remitted seals.remitted
    c.held
    (sym (none_pending rs changes (quiet_none n id (world_of today loans seals) f s.world q)))
    refl

pub quiet_kept : {n today : ℕ} {loans : KeptLoans} {seals : State} {id : ℕ} {f : Held → Held} (later : KeptLoans) → IsState n today loans seals → IsQuiet n (world_of today loans seals) id f → AreChanged id f loans later → All (IsKeptIn (world_of today later seals)) later.loans
quiet_kept {today = today} {loans = loans} {seals = seals} {id = id} {f = f} later s q c =
    kept_on (world_of today loans seals) (world_of today later seals) loans.loans later.loans (changed_stay id f loans.loans later.loans q.change.number q.change.boarded c.held c.closed c.remitted) refl refl s.kept

-- ---- an escrow line

no_fault : (o : Option LineWhy) → first_of (case_of refusal.BadLine o) ≡ None → o ≡ None
no_fault None e = refl
no_fault (Some x) e = absurd (cc)

-- sixteen lines are full only for a line that none of them has the number of
not_full : (line : Line) (lines : List Line) → length lines ≤ 16 → (not (list_any (has_id line.id) lines) && nat_le 16 (length lines)) ≡ false → full_fault line lines ≡ None
not_full line lines few e = at (list_any (has_id line.id) lines) (length lines) few e
  where
    at : (b : Bool) (k : ℕ) → k ≤ 16 → (not b && nat_le 16 k) ≡ false → cond ((k == 16) && not b) (Some fault.Full) None ≡ None
    at true k few e = elim (k == 16) as (λ v. cond (v && false) (Some fault.Full) None ≡ None) [ true ↦ refl | false ↦ refl ]
    at false k few e =
        let apart : (k == 16) ≡ false = grind (arith, nat_tests) in
        ap (λ v. cond (v && true) (Some fault.Full) None) apart

pub line_fits : (n today : ℕ) (loans : KeptLoans) (seals : State) (id : ℕ) (line : Line) → IsState n today loans seals → refusal_of n (world_of today loans seals) (command.Line id line.id line.kind line.month line.every line.cents) ≡ None → OfLoan id loans.loans (λ k. set_fault line k.held.lines ≡ None)
line_fits n today loans seals id line s e =
    let w = world_of today loans seals in
    let q = asked n w id (line_cases line) (command.Line id line.id line.kind line.month line.every line.cents) refl e in
    let l = q.loan.loan in
    let is = named_loan n w id l s.world q.loan.found in
    let one = past (case (not (has_line line.id l) && nat_le 16 (length l.lines)) (refusal.Full Lines)) (case_of refusal.BadLine (line_fault line)) q.loan.rest in
    let two = no_fault (line_fault line) one.rest in
    let kept = kept_of id loans.loans l q.loan.found in
    let fits : set_fault line l.lines ≡ None = ap (λ o. option_map_or (λ why. Some (fault.BadLine why)) o (full_fault line l.lines)) two ∙ not_full line l.lines is.held.lines.few one.no in
    found_of (λ (k : KeptLoan). set_fault line k.held.lines ≡ None) id loans.loans kept.kept (ap (λ (x : Held). set_fault line x.lines) kept.held ∙ fits) kept.found

pub line_world : (n id : ℕ) (w : World) (line : Line) → after (n + 1) w (command.Line id line.id line.kind line.month line.every line.cents) ≡ world_with w id (with_bill line) (n + 1)
unfolding after loans_after seals_after
line_world n id w line = refl

pub drop_fits : (n today : ℕ) (loans : KeptLoans) (seals : State) (id line : ℕ) → refusal_of n (world_of today loans seals) (command.Drop id line) ≡ None → OfLoan id loans.loans (λ k. list_any (has_id line) k.held.lines ≡ true)
drop_fits n today loans seals id line e =
    let w = world_of today loans seals in
    let q = asked n w id (λ l. no_such_line line l ∷ []) (command.Drop id line) refl e in
    let l = q.loan.loan in
    let one = past (no_such_line line l) [] q.loan.rest in
    let kept = kept_of id loans.loans l q.loan.found in
    found_of (λ (k : KeptLoan). list_any (has_id line) k.held.lines ≡ true) id loans.loans kept.kept (ap (λ (x : Held). list_any (has_id line) x.lines) kept.held ∙ yes (has_line line l) one.no) kept.found
  where
    yes : (b : Bool) → not b ≡ false → b ≡ true
    yes true e = refl
    yes false e = absurd (cc)

pub drop_world : (n id line : ℕ) (w : World) → after (n + 1) w (command.Drop id line) ≡ world_with w id (without_bill line) (n + 1)
unfolding after loans_after seals_after
drop_world n id line w = refl

-- ---- a change of type

-- what the rules of a change of type leave
record IsRetyped (w : World) (from : ℕ) (l : Held) : Type 0 where
  since : boarded_month l ≤ from
  open' : month_after (last_month w.seals.reports) ≤ from

retyped : (w : World) (from : ℕ) (l : Held) → first_of (retype_cases w from l) ≡ None → IsRetyped w from l
retyped w from l e =
    let one = past (case (nat_le 64 (length l.types)) (refusal.Full Types)) (case (nat_lt from (boarded_month l)) (refusal.BeforeBoarding l.account.terms.boarded) ∷ with_last refusal.ClosedMonth w from) e in
    let two = past (case (nat_lt from (boarded_month l)) (refusal.BeforeBoarding l.account.terms.boarded)) (with_last refusal.ClosedMonth w from) one.rest in
    let n2 = two.no in
    let since : boarded_month l ≤ from = grind (arith, nat_tests) in
    let later = past_last refusal.ClosedMonth w from [] (ap first_of (append-nil (with_last refusal.ClosedMonth w from)) ∙ two.rest) in
    record { since = since; open' = end_by (last_month w.seals.reports) from later.later }

pub retype_since : (n today : ℕ) (loans : KeptLoans) (seals : State) (id from : ℕ) (kind : RemitType) → refusal_of n (world_of today loans seals) (command.Retype id from kind) ≡ None → OfLoan id loans.loans (λ k. boarded_month k.held ≤ from)
retype_since n today loans seals id from kind e =
    let w = world_of today loans seals in
    let q = asked n w id (retype_cases w from) (command.Retype id from kind) refl e in
    let it = retyped w from q.loan.loan q.loan.rest in
    let kept = kept_of id loans.loans q.loan.loan q.loan.found in
    found_of (λ (k : KeptLoan). boarded_month k.held ≤ from) id loans.loans kept.kept (subst (λ (x : Held). boarded_month x ≤ from) (sym kept.held) it.since) kept.found

no_months : (cost : Account → ℕ → ℕ) (a : Account) (m : ℕ) → months_cost cost a m 0 ≡ 0
unfolding months_cost
no_months cost a m = refl

-- no closed month is made anew, so it takes no steps
pub retype_steps : (n today : ℕ) (loans later : KeptLoans) (seals : State) (id from : ℕ) (kind : RemitType) (cost : Account → ℕ → ℕ) (steps' steps : ℕ) → IsState n today loans seals → refusal_of n (world_of today loans seals) (command.Retype id from kind) ≡ None → AreChanged id (with_type (type_change from kind)) loans later → OfLoan id later.loans (λ k. steps' ≤ steps + closed_cost cost k.held.account k.closed from) → steps' ≤ steps
retype_steps n today loans later seals id from kind cost steps' steps s e c bound =
    let w = world_of today loans seals in
    let f = with_type (type_change from kind) in
    let q = asked n w id (retype_cases w from) (command.Retype id from kind) refl e in
    let l = q.loan.loan in
    let it = retyped w from l q.loan.rest in
    let there = find_changed id f (held_in loans.loans) l q.loan.found (λ k. refl) in
    let new = kept_of id later.loans (f l) (ap (find_loan id) c.held ∙ there) in
    let k = new.kept in
    let all = quiet_kept later s (retype_quiet n id from kind w s.world e) c in
    let closed = (kept_all (IsKeptIn (world_of today later seals)) id later.loans k new.found all).closed in
    let since : boarded_month k.held ≤ from = subst (λ (x : Held). boarded_month x ≤ from) (sym new.held) it.since in
    let open' = it.open' in
    let none : boarded_month k.held + k.closed - from ≡ 0 = omega (arith, closed, since, open') in
    let nothing : closed_cost cost k.held.account k.closed from ≡ 0 = ap (months_cost cost k.held.account from) none ∙ no_months cost k.held.account from in
    let most = of_found (λ (x : KeptLoan). steps' ≤ steps + closed_cost cost x.held.account x.closed from) id later.loans k bound new.found in
    omega (arith, most, nothing)

pub retype_world : (n id from : ℕ) (kind : RemitType) (w : World) → after (n + 1) w (command.Retype id from kind) ≡ world_with w id (with_type (type_change from kind)) (n + 1)
unfolding after loans_after seals_after
retype_world n id from kind w = refl
