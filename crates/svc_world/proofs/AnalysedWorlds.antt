-- A world stays sound after an analysis of a loan.
use Rattle.std.proofs.Common.{◌≡◌, ℕ, ◌+◌, ◌≤◌, ◌<◌, [], ◌∷◌, ◌++◌, length, arith, refl, ap, subst, ◌∙◌}
use Rattle.std.specs.Prelude.{Some, None, ℤ, ◌+ℤ◌, ◌≤ℤ◌}
use Rattle.std.proofs.lemmas.Int.{ints}
use Rattle.std.proofs.lemmas.Bool.Decides.{nat_tests}
use Rattle.svc_base.specs.Calendar.{month_of}
use Rattle.svc_types.specs.declared.account.Act.TheVariants.{Analyse}
use Rattle.svc_types.specs.declared.escrow.Plan.{Plan}
use Rattle.svc_types.specs.declared.escrow.Settled.{Settled}
use Rattle.svc_spec.specs.Step.{brought}
use Rattle.svc_spec.specs.Totals.{refunded_by, received, refunded}
use Rattle.svc_types.specs.declared.requests.Command.TheVariants as command
use Rattle.svc_types.specs.declared.replies.Refusal.TheVariants.{BadPlan}
use Rattle.svc_world.specs.Held.{Held, with_entry}
use Rattle.svc_world.specs.Analysing.{loan_plan_fault, settlement_of}
use Rattle.svc_world.specs.World.{World, entry, with_analysis, loans_after, seals_after, after}
use Rattle.svc_world.specs.Refusals.{refusal_of, case_of, full_of_entries, adjustments_full, analyse_cases}
use Rattle.svc_world.specs.Worlds.{IsWorld}
use Rattle.svc_world.specs.Changing.{MayEnter}
use Rattle.svc_world.proofs.AnalysisLemmas.{is_settlement}
use Rattle.svc_world.proofs.CaseLemmas.{past, past_of, room_left}
use Rattle.svc_world.proofs.NamedLoans.{named_loan, asked}
use Rattle.svc_world.proofs.ChangedWorlds.{IsChange}
use Rattle.svc_world.proofs.QuietWorlds.{IsQuiet, quiet_keeps, today_open}
use Rattle.svc_world.proofs.EntryWorlds.{entry_change}

-- an analysis brings in nothing
pub brings_none : (x y : ℤ) (s : Settled) → (x +ℤ s.refund) ≤ℤ y → (x +ℤ refunded_by (Analyse s)) ≤ℤ (y +ℤ brought (Analyse s))
brings_none x y s le = omega (arith, ints, le)

-- an analysis that is not refused: its loan, and the entry of what it settles
pub record IsAnalysed (n : ℕ) (w : World) (id : ℕ) (plan : Plan) : Type 0 where
  pub loan : Held
  pub lawful : loan_plan_fault loan plan ≡ None
  pub may : MayEnter n w id (entry (n + 1) w.today (Analyse (settlement_of loan plan)))
  pub same : may.loan ≡ loan

pub analyse_enters : (n id : ℕ) (plan : Plan) (w : World) → IsWorld n w → refusal_of n w (command.Analyse id plan) ≡ None → IsAnalysed n w id plan
analyse_enters n id plan w h e =
    let q = asked n w id (analyse_cases w plan) (command.Analyse id plan) refl e in
    let l = q.loan.loan in
    let held = (named_loan n w id l h q.loan.found).held in
    let after = held.limited.account.after in
    let one = past (full_of_entries l) (case_of BadPlan (loan_plan_fault l plan) ++ (adjustments_full w (month_of w.today) ∷ [])) q.loan.rest in
    let two = past_of BadPlan (loan_plan_fault l plan) (adjustments_full w (month_of w.today) ∷ []) one.rest in
    let n1 = one.no in
    let few : length l.account.entries < 4_096 = grind (arith, nat_tests) in
    let it = is_settlement n w.today l plan held two.no in
    record {
      loan = l;
      lawful = two.no;
      may = record { few = q.few; number = refl; loan = l; found = q.loan.found; entries = few; since = subst (λ t. l.account.terms.boarded ≤ t) held.today after; until = omega arith; exists = h.today.exists; act = it.act; named = it.named; covered = brings_none (refunded l.account) (received l.account) (settlement_of l plan) it.covered; room = room_left w (month_of w.today) two.rest };
      same = refl;
    }

pub analyse_quiet : (n id : ℕ) (plan : Plan) (w : World) → IsWorld n w → refusal_of n w (command.Analyse id plan) ≡ None → IsQuiet n w id (with_analysis (n + 1) w.today plan)
analyse_quiet n id plan w h fresh =
    let a = analyse_enters n id plan w h fresh in
    let e = entry (n + 1) w.today (Analyse (settlement_of a.loan plan)) in
    let ch = subst (λ l. IsChange (n + 1) w.today (month_of w.today) (with_entry e) l) a.same (entry_change n id w e h a.may) in
    record { few = a.may.few; loan = a.loan; found = a.may.found ∙ ap Some a.same; month = month_of w.today; end = today_open n w h; change = record { number = λ k. refl; boarded = λ k. refl; agree = ch.agree; since = ch.since; held = ch.held } }

pub analyse_keeps : (n id : ℕ) (plan : Plan) (w : World) → IsWorld n w → refusal_of n w (command.Analyse id plan) ≡ None → IsWorld (n + 1) (after (n + 1) w (command.Analyse id plan))
unfolding after loans_after seals_after
analyse_keeps n id plan w h e = quiet_keeps n id w (with_analysis (n + 1) w.today plan) h (analyse_quiet n id plan w h e)
