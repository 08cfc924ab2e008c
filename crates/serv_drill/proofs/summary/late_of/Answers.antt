use Rattle.std.proofs.Common.{subst, arith}
use Rattle.std.proofs.Math.Nat.{le_refl}
use Rattle.svc_types.specs.declared.requests.Query.TheVariants as query
use Rattle.svc_world.specs.Answers.{query_refusal}
use Rattle.svc_core.specs.Bound.{query_bound}
use Rattle.svc_core.specs.Core.{IsQueryFault}
use Rattle.serv_drill.proofs.SummaryLemmas.{late_refused}
use Rattle.serv_drill.proofs.summary.late_of.Goals as goal

pub returns-in-Ok-clause-steps : goal.returns-in-Ok-clause-steps
unfolding query_bound
returns-in-Ok-clause-steps g c = let most = c.ask.ensures.bound (λ a m. le_refl _) in omega (arith, most)

pub returns-in-Err-Refused-clause-late : goal.returns-in-Err-Refused-clause-late
returns-in-Err-Refused-clause-late g c =
    let h = c.args.core.now.history in
    let fault = subst (IsQueryFault (query_refusal h (query.Books c.args.loan))) c.in-Err-Refused.field-0-is c.in-Err-Refused.ensures.refused in
    late_refused h c.args.loan c.in-Err-Refused.field-0-0 fault

pub returns-in-Err-Refused-clause-steps : goal.returns-in-Err-Refused-clause-steps
unfolding query_bound
returns-in-Err-Refused-clause-steps g c = let most = c.ask.ensures.bound (λ a m. le_refl _) in omega (arith, most)

pub returns-in-Err-OutOfMemory-clause-steps : goal.returns-in-Err-OutOfMemory-clause-steps
unfolding query_bound
returns-in-Err-OutOfMemory-clause-steps g c = let most = c.ask.ensures.bound (λ a m. le_refl _) in omega (arith, most)
