use Rattle.std.proofs.Common.{◌++◌, ap, ◌∙◌, arith}
use Rattle.std.proofs.Math.Nat.{le_refl}
use Rattle.std.proofs.lemmas.Result.{on_ok_weaker}
use Rattle.svc_core.specs.Bound.{query_bound}
use Rattle.svc_types.specs.declared.requests.Query.TheVariants as query
use Rattle.serv_report.proofs.SpellLemmas.{spelled}
use Rattle.serv_drill.proofs.SummaryLemmas.{custody_text}
use Rattle.serv_drill.proofs.summary.push_custody.Goals as goal

pub push_answer-requires : goal.push_answer-requires
push_answer-requires g c = record { spellable = spelled c.args.core.now.history query.Custodial c.in-Ok.answer c.history_holds.ensures.history c.in-Ok.ensures.answer }

pub returns-in-Ok-clause-pushed : goal.returns-in-Ok-clause-pushed
returns-in-Ok-clause-pushed g c =
    on_ok_weaker c.push_answer.result (λ e. e ∙ ap (λ t. c.args.out.now.items ++ t) (custody_text c.args.core.now.history c.in-Ok.answer c.in-Ok.ensures.answer)) c.push_answer.ensures.pushed

pub returns-in-Ok-clause-steps : goal.returns-in-Ok-clause-steps
unfolding query_bound
returns-in-Ok-clause-steps g c = let most = c.ask.ensures.bound (λ a m. le_refl _) in omega (arith, most)

pub returns-in-Err-clause-steps : goal.returns-in-Err-clause-steps
unfolding query_bound
returns-in-Err-clause-steps g c = let most = c.ask.ensures.bound (λ a m. le_refl _) in omega (arith, most)
