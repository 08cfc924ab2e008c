use Rattle.std.proofs.Common.{◌+◌, ◌≤◌, length, ◌≡◌, arith, refl, ap, subst, ◌∙◌}
use Rattle.svc_world.specs.World.{world}
use Rattle.std.specs.Prelude.{OnOk, IfOk, IfErr, Some, None}
use Rattle.svc_world.specs.Answers.{answer_from, answer_to, query_refusal, refusal_from}
use Rattle.svc_world.specs.Custody.{rows_in}
use Rattle.svc_core.proofs.AskLemmas.{query_fault}
use Rattle.svc_core.specs.Core.{Standing, IsQueryFault}
use Rattle.svc_core.specs.Costs.{asking_cost}
use Rattle.svc_core.specs.Bound.{query_bound}
use Rattle.svc_core.proofs.BoundLemmas.{asking_within}
use Rattle.svc_core.specs.Posted.{postings_in}
use Rattle.svc_core.proofs.PartsLemmas.{state_is, cash_of_parts}
use Rattle.svc_core.proofs.PostingLemmas.{same_postings}
use Rattle.svc_core.proofs.servicing.Core.ask.Goals as goal

pub answer-requires-clause-state : goal.answer-requires-clause-state
answer-requires-clause-state g c = state_is c.self.inside.parts.posted (length c.self.inside.parts.posted.history) c.self.inside.parts.state.today c.self.inside.parts.state.loans c.self.inside.parts.state.seals c.self.inside.parts.cash.book.rows c.self.inside.parts.cash.custody c.self.inside.parts.cash.positions.items c.self.invariant.parts refl

pub answer-requires-clause-cash : goal.answer-requires-clause-cash
answer-requires-clause-cash g c = cash_of_parts c.self.inside.parts.posted (length c.self.inside.parts.posted.history) c.self.inside.parts.state.today c.self.inside.parts.state.loans c.self.inside.parts.state.seals c.self.inside.parts.cash.book.rows c.self.inside.parts.cash.custody c.self.inside.parts.cash.positions.items c.self.invariant.parts refl

pub returns-clause-bound : goal.returns-clause-bound
returns-clause-bound g c = λ is.
    let q = c.args.query.now in
    let hist = ap (λ (s : Standing). s.history) c.self.view_is in
    let le = c.answer.ensures.steps in
    let here = ap (λ w. asking_cost g.B.LoanBooks.cost w q) c.self.invariant.parts.state in
    let within = asking_within g.B.LoanBooks.cost (world c.self.inside.parts.posted.history) q is in
    subst (λ h. c.answer.new.steps ≤ c.args.steps.now + query_bound (world h) q) hist (omega (arith, le, here, within))

pub returns-clause-asked : goal.returns-clause-asked
returns-clause-asked g c =
    let p = c.self.inside.parts.posted in
    let q = c.args.query.now in
    let hist = ap (λ (s : Standing). s.history) c.self.view_is in
    let same = ap (λ w. refusal_from w (postings_in p.history p.replies) q) c.self.invariant.parts.state ∙ ap (λ ps. refusal_from (world p.history) ps q) (same_postings p.history p.replies c.self.invariant.parts.replies) in
    subst (λ h. OnOk c.answer.result (query_refusal h q ≡ None)) hist (subst (λ r. OnOk c.answer.result (r ≡ None)) same c.answer.ensures.asked)

pub returns-clause-answer : goal.returns-clause-answer
returns-clause-answer g c =
    let p = c.self.inside.parts.posted in
    let q = c.args.query.now in
    let hist = ap (λ (s : Standing). s.history) c.self.view_is in
    let same = ap (λ w. answer_from w c.self.inside.parts.cash.book.rows (postings_in p.history p.replies) q) c.self.invariant.parts.state
    ∙ ap (λ rows. answer_from (world p.history) rows (postings_in p.history p.replies) q) c.self.invariant.parts.book
    ∙ ap (λ ps. answer_from (world p.history) (rows_in p.history) ps q) (same_postings p.history p.replies c.self.invariant.parts.replies) in
    subst (λ h. IfOk c.answer.result (λ a. answer_to h q ≡ Some a)) hist (subst (λ o. IfOk c.answer.result (λ a. o ≡ Some a)) same c.answer.ensures.answer)

pub returns-clause-refused : goal.returns-clause-refused
returns-clause-refused g c =
    let p = c.self.inside.parts.posted in
    let q = c.args.query.now in
    let hist = ap (λ (s : Standing). s.history) c.self.view_is in
    let same = ap (λ w. refusal_from w (postings_in p.history p.replies) q) c.self.invariant.parts.state ∙ ap (λ ps. refusal_from (world p.history) ps q) (same_postings p.history p.replies c.self.invariant.parts.replies) in
    subst (λ h. IfErr c.answer.result (IsQueryFault (query_refusal h q))) hist (subst (λ o. IfErr c.answer.result (IsQueryFault o)) same (query_fault _ c.answer.result c.answer.ensures.refused))
