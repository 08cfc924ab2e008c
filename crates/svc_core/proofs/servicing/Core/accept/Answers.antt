use Rattle.std.proofs.Common.{ap, sym, subst, vec_capacity, ◌∙◌}
use Rattle.svc_world.specs.Laws.{IsLawfulStep}
use Rattle.svc_world.specs.World.{accepted}
use Rattle.svc_world.proofs.LawLemmas.{are_lawful, is_lawful_step}
use Rattle.svc_core.specs.Core.{Standing}
use Rattle.svc_core.proofs.PartsLemmas.{prepared_is, prepared_fresh}
use Rattle.svc_core.proofs.servicing.Core.accept.Goals as goal

pub accept_prepared-requires-clause-prepared : goal.accept_prepared-requires-clause-prepared
accept_prepared-requires-clause-prepared g c =
    let p = c.self.inside.parts in
    let is = ap (λ (s : Standing). s.prepared) c.self.view_is ∙ c.requires in
    prepared_is p.posted p.state.today p.state.loans p.state.seals p.cash.book.spare (vec_capacity p.scratch.dues) p.cash.positions.room (vec_capacity p.scratch.lines) c.self.inside.prepared c.in-Some.prepared (accepted c.args.key.now c.args.command.now) c.self.invariant.prepare (sym c.in-Some.ensures.value) is

pub returns-clause-lawful : goal.returns-clause-lawful
returns-clause-lawful g c = are_lawful c.accept_prepared.new.parts.posted.history c.accept_prepared.ensures.parts.history

pub returns-clause-step : goal.returns-clause-step
returns-clause-step g c =
    let p = c.self.inside.parts in
    let hist = ap (λ (s : Standing). s.history) c.self.view_is in
    let is = ap (λ (s : Standing). s.prepared) c.self.view_is ∙ c.requires in
    let fresh = prepared_fresh p.posted p.state.today p.state.loans p.state.seals p.cash.book.spare (vec_capacity p.scratch.dues) p.cash.positions.room (vec_capacity p.scratch.lines) c.self.inside.prepared (accepted c.args.key.now c.args.command.now) c.self.invariant.prepare is in
    subst (λ h. IsLawfulStep h c.args.command.now) hist (is_lawful_step p.posted.history c.args.key.now c.args.command.now c.self.invariant.parts.history fresh)
