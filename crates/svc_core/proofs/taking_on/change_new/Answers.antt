use Rattle.std.proofs.Common.{ap, ◌∙◌}
use Rattle.svc_world.specs.Held.{Held}
use Rattle.svc_core.proofs.TakingOnLemmas.{none_there, world_on, kept_with}
use Rattle.svc_core.proofs.taking_on.change_new.Goals as goal

pub insert-requires-clause-new : goal.insert-requires-clause-new
insert-requires-clause-new g c = none_there c.args.count c.args.state.now.today c.args.state.now.loans c.args.state.now.seals c.args.id c.args.terms.now c.args.loan.value c.requires.fresh c.requires.loan

pub returns-clause-world : goal.returns-clause-world
returns-clause-world g c = world_on c.args.count c.args.state.now.today c.args.state.now.loans c.insert.new.self c.args.state.now.seals c.args.id c.args.terms.now c.args.loan.value c.requires.state c.requires.fresh c.requires.loan c.insert.ensures.held

pub returns-clause-kept : goal.returns-clause-kept
returns-clause-kept g c = kept_with c.args.count c.args.state.now.today c.args.state.now.loans c.insert.new.self c.args.state.now.seals c.args.id c.args.terms.now c.args.loan.value c.requires.state c.requires.fresh c.requires.loan c.insert.ensures.loans

pub returns-clause-id : goal.returns-clause-id
returns-clause-id g c = c.insert.ensures.id ∙ ap (λ (l : Held). l.id) c.requires.loan.held
