use Rattle.std.proofs.Common.{sym, ◌∙◌}
use Rattle.svc_core.specs.State.{world_of}
use Rattle.svc_core.proofs.EnteringLemmas.{made}
use Rattle.svc_core.proofs.changing.change_one.Goals as goal

pub enter-requires-clause-entry : goal.enter-requires-clause-entry
enter-requires-clause-entry g c = (made c.args.count c.args.place.id (world_of c.args.state.now.today c.args.state.now.loans c.args.state.now.seals) c.args.command.now c.in-Some.entry c.requires.state.world c.requires.command c.requires.scope c.requires.fresh (sym c.in-Some.ensures)).may

pub returns-in-Some-clause-world : goal.returns-in-Some-clause-world
returns-in-Some-clause-world g c = c.enter.ensures.world ∙ sym (made c.args.count c.args.place.id (world_of c.args.state.now.today c.args.state.now.loans c.args.state.now.seals) c.args.command.now c.in-Some.entry c.requires.state.world c.requires.command c.requires.scope c.requires.fresh (sym c.in-Some.ensures)).world
