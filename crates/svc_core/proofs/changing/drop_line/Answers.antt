use Rattle.std.proofs.Common.{sym, ◌∙◌}
use Rattle.svc_world.specs.Held.{without_bill}
use Rattle.svc_world.proofs.LoanWorlds.{drop_quiet}
use Rattle.svc_core.proofs.QuietLemmas.{quiet_world, quiet_kept, drop_fits, drop_world}
use Rattle.svc_core.specs.State.{world_of}
use Rattle.svc_core.proofs.ChangingLemmas.{AreChanged}
use Rattle.svc_core.proofs.changing.drop_line.Goals as goal

pub drop_line-requires-clause-line : goal.drop_line-requires-clause-line
drop_line-requires-clause-line g c = drop_fits c.args.count c.args.state.now.today c.args.state.now.loans c.args.state.now.seals c.args.place.id c.args.line c.requires.fresh

pub returns-clause-world : goal.returns-clause-world
returns-clause-world g c =
    let are : AreChanged c.args.place.id (without_bill c.args.line) c.args.state.now.loans c.drop_line.new.self = record { held = c.drop_line.ensures.held; closed = c.drop_line.ensures.closed; remitted = c.drop_line.ensures.remitted } in
    let q = drop_quiet c.args.count c.args.place.id c.args.line (world_of c.args.state.now.today c.args.state.now.loans c.args.state.now.seals) c.requires.state.world c.requires.fresh in
    quiet_world c.drop_line.new.self c.requires.state q are ∙ sym (drop_world c.args.count c.args.place.id c.args.line (world_of c.args.state.now.today c.args.state.now.loans c.args.state.now.seals))

pub returns-clause-kept : goal.returns-clause-kept
returns-clause-kept g c =
    let are : AreChanged c.args.place.id (without_bill c.args.line) c.args.state.now.loans c.drop_line.new.self = record { held = c.drop_line.ensures.held; closed = c.drop_line.ensures.closed; remitted = c.drop_line.ensures.remitted } in
    let q = drop_quiet c.args.count c.args.place.id c.args.line (world_of c.args.state.now.today c.args.state.now.loans c.args.state.now.seals) c.requires.state.world c.requires.fresh in
    quiet_kept c.drop_line.new.self c.requires.state q are
