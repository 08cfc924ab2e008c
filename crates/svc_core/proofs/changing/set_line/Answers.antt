use Rattle.std.proofs.Common.{sym, ◌∙◌}
use Rattle.svc_world.specs.Held.{with_bill}
use Rattle.svc_world.proofs.LoanWorlds.{line_quiet}
use Rattle.svc_core.proofs.QuietLemmas.{quiet_world, quiet_kept, line_fits, line_world}
use Rattle.svc_core.specs.State.{world_of}
use Rattle.svc_core.proofs.ChangingLemmas.{AreChanged}
use Rattle.svc_core.proofs.changing.set_line.Goals as goal

pub set_line-requires-clause-line : goal.set_line-requires-clause-line
set_line-requires-clause-line g c = line_fits c.args.count c.args.state.now.today c.args.state.now.loans c.args.state.now.seals c.args.place.id c.args.line c.requires.state c.requires.fresh

pub returns-clause-world : goal.returns-clause-world
returns-clause-world g c =
    let are : AreChanged c.args.place.id (with_bill c.args.line) c.args.state.now.loans c.set_line.new.self = record { held = c.set_line.ensures.held; closed = c.set_line.ensures.closed; remitted = c.set_line.ensures.remitted } in
    let q = line_quiet c.args.count c.args.place.id (world_of c.args.state.now.today c.args.state.now.loans c.args.state.now.seals) c.args.line c.requires.state.world c.requires.fresh in
    quiet_world c.set_line.new.self c.requires.state q are ∙ sym (line_world c.args.count c.args.place.id (world_of c.args.state.now.today c.args.state.now.loans c.args.state.now.seals) c.args.line)

pub returns-clause-kept : goal.returns-clause-kept
returns-clause-kept g c =
    let are : AreChanged c.args.place.id (with_bill c.args.line) c.args.state.now.loans c.set_line.new.self = record { held = c.set_line.ensures.held; closed = c.set_line.ensures.closed; remitted = c.set_line.ensures.remitted } in
    let q = line_quiet c.args.count c.args.place.id (world_of c.args.state.now.today c.args.state.now.loans c.args.state.now.seals) c.args.line c.requires.state.world c.requires.fresh in
    quiet_kept c.set_line.new.self c.requires.state q are
