use Rattle.std.proofs.Common.{sym, ◌∙◌}
use Rattle.svc_world.specs.Held.{with_type}
use Rattle.svc_world.specs.LoanDues.{type_change}
use Rattle.svc_world.proofs.LoanWorlds.{retype_quiet}
use Rattle.svc_core.proofs.QuietLemmas.{quiet_world, quiet_kept, retype_since, retype_world, retype_steps}
use Rattle.svc_core.specs.State.{world_of}
use Rattle.svc_core.proofs.ChangingLemmas.{AreChanged}
use Rattle.svc_core.proofs.changing.retype.Goals as goal

pub retype-requires-clause-from : goal.retype-requires-clause-from
retype-requires-clause-from g c = retype_since c.args.count c.args.state.now.today c.args.state.now.loans c.args.state.now.seals c.args.place.id c.args.from c.args.kind c.requires.fresh

pub returns-clause-world : goal.returns-clause-world
returns-clause-world g c =
    let are : AreChanged c.args.place.id (with_type (type_change c.args.from c.args.kind)) c.args.state.now.loans c.retype.new.self = record { held = c.retype.ensures.held; closed = c.retype.ensures.closed; remitted = c.retype.ensures.remitted } in
    let q = retype_quiet c.args.count c.args.place.id c.args.from c.args.kind (world_of c.args.state.now.today c.args.state.now.loans c.args.state.now.seals) c.requires.state.world c.requires.fresh in
    quiet_world c.retype.new.self c.requires.state q are ∙ sym (retype_world c.args.count c.args.place.id c.args.from c.args.kind (world_of c.args.state.now.today c.args.state.now.loans c.args.state.now.seals))

pub returns-clause-kept : goal.returns-clause-kept
returns-clause-kept g c =
    let are : AreChanged c.args.place.id (with_type (type_change c.args.from c.args.kind)) c.args.state.now.loans c.retype.new.self = record { held = c.retype.ensures.held; closed = c.retype.ensures.closed; remitted = c.retype.ensures.remitted } in
    let q = retype_quiet c.args.count c.args.place.id c.args.from c.args.kind (world_of c.args.state.now.today c.args.state.now.loans c.args.state.now.seals) c.requires.state.world c.requires.fresh in
    quiet_kept c.retype.new.self c.requires.state q are

pub returns-clause-steps : goal.returns-clause-steps
returns-clause-steps g c =
    let are : AreChanged c.args.place.id (with_type (type_change c.args.from c.args.kind)) c.args.state.now.loans c.retype.new.self = record { held = c.retype.ensures.held; closed = c.retype.ensures.closed; remitted = c.retype.ensures.remitted } in
    retype_steps c.args.count c.args.state.now.today c.args.state.now.loans c.retype.new.self c.args.state.now.seals c.args.place.id c.args.from c.args.kind g.B.LoanBooks.month_cost _ _ c.requires.state c.requires.fresh are c.retype.ensures.steps
