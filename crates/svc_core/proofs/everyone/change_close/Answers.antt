use Rattle.std.proofs.Common.{◌≡◌, ◌+◌, arith, ◌∙◌}
use Rattle.svc_types.specs.declared.requests.Command.TheVariants as command
use Rattle.svc_world.specs.Reports.{lines_of}
use Rattle.svc_world.specs.World.{after}
use Rattle.svc_loan.specs.Loans.{held_in}
use Rattle.svc_core.specs.State.{world_of}
use Rattle.svc_core.proofs.ClosingWorlds.{close_may, close_done, close_seals, close_ended, close_room, close_closed, close_world, close_sent, close_extra, close_kept, same_count}
use Rattle.svc_core.proofs.everyone.change_close.Given.{Over}
use Rattle.svc_core.proofs.everyone.change_close.Goals as goal

pub close-requires : goal.close-requires
close-requires g c = close_may c.args.count c.args.month c.args.state.now.today c.args.state.now.loans c.args.state.now.seals c.requires.state c.requires.fresh c.requires.loans

pub fill_lines-requires-clause-closed : goal.fill_lines-requires-clause-closed
fill_lines-requires-clause-closed g c =
    let s = c.args.state.now in
    close_done c.args.month s.loans.loans c.close.new.self.loans (close_may c.args.count c.args.month s.today s.loans s.seals c.requires.state c.requires.fresh c.requires.loans) c.close.ensures.held c.close.ensures.closed

pub fill_lines-requires-clause-room : goal.fill_lines-requires-clause-room
fill_lines-requires-clause-room g c =
    let same = same_count c.args.state.now.loans.loans c.close.new.self.loans c.close.ensures.held in
    let room = c.requires.lines in
    omega (arith, same, room)

filled : (g : Over) (c : goal.After-deref g) → c.deref.result.now ≡ lines_of c.args.state.now.seals.reporting.pending c.args.month (held_in c.close.new.self.loans)
filled g c = c.deref.ensures.value ∙ c.fill_lines.ensures

pub seal-requires-clause-may : goal.seal-requires-clause-may
seal-requires-clause-may g c =
    let s = c.args.state.now in
    close_seals c.args.count c.args.month s.today s.loans c.close.new.self s.seals c.deref.result.now c.requires.state c.requires.month c.requires.fresh c.close.ensures.held (filled g c)

pub seal-requires-clause-ended : goal.seal-requires-clause-ended
seal-requires-clause-ended g c =
    let s = c.args.state.now in
    close_ended c.args.count c.args.month s.today s.loans s.seals c.requires.fresh

pub seal-requires-clause-room : goal.seal-requires-clause-room
seal-requires-clause-room g c =
    let s = c.args.state.now in
    let few = close_room c.args.month s.loans c.close.new.self s.seals c.deref.result.now c.close.ensures.held (filled g c) in
    let room = c.requires.report_lines in
    omega (arith, few, room)

pub report_of-requires : goal.report_of-requires
report_of-requires g c = close_closed c.args.month c.args.state.now.seals.reporting c.seal.new.seals.reporting c.deref.result.now c.seal.ensures.done

pub closed_extra-requires : goal.closed_extra-requires
closed_extra-requires g c =
    let s = c.args.state.now in
    let is = close_world c.args.count c.args.month s.today s.loans c.close.new.self s.seals c.seal.new.seals c.deref.result.now c.close.ensures.held (c.deref.ensures.value ∙ c.fill_lines.ensures) c.seal.ensures.done c.seal.ensures.remitted in
    close_sent c.args.count c.args.month s.today s.loans c.close.new.self s.seals c.seal.new.seals c.report_of.result.now c.requires.state c.requires.month c.requires.fresh is c.report_of.ensures

world : (g : Over) (c : goal.After-closed_extra g) → world_of c.args.state.now.today c.close.new.self c.seal.new.seals ≡ after (c.args.count + 1) (world_of c.args.state.now.today c.args.state.now.loans c.args.state.now.seals) (command.Close c.args.month)
world g c =
    let s = c.args.state.now in
    close_world c.args.count c.args.month s.today s.loans c.close.new.self s.seals c.seal.new.seals c.deref.result.now c.close.ensures.held (c.deref.ensures.value ∙ c.fill_lines.ensures) c.seal.ensures.done c.seal.ensures.remitted

pub returns-clause-world : goal.returns-clause-world
returns-clause-world g c = world g c

pub returns-clause-kept : goal.returns-clause-kept
returns-clause-kept g c =
    let s = c.args.state.now in
    let e = c.close.ensures in
    close_kept c.args.count c.args.month s.today s.loans c.close.new.self s.seals c.seal.new.seals c.deref.result.now c.requires.state c.requires.fresh e.held e.closed e.remitted c.seal.ensures.done c.seal.ensures.remitted

pub returns-clause-extra : goal.returns-clause-extra
returns-clause-extra g c =
    let s = c.args.state.now in
    c.closed_extra.ensures
    ∙ close_extra c.args.count c.args.month (world_of s.today s.loans s.seals) (world_of s.today c.close.new.self c.seal.new.seals) c.report_of.result.now (world g c) c.report_of.ensures
