use Rattle.std.proofs.Common.{arith}
use Rattle.svc_core.proofs.EveryoneLemmas.{day_today, day_world, day_kept, day_steps}
use Rattle.svc_core.proofs.everyone.change_day.Goals as goal

pub advance-requires-clause-later : goal.advance-requires-clause-later
advance-requires-clause-later g c = day_today c.args.count c.args.day c.args.state.now.today c.args.state.now.loans c.args.state.now.seals c.requires.state c.requires.fresh

pub returns-clause-world : goal.returns-clause-world
returns-clause-world g c = day_world c.args.count c.args.day c.args.state.now.today c.args.state.now.loans c.advance.new.self c.args.state.now.seals c.requires.state c.requires.fresh c.advance.ensures.held

pub returns-clause-kept : goal.returns-clause-kept
returns-clause-kept g c = day_kept c.args.day c.args.state.now.today c.args.state.now.loans c.advance.new.self c.args.state.now.seals c.requires.state.kept c.advance.ensures.held c.advance.ensures.closed c.advance.ensures.remitted

pub returns-clause-steps : goal.returns-clause-steps
returns-clause-steps g c =
    let cost = day_steps g.B.LoanBooks.cost c.args.count c.args.day c.args.state.now.today c.args.state.now.loans c.advance.new.self c.args.state.now.seals c.requires.state c.advance.ensures.held in
    let steps = c.advance.ensures.steps in
    omega (arith, cost, steps)
