use Rattle.std.proofs.Common.{◌∙◌}
use Rattle.svc_core.specs.State.{world_of}
use Rattle.svc_core.proofs.AnalysedLemmas.{analysing, asks_today, asks_lawful, asks_act, may_analyse, figures_are, analysed_world}
use Rattle.svc_core.proofs.changing.analyse.Goals as goal

pub settled_now-settled-requires-clause-today : goal.settled_now-settled-requires-clause-today
settled_now-settled-requires-clause-today g c = asks_today (analysing c.args.count c.args.state.now.today c.args.state.now.loans c.args.state.now.seals c.args.place.id c.args.plan.now c.requires.state c.requires.fresh)

pub settled_now-settled-requires-clause-lawful : goal.settled_now-settled-requires-clause-lawful
settled_now-settled-requires-clause-lawful g c = asks_lawful (analysing c.args.count c.args.state.now.today c.args.state.now.loans c.args.state.now.seals c.args.place.id c.args.plan.now c.requires.state c.requires.fresh)

pub settled_now-settled-requires-clause-act : goal.settled_now-settled-requires-clause-act
settled_now-settled-requires-clause-act g c = asks_act (analysing c.args.count c.args.state.now.today c.args.state.now.loans c.args.state.now.seals c.args.place.id c.args.plan.now c.requires.state c.requires.fresh)

pub enter-requires-clause-entry : goal.enter-requires-clause-entry
enter-requires-clause-entry g c = may_analyse c.settled_now-settled.result.0 (analysing c.args.count c.args.state.now.today c.args.state.now.loans c.args.state.now.seals c.args.place.id c.args.plan.now c.requires.state c.requires.fresh) c.settled_now-settled.ensures.settled

pub returns-clause-world : goal.returns-clause-world
returns-clause-world g c = c.enter.ensures.world ∙ analysed_world c.settled_now-settled.result.0 (analysing c.args.count c.args.state.now.today c.args.state.now.loans c.args.state.now.seals c.args.place.id c.args.plan.now c.requires.state c.requires.fresh) c.settled_now-settled.ensures.settled

pub returns-clause-extra : goal.returns-clause-extra
returns-clause-extra g c = figures_are (world_of c.enter.new.state.today c.enter.new.state.loans c.enter.new.state.seals) c.settled_now-settled.result.1 (analysing c.args.count c.args.state.now.today c.args.state.now.loans c.args.state.now.seals c.args.place.id c.args.plan.now c.requires.state c.requires.fresh) c.settled_now-settled.ensures.figures
