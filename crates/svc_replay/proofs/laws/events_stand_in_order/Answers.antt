use Rattle.svc_spec.proofs.PrecedeLemmas.{events_precede, events_are_all}
use Rattle.svc_spec.proofs.ToldLemmas.{acts_events}
use Rattle.svc_replay.proofs.laws.events_stand_in_order.Goals as goal

pub returns-clause-order : goal.returns-clause-order
returns-clause-order c = events_precede c.args.terms.now c.args.live.now c.args.day

pub returns-clause-all : goal.returns-clause-all
returns-clause-all c = events_are_all c.args.terms.now c.args.live.now c.args.day

pub returns-clause-entries : goal.returns-clause-entries
returns-clause-entries c = acts_events c.args.terms.now c.args.live.now c.args.day
