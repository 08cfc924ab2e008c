use Rattle.svc_spec.proofs.HistoryLemmas.{history_adds_up, history_balanced}
use Rattle.svc_spec.proofs.ToldLemmas.{history_tells}
use Rattle.svc_replay.proofs.laws.histories_add_up.Goals as goal

pub returns-clause-columns : goal.returns-clause-columns
returns-clause-columns c = history_adds_up

pub returns-clause-lines : goal.returns-clause-lines
returns-clause-lines c = history_balanced

pub returns-clause-entries : goal.returns-clause-entries
returns-clause-entries c = history_tells
