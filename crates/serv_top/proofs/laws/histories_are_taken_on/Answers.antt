use Rattle.serv_top.proofs.TakenOnLemmas.{ended_history, lines_history, taken_on}
use Rattle.serv_top.proofs.laws.histories_are_taken_on.Goals as goal

pub returns : goal.returns
returns c = record { ended = ended_history; lines = lines_history; taken_on = taken_on }
