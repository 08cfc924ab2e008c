use Rattle.pmi_track.proofs.EndsLemmas.{schedule_is}
use Rattle.pmi_track.proofs.laws.schedules_fall.Goals as goal

pub returns : goal.returns
returns c = schedule_is
