use Rattle.pmi_track.proofs.EndsLemmas.{automatic_is, never_is}
use Rattle.pmi_track.proofs.laws.insurance_ends_first.Goals as goal

pub returns : goal.returns
returns c = record { first = automatic_is; never = never_is }
