use Rattle.std.proofs.Common.{sym}
use Rattle.svc_replay.proofs.ChosenLemmas.{count_of}
use Rattle.svc_replay.proofs.entries.Live.len.Goals as goal

pub returns : goal.returns
returns c = sym (count_of c.self.inside.entries c.self.inside.places.now c.args.self.now c.self.invariant c.self.view_is)
