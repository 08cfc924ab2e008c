use Rattle.serv_journal.proofs.FrameLemmas.{place_at}
use Rattle.serv_journal.proofs.frames.Frames.place.Goals as goal

pub returns : goal.returns
returns c = place_at c.self.inside.bytes.items c.self.inside.list.items c.args.self.now c.args.i c.index.result.now c.self.view_is c.requires c.index.ensures
