use Rattle.servicing_transfer.proofs.ShownCash.{split_holds}
use Rattle.servicing_transfer.proofs.splitting.split.Goals as goal

pub returns : goal.returns
returns g c = split_holds c.args.from c.args.to c.args.core.now.history _ _ c.in_ok-part.ensures c.in_ok-part-2.ensures c.history_holds.ensures.history
