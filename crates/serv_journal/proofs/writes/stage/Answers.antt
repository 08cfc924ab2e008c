use Rattle.std.proofs.Common.{◌+◌, length, arith}
use Rattle.std.proofs.lemmas.Result.{on_ok_weaker}
use Rattle.serv_disk.proofs.Moments.{weaker}
use Rattle.serv_journal.proofs.ByteLemmas.{torn_after}
use Rattle.serv_journal.proofs.PutLemmas.{told_reaches}
use Rattle.serv_journal.proofs.writes.stage.Goals as goal

pub returns-clause-moments : goal.returns-clause-moments
returns-clause-moments g c =
    λ front long each. weaker _ _ _ _ _ c.put.ensures.moments
    (λ x h. torn_after front h.0 x c.args.at (length c.args.bytes.now) (each h.0 h.1) (omega arith) h.2)

pub returns-clause-reach : goal.returns-clause-reach
returns-clause-reach g c = on_ok_weaker c.put.result (λ told. told_reaches _ _ c.args.bytes.now c.args.at (c.args.at + length c.args.bytes.now) c.requires told (omega arith)) c.put.ensures.told
