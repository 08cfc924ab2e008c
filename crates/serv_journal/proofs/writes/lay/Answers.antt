use Rattle.std.proofs.Common.{length}
use Rattle.serv_disk.proofs.Moments.{started, goes_on}
use Rattle.serv_journal.proofs.ByteLemmas.{torn_after}
use Rattle.serv_journal.proofs.writes.lay.Goals as goal

pub returns-clause-crash : goal.returns-clause-crash
returns-clause-crash g c = λ front long each x h.
    let d = c.write_at.ensures.crash x h in torn_after front d.0 x c.args.at (length c.args.bytes.now) (each d.0 d.1) long d.2

pub returns-clause-moments : goal.returns-clause-moments
returns-clause-moments g c = λ front long each.
    goes_on g.D.Disk.view _ _ _ _ (started g.D.Disk.view c.args.disk.now _ (λ x left. each x (g.met.D.Disk.only_now c.args.disk.now x left))) c.write_at.ensures.time
    (λ x h. let d = c.write_at.ensures.crash x h in torn_after front d.0 x c.args.at (length c.args.bytes.now) (each d.0 d.1) long d.2)
