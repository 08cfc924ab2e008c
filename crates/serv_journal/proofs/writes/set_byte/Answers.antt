use Rattle.std.proofs.lemmas.Result.{on_ok_weaker}
use Rattle.serv_disk.proofs.Moments.{weaker}
use Rattle.serv_journal.proofs.ByteLemmas.{holds_byte, torn_byte}
use Rattle.serv_journal.proofs.writes.set_byte.Goals as goal

pub returns-clause-durable : goal.returns-clause-durable
returns-clause-durable g c =
    λ front rest long each. on_ok_weaker c.put.result
    (λ durable x h. let left = durable x h in holds_byte front rest left.0 x c.args.at c.args.value (each left.0 left.1) long left.2)
    c.put.ensures.durable

pub returns-clause-moments : goal.returns-clause-moments
returns-clause-moments g c =
    λ front rest long each. weaker _ _ _ _ _ c.put.ensures.moments
    (λ x h. torn_byte front rest h.0 x c.args.at (each h.0 h.1) long h.2)
