use Rattle.std.proofs.lemmas.Result.{on_ok_weaker}
use Rattle.serv_journal.proofs.CloseLemmas.{told_exact}
use Rattle.serv_journal.proofs.writes.close_byte.Goals as goal

pub returns-clause-told : goal.returns-clause-told
returns-clause-told g c = λ front rest long is.
    on_ok_weaker c.put.result (λ told. told_exact _ _ front rest c.args.at c.args.commit 0 long is told) c.put.ensures.told
