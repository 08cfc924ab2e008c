use Rattle.std.proofs.Common.{drop}
use Rattle.std.proofs.lemmas.Result.{IfOk-weaker}
use Rattle.serv_journal.proofs.StepLemmas.{one_found}
use Rattle.serv_journal.proofs.steps.record_at.Goals as goal

pub returns-in-One-clause-found : goal.returns-in-One-clause-found
returns-in-One-clause-found g c =
    IfOk-weaker c.line_at.result _ _
    (λ found said s is. one_found c.args.version c.args.number (drop c.args.place s) found c.in-One.is (c.requires.unmarked c.in-One.is s is) (said s is))
    c.line_at.ensures.found
