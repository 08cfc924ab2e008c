use Rattle.svc_checkpoint.proofs.PlanLemmas.{account_known}
use Rattle.svc_checkpoint.proofs.EndsLemmas.{end_kept}
use Rattle.svc_checkpoint.proofs.ends.end_with.Goals as goal

pub move_to-requires-clause-newest : goal.move_to-requires-clause-newest
move_to-requires-clause-newest c = (account_known c.args.kept.now.account c.args.books.now c.requires.books).plan

pub move_to-requires-clause-earlier : goal.move_to-requires-clause-earlier
move_to-requires-clause-earlier c = (account_known c.args.kept.now.account c.args.books.now c.requires.books).earlier

pub returns-clause-end : goal.returns-clause-end
returns-clause-end c = end_kept c.args.kept.now.account c.args.books.now c.move_to.new.self c.of.result c.is_account.ensures c.requires.books c.move_to.ensures.new c.move_to.ensures.newest c.move_to.ensures.earlier c.of.ensures
