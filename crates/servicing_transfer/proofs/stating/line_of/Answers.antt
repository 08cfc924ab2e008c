use Rattle.servicing_transfer.proofs.StatementLemmas.{books_not_refused, is_books, line_is}
use Rattle.servicing_transfer.proofs.stating.line_of.Goals as goal

pub unreachable-requires : goal.unreachable-requires
unreachable-requires g c = books_not_refused c.args.core.now.history c.args.loan c.in-Err-Refused.field-0 c.in-Err-Refused.field-0-0 c.requires c.in-Err-Refused.ensures.refused c.in-Err-Refused.field-0-is

pub line_from-requires : goal.line_from-requires
line_from-requires g c = is_books c.args.core.now.history c.args.loan c.in-Ok.answer c.in-Ok.ensures.answer

pub returns-in-Ok-clause-line : goal.returns-in-Ok-clause-line
returns-in-Ok-clause-line g c = line_is c.args.core.now.history c.args.loan c.in-Ok.answer c.args.sums c.line_from.result c.in-Ok.ensures.answer c.line_from.ensures
