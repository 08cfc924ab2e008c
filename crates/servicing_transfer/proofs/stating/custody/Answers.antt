use Rattle.servicing_transfer.proofs.StatementLemmas.{custody_not_refused, is_custodial, custody_is}
use Rattle.servicing_transfer.proofs.stating.custody.Goals as goal

pub unreachable-requires : goal.unreachable-requires
unreachable-requires g c = custody_not_refused c.args.core.now.history c.in-Err-Refused.field-0 c.in-Err-Refused.field-0-0 c.in-Err-Refused.ensures.refused c.in-Err-Refused.field-0-is

pub custody_from-requires : goal.custody_from-requires
custody_from-requires g c = is_custodial c.args.core.now.history c.in-Ok.answer c.in-Ok.ensures.answer

pub returns-in-Ok-clause-custody : goal.returns-in-Ok-clause-custody
returns-in-Ok-clause-custody g c = custody_is c.args.core.now.history c.in-Ok.answer c.custody_from.result c.in-Ok.ensures.answer c.custody_from.ensures
