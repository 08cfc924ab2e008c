use Rattle.svc_world.proofs.SignLemmas.{custody_is_unsigned, reports_are_unsigned}
use Rattle.svc_world.proofs.UnsignedLemmas.{answer_low}
use Rattle.svc_world.proofs.laws.texts_want_no_sign.Goals as goal

pub returns-clause-custody : goal.returns-clause-custody
returns-clause-custody c = custody_is_unsigned

pub returns-clause-reports : goal.returns-clause-reports
returns-clause-reports c = reports_are_unsigned

pub returns-clause-answers : goal.returns-clause-answers
returns-clause-answers c = λ h q a is e. answer_low h is q a e
