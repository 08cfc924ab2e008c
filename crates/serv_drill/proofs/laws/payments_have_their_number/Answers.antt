use Rattle.serv_drill.proofs.PaymentLemmas.{last_kept, last_paid}
use Rattle.serv_drill.proofs.laws.payments_have_their_number.Goals as goal

pub returns-clause-paid : goal.returns-clause-paid
returns-clause-paid c = λ h key loan day. last_paid h key loan day

pub returns-clause-others : goal.returns-clause-others
returns-clause-others c = λ h a loan other. last_kept h a loan other
