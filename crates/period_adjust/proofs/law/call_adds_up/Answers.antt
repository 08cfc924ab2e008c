use Rattle.period_adjust.proofs.SealedLemmas.{sealed_call, call_adds_up}
use Rattle.period_adjust.proofs.SentLemmas.{call_sends}
use Rattle.period_adjust.proofs.law.call_adds_up.Goals as goal

pub returns-clause-sealed : goal.returns-clause-sealed
returns-clause-sealed c old call are may = sealed_call old call are may

pub returns-clause-sums : goal.returns-clause-sums
returns-clause-sums c old call part loan month are may = call_adds_up part loan month old call are may

pub returns-clause-lines : goal.returns-clause-lines
returns-clause-lines c old call may send = call_sends old call send may
