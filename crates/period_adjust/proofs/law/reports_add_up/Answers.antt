use Rattle.std.proofs.Common.{[]}
use Rattle.period_adjust.specs.Sealed.{reporting}
use Rattle.period_adjust.proofs.AddsUp.{reports_grow}
use Rattle.period_adjust.proofs.SealedLemmas.{calls_add_up, sealed_start}
use Rattle.period_adjust.proofs.SentLemmas.{reports_send, start_sends}
use Rattle.period_adjust.proofs.law.reports_add_up.Goals as goal

pub returns-clause-sums : goal.returns-clause-sums
returns-clause-sums c calls part loan month may = calls_add_up part loan month (reporting [] []) calls sealed_start may

pub returns-clause-lines : goal.returns-clause-lines
returns-clause-lines c calls may = reports_send (reporting [] []) calls start_sends may

pub returns-clause-grow : goal.returns-clause-grow
returns-clause-grow c old calls = reports_grow old calls
