use Rattle.std.proofs.Common.{◌≡◌, ◌≤◌, length, take}
use Rattle.serv_drill.specs.Payments.{last_payment}
use Rattle.serv_drill.proofs.payments.last_payment.Given as goal

abbrev pub invariant-loop-number : goal.invariant-loop-number
invariant-loop-number l = record {
  within : l.number ≤ length l.core.history;
  same : last_payment l.loan l.core.history ≡ last_payment l.loan (take l.number l.core.history);
}

abbrev pub decreases-loop-number : goal.decreases-loop-number
decreases-loop-number l = l.number
