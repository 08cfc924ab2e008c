use Rattle.period_adjust_tests.specs.WorkedMany.{AreGiven}
use Rattle.period_adjust_tests.proofs.many.give_all.Given as goal

abbrev pub invariant-loop-number : goal.invariant-loop-number
invariant-loop-number l = AreGiven l.seals.reporting l.cents l.number
