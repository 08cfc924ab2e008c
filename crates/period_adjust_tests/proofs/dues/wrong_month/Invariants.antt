use Rattle.remit_types.specs.Limits.{IsWithin}
use Rattle.period_adjust_tests.proofs.dues.wrong_month.Given as goal

abbrev pub invariant-loop-row : goal.invariant-loop-row
invariant-loop-row l = IsWithin l.terms l.carry
