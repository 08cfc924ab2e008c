use Rattle.std.proofs.Common.{◌≡◌, take}
use Rattle.servicing_transfer.specs.Numbers.{loans_of}
use Rattle.servicing_transfer.proofs.loan_numbers.loan_numbers.Given as goal

abbrev pub invariant-loop-done : goal.invariant-loop-done
invariant-loop-done g l = record { numbers : l.numbers.items ≡ loans_of (take l.done l.core.history) }
