use Rattle.std.proofs.Common.{◌≡◌, ◌+◌, drop}
use Rattle.servicing_transfer.specs.Numbers.{place_for}
use Rattle.servicing_transfer.proofs.loan_numbers.place_for.Given as goal

abbrev pub invariant-loop-place : goal.invariant-loop-place
invariant-loop-place l = record {
  so_far : place_for l.loan l.numbers ≡ l.place + place_for l.loan (drop l.place l.numbers);
}
