use Rattle.std.proofs.Common.{◌≡◌, ◌+◌, ◌++◌, length}
use Rattle.std.specs.List.{AllPairs}
use Rattle.servicing_transfer.specs.Stated.{rises}
use Rattle.servicing_transfer.specs.Differences.{lines_about}
use Rattle.servicing_transfer.proofs.confirming.push_loans.Given as goal

abbrev pub invariant-loop-loan : goal.invariant-loop-loan
invariant-loop-loan l = record {
  lines : l.out.items ++ lines_about l.text l.books ≡ l.fn.out.items ++ lines_about l.fn.text l.fn.books;
  text : AllPairs rises l.text;
  books : AllPairs rises l.books;
}

abbrev pub decreases-loop-loan : goal.decreases-loop-loan
decreases-loop-loan l = length l.text + length l.books
