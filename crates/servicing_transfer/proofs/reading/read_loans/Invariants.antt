use Rattle.std.proofs.Common.{◌≡◌, ◌++◌, length}
use Rattle.std.specs.Prelude.{map}
use Rattle.servicing_transfer.specs.StatementTexts.{loan_line}
use Rattle.servicing_transfer.specs.Stated.{text_lines}
use Rattle.servicing_transfer.specs.StatementReading.{AreLoans, last_loan}
use Rattle.servicing_transfer.proofs.reading.read_loans.Given as goal

abbrev pub invariant-loop-place : goal.invariant-loop-place
invariant-loop-place l = record {
  cut : text_lines l.text ≡ map loan_line l.lines.items ++ text_lines l.rest;
  count : length l.lines.items ≡ l.place;
  loans : AreLoans l.lines.items;
  before : l.before ≡ last_loan l.lines.items;
}
