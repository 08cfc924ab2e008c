use Rattle.std.proofs.Common.{◌≡◌, map, take}
use Rattle.svc_loan.specs.Loans.{held_in, closed_in, remitted_in}
use Rattle.svc_core.specs.Reported.{remitted_with}
use Rattle.svc_core.proofs.sent.remit_lines.Given as goal

abbrev pub invariant-loop-line : goal.invariant-loop-line
invariant-loop-line g l = record {
  held : held_in l.loans.loans ≡ held_in l.fn.loans.loans;
  closed : closed_in l.loans.loans ≡ closed_in l.fn.loans.loans;
  remitted : remitted_in l.loans.loans ≡ map (remitted_with (take l.line-index l.lines)) l.fn.loans.loans;
}
