use Rattle.servicing_transfer.specs.Stated.{text_lines, IsConfirmFault}
use Rattle.servicing_transfer.proofs.FitsLemmas.{bad_first, all_lines}
use Rattle.servicing_transfer.proofs.ReadLemmas.{fault_told, fault_behind}
use Rattle.servicing_transfer.proofs.reading.read_statement.Goals as goal

pub returns-in_default-clause-fault : goal.returns-in_default-clause-fault
returns-in_default-clause-fault c = bad_first c.args.text.now c.in_default.ensures.none

pub returns-in_err-lines-clause-fault : goal.returns-in_err-lines-clause-fault
returns-in_err-lines-clause-fault c =
    let f = c.in_err-lines.field-0.0 in
    let head = c.in-Some.heading in
    fault_told (IsConfirmFault c.args.text.now) c.from_residual.result f c.from_residual.ensures.1
    (fault_behind c.args.text.now (text_lines head.rest.now) head.day head.count f c.in-Some.ensures.line c.in-Some.ensures.day c.in-Some.ensures.number c.in_err-lines.ensures.fault)

pub returns-clause-read : goal.returns-clause-read
returns-clause-read c =
    let head = c.in-Some.heading in
    record {
      lines = all_lines (text_lines c.args.text.now) (text_lines head.rest.now) head.day head.count c.in_ok-lines.lines.items c.in-Some.ensures.line c.in_ok-lines.ensures.lines c.in_ok-lines.ensures.count;
      dated = c.in-Some.ensures.day;
      loans = c.in_ok-lines.ensures.loans;
    }
