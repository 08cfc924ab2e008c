use Rattle.std.proofs.Common.{List, subst}
use Rattle.servicing_transfer.specs.declared.statement_line.StatementLine.{StatementLine}
use Rattle.servicing_transfer.specs.Stated.{text_lines}
use Rattle.servicing_transfer.specs.StatementReading.{IsEnd, IsEndFault, IsFaultAfter}
use Rattle.servicing_transfer.proofs.ReadLemmas.{fault_told, end_faults, all_behind, are_stated}
use Rattle.servicing_transfer.proofs.reading.read_rest.Goals as goal

pub returns-in_err-read_end-clause-fault : goal.returns-in_err-read_end-clause-fault
returns-in_err-read_end-clause-fault c =
    let f = c.in_err-read_end.field-0.0 in
    let fault : IsEndFault c.in_ok-lines.lines.items (text_lines c.in_ok-lines.rest.now) f = subst (λ (st : List StatementLine). IsEndFault st (text_lines c.in_ok-lines.rest.now) f) c.deref.ensures.value c.in_err-read_end.ensures.fault in
    fault_told (IsFaultAfter c.args.count (text_lines c.args.text.now)) c.from_residual-in_err-read_end.result f c.from_residual-in_err-read_end.ensures.1
    (end_faults c.args.count (text_lines c.args.text.now) c.in_ok-lines.lines.items (text_lines c.in_ok-lines.rest.now) f c.in_ok-lines.ensures.lines c.in_ok-lines.ensures.count c.in_ok-lines.ensures.loans fault)

pub returns-clause-lines : goal.returns-clause-lines
returns-clause-lines c =
    let end : IsEnd c.in_ok-lines.lines.items (text_lines c.in_ok-lines.rest.now) = subst (λ (st : List StatementLine). IsEnd st (text_lines c.in_ok-lines.rest.now)) c.deref.ensures.value c.in_ok-read_end.ensures.end in
    all_behind (text_lines c.args.text.now) c.in_ok-lines.lines.items (text_lines c.in_ok-lines.rest.now) c.in_ok-lines.ensures.lines end

pub returns-clause-loans : goal.returns-clause-loans
returns-clause-loans c =
    let end : IsEnd c.in_ok-lines.lines.items (text_lines c.in_ok-lines.rest.now) = subst (λ (st : List StatementLine). IsEnd st (text_lines c.in_ok-lines.rest.now)) c.deref.ensures.value c.in_ok-read_end.ensures.end in
    are_stated c.args.count c.in_ok-lines.lines.items (text_lines c.in_ok-lines.rest.now) c.in_ok-lines.ensures.count c.ranges.count.fits c.in_ok-lines.ensures.loans end
