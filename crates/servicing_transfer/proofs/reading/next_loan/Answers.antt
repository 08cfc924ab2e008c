use Rattle.std.proofs.Common.{◌≡◌, ◌≢◌, Some, true, false}
use Rattle.std.specs.Prelude.{slice_get}
use Rattle.svc_base.proofs.TextLemmas.{on_none}
use Rattle.servicing_transfer.specs.declared.statement_line.StatementLine.{StatementLine}
use Rattle.servicing_transfer.specs.StatementTexts.{loan_line}
use Rattle.servicing_transfer.specs.Stated.{IsStatedLine, text_lines}
use Rattle.servicing_transfer.specs.StatementReading.{rises_from}
use Rattle.servicing_transfer.proofs.ReadLemmas.{no_line_at, other_line_at, not_above}
use Rattle.servicing_transfer.proofs.reading.next_loan.Goals as goal

pub returns-in_err-line-clause-none : goal.returns-in_err-line-clause-none
returns-in_err-line-clause-none c =
    let none : (s : StatementLine) → IsStatedLine s → rises_from c.args.before s → slice_get (text_lines c.args.text.now) 0 ≢ Some (loan_line s) = λ s is from. no_line_at _ (loan_line s) c.in_err-line.ensures.none in
    on_none _ none

pub returns-in_err-stated-clause-none : goal.returns-in_err-stated-clause-none
returns-in_err-stated-clause-none c =
    let none : (s : StatementLine) → IsStatedLine s → rises_from c.args.before s → slice_get (text_lines c.args.text.now) 0 ≢ Some (loan_line s) = λ s is from. other_line_at _ _ _ (loan_line s) c.in_ok-line.ensures.line (c.in_err-stated.ensures.none s is) in
    on_none _ none

pub returns-then-not-is_above-clause-none : goal.returns-then-not-is_above-clause-none
returns-then-not-is_above-clause-none c = not_above _ _ _ c.args.before c.in_ok-stated.stated c.in_ok-line.ensures.line c.in_ok-stated.ensures.read c.in_ok-stated.ensures.range (λ h. let t : false ≡ true = c.if-not-is_above.ensures.1 h in cc)
