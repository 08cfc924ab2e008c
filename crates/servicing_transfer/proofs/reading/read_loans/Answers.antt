use Rattle.std.proofs.Common.{◌+◌, ◌++◌, ap, sym, subst, ◌∙◌, length}
use Rattle.std.specs.Prelude.{map}
use Rattle.servicing_transfer.specs.StatementTexts.{loan_line}
use Rattle.servicing_transfer.specs.Stated.{text_lines}
use Rattle.servicing_transfer.specs.StatementReading.{AreLoans, last_loan}
use Rattle.servicing_transfer.proofs.ReadLemmas.{loan_fault, cut_more, loans_more, last_more, count_more, no_loans}
use Rattle.servicing_transfer.proofs.reading.read_loans.Goals as goal

pub loop-place-init : goal.loop-place-init
loop-place-init c =
    let none = c.new-lines.ensures.items in
    record {
      cut = sym (ap (λ xs. map loan_line xs ++ text_lines c.args.text.now) none);
      count = ap length none;
      loans = subst AreLoans (sym none) no_loans;
      before = sym (ap last_loan none);
    }

pub loop-place-preserved : goal.loop-place-preserved
loop-place-preserved c =
    let xs = c.loop-place.lines.items in
    let x = c.in-Some.line in
    let was = c.loop-place.invariant in
    let pushed = c.in_ok-push.ensures.items in
    record {
      cut = cut_more (text_lines c.args.text.now) (text_lines c.loop-place.rest.now) (text_lines c.in-Some.more.now) xs x was.cut c.in-Some.ensures.line ∙ ap (λ ys. map loan_line ys ++ text_lines c.in-Some.more.now) (sym pushed);
      count = ap length pushed ∙ count_more xs x ∙ ap (λ k. k + 1) was.count;
      loans = subst AreLoans (sym pushed) (loans_more xs x c.loop-place.before was.loans was.before c.in-Some.ensures.rises c.in-Some.ensures.loan);
      before = last_more xs x ∙ ap last_loan (sym pushed);
    }

pub returns-in_default-clause-fault : goal.returns-in_default-clause-fault
returns-in_default-clause-fault c =
    let was = c.loop-place.invariant in
    loan_fault c.args.count (text_lines c.args.text.now) c.loop-place.lines.items (text_lines c.loop-place.rest.now) c.loop-place.before c.loop-place.place (c.from.result + 2)
    was.cut was.count c.loop-place-test.true (ap (λ k. k + 2) c.from.ensures) was.loans was.before c.in_default.ensures.none
