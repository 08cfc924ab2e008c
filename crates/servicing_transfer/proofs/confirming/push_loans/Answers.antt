use Rattle.std.proofs.Common.{◌++◌, arith, length, sym, ap, subst, ◌∙◌}
use Rattle.std.specs.List.{AllPairs}
use Rattle.servicing_transfer.specs.Stated.{rises}
use Rattle.servicing_transfer.specs.Differences.{lines_about}
use Rattle.servicing_transfer.proofs.DifferenceLemmas.{walk_more, walk_done, left_rises, right_rises, fewer_left}
use Rattle.servicing_transfer.proofs.confirming.push_loans.Goals as goal

pub loop-loan-preserved : goal.loop-loan-preserved
loop-loan-preserved c =
    let text = c.loop-loan.text.now in
    let books = c.loop-loan.books.now in
    let was = c.loop-loan.invariant in
    let least = sym c.least_loan.ensures ∙ c.in-Some.is in
    record {
      lines = walk_more c.in-Some.loan text books c.split_loan-stated.result.1.now c.split_loan-held.result.1.now c.split_loan-stated.result.0 c.split_loan-held.result.0
          c.loop-loan.out.items c.push_line_about.new.out.items c.word_for.result.now (c.args.out.now.items ++ lines_about c.args.text.now c.args.books.now)
          least was.text was.books c.split_loan-stated.ensures.first c.split_loan-held.ensures.first c.split_loan-stated.ensures.left c.split_loan-held.ensures.left c.word_for.ensures c.in_ok-push_line_about.ensures was.lines;
      text = subst (AllPairs rises) (sym c.split_loan-stated.ensures.left) (left_rises c.in-Some.loan text books least was.text);
      books = subst (AllPairs rises) (sym c.split_loan-held.ensures.left) (right_rises c.in-Some.loan text books least was.books);
    }

pub loop-loan-smaller : goal.loop-loan-smaller
loop-loan-smaller c =
    let text = c.loop-loan.text.now in
    let books = c.loop-loan.books.now in
    let was = c.loop-loan.invariant in
    let least = sym c.least_loan.ensures ∙ c.in-Some.is in
    let less = fewer_left c.in-Some.loan text books least was.text was.books in
    let t = ap length c.split_loan-stated.ensures.left in
    let b = ap length c.split_loan-held.ensures.left in
    omega (arith, less, t, b)

pub returns : goal.returns
returns c = walk_done c.loop-loan.text.now c.loop-loan.books.now c.loop-loan.out.items (c.args.out.now.items ++ lines_about c.args.text.now c.args.books.now) (sym c.least_loan.ensures ∙ c.in_default.is) c.loop-loan.invariant.lines
