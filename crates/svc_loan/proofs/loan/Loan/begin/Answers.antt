use Rattle.std.proofs.Common.{◌<◌, arith}
use Rattle.svc_base.specs.Calendar.{month_of as month_number, months_end}
use Rattle.svc_loan.proofs.LoanLemmas.{begun_loan}
use Rattle.svc_loan.proofs.loan.Loan.begin.Goals as goal

pub invariant_of-result : goal.invariant_of-result
invariant_of-result g c =
    let calendar : month_number c.args.today < months_end = (let last = c.number-month.ensures.end in let m = c.month_of.ensures in omega arith) in
    begun_loan c.args.terms c.args.today (g.B.LoanBooks.account c.in_ok-books.books) c.new-2.result.changes c.new-4.result _ c.new-3.result.items c.requires calendar c.in_ok-books.ensures.ok (c.new-4.ensures c.args.terms c.args.today) c.new-3.ensures.len c.new-3.ensures.items
