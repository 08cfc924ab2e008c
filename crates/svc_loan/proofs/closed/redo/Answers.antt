use Rattle.std.proofs.Common.{◌≡◌, ◌+◌, ◌-◌, vec_len, arith, sym, ap, ◌∙◌}
use Rattle.svc_base.specs.Calendar.{month_of as month_number}
use Rattle.svc_loan.specs.Closed as rule
use Rattle.svc_loan.proofs.ClosedLemmas.{cost_more}
use Rattle.svc_loan.proofs.closed.redo.Goals as goal

pub loop-carries-preserved : goal.loop-carries-preserved
loop-carries-preserved g c =
    let a = g.B.LoanBooks.account c.args.books.now in
    let types = c.args.types.now.changes in
    let cost = g.B.LoanBooks.month_cost in
    let first = month_number a.terms.boarded + c.args.stay in
    let n = vec_len c.loop-carries.carries in
    let i = c.loop-carries.invariant in
    let e = c.close_next.ensures in
    let more = cost_more cost a first (n - c.args.stay) in
    let count = e.count in
    let least = i.least in let most = i.most in let whole = i.whole in
    let steps = i.steps in let next = e.steps in
    let test = c.loop-carries-test.true in let len = c.len.ensures in
    let place : first + (n - c.args.stay) ≡ month_number a.terms.boarded + n = omega arith in
    let here = ap (cost a) place in
    let months : vec_len c.close_next.new.carries - c.args.stay ≡ n - c.args.stay + 1 = omega arith in
    let sum = ap (rule.months_cost cost a first) months in
    record {
      kept = e.kept ∙ ap (rule.carries_to a types) (sym count);
      whole = whole;
      least = omega arith;
      most = omega arith;
      capacity = search;
      steps = omega arith;
    }
