use Rattle.std.proofs.Common.{pos, arith}
use Rattle.std.proofs.lemmas.Int.{ints}
use Rattle.svc_base.proofs.CentsRules.{int_lt-true, int_lt-false, int_le-true, int_le-false}
use Rattle.svc_spec.specs.Payoff.{payoff_sum}
use Rattle.svc_spec.specs.Step.{payoff_tried}
use Rattle.svc_apply.proofs.acts.try_payoff.Goals as goal

pub returns-then-books-le0 : goal.returns-then-books-le0
unfolding payoff_tried
returns-then-books-le0 c = rw (int_lt-false (pos 0) c.args.books.now.upb (omega (arith, ints)))

pub returns-then-asked-books : goal.returns-then-asked-books
unfolding payoff_tried
returns-then-asked-books c =
    let asked = c.payoff_sum-asked.ensures.value in
    rw (int_lt-true (pos 0) c.args.books.now.upb (omega (arith, ints)), int_le-false (payoff_sum c.args.terms.now c.args.day c.args.books.now) c.args.books.now.suspense (omega (arith, ints)))

pub returns : goal.returns
unfolding payoff_tried
returns c =
    let asked = c.payoff_sum-asked.ensures.value in
    rw (int_lt-true (pos 0) c.args.books.now.upb (omega (arith, ints)), int_le-true (payoff_sum c.args.terms.now c.args.day c.args.books.now) c.args.books.now.suspense (omega (arith, ints))) c.pay_off.ensures
