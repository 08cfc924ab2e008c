use Rattle.std.proofs.Common.{◌≡◌, pos, arith, ap, ◌∙◌}
use Rattle.std.proofs.lemmas.Int.{ints}
use Rattle.svc_base.proofs.CalendarLemmas.{day_after_most}
use Rattle.svc_base.proofs.CentsRules.{int_le-true, int_le-false, is_le-nat_cmp}
use Rattle.std.specs.Prelude.{nat_le}
use Rattle.svc_base.specs.Calendar.{day_after}
use Rattle.svc_spec.specs.Installments.{due_day}
use Rattle.svc_spec.specs.Payoff.{is_current}
use Rattle.svc_apply.proofs.payoff.is_current.Goals as goal

pub add_days-requires : goal.add_days-requires
add_days-requires c =
    let last = c.requires.books.signs.next_high (omega (arith, ints)) in
    omega (arith, day_after_most c.first_day.result 30)

pub returns-then-books-le0 : goal.returns-then-books-le0
unfolding is_current
returns-then-books-le0 c = rw (int_le-true c.args.books.now.upb (pos 0) (omega (arith, ints)))

pub returns : goal.returns
unfolding is_current
returns c =
    let b = c.args.books.now in
    let t = c.args.terms.now in
    let later : c.add_days.result ≡ day_after (due_day t b.next) 30 = cc in
    let test = c.le.ensures ∙ is_le-nat_cmp c.args.day c.add_days.result ∙ ap (nat_le c.args.day) later in
    rw (int_le-false b.upb (pos 0) (omega (arith, ints))) test
