use Rattle.std.proofs.Common.{◌≡◌, true, false, sym, subst, ap, ◌∙◌, arith}
use Rattle.std.specs.Prelude.{◌+ℤ◌}
use Rattle.std.proofs.lemmas.Int.{ints}
use Rattle.svc_types.specs.declared.books.Books.{Books}
use Rattle.svc_types.specs.declared.books.Installment.{Installment}
use Rattle.svc_spec.specs.Books.{HaveSigns}
use Rattle.svc_spec.specs.Settling.{is_overdue}
use Rattle.svc_spec.proofs.ArrearsLemmas.{passed, passed_signs, is_due, due_more, due_none, sum_more, sum_none}
use Rattle.svc_apply.specs.Conditions.{left_behind}
use Rattle.svc_apply.proofs.past_due.asked_by.Goals as goal

pub add-requires-clause-high : goal.add-requires-clause-high
add-requires-clause-high g c =
    let before = c.loop-day.invariant in
    omega (arith, ints)

pub loop-day-smaller : goal.loop-day-smaller
loop-day-smaller g c =
    let due = is_due c.args.terms.now c.args.day c.loop-day.left (sym c.is_overdue.ensures ∙ c.loop-day-test.true) in
    let last = c.loop-day.invariant.signs.next_high due.owed in
    let same = ap (λ (i : Installment). i.k) c.installment-open.ensures.value in
    let next = ap (λ (x : Books). x.next) c.leave_behind.ensures in
    omega arith

pub leave_behind-requires-clause-next : goal.leave_behind-requires-clause-next
leave_behind-requires-clause-next g c =
    let due = is_due c.args.terms.now c.args.day c.loop-day.left (sym c.is_overdue.ensures ∙ c.loop-day-test.true) in
    let last = c.loop-day.invariant.signs.next_high due.owed in
    let same = ap (λ (i : Installment). i.k) c.installment-open.ensures.value in
    let term = c.requires.terms.term_high in
    omega arith

pub loop-day-preserved : goal.loop-day-preserved
loop-day-preserved g c =
    let b = c.loop-day.left in
    let t = c.args.terms.now in
    let d = c.args.day in
    let before = c.loop-day.invariant in
    let overdue : is_overdue t d b ≡ true = sym c.is_overdue.ensures ∙ c.loop-day-test.true in
    let due = is_due t d b overdue in
    let low = before.signs.next_low due.owed in
    let last = before.signs.next_high due.owed in
    let term = c.requires.terms.term_high in
    let value = c.installment-open.ensures.value in
    let parts = c.installment-open.ensures.parts in
    let one : c.leave_behind.new.books ≡ passed t b = c.leave_behind.ensures ∙ ap (λ (i : Installment). left_behind i b) value in
    let next = ap (λ (x : Books). x.next) one in
    let whole = ap (λ (i : Installment). i.interest +ℤ i.principal +ℤ i.escrow) value in
    let counted = c.add.ensures.installments in
    let summed = c.add.ensures.sum in
    let P : Books → Type 0 = λ x. HaveSigns t x in
    record {
      signs = subst P (sym one) (passed_signs t b c.requires.terms before.signs due.owed);
      place = omega arith;
      few = omega arith;
      low = omega (arith, ints);
      high = omega (arith, ints);
      count = rw one (omega (arith, due_more t d b low overdue));
      sum = rw one (omega (arith, ints, sum_more t d b low overdue));
      steps = rw one (omega (arith, due_more t d b low overdue));
    }

pub returns-clause-installments : goal.returns-clause-installments
returns-clause-installments g c =
    let none : is_overdue c.args.terms.now c.args.day c.loop-day.left ≡ false = sym c.is_overdue.ensures ∙ c.loop-day-test.false in
    let before = c.loop-day.invariant in
    omega (arith, due_none c.args.terms.now c.args.day c.loop-day.left none)

pub returns-clause-sum : goal.returns-clause-sum
returns-clause-sum g c =
    let none : is_overdue c.args.terms.now c.args.day c.loop-day.left ≡ false = sym c.is_overdue.ensures ∙ c.loop-day-test.false in
    let before = c.loop-day.invariant in
    omega (arith, ints, sum_none c.args.terms.now c.args.day c.loop-day.left none)

pub returns-clause-high : goal.returns-clause-high
returns-clause-high g c =
    let before = c.loop-day.invariant in
    omega (arith, ints)

pub returns-clause-steps : goal.returns-clause-steps
returns-clause-steps g c =
    let none : is_overdue c.args.terms.now c.args.day c.loop-day.left ≡ false = sym c.is_overdue.ensures ∙ c.loop-day-test.false in
    let before = c.loop-day.invariant in
    omega (arith, due_none c.args.terms.now c.args.day c.loop-day.left none)
