use Rattle.std.proofs.Common.{sym, subst, ap, ◌∙◌, ◌≡◌, arith, true, false}
use Rattle.svc_types.specs.declared.books.Books.{Books}
use Rattle.svc_types.specs.declared.books.Installment.{Installment}
use Rattle.svc_spec.specs.Books.{HaveSigns}
use Rattle.svc_spec.specs.Settling.{is_movable, moved_one}
use Rattle.svc_spec.proofs.SettlingLemmas.{moves_more, moves_none, moved-more, moved-none, moved_one-is}
use Rattle.svc_spec.proofs.StepLemmas.{can_pay, moved_one_signs}
use Rattle.svc_apply.specs.Conditions.{MaySettle}
use Rattle.svc_apply.proofs.ConditionLemmas.{moved_one_may_settle}
use Rattle.svc_apply.proofs.settle.pay_installments.Goals as goal

pub loop-open-preserved : goal.loop-open-preserved
loop-open-preserved g c =
    let b = c.loop-open.books in
    let t = c.args.terms.now in
    let by = c.args.by in
    let before = c.loop-open.invariant in
    let m : is_movable t by b ≡ true = sym {b = is_movable t by b} c.in-Some.ensures.movable in
    let one : c.pay_installment.new.books ≡ moved_one t b = c.pay_installment.ensures ∙ moved_one-is t c.in-Some.open b c.in-Some.ensures.value in
    let can = can_pay t by b m in
    let low = before.signs.next_low can.owed in
    let signs : HaveSigns t (moved_one t b) = moved_one_signs t b c.requires.terms before.signs can in
    let sums : MaySettle (moved_one t b) = moved_one_may_settle t b c.requires.terms before.signs can before.sums in
    let more = moves_more t by b low m in
    let P : Books → Type 0 = λ x. HaveSigns t x in
    record {
      signs = subst P (sym one) signs;
      sums = subst MaySettle (sym one) sums;
      rest = rw one (moved-more t by b low m ∙ before.rest);
      count = rw one (omega arith);
    }

pub returns-clause-books : goal.returns-clause-books
returns-clause-books g c =
    let none : is_movable c.args.terms.now c.args.by c.loop-open.books ≡ false = sym c.in_default.ensures.movable in
    sym (moved-none c.args.terms.now c.args.by c.loop-open.books c.requires.terms c.loop-open.invariant.signs none) ∙ c.loop-open.invariant.rest

pub returns-clause-steps : goal.returns-clause-steps
returns-clause-steps g c =
    let none : is_movable c.args.terms.now c.args.by c.loop-open.books ≡ false = sym c.in_default.ensures.movable in
    omega (arith, moves_none c.args.terms.now c.args.by c.loop-open.books c.requires.terms c.loop-open.invariant.signs none)

pub pay_installment-requires-clause-next : goal.pay_installment-requires-clause-next
pay_installment-requires-clause-next g c =
    let can = can_pay c.args.terms.now c.args.by c.loop-open.books (sym c.in-Some.ensures.movable) in
    let last = c.loop-open.invariant.signs.next_high can.owed in
    let same = ap (λ (i : Installment). i.k) c.in-Some.ensures.value in
    let term = c.requires.terms.term_high in
    omega arith

pub loop-open-smaller : goal.loop-open-smaller
loop-open-smaller g c =
    let can = can_pay c.args.terms.now c.args.by c.loop-open.books (sym c.in-Some.ensures.movable) in
    let last = c.loop-open.invariant.signs.next_high can.owed in
    let same = ap (λ (i : Installment). i.k) c.in-Some.ensures.value in
    let next = ap (λ (x : Books). x.next) c.pay_installment.ensures in
    omega arith
