use Rattle.std.proofs.Common.{sym, ap, ◌∙◌, ◌≡◌, arith, to_z, of_z, w64}
use Rattle.std.specs.Prelude.{pos, ◌+ℤ◌}
use Rattle.std.proofs.lemmas.Int.{ints}
use Rattle.svc_base.proofs.CentsRules.{from_int_lt, from_not_int_lt, from_int_le, from_not_int_le}
use Rattle.svc_types.specs.declared.books.Installment.{Installment}
use Rattle.svc_spec.specs.Installments.{whole_part}
use Rattle.svc_spec.proofs.SettlingLemmas.{is_movable-true, is_movable-short, is_movable-paid}
use Rattle.svc_spec.proofs.InstallmentLemmas.{IsBalance}
use Rattle.svc_apply.proofs.WholeLemmas.{whole_some}
use Rattle.svc_apply.proofs.settle.movable.Goals as goal

pub returns-then-sum_of-books-clause-movable : goal.returns-then-sum_of-books-clause-movable
returns-then-sum_of-books-clause-movable c =
    let b = c.args.books.now in
    let t = c.args.terms.now in
    let whole : c.sum_of.result ≡ whole_part t b.plan b.earlier b.upb b.next = c.sum_of.ensures ∙ ap (λ (i : Installment). i.interest +ℤ i.principal +ℤ i.escrow) c.installment-open.ensures.value in
    let more = from_int_lt (to_z w64 (of_z w64 b.suspense)) (to_z w64 (of_z w64 c.sum_of.result)) c.if-sum_of-books.true in
    sym (is_movable-short t c.args.by b (omega (arith, ints)))

pub returns-clause-movable : goal.returns-clause-movable
returns-clause-movable c =
    let b = c.args.books.now in
    let t = c.args.terms.now in
    let whole : c.sum_of.result ≡ whole_part t b.plan b.earlier b.upb b.next = c.sum_of.ensures ∙ ap (λ (i : Installment). i.interest +ℤ i.principal +ℤ i.escrow) c.installment-open.ensures.value in
    let within = from_not_int_lt (to_z w64 (of_z w64 b.suspense)) (to_z w64 (of_z w64 c.sum_of.result)) c.if-sum_of-books.false in
    let owed = from_not_int_le (to_z w64 (of_z w64 b.upb)) (pos 0) c.if-books-le0.false in
    sym (is_movable-true t c.args.by b (omega arith) (omega (arith, ints)) (omega (arith, ints)))

pub returns-then-books-le0-clause-movable : goal.returns-then-books-le0-clause-movable
returns-then-books-le0-clause-movable c = sym (is_movable-paid c.args.terms.now c.args.by c.args.books.now (omega (arith, ints)))

pub returns-then-books-le0-2-clause-movable : goal.returns-then-books-le0-2-clause-movable
returns-then-books-le0-2-clause-movable c =
    let b = c.args.books.now in
    let t = c.args.terms.now in
    let signs = c.requires.signs in
    let owed = from_not_int_le (to_z w64 (of_z w64 b.upb)) (pos 0) c.if-books-le0.false in
    let none = from_int_le (to_z w64 (of_z w64 b.suspense)) (pos 0) c.if-books-le0-2.true in
    let balance : IsBalance t b.upb = record { low = signs.upb_low; high = signs.upb_high } in
    let some = whole_some t b.plan b.earlier b.upb b.next c.requires.terms signs.plan signs.earlier balance (omega (arith, ints)) in
    sym (is_movable-short t c.args.by b (omega (arith, ints)))
