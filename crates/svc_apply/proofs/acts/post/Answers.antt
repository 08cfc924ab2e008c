use Rattle.std.proofs.Common.{◌≡◌, ap, arith, FitsSigned, w64}
use Rattle.std.proofs.lemmas.Int.{ints, to_z-of_z}
use Rattle.svc_types.specs.declared.books.Books.{Books}
use Rattle.svc_spec.specs.Books.{IsEntryAmount}
use Rattle.svc_spec.specs.Step.{paid}
use Rattle.svc_spec.proofs.NextLemmas.{to_principal_next, payoff_tried_next, deposited_next, refunded_next, analysed_next}
use Rattle.svc_apply.proofs.acts.post.Goals as goal

pub returns-in-Pay-clause-books : goal.returns-in-Pay-clause-books
returns-in-Pay-clause-books g c =
    let amount : IsEntryAmount c.in-Pay.cents = rw c.in-Pay.is at c.requires.act in
    let fits : FitsSigned w64 c.in-Pay.cents = omega (arith, ints) in
    let done : c.pay.new.books ≡ paid c.args.terms.now c.args.day c.in-Pay.cents c.in-Pay.to c.args.books.now = simp to_z-of_z at c.pay.ensures.books in
    rw c.in-Pay.is done

pub returns-in-Curtail-clause-steps : goal.returns-in-Curtail-clause-steps
returns-in-Curtail-clause-steps g c =
    let next = ap (λ (x : Books). x.next) c.curtail.ensures in
    omega (arith, to_principal_next)

pub returns-in-Payoff-clause-steps : goal.returns-in-Payoff-clause-steps
returns-in-Payoff-clause-steps g c =
    let first = ap (λ (x : Books). x.next) c.pay_in.ensures.books in
    let next = ap (λ (x : Books). x.next) c.try_payoff.ensures in
    omega (arith, payoff_tried_next c.args.terms.now c.args.day c.pay_in.new.books)

pub returns-in-Deposit-clause-steps : goal.returns-in-Deposit-clause-steps
returns-in-Deposit-clause-steps g c =
    let next = ap (λ (x : Books). x.next) c.deposit.ensures in
    omega (arith, deposited_next)

pub returns-in-Refund-clause-steps : goal.returns-in-Refund-clause-steps
returns-in-Refund-clause-steps g c =
    let next = ap (λ (x : Books). x.next) c.refund.ensures in
    omega (arith, refunded_next)

pub returns-in-Analyse-clause-steps : goal.returns-in-Analyse-clause-steps
returns-in-Analyse-clause-steps g c =
    let next = ap (λ (x : Books). x.next) c.analyse.ensures in
    omega (arith, analysed_next)
