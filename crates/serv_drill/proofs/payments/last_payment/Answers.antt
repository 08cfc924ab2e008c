use Rattle.std.proofs.Common.{◌≡◌, ◌+◌, ◌-◌, take, arith, true, false, sym, ap, ◌∙◌}
use Rattle.svc_world.specs.Judging.{nth_accepted}
use Rattle.serv_drill.specs.Payments.{is_payment_at, last_from, last_payment}
use Rattle.serv_drill.proofs.PaymentLemmas.{last_is, last_before}
use Rattle.serv_drill.proofs.payments.last_payment.Goals as goal

pub returns-then-is_payment_at : goal.returns-then-is_payment_at
returns-then-is_payment_at c =
    let loan = c.args.loan in
    let h = c.args.core.now.history in
    let n = c.loop-number.number - 1 in
    let e : n + 1 ≡ c.loop-number.number = omega arith in
    let is : is_payment_at loan (nth_accepted h (n + 1)) ≡ true = ap (λ k. is_payment_at loan (nth_accepted h k)) e ∙ sym c.is_payment_at.ensures ∙ c.if-is_payment_at.true in
    sym (c.loop-number.invariant.same ∙ sym (ap (λ k. last_payment loan (take k h)) e) ∙ last_is loan n h (omega (arith, c.loop-number.invariant.within)) is ∙ e)

pub loop-number-preserved : goal.loop-number-preserved
loop-number-preserved c =
    let loan = c.args.loan in
    let h = c.args.core.now.history in
    let n = c.loop-number.number - 1 in
    let e : n + 1 ≡ c.loop-number.number = omega arith in
    let is : is_payment_at loan (nth_accepted h (n + 1)) ≡ false = ap (λ k. is_payment_at loan (nth_accepted h k)) e ∙ sym c.is_payment_at.ensures ∙ c.if-is_payment_at.false in
    record {
      within = omega (arith, c.loop-number.invariant.within);
      same = c.loop-number.invariant.same ∙ sym (ap (λ k. last_payment loan (take k h)) e) ∙ last_before loan n h (omega (arith, c.loop-number.invariant.within)) is;
    }

pub returns : goal.returns
unfolding last_from
returns c =
    let none : c.loop-number.number ≡ 0 = omega arith in
    sym (c.loop-number.invariant.same ∙ ap (λ k. last_payment c.args.loan (take k c.args.core.now.history)) none)
