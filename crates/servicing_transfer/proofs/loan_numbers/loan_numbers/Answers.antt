use Rattle.std.proofs.Common.{◌+◌, sym, ap, ◌∙◌}
use Rattle.svc_world.specs.Judging.{nth_accepted}
use Rattle.servicing_transfer.specs.Numbers.{numbers_with}
use Rattle.servicing_transfer.proofs.PassLemmas.{numbers_more}
use Rattle.servicing_transfer.proofs.loan_numbers.loan_numbers.Goals as goal

pub loop-done-preserved : goal.loop-done-preserved
loop-done-preserved g c =
    let h = c.args.core.now.history in
    let n = c.loop-done.done in
    record { numbers = c.in_ok-with_loan.ensures ∙ ap (λ ns. numbers_with ns (nth_accepted h (n + 1))) c.loop-done.invariant.numbers ∙ sym (numbers_more h n) }
