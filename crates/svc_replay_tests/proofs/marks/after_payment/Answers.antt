use Rattle.std.proofs.Common.{◌≤◌, arith, rules}
use Rattle.svc_replay_tests.proofs.marks.after_payment.Goals as goal

pub post-requires : goal.post-requires
post-requires g c =
    let since : c.loan-terms.result.boarded ≤ c.in-Ok-Ok.paid = search rules in
    let until : c.in-Ok-Ok.paid ≤ c.day-today.result = search rules in
    rw c.new-account.ensures (record { number = λ k d less. absurd (omega arith); since = since; until = until; act = c.in-Some.ensures })
