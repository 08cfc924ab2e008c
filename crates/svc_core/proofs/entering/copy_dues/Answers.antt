use Rattle.std.proofs.Common.{◌≤◌, length, vec_capacity, arith}
use Rattle.svc_loan.specs.Kept.{KeptLoan}
use Rattle.svc_loan.proofs.KeptLemmas.{of_found}
use Rattle.svc_core.specs.Changing.{dues_since}
use Rattle.svc_core.proofs.ChangingLemmas.{dues_count}
use Rattle.svc_core.proofs.entering.copy_dues.Goals as goal

pub add_dues-requires-clause-room : goal.add_dues-requires-clause-room
add_dues-requires-clause-room g c =
    let k = c.loan.result.now in
    let fits = of_found (λ (j : KeptLoan). length (dues_since c.args.month j) ≤ vec_capacity c.args.dues.now) c.args.place.id c.args.loans.now.loans k c.requires.room c.loan.ensures in
    let count = dues_count c.args.month k in
    omega (arith, fits, count, c.clear.ensures.len, c.clear.ensures.capacity)
