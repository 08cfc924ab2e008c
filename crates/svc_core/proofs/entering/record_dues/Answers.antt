use Rattle.std.proofs.Common.{◌≡◌, ◌+◌, ◌≤◌, length, vec_len, vec_capacity, arith, rules}
use Rattle.svc_loan.specs.Kept.{KeptLoan}
use Rattle.svc_loan.proofs.KeptLemmas.{of_found}
use Rattle.svc_core.specs.Changing.{dues_since}
use Rattle.svc_core.proofs.ChangingLemmas.{dues_count}
use Rattle.svc_core.proofs.entering.record_dues.Goals as goal

pub add_dues-requires-clause-room : goal.add_dues-requires-clause-room
add_dues-requires-clause-room g c =
    let k = c.loan.result.now in
    let ds = c.args.dues.now in
    let fits = of_found (λ (j : KeptLoan). length ds.items + length (dues_since c.args.month j) ≤ vec_capacity ds) c.args.place.id c.args.loans.now.loans k c.requires.dues c.loan.ensures in
    let count = dues_count c.args.month k in
    let former : vec_len ds ≡ length ds.items = search rules in
    omega (arith, fits, count, former)
