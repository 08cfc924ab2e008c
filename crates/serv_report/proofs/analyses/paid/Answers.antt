use Rattle.std.proofs.Common.{◌≡◌, ◌+◌, get_or, arith}
use Rattle.std.specs.Prelude.{pos, ◌+ℤ◌, ◌-ℤ◌}
use Rattle.std.proofs.lemmas.Int.{ints}
use Rattle.escrow_analysis.specs.declared.analysis.Analysis.{Analysis}
use Rattle.serv_report.specs.EscrowText.{trial_at, paid_in}
use Rattle.serv_report.proofs.PaidLemmas.{next_paid}
use Rattle.serv_report.proofs.analyses.paid.Goals as goal

pub returns : goal.returns
returns c =
    let a : Analysis = c.args.analysis.now in
    let is : paid_in a (c.args.place + 1) ≡ a.base +ℤ trial_at a c.args.place -ℤ get_or a.trial c.args.place (pos 0) = next_paid a c.args.place in
    omega (arith, ints)
