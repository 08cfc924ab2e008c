use Rattle.std.proofs.Common.{◌≡◌, arith, ap}
use Rattle.svc_base.proofs.CentsRules.{cents}
use Rattle.svc_loan.specs.Kept.{KeptLoan}
use Rattle.svc_loan.proofs.loan.Loan.remit.Goals as goal

pub returns-clause-remitted : goal.returns-clause-remitted
returns-clause-remitted g c =
    let same : c.self.inside.remitted ≡ c.args.self.now.remitted = ap (λ (v : KeptLoan). v.remitted) c.self.view_is in
    let low = c.requires.low in
    let high = c.requires.high in
    grind (arith, cents)
