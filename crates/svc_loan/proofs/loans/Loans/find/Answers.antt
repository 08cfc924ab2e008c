use Rattle.std.proofs.Common.{refl, subst, map, Box, Global}
use Rattle.std.specs.Prelude.{Some}
use Rattle.svc_loan.specs.Kept.{KeptLoan}
use Rattle.svc_loan.specs.Loans.{KeptLoans, IsPlaceIn}
use Rattle.svc_loan.proofs.loans.Loans.find.Goals as goal

pub returns : goal.returns
returns g c =
    let i = c.in_ok-index.index in
    let v : Box KeptLoan Global → KeptLoan = λ b. b.value in
    (refl, subst (λ (s : KeptLoans). IsPlaceIn c.args.id s.loans (Some i)) c.self.view_is (subst (λ ys. IsPlaceIn c.args.id (map v ys) (Some i)) c.deref.ensures.value c.in_ok-index.ensures))
