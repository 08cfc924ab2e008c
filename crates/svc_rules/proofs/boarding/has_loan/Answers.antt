use Rattle.std.proofs.Common.{ap, sym, ◌∙◌}
use Rattle.std.specs.Prelude.{is_some}
use Rattle.svc_rules.proofs.RuleLemmas.{find-held, some-mapped}
use Rattle.svc_loan.specs.Kept.{KeptLoan}
use Rattle.svc_loan.specs.Loans.{find_kept}
use Rattle.svc_rules.proofs.boarding.has_loan.Goals as goal

pub returns : goal.returns
returns g c =
    let ks = c.args.loans.now.loans in
    c.is_some.ensures
    ∙ sym (some-mapped (λ r. r.now) c.get.result)
    ∙ ap is_some c.get.ensures
    ∙ sym (some-mapped (λ (k : KeptLoan). k.held) (find_kept c.args.id ks))
    ∙ sym (ap is_some (find-held ks c.args.id))
