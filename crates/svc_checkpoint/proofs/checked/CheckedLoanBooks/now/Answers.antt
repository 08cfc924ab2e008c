use Rattle.std.proofs.Common.{◌≡◌, sym, ap, ◌∙◌}
use Rattle.svc_spec.specs.Books.{total}
use Rattle.svc_spec.proofs.TotalLemmas.{account_total}
use Rattle.svc_replay.specs.Kept.{Kept}
use Rattle.svc_checkpoint.proofs.checked.CheckedLoanBooks.now.Goals as goal

pub returns-clause-conserved : goal.returns-clause-conserved
returns-clause-conserved c =
    let same : c.args.self.now.account ≡ c.self.inside.kept.account = ap (λ (k : Kept). k.account) (sym c.self.view_is) in
    rw same (account_total c.self.inside.kept.account c.self.invariant.account ∙ ap total (sym c.self.invariant.now))
