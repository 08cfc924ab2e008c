use Rattle.std.proofs.Common.{◌≡◌, sym, ap, arith}
use Rattle.svc_base.specs.Calendar.{month_of}
use Rattle.svc_replay.specs.Kept.{Kept}
use Rattle.svc_checkpoint.proofs.EndsLemmas.{within_day}
use Rattle.svc_checkpoint.proofs.checked.CheckedLoanBooks.books_at.Goals as goal

pub returns-clause-steps : goal.returns-clause-steps
returns-clause-steps g c =
    let same : c.args.self.now.account ≡ c.self.inside.kept.account = ap (λ (k : Kept). k.account) (sym c.self.view_is) in
    let after = rw same at c.requires.after in
    let until = rw same at c.requires.until in
    rw same (within_day c.self.inside.kept.account (month_of c.args.day) c.args.day c.args.steps.now c.folded.new.steps c.self.invariant.account (omega arith) (omega arith) after until c.folded.ensures.steps)
