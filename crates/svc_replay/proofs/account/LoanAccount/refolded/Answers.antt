use Rattle.std.proofs.Common.{◌≡◌, sym, ap, subst}
use Rattle.svc_spec.specs.Accounts.{Account, IsAccount}
use Rattle.svc_replay.specs.Kept.{Kept}
use Rattle.svc_replay.proofs.KeptLemmas.{kept_count, kept_entries, kept_counted, kept_steps}
use Rattle.svc_replay.proofs.account.LoanAccount.refolded.Goals as goal

pub refold-requires-clause-count : goal.refold-requires-clause-count
refold-requires-clause-count g c =
    let a : Account = record { terms = c.self.inside.terms; entries = c.self.inside.entries.all; reversals = c.self.inside.reversals.items; today = c.self.inside.today } in
    kept_count a c.self.inside.entries.live c.live.result c.self.inside.reversers.items c.self.invariant c.live.ensures

pub refold-requires-clause-entries : goal.refold-requires-clause-entries
refold-requires-clause-entries g c =
    let a : Account = record { terms = c.self.inside.terms; entries = c.self.inside.entries.all; reversals = c.self.inside.reversals.items; today = c.self.inside.today } in
    kept_entries a c.self.inside.entries.live c.live.result c.self.inside.reversers.items c.self.invariant c.live.ensures

pub returns-clause-counted : goal.returns-clause-counted
returns-clause-counted g c =
    let a : Account = record { terms = c.self.inside.terms; entries = c.self.inside.entries.all; reversals = c.self.inside.reversals.items; today = c.self.inside.today } in
    let same : c.args.self.now.account ≡ a = ap (λ (k : Kept). k.account) (sym c.self.view_is) in
    kept_counted a c.args.self.now.account c.self.inside.entries.live c.live.result c.self.inside.reversers.items c.args.day c.args.steps.now c.refold.new.steps same c.self.invariant c.live.ensures c.refold.ensures.steps

pub returns-clause-steps : goal.returns-clause-steps
returns-clause-steps g c =
    let a : Account = record { terms = c.self.inside.terms; entries = c.self.inside.entries.all; reversals = c.self.inside.reversals.items; today = c.self.inside.today } in
    let same : c.args.self.now.account ≡ a = ap (λ (k : Kept). k.account) (sym c.self.view_is) in
    kept_steps c.args.self.now.account c.args.day c.args.steps.now c.refold.new.steps (subst IsAccount (sym same) c.self.invariant.account) c.requires.after c.requires.until (returns-clause-counted g c)
