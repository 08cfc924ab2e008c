use Rattle.std.proofs.Common.{◌≡◌, sym, ap, subst, arith}
use Rattle.svc_spec.specs.Accounts.{Account, IsAccount, advanced_to}
use Rattle.svc_spec.proofs.AccountLemmas.{advanced_account}
use Rattle.svc_replay.specs.Kept.{Kept}
use Rattle.svc_replay.proofs.KeptLemmas.{kept_count, kept_entries, kept_counted, kept_steps}
use Rattle.svc_replay.proofs.account.LoanAccount.refolded_ahead.Goals as goal

pub refold-requires-clause-after : goal.refold-requires-clause-after
refold-requires-clause-after g c =
    let same : c.args.self.now.account.today ≡ c.self.inside.today = ap (λ (k : Kept). k.account.today) (sym c.self.view_is) in
    let after = c.self.invariant.account.after in
    let later = c.requires in
    omega (arith, same, after, later)

pub refold-requires-clause-count : goal.refold-requires-clause-count
refold-requires-clause-count g c =
    let a : Account = record { terms = c.self.inside.terms; entries = c.self.inside.entries.all; reversals = c.self.inside.reversals.items; today = c.self.inside.today } in
    kept_count a c.self.inside.entries.live c.live.result c.self.inside.reversers.items c.self.invariant c.live.ensures

pub refold-requires-clause-entries : goal.refold-requires-clause-entries
refold-requires-clause-entries g c =
    let a : Account = record { terms = c.self.inside.terms; entries = c.self.inside.entries.all; reversals = c.self.inside.reversals.items; today = c.self.inside.today } in
    kept_entries a c.self.inside.entries.live c.live.result c.self.inside.reversers.items c.self.invariant c.live.ensures

pub returns-clause-steps : goal.returns-clause-steps
returns-clause-steps g c =
    let a : Account = record { terms = c.self.inside.terms; entries = c.self.inside.entries.all; reversals = c.self.inside.reversals.items; today = c.self.inside.today } in
    let b = c.args.self.now.account in
    let same : b ≡ a = ap (λ (k : Kept). k.account) (sym c.self.view_is) in
    let sound = subst IsAccount (sym same) c.self.invariant.account in
    let after = sound.after in
    let counts = kept_counted a b c.self.inside.entries.live c.live.result c.self.inside.reversers.items c.args.day c.args.steps.now c.refold.new.steps same c.self.invariant c.live.ensures c.refold.ensures.steps in
    let later = c.requires in
    kept_steps (advanced_to c.args.day b) c.args.day c.args.steps.now c.refold.new.steps (advanced_account b c.args.day sound later) (omega (arith, after, later)) (omega arith) counts
