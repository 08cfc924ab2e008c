use Rattle.std.proofs.Common.{◌≡◌, sym, ap, subst, rules}
use Rattle.svc_spec.specs.Accounts.{Account}
use Rattle.svc_replay.specs.Kept.{Kept, IsQuietAfter}
use Rattle.svc_replay.proofs.KeptLemmas.{kept_entries}
use Rattle.svc_replay.proofs.LastLemmas.{quiet_today}
use Rattle.svc_replay.proofs.account.LoanAccount.is_quiet_after.Goals as goal

pub is_quiet-requires-clause-entries : goal.is_quiet-requires-clause-entries
is_quiet-requires-clause-entries c =
    let a : Account = record { terms = c.self.inside.terms; entries = c.self.inside.entries.all; reversals = c.self.inside.reversals.items; today = c.self.inside.today } in
    kept_entries a c.self.inside.entries.live c.live.result c.self.inside.reversers.items c.self.invariant c.live.ensures

pub returns-then-eq : goal.returns-then-eq
returns-then-eq c is =
    let a : Account = record { terms = c.self.inside.terms; entries = c.self.inside.entries.all; reversals = c.self.inside.reversals.items; today = c.self.inside.today } in
    let same : c.args.self.now.account ≡ a = ap (λ (k : Kept). k.account) (sym c.self.view_is) in
    let here : c.args.day ≡ a.today = search rules in
    subst (λ x. IsQuietAfter x c.args.day) (sym same) (quiet_today a c.args.day c.self.invariant.account here)
