use Rattle.std.proofs.Common.{◌≡◌, sym, ap, ◌∙◌}
use Rattle.std.specs.Prelude.{None, Some}
use Rattle.svc_spec.specs.Accounts.{Account, entry_of}
use Rattle.svc_replay.specs.Kept.{Kept, IsPlaceOf}
use Rattle.svc_replay.proofs.KeptLemmas.{noted_at, none_noted, any_entry}
use Rattle.svc_replay.proofs.account.LoanAccount.reversed_by.Goals as goal

pub returns : goal.returns
returns c =
    let a : Account = record { terms = c.self.inside.terms; entries = c.self.inside.entries.all; reversals = c.self.inside.reversals.items; today = c.self.inside.today } in
    let same : c.args.self.now.account ≡ a = ap (λ (k : Kept). k.account) (sym c.self.view_is) in
    let place : IsPlaceOf c.args.number a.entries (Some c.in_ok-place.place) = rw c.all.ensures at c.in_ok-place.ensures in
    rw same (noted_at a c.self.inside.entries.live c.self.inside.reversers.items c.args.number c.in_ok-place.place c.index.result.now (any_entry a c.in_ok-place.place place.0) c.self.invariant place c.index.ensures)

pub returns-in_err-place : goal.returns-in_err-place
returns-in_err-place c =
    let a : Account = record { terms = c.self.inside.terms; entries = c.self.inside.entries.all; reversals = c.self.inside.reversals.items; today = c.self.inside.today } in
    let same : c.args.self.now.account ≡ a = ap (λ (k : Kept). k.account) (sym c.self.view_is) in
    let none : entry_of a c.args.number ≡ None = rw c.all.ensures at c.in_err-place.ensures in
    rw same (c.from_residual.ensures ∙ sym (none_noted a c.args.number c.self.invariant.account none))
