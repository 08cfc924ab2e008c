use Rattle.std.proofs.Common.{◌≡◌, List, get_or, sym, ap, ◌∙◌}
use Rattle.svc_types.specs.declared.account.Entry.{Entry}
use Rattle.std.specs.Prelude.{Some}
use Rattle.svc_spec.specs.Accounts.{Account}
use Rattle.svc_replay.specs.Kept.{Kept, IsPlaceOf}
use Rattle.svc_replay.proofs.KeptLemmas.{place_there}
use Rattle.svc_replay.proofs.account.LoanAccount.entry.Goals as goal

pub returns : goal.returns
returns c =
    let a : Account = record { terms = c.self.inside.terms; entries = c.self.inside.entries.all; reversals = c.self.inside.reversals.items; today = c.self.inside.today } in
    let same : c.args.self.now.account ≡ a = ap (λ (k : Kept). k.account) (sym c.self.view_is) in
    let place : IsPlaceOf c.args.number a.entries (Some c.in_ok-place.place) = rw c.all.ensures at c.in_ok-place.ensures in
    let here : c.at.result ≡ get_or a.entries c.in_ok-place.place c.at.result = sym c.at.ensures ∙ ap (λ (xs : List Entry). get_or xs c.in_ok-place.place c.at.result) c.all-2.ensures in
    rw same (ap Some here ∙ sym (place_there a c.args.number c.in_ok-place.place c.at.result c.self.invariant.account place))
