use Rattle.std.proofs.Common.{◌≡◌, List, get_or, true, refl, sym, ap, ◌∙◌, rules}
use Rattle.std.specs.Prelude.{is_some, None, Some}
use Rattle.svc_types.specs.declared.account.Entry.{Entry}
use Rattle.svc_spec.specs.Accounts.{Account, entry_of, reverser_of}
use Rattle.svc_replay.specs.Kept.{Kept, IsPlaceOf}
use Rattle.svc_replay.proofs.KeptLemmas.{kept_reversed, kept_order, kept_differ, entry_here, known_here, reverser_here, live_here, found_some, any_entry}
use Rattle.svc_replay.proofs.RemoveLemmas.{left_without}
use Rattle.svc_replay.proofs.account.LoanAccount.reverse.Goals as goal

pub returns-in-Some-index-clause-unknown : goal.returns-in-Some-index-clause-unknown
returns-in-Some-index-clause-unknown c none = absurd (known_here c.args.number c.in-Some.place c.all.result c.self.invariant (ap (λ (k : Kept). k.account) (sym c.self.view_is)) c.all.ensures c.in-Some.ensures none)

pub returns-in-Some-index-clause-again : goal.returns-in-Some-index-clause-again
returns-in-Some-index-clause-again c =
    let there = entry_here c.args.number c.in-Some.place c.all.result c.self.invariant (ap (λ (k : Kept). k.account) (sym c.self.view_is)) c.all.ensures c.in-Some.ensures in
    let noted : reverser_of c.args.self.now.account c.args.number ≡ Some c.in-Some-index.earlier = reverser_here c.args.number c.in-Some.place c.all.result c.index.result.now c.self.invariant (ap (λ (k : Kept). k.account) (sym c.self.view_is)) c.all.ensures c.in-Some.ensures c.index.ensures ∙ c.in-Some-index.is in
    rw (there.1, noted) refl

pub returns-in-Some-index-clause-fault : goal.returns-in-Some-index-clause-fault
returns-in-Some-index-clause-fault c =
    let there = entry_here c.args.number c.in-Some.place c.all.result c.self.invariant (ap (λ (k : Kept). k.account) (sym c.self.view_is)) c.all.ensures c.in-Some.ensures in
    let noted : reverser_of c.args.self.now.account c.args.number ≡ Some c.in-Some-index.earlier = reverser_here c.args.number c.in-Some.place c.all.result c.index.result.now c.self.invariant (ap (λ (k : Kept). k.account) (sym c.self.view_is)) c.all.ensures c.in-Some.ensures c.index.ensures ∙ c.in-Some-index.is in
    rw (there.1, noted) (refl, refl)

pub returns-in_err-push-clause-unknown : goal.returns-in_err-push-clause-unknown
returns-in_err-push-clause-unknown c none = absurd (known_here c.args.number c.in-Some.place c.all.result c.self.invariant (ap (λ (k : Kept). k.account) (sym c.self.view_is)) c.all.ensures c.in-Some.ensures none)

pub returns-in_err-push-clause-again : goal.returns-in_err-push-clause-again
returns-in_err-push-clause-again c =
    let there = entry_here c.args.number c.in-Some.place c.all.result c.self.invariant (ap (λ (k : Kept). k.account) (sym c.self.view_is)) c.all.ensures c.in-Some.ensures in
    let free : reverser_of c.args.self.now.account c.args.number ≡ None = reverser_here c.args.number c.in-Some.place c.all.result c.index.result.now c.self.invariant (ap (λ (k : Kept). k.account) (sym c.self.view_is)) c.all.ensures c.in-Some.ensures c.index.ensures ∙ c.in_default-index.is in
    rw (there.1, free) tt

pub returns-in_err-push-clause-fault : goal.returns-in_err-push-clause-fault
returns-in_err-push-clause-fault c =
    let there = entry_here c.args.number c.in-Some.place c.all.result c.self.invariant (ap (λ (k : Kept). k.account) (sym c.self.view_is)) c.all.ensures c.in-Some.ensures in
    let free : reverser_of c.args.self.now.account c.args.number ≡ None = reverser_here c.args.number c.in-Some.place c.all.result c.index.result.now c.self.invariant (ap (λ (k : Kept). k.account) (sym c.self.view_is)) c.all.ensures c.in-Some.ensures c.index.ensures ∙ c.in_default-index.is in
    let some : is_some (entry_of c.args.self.now.account c.args.number) ≡ true = found_some (entry_of c.args.self.now.account c.args.number) there.0 there.1 in
    search rules

pub returns-clause-unknown : goal.returns-clause-unknown
returns-clause-unknown c none = absurd (known_here c.args.number c.in-Some.place c.all.result c.self.invariant (ap (λ (k : Kept). k.account) (sym c.self.view_is)) c.all.ensures c.in-Some.ensures none)

pub returns-clause-again : goal.returns-clause-again
returns-clause-again c =
    let there = entry_here c.args.number c.in-Some.place c.all.result c.self.invariant (ap (λ (k : Kept). k.account) (sym c.self.view_is)) c.all.ensures c.in-Some.ensures in
    let free : reverser_of c.args.self.now.account c.args.number ≡ None = reverser_here c.args.number c.in-Some.place c.all.result c.index.result.now c.self.invariant (ap (λ (k : Kept). k.account) (sym c.self.view_is)) c.all.ensures c.in-Some.ensures c.index.ensures ∙ c.in_default-index.is in
    rw (there.1, free) tt

pub place_among-place-requires-clause-order : goal.place_among-place-requires-clause-order
place_among-place-requires-clause-order c = kept_order _ c.self.inside.entries.live c.live.result c.self.inside.reversers.items c.self.invariant c.live.ensures

pub place_among-place-requires-clause-apart : goal.place_among-place-requires-clause-apart
place_among-place-requires-clause-apart c = kept_differ _ c.self.inside.entries.live c.live.result c.self.inside.reversers.items c.self.invariant c.live.ensures

pub place_among-place-requires-clause-there : goal.place_among-place-requires-clause-there
place_among-place-requires-clause-there c =
    live_here c.args.number c.in-Some.place c.all.result c.live.result c.at-reversed.result c.self.invariant (ap (λ (k : Kept). k.account) (sym c.self.view_is)) c.all.ensures c.in-Some.ensures c.live.ensures (rw c.in_default-index.is at c.index.ensures) (sym c.at-reversed.ensures ∙ ap (λ (xs : List Entry). get_or xs c.in-Some.place c.at-reversed.result) c.all-2.ensures)

pub invariant_of-self-2 : goal.invariant_of-self-2
invariant_of-self-2 c =
    let a : Account = record { terms = c.self.inside.terms; entries = c.self.inside.entries.all; reversals = c.self.inside.reversals.items; today = c.self.inside.today } in
    let same : c.args.self.now.account ≡ a = ap (λ (k : Kept). k.account) (sym c.self.view_is) in
    let place : IsPlaceOf c.args.number a.entries (Some c.in-Some.place) = rw c.all.ensures at c.in-Some.ensures in
    let free : reverser_of a c.args.number ≡ None = reverser_here c.args.number c.in-Some.place c.all.result c.index.result.now c.self.invariant refl c.all.ensures c.in-Some.ensures c.index.ensures ∙ c.in_default-index.is in
    let named : c.at-reversed.result.number ≡ c.args.number = ap (λ (x : Entry). x.number) (sym c.at-reversed.ensures ∙ ap (λ (xs : List Entry). get_or xs c.in-Some.place c.at-reversed.result) c.all-2.ensures) ∙ place.1 c.at-reversed.result in
    let left = left_without c.self.inside.entries.live c.live.result c.remove.new.self.live c.at-reversed.result.number c.args.number c.place_among-place.result named c.live.ensures c.remove.ensures.live c.place_among-place.ensures.others in
    rw c.remove.ensures.all (kept_reversed a c.args.self.now.account c.args.number c.args.by c.in-Some.place c.self.inside.entries.live c.remove.new.self.live c.push.new.self.items c.self.inside.reversers.items _ c.self.invariant same place free c.in_ok-push.ensures.items left refl (any_entry a c.in-Some.place place.0))
