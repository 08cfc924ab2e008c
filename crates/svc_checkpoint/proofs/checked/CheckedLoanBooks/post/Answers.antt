use Rattle.std.proofs.Common.{◌≡◌, length, sym, ap, arith}
use Rattle.svc_spec.specs.Accounts.{Account}
use Rattle.svc_replay.specs.Kept.{Kept}
use Rattle.svc_types.specs.declared.books.Books.{Books}
use Rattle.svc_spec.specs.Events.{event_of}
use Rattle.svc_spec.proofs.DayLemmas.{on}
use Rattle.svc_spec.proofs.NextLemmas.{step_advances}
use Rattle.svc_checkpoint.proofs.PostedLemmas.{last_within, checked_last, last_steps}
use Rattle.svc_checkpoint.proofs.EndsLemmas.{posted_ends, checked_change, within_change}
use Rattle.svc_checkpoint.proofs.checked.CheckedLoanBooks.post.Goals as goal

pub refreshed-self-inside-requires-clause-ends : goal.refreshed-self-inside-requires-clause-ends
refreshed-self-inside-requires-clause-ends g c =
    let same : c.args.self.now.account ≡ c.self.inside.kept.account = ap (λ (k : Kept). k.account) (sym c.self.view_is) in
    let may = rw same at c.requires in
    let until = may.until in
    let count = c.self.invariant.count in
    rw c.month_of.ensures (posted_ends c.self.inside.kept.account c.post.new.self.account c.args.entry c.self.inside.ends.items (length c.self.inside.ends.items) c.self.invariant.account c.self.invariant.ends may c.in_ok-post.ensures.ok (omega arith))

pub invariant_of-self-2 : goal.invariant_of-self-2
invariant_of-self-2 g c =
    checked_change c.self.inside.kept.account c.post.new.self.account c.self.inside.ends.items c.refreshed-self-inside.new.ends.items c.self.inside.now c.refreshed-self-inside.result c.self.inside.lates c.self.invariant (ap (λ (a : Account). a.terms) c.in_ok-post.ensures.ok) (ap (λ (a : Account). a.today) c.in_ok-post.ensures.ok) c.refreshed-self-inside.ensures.account c.refreshed-self-inside.ensures.count c.refreshed-self-inside.ensures.ends c.refreshed-self-inside.ensures.books c.refreshed-self-inside.ensures.sound

pub returns-clause-steps : goal.returns-clause-steps
returns-clause-steps g c =
    let same : c.args.self.now.account ≡ c.self.inside.kept.account = ap (λ (k : Kept). k.account) (sym c.self.view_is) in
    let may = rw same at c.requires in
    let since = may.since in
    let until = may.until in
    let terms = ap (λ (a : Account). a.terms.boarded) c.in_ok-post.ensures.ok in
    let today = ap (λ (a : Account). a.today) c.in_ok-post.ensures.ok in
    rw c.month_of.ensures at (within_change c.post.new.self.account c.month_of.result c.args.steps.now c.refreshed-self-inside.new.steps c.refreshed-self-inside.ensures.account (omega arith) (omega arith) c.refreshed-self-inside.ensures.steps)

pub fold_last-requires-clause-limits : goal.fold_last-requires-clause-limits
fold_last-requires-clause-limits g c =
    let same : c.args.self.now.account ≡ c.self.inside.kept.account = ap (λ (k : Kept). k.account) (sym c.self.view_is) in
    let may = rw same at c.requires in
    last_within c.self.inside.kept.account c.post.new.self.account c.terms.result.now c.args.entry c.self.inside.now c.self.invariant.account may c.is_account-then-is_last.ensures c.in_ok-post.ensures.ok c.terms.ensures c.self.invariant.now (c.is_quiet_after-is_last.ensures c.if-is_last.true)

pub invariant_of-self-then-is_last : goal.invariant_of-self-then-is_last
invariant_of-self-then-is_last g c =
    let same : c.args.self.now.account ≡ c.self.inside.kept.account = ap (λ (k : Kept). k.account) (sym c.self.view_is) in
    let may = rw same at c.requires in
    checked_last c.self.inside.kept.account c.post.new.self.account c.terms.result.now c.args.entry c.self.inside.ends.items c.self.inside.now c.fold_last.new.books c.self.inside.lates c.self.invariant may c.is_account-then-is_last.ensures c.in_ok-post.ensures.ok (c.is_quiet_after-is_last.ensures c.if-is_last.true) c.terms.ensures c.fold_last.ensures.books c.fold_last.ensures.sound

pub returns-then-is_last-clause-steps : goal.returns-then-is_last-clause-steps
returns-then-is_last-clause-steps g c =
    let same : c.args.self.now.account ≡ c.self.inside.kept.account = ap (λ (k : Kept). k.account) (sym c.self.view_is) in
    let may = rw same at c.requires in
    let checked = invariant_of-self-then-is_last g c in
    let moved = ap (λ (x : Books). x.next) c.fold_last.ensures.books in
    let advances = step_advances c.terms.result.now (event_of c.args.entry) (on c.args.entry.day c.self.inside.now) in
    let low = advances.low in
    last_steps c.self.inside.kept.account c.post.new.self.account c.args.entry c.self.inside.now c.fold_last.new.books c.args.steps.now c.fold_last.new.steps c.self.invariant.account may c.is_account-then-is_last.ensures c.in_ok-post.ensures.ok (c.is_quiet_after-is_last.ensures c.if-is_last.true) c.self.invariant.now checked.now (omega arith) c.fold_last.ensures.steps
