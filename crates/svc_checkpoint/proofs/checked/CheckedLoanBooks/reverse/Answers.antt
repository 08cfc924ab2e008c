use Rattle.std.proofs.Common.{◌≡◌, length, sym, ap, arith}
use Rattle.svc_spec.specs.Accounts.{Account, entry_of}
use Rattle.svc_spec.specs.Months.{cost_of_month}
use Rattle.svc_replay.specs.Kept.{Kept}
use Rattle.svc_checkpoint.proofs.EndsLemmas.{month_found, reversed_ends, entry_since, entry_until, entry_steps, checked_change, within_change}
use Rattle.svc_checkpoint.proofs.checked.CheckedLoanBooks.reverse.Goals as goal

pub refreshed-self-inside-requires-clause-after : goal.refreshed-self-inside-requires-clause-after
refreshed-self-inside-requires-clause-after g c =
    let terms = ap (λ (a : Account). a.terms.boarded) c.in_ok-reverse.ensures.ok in
    omega (arith, entry_since c.self.inside.kept.account c.args.number c.in-Some.month c.self.invariant.account c.in-Some.ensures)

pub refreshed-self-inside-requires-clause-until : goal.refreshed-self-inside-requires-clause-until
refreshed-self-inside-requires-clause-until g c =
    let today = ap (λ (a : Account). a.today) c.in_ok-reverse.ensures.ok in
    omega (arith, entry_until c.self.inside.kept.account c.args.number c.in-Some.month c.self.invariant.account c.in-Some.ensures)

pub refreshed-self-inside-requires-clause-ends : goal.refreshed-self-inside-requires-clause-ends
refreshed-self-inside-requires-clause-ends g c =
    let a = c.self.inside.kept.account in
    let count = c.self.invariant.count in
    let high = entry_until a c.args.number c.in-Some.month c.self.invariant.account c.in-Some.ensures in
    reversed_ends a c.reverse.new.self.account c.args.number c.args.by c.in-Some.month c.self.inside.ends.items (length c.self.inside.ends.items) c.self.invariant.account c.self.invariant.ends (month_found (entry_of a c.args.number) c.in-Some.month c.in-Some.ensures) c.in_ok-reverse.ensures.ok (omega arith)

pub invariant_of-self-2 : goal.invariant_of-self-2
invariant_of-self-2 g c =
    checked_change c.self.inside.kept.account c.reverse.new.self.account c.self.inside.ends.items c.refreshed-self-inside.new.ends.items c.self.inside.now c.refreshed-self-inside.result c.self.inside.lates c.self.invariant (ap (λ (a : Account). a.terms) c.in_ok-reverse.ensures.ok) (ap (λ (a : Account). a.today) c.in_ok-reverse.ensures.ok) c.refreshed-self-inside.ensures.account c.refreshed-self-inside.ensures.count c.refreshed-self-inside.ensures.ends c.refreshed-self-inside.ensures.books c.refreshed-self-inside.ensures.sound

pub returns-clause-again : goal.returns-clause-again
returns-clause-again g c =
    let same : c.args.self.now.account ≡ c.self.inside.kept.account = ap (λ (k : Kept). k.account) (sym c.self.view_is) in
    rw same (rw c.in_ok-reverse.was at c.reverse.ensures.again)

pub returns-clause-steps : goal.returns-clause-steps
returns-clause-steps g c =
    let same : c.args.self.now.account ≡ c.self.inside.kept.account = ap (λ (k : Kept). k.account) (sym c.self.view_is) in
    let a = c.self.inside.kept.account in
    let terms = ap (λ (x : Account). x.terms.boarded) c.in_ok-reverse.ensures.ok in
    let today = ap (λ (x : Account). x.today) c.in_ok-reverse.ensures.ok in
    let low = entry_since a c.args.number c.in-Some.month c.self.invariant.account c.in-Some.ensures in
    let high = entry_until a c.args.number c.in-Some.month c.self.invariant.account c.in-Some.ensures in
    let within = within_change c.reverse.new.self.account c.in-Some.month c.args.steps.now c.refreshed-self-inside.new.steps c.refreshed-self-inside.ensures.account (omega arith) (omega arith) c.refreshed-self-inside.ensures.steps in
    rw same (entry_steps (entry_of a c.args.number) c.in-Some.month c.args.steps.now c.refreshed-self-inside.new.steps (cost_of_month c.reverse.new.self.account) c.in-Some.ensures within)
