use Rattle.std.proofs.Common.{◌≡◌, ◌+◌, ◌≤◌, refl, sym, ap, ◌∙◌, arith}
use Rattle.svc_types.specs.declared.terms.Terms.{Terms}
use Rattle.svc_spec.specs.Accounts.{live_of, advanced_to}
use Rattle.svc_spec.specs.Months.{counted}
use Rattle.svc_replay.specs.Kept.{Kept}
use Rattle.svc_checkpoint.proofs.EndsLemmas.{live_count, live_fold, own_day, of_account, counted_of, within_advance}
use Rattle.svc_checkpoint.proofs.checked.CheckedLoanBooks.books_ahead.Goals as goal

pub fold_on-requires-clause-since : goal.fold_on-requires-clause-since
fold_on-requires-clause-since g c =
    let a = c.self.inside.kept.account in
    let own = own_day a.terms (live_of a) a.today c.self.inside.now c.self.invariant.now in
    let day = own.0 in
    let after = c.self.invariant.account.after in
    let boarded = ap (λ (t : Terms). t.boarded) c.terms.ensures in
    omega (arith, day, after, boarded)

pub fold_on-requires-clause-until : goal.fold_on-requires-clause-until
fold_on-requires-clause-until g c =
    let a = c.self.inside.kept.account in
    let same : c.args.self.now.account ≡ a = ap (λ (k : Kept). k.account) (sym c.self.view_is) in
    let own = own_day a.terms (live_of a) a.today c.self.inside.now c.self.invariant.now in
    let day = own.0 in
    let later : a.today ≤ c.args.day = rw same at c.requires in
    omega (arith, day, later)

pub fold_on-requires-clause-count : goal.fold_on-requires-clause-count
fold_on-requires-clause-count g c = live_count c.self.inside.kept.account c.live.result c.self.invariant.account c.live.ensures

pub fold_on-requires-clause-entries : goal.fold_on-requires-clause-entries
fold_on-requires-clause-entries g c = live_fold c.self.inside.kept.account c.terms.result.now c.live.result c.self.invariant.account c.terms.ensures c.live.ensures

pub fold_on-requires-clause-earlier : goal.fold_on-requires-clause-earlier
fold_on-requires-clause-earlier g c =
    let a = c.self.inside.kept.account in
    let own = own_day a.terms (live_of a) a.today c.self.inside.now c.self.invariant.now in
    own.1 ∙ sym (of_account a c.terms.result.now c.live.result c.self.inside.now.day c.terms.ensures c.live.ensures)

pub returns-clause-books : goal.returns-clause-books
returns-clause-books g c =
    let a = c.self.inside.kept.account in
    let same : c.args.self.now.account ≡ a = ap (λ (k : Kept). k.account) (sym c.self.view_is) in
    rw same (c.fold_on.ensures.books ∙ of_account a c.terms.result.now c.live.result c.args.day c.terms.ensures c.live.ensures)

pub returns-clause-steps : goal.returns-clause-steps
returns-clause-steps g c =
    let a = c.self.inside.kept.account in
    let same : c.args.self.now.account ≡ a = ap (λ (k : Kept). k.account) (sym c.self.view_is) in
    let later : a.today ≤ c.args.day = rw same at c.requires in
    let own = own_day a.terms (live_of a) a.today c.self.inside.now c.self.invariant.now in
    let first = counted_of a c.terms.result.now c.live.result c.self.inside.now.day c.terms.ensures c.live.ensures ∙ ap (counted a.terms (live_of a)) own.0 in
    let last = counted_of a c.terms.result.now c.live.result c.args.day c.terms.ensures c.live.ensures in
    rw same (within_advance a (advanced_to c.args.day a) c.args.day c.args.steps.now c.fold_on.new.steps c.self.invariant.account later refl (ap (λ x. c.fold_on.new.steps + x) (sym first) ∙ c.fold_on.ensures.steps ∙ ap (λ x. c.args.steps.now + x) last))
