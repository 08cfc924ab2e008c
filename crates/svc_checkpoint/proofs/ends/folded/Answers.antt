use Rattle.std.proofs.Common.{ap, sym, ◌∙◌, arith}
use Rattle.svc_types.specs.declared.terms.Terms.{Terms}
use Rattle.svc_checkpoint.proofs.EndsLemmas.{before_since, before_until, of_account, counted_of, live_count, live_fold}
use Rattle.svc_checkpoint.specs.Ends.{counted_before}
use Rattle.svc_checkpoint.proofs.ends.folded.Goals as goal

pub fold_on-requires-clause-since : goal.fold_on-requires-clause-since
fold_on-requires-clause-since g c =
    let boarded = ap (λ (t : Terms). t.boarded) c.terms.ensures in
    omega (arith, boarded, c.folded_before-books.ensures.day, before_since c.args.kept.now.account c.month_of.result c.is_account.ensures)

pub fold_on-requires-clause-until : goal.fold_on-requires-clause-until
fold_on-requires-clause-until g c = omega (arith, c.folded_before-books.ensures.day, before_until c.args.kept.now.account c.month_of.result c.args.day (omega arith) c.requires.after)

pub fold_on-requires-clause-count : goal.fold_on-requires-clause-count
fold_on-requires-clause-count g c = live_count c.args.kept.now.account c.live.result c.is_account.ensures c.live.ensures

pub fold_on-requires-clause-entries : goal.fold_on-requires-clause-entries
fold_on-requires-clause-entries g c = live_fold c.args.kept.now.account c.terms.result.now c.live.result c.is_account.ensures c.terms.ensures c.live.ensures

pub fold_on-requires-clause-earlier : goal.fold_on-requires-clause-earlier
fold_on-requires-clause-earlier g c =
    c.folded_before-books.ensures.books ∙ sym (of_account c.args.kept.now.account c.terms.result.now c.live.result c.folded_before-books.result.day c.terms.ensures c.live.ensures)

pub returns-clause-steps : goal.returns-clause-steps
returns-clause-steps g c =
    let here = counted_of c.args.kept.now.account c.terms.result.now c.live.result c.folded_before-books.result.day c.terms.ensures c.live.ensures in
    let there = counted_of c.args.kept.now.account c.terms.result.now c.live.result c.args.day c.terms.ensures c.live.ensures in
    let month = ap (λ m. counted_before c.args.kept.now.account m) c.month_of.ensures in
    omega (arith, here, there, month, c.folded_before-books.ensures.steps, c.fold_on.ensures.steps)
