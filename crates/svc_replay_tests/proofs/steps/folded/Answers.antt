use Rattle.std.proofs.Common.{rules, arith}
use Rattle.svc_spec.specs.Books.{IsWhat}
use Rattle.svc_spec.proofs.LimitLemmas.{start_bounded}
use Rattle.svc_replay_tests.proofs.UnitLemmas.{step_one_more, step_within}
use Rattle.svc_replay_tests.proofs.steps.folded.Goals as goal

pub loop-step-init : goal.loop-step-init
loop-step-init g c = record {
  books = c.start-books.ensures.books;
  bounded = rw c.start-books.ensures.start (start_bounded c.args.terms.now);
}

pub fold_step-requires-clause-limits : goal.fold_step-requires-clause-limits
fold_step-requires-clause-limits g c =
    let e = c.in-Some.event in
    let b = c.loop-step.books in
    let before = c.loop-step.invariant in
    let what : IsWhat e.what = search rules in
    step_within c.args.terms.now e c.loop-step.step-index b c.requires.terms what before.books.signs before.bounded (omega arith)

pub loop-step-preserved : goal.loop-step-preserved
loop-step-preserved g c =
    let e = c.in-Some.event in
    let b = c.loop-step.books in
    let before = c.loop-step.invariant in
    let what : IsWhat e.what = search rules in
    record {
      books = c.fold_step.ensures.books;
      bounded = rw c.fold_step.ensures.step (step_one_more c.args.terms.now e c.loop-step.step-index b c.requires.terms what before.books.signs before.bounded);
    }
