use Rattle.std.proofs.Common.{◌+◌, ◌++◌, ◌∷◌, ◌∙◌, List, [], length, Some, None, sym, ap, subst, arith}
use Rattle.std.proofs.lemmas.List.{length_push}
use Rattle.serv_http.specs.declared.ask.Ask.{Ask}
use Rattle.serv_http.specs.Conns.{IsFed}
use Rattle.serv_http.proofs.FeedLemmas.{IsSoFar, so-far-start, so-far-none, so-far-all, so-far-over, so-far-more, so-far-err, so-far-push, fed-quiet, step-at, awaited-at, within-at, pushed-ok}
use Rattle.serv_http.proofs.conn.Conn.feed.Goals as goal

pub loop-count-init : goal.loop-count-init
loop-count-init c = record {
  within = omega arith;
  few = omega (arith, ap length c.new-asks.ensures.items);
  so_far = λ s x.
      subst (λ (l : List Ask). IsSoFar c.args.piece.now 0 0 l c.args.self.now s) (sym c.new-asks.ensures.items)
      (so-far-start c.args.self.now s c.args.piece.now x);
}

pub returns-in-Err-clause-quiet : goal.returns-in-Err-clause-quiet
returns-in-Err-clause-quiet c = λ s x awaited.
    let so = c.loop-count.invariant.so_far s x in
    so-far-err c.args.piece.now c.loop-count.at c.loop-count.count c.loop-count.asks.items c.loop-count.self s so
    (awaited-at so.left c.args.piece.now c.loop-count.at (c.in-Err.ensures.err so.left so.stands)) awaited

pub returns-in-Ok-default-None-clause-asks : goal.returns-in-Ok-default-None-clause-asks
returns-in-Ok-default-None-clause-asks c = λ s x.
    let so = c.loop-count.invariant.so_far s x in
    let w = c.in-Ok-default-None in
    so-far-none c.args.piece.now c.loop-count.at c.loop-count.count w.field-0-0 c.loop-count.asks.items c.loop-count.self c.step.new.self s so
    (step-at so.left c.args.piece.now c.loop-count.at w.field-0-0 c.step.new.self w.field-0-1 None w.field-0-1-is (w.ensures.ok so.left so.stands))

pub returns-in-Ok-default-None-clause-quiet : goal.returns-in-Ok-default-None-clause-quiet
returns-in-Ok-default-None-clause-quiet c = λ s x awaited.
    let so = c.loop-count.invariant.so_far s x in
    let w = c.in-Ok-default-None in
    fed-quiet (s ++ c.args.piece.now) c.loop-count.asks.items c.step.new.self
    (so-far-none c.args.piece.now c.loop-count.at c.loop-count.count w.field-0-0 c.loop-count.asks.items c.loop-count.self c.step.new.self s so
    (step-at so.left c.args.piece.now c.loop-count.at w.field-0-0 c.step.new.self w.field-0-1 None w.field-0-1-is (w.ensures.ok so.left so.stands)))
    awaited

pub returns-then-is_err-clause-quiet : goal.returns-then-is_err-clause-quiet
returns-then-is_err-clause-quiet c = λ s x awaited.
    let so = c.loop-count.invariant.so_far s x in
    let w = c.in-Ok-default-Some in
    so-far-push c.args.piece.now c.loop-count.at c.loop-count.count w.used c.loop-count.asks.items w.ask c.loop-count.self c.step.new.self s so
    (step-at so.left c.args.piece.now c.loop-count.at w.used c.step.new.self w.field-0-1 (Some w.ask) w.field-0-1-is (w.ensures.ok so.left so.stands))
    awaited

pub returns-then-is_over-clause-asks : goal.returns-then-is_over-clause-asks
returns-then-is_over-clause-asks c = λ s x.
    let so = c.loop-count.invariant.so_far s x in
    let w = c.in-Ok-default-Some in
    let pushed = pushed-ok _ c.is_err.result c.push.new.self.items (c.loop-count.asks.items ++ w.ask ∷ []) c.loop-count.asks.items
    c.push.ensures.items c.is_err.ensures.negation c.if-is_err.false in
    subst (λ (l : List Ask). IsFed (s ++ c.args.piece.now) l c.step.new.self) (sym pushed)
    (so-far-over c.args.piece.now c.loop-count.at c.loop-count.count w.used c.loop-count.asks.items w.ask c.loop-count.self c.step.new.self s so
    (step-at so.left c.args.piece.now c.loop-count.at w.used c.step.new.self w.field-0-1 (Some w.ask) w.field-0-1-is (w.ensures.ok so.left so.stands))
    (sym c.is_over.ensures.value ∙ c.if-is_over.true))

pub returns-then-is_over-clause-quiet : goal.returns-then-is_over-clause-quiet
returns-then-is_over-clause-quiet c = λ s x awaited.
    let so = c.loop-count.invariant.so_far s x in
    let w = c.in-Ok-default-Some in
    absurd (so-far-push c.args.piece.now c.loop-count.at c.loop-count.count w.used c.loop-count.asks.items w.ask c.loop-count.self c.step.new.self s so
    (step-at so.left c.args.piece.now c.loop-count.at w.used c.step.new.self w.field-0-1 (Some w.ask) w.field-0-1-is (w.ensures.ok so.left so.stands))
    awaited)

pub loop-count-preserved : goal.loop-count-preserved
loop-count-preserved c =
    let w = c.in-Ok-default-Some in
    let pushed = pushed-ok _ c.is_err.result c.push.new.self.items (c.loop-count.asks.items ++ w.ask ∷ []) c.loop-count.asks.items
    c.push.ensures.items c.is_err.ensures.negation c.if-is_err.false in
    record {
      within = within-at c.args.piece.now c.loop-count.at w.used c.loop-count.invariant.within w.ensures.within;
      few = omega (arith, ap length pushed, length_push c.loop-count.asks.items w.ask, c.loop-count.invariant.few);
      so_far = λ s x.
          let so = c.loop-count.invariant.so_far s x in
          subst (λ (l : List Ask). IsSoFar c.args.piece.now (c.loop-count.at + w.used) (c.loop-count.count + 1) l c.step.new.self s) (sym pushed)
          (so-far-more c.args.piece.now c.loop-count.at c.loop-count.count w.used c.loop-count.asks.items w.ask c.loop-count.self c.step.new.self s so
          (step-at so.left c.args.piece.now c.loop-count.at w.used c.step.new.self w.field-0-1 (Some w.ask) w.field-0-1-is (w.ensures.ok so.left so.stands))
          (sym c.is_over.ensures.value ∙ c.if-is_over.false));
    }

pub returns-clause-asks : goal.returns-clause-asks
returns-clause-asks c = λ s x.
    let so = c.loop-count.invariant.so_far s x in
    so-far-all c.args.piece.now c.loop-count.at c.loop-count.count c.loop-count.asks.items c.loop-count.self s so
    (omega (arith, c.loop-count-test.false, so.enough))

pub returns-clause-quiet : goal.returns-clause-quiet
returns-clause-quiet c = λ s x awaited.
    let so = c.loop-count.invariant.so_far s x in
    fed-quiet (s ++ c.args.piece.now) c.loop-count.asks.items c.loop-count.self
    (so-far-all c.args.piece.now c.loop-count.at c.loop-count.count c.loop-count.asks.items c.loop-count.self s so
    (omega (arith, c.loop-count-test.false, so.enough))) awaited
