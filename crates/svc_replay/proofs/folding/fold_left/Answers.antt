use Rattle.std.proofs.Common.{◌≡◌, ◌∷◌, length, refl, sym, ap, subst, arith}
use Rattle.std.proofs.lemmas.List.Elements.{All-head}
use Rattle.svc_types.specs.declared.books.Books.{Books}
use Rattle.svc_types.specs.declared.account.Event.{Event}
use Rattle.svc_spec.specs.Books.{IsWhat}
use Rattle.svc_spec.specs.Events.{folded}
use Rattle.svc_spec.proofs.EventLemmas.{CanFold, can_fold_step, can_fold_within}
use Rattle.svc_replay.specs.Left.{left, IsPlace}
use Rattle.svc_replay.proofs.CursorLemmas.{nothing_left}
use Rattle.svc_replay.proofs.folding.fold_left.Goals as goal

pub loop-event-preserved : goal.loop-event-preserved
loop-event-preserved g c =
    let t = c.args.terms.now in
    let b = c.loop-event.books in
    let at = c.next.new.self in
    let rest = left t c.args.live.now c.args.day at.month at.lates.count at.entry in
    let before = c.loop-event.invariant in
    let can : CanFold t b (c.in-Some.event ∷ rest) = rw c.in-Some.ensures.follows at before.can in
    let one = ap length c.in-Some.ensures.follows in
    record {
      next = c.next.ensures.next;
      by = λ by. c.next.ensures.by (before.by by);
      can = rw c.fold_step.ensures.step (can_fold_step t b c.in-Some.event rest c.requires.terms can);
      books = rw c.fold_step.ensures.step (rw c.in-Some.ensures.follows at before.books);
      steps = omega (arith, one, before.steps, c.fold_step.ensures.steps);
    }

pub fold_step-requires-clause-amounts : goal.fold_step-requires-clause-amounts
fold_step-requires-clause-amounts g c =
    let t = c.args.terms.now in
    let at = c.next.new.self in
    let rest = left t c.args.live.now c.args.day at.month at.lates.count at.entry in
    let can : CanFold t c.loop-event.books (c.in-Some.event ∷ rest) = rw c.in-Some.ensures.follows at c.loop-event.invariant.can in
    All-head (λ (e : Event). IsWhat e.what) c.in-Some.event rest can.whats

pub fold_step-requires-clause-limits : goal.fold_step-requires-clause-limits
fold_step-requires-clause-limits g c =
    let t = c.args.terms.now in
    let at = c.next.new.self in
    let rest = left t c.args.live.now c.args.day at.month at.lates.count at.entry in
    let can : CanFold t c.loop-event.books (c.in-Some.event ∷ rest) = rw c.in-Some.ensures.follows at c.loop-event.invariant.can in
    can_fold_within t c.loop-event.books c.in-Some.event rest c.requires.terms can

pub returns-clause-books : goal.returns-clause-books
returns-clause-books g c =
    let t = c.args.terms.now in
    let last : c.loop-event.books ≡ folded t c.args.books.now (left t c.args.live.now c.args.day c.args.cursor.now.month c.args.cursor.now.lates.count c.args.cursor.now.entry) = rw c.in_default.ensures.follows at c.loop-event.invariant.books in
    ap (λ (x : Books). record x { day = c.args.day }) last

pub returns-clause-place : goal.returns-clause-place
returns-clause-place g c by =
    let t = c.args.terms.now in
    let live = c.args.live.now in
    let at = c.loop-event.cursor in
    let before = c.loop-event.invariant in
    let here : IsPlace t live c.args.day at = record {
      after = nothing_left t live c.args.day at.month at.lates.count at.entry c.in_default.ensures.follows (before.by by);
      next = before.next;
    } in
    subst (IsPlace t live c.args.day) (sym (c.in_default.ensures.kept refl)) here
