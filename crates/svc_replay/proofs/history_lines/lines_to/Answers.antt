use Rattle.std.proofs.Common.{◌≡◌, ◌∷◌, length, drop, refl, sym, ap, ◌∙◌, arith, append-nil}
use Rattle.std.proofs.lemmas.List.Elements.{All-head}
use Rattle.svc_types.specs.declared.books.Books.{Books}
use Rattle.svc_types.specs.declared.account.Event.{Event}
use Rattle.svc_spec.specs.Books.{IsWhat, start}
use Rattle.svc_spec.specs.Events.{events_to, folded}
use Rattle.svc_spec.specs.History.{passed}
use Rattle.svc_spec.proofs.EventLemmas.{CanFold, can_fold_start, can_fold_step, can_fold_within, start_next}
use Rattle.svc_spec.proofs.StepsLemmas.{folded_rises}
use Rattle.svc_replay.specs.Left.{left}
use Rattle.svc_replay.proofs.LeftLemmas.{left_start}
use Rattle.svc_replay.proofs.WalkLemmas.{walked, books_next}
use Rattle.svc_replay.proofs.history_lines.lines_to.Goals as goal

pub loop-event-preserved : goal.loop-event-preserved
loop-event-preserved g c =
    let t = c.args.terms.now in
    let live = c.args.live.now in
    let b = c.loop-event.books in
    let e = c.in-Some.event in
    let at = c.next.new.self in
    let rest = left t live c.args.day at.month at.lates.count at.entry in
    let before = c.loop-event.invariant in
    let can : CanFold t b (e ∷ rest) = rw c.in-Some.ensures.follows at before.can in
    let one = ap length c.in-Some.ensures.follows in
    record {
      next = c.next.ensures.next;
      can = rw c.fold_step.ensures.step (can_fold_step t b e rest c.requires.terms can);
      books = rw c.fold_step.ensures.step (rw c.in-Some.ensures.follows at before.books);
      entry = c.next_number-number.ensures.bound;
      lines = rw (c.in_ok-add_line.ensures, c.next_number-number.ensures.number, c.next_number-number.ensures.left, c.fold_step.ensures.step) (sym (walked t b (drop c.loop-event.entry live) e rest c.loop-event.lines.items) ∙ (rw c.in-Some.ensures.follows at before.lines));
      steps = omega (arith, one, before.steps, c.fold_step.ensures.steps);
    }

pub loop-event-init : goal.loop-event-init
loop-event-init g c =
    let t = c.args.terms.now in
    let live = c.args.live.now in
    let at = c.new-cursor.result in
    let all : left t live c.args.day at.month at.lates.count at.entry ≡ events_to t live c.args.day = rw (c.new-cursor.ensures.month, c.new-cursor.ensures.late, c.new-cursor.ensures.entry) (left_start t live c.args.day) in
    let first = ap (λ (x : Books). x.next) c.start-books.ensures.start in
    record {
      next = rw (c.new-cursor.ensures.late) c.new-cursor.ensures.next;
      can = rw (all, c.start-books.ensures.start) (can_fold_start t live c.args.day c.requires.terms c.requires.entries c.requires.count);
      books = rw (all, c.start-books.ensures.start) refl;
      entry = omega arith;
      lines = rw (c.new-lines.ensures.items, all, c.start-books.ensures.start) refl;
      steps = omega (arith, ap length all, first, start_next t);
    }

pub fold_step-requires-clause-amounts : goal.fold_step-requires-clause-amounts
fold_step-requires-clause-amounts g c =
    let t = c.args.terms.now in
    let at = c.next.new.self in
    let rest = left t c.args.live.now c.args.day at.month at.lates.count at.entry in
    let can : CanFold t c.loop-event.books (c.in-Some.event ∷ rest) = rw c.in-Some.ensures.follows at c.loop-event.invariant.can in
    All-head (λ (e : Event). IsWhat e.what) c.in-Some.event rest can.whats

pub fold_step-requires-clause-limits : goal.fold_step-requires-clause-limits
fold_step-requires-clause-limits g c =
    let t = c.args.terms.now in
    let at = c.next.new.self in
    let rest = left t c.args.live.now c.args.day at.month at.lates.count at.entry in
    let can : CanFold t c.loop-event.books (c.in-Some.event ∷ rest) = rw c.in-Some.ensures.follows at c.loop-event.invariant.can in
    can_fold_within t c.loop-event.books c.in-Some.event rest c.requires.terms can

pub returns-in_err-add_line-clause-steps : goal.returns-in_err-add_line-clause-steps
returns-in_err-add_line-clause-steps g c =
    let t = c.args.terms.now in
    let live = c.args.live.now in
    let at = c.next.new.self in
    let rest = left t live c.args.day at.month at.lates.count at.entry in
    let before = c.loop-event.invariant in
    let one = ap length c.in-Some.ensures.follows in
    let last : folded t c.fold_step.new.books rest ≡ folded t (start t) (events_to t live c.args.day) = rw c.fold_step.ensures.step (rw c.in-Some.ensures.follows at before.books) in
    omega (arith, one, before.steps, c.fold_step.ensures.steps, folded_rises t c.fold_step.new.books rest, ap (λ (x : Books). x.next) last, books_next t live c.args.day)

pub returns-clause-lines : goal.returns-clause-lines
unfolding passed
returns-clause-lines g c =
    let t = c.args.terms.now in
    sym (append-nil c.loop-event.lines.items) ∙ (rw c.in_default.ensures.follows at c.loop-event.invariant.lines)

pub returns-clause-steps : goal.returns-clause-steps
returns-clause-steps g c =
    let t = c.args.terms.now in
    let live = c.args.live.now in
    let before = c.loop-event.invariant in
    let none = ap length c.in_default.ensures.follows in
    let last : c.loop-event.books ≡ folded t (start t) (events_to t live c.args.day) = rw c.in_default.ensures.follows at before.books in
    omega (arith, none, before.steps, ap (λ (x : Books). x.next) last, books_next t live c.args.day)
