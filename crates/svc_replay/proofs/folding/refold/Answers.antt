use Rattle.std.proofs.Common.{◌≡◌, length, ap, arith}
use Rattle.svc_types.specs.declared.books.Books.{Books}
use Rattle.svc_spec.specs.Events.{events_to, books_at}
use Rattle.svc_spec.proofs.EventLemmas.{can_fold_start, start_next}
use Rattle.svc_replay.specs.Left.{left}
use Rattle.svc_replay.proofs.LeftLemmas.{left_start}
use Rattle.svc_replay.proofs.folding.refold.Goals as goal

pub fold_left-requires-clause-can : goal.fold_left-requires-clause-can
fold_left-requires-clause-can g c =
    let t = c.args.terms.now in
    let at = c.new-cursor.result in
    let all : left t c.args.live.now c.args.day at.month at.lates.count at.entry ≡ events_to t c.args.live.now c.args.day = rw (c.new-cursor.ensures.month, c.new-cursor.ensures.late, c.new-cursor.ensures.entry) (left_start t c.args.live.now c.args.day) in
    rw (all, c.start-books.ensures.start) (can_fold_start t c.args.live.now c.args.day c.requires.terms c.requires.entries c.requires.count)

pub returns-clause-books : goal.returns-clause-books
unfolding books_at
returns-clause-books g c =
    let t = c.args.terms.now in
    let at = c.new-cursor.result in
    let all : left t c.args.live.now c.args.day at.month at.lates.count at.entry ≡ events_to t c.args.live.now c.args.day = rw (c.new-cursor.ensures.month, c.new-cursor.ensures.late, c.new-cursor.ensures.entry) (left_start t c.args.live.now c.args.day) in
    rw (all, c.start-books.ensures.start) at c.fold_left.ensures.books

pub returns-clause-steps : goal.returns-clause-steps
returns-clause-steps g c =
    let t = c.args.terms.now in
    let at = c.new-cursor.result in
    let all : left t c.args.live.now c.args.day at.month at.lates.count at.entry ≡ events_to t c.args.live.now c.args.day = rw (c.new-cursor.ensures.month, c.new-cursor.ensures.late, c.new-cursor.ensures.entry) (left_start t c.args.live.now c.args.day) in
    let first = ap (λ (x : Books). x.next) c.start-books.ensures.start in
    let last = ap (λ (x : Books). x.next) (returns-clause-books g c) in
    omega (arith, ap length all, first, last, start_next t, c.fold_left.ensures.steps)
