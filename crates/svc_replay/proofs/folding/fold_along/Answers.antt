use Rattle.std.proofs.Common.{length, ap, sym, subst, ◌∙◌, arith}
use Rattle.svc_types.specs.declared.books.Books.{Books}
use Rattle.svc_spec.specs.Events.{events_to, books_at, folded}
use Rattle.svc_spec.proofs.DayLemmas.{on}
use Rattle.svc_spec.proofs.EventLemmas.{CanFold}
use Rattle.svc_spec.proofs.TimeLemmas.{past}
use Rattle.svc_spec.proofs.PastLemmas.{books_past, can_fold_past, length_past}
use Rattle.svc_replay.specs.Left.{left}
use Rattle.svc_replay.proofs.AfterLemmas.{past_left}
use Rattle.svc_replay.proofs.folding.fold_along.Goals as goal

pub fold_left-requires-clause-can : goal.fold_left-requires-clause-can
fold_left-requires-clause-can g c =
    let t = c.args.terms.now in
    let live = c.args.live.now in
    let b = c.args.books.now in
    let at = c.args.cursor.now in
    let rest = past_left t live b.day c.args.day at.month at.lates.count at.entry c.requires.terms (omega arith) c.requires.until c.requires.place.after in
    let can = can_fold_past t live b.day c.args.day c.requires.terms c.requires.entries c.requires.count c.requires.until in
    subst (λ x. CanFold t x (left t live c.args.day at.month at.lates.count at.entry)) (sym c.requires.earlier) (subst (CanFold t (books_at t live b.day)) rest can)

pub returns-clause-books : goal.returns-clause-books
returns-clause-books g c =
    let t = c.args.terms.now in
    let live = c.args.live.now in
    let b = c.args.books.now in
    let at = c.args.cursor.now in
    let rest = past_left t live b.day c.args.day at.month at.lates.count at.entry c.requires.terms (omega arith) c.requires.until c.requires.place.after in
    c.fold_left.ensures.books
    ∙ ap (λ es. on c.args.day (folded t b es)) (sym rest)
    ∙ ap (λ x. on c.args.day (folded t x (past b.day (events_to t live c.args.day)))) c.requires.earlier
    ∙ sym (books_past t live b.day c.args.day c.requires.until)

pub returns-clause-steps : goal.returns-clause-steps
returns-clause-steps g c =
    let t = c.args.terms.now in
    let live = c.args.live.now in
    let b = c.args.books.now in
    let at = c.args.cursor.now in
    let rest = past_left t live b.day c.args.day at.month at.lates.count at.entry c.requires.terms (omega arith) c.requires.until c.requires.place.after in
    let first = ap (λ (x : Books). x.next) c.requires.earlier in
    let last = ap (λ (x : Books). x.next) (returns-clause-books g c) in
    omega (arith, ap length rest, length_past t live b.day c.args.day c.requires.until, first, last, c.fold_left.ensures.steps)
