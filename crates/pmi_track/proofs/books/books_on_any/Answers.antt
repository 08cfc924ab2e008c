use Rattle.std.proofs.Common.{◌≡◌, ◌≤◌, arith}
use Rattle.svc_world.specs.World.{world}
use Rattle.pmi_track.proofs.LoanLemmas.{has_loan, day_between}
use Rattle.pmi_track.proofs.books.books_on_any.Goals as goal

pub books_on-requires : goal.books_on-requires
books_on-requires g c =
    let h = c.args.core.now.history in
    let t = c.args.terms.now in
    let k = has_loan h c.args.loan t c.history_holds.ensures.history c.requires.terms in
    let on : c.today-today.result ≡ (world h).today = c.today-today.ensures in
    let late = c.gt.ensures in
    let early = c.lt.ensures in
    let not_late = c.if-gt.false in
    let not_early = c.if-lt.false in
    let until : c.args.day ≤ c.today-today.result = grind (arith, late, not_late) in
    let since : t.boarded ≤ c.args.day = grind (arith, early, not_early) in
    record { day = day_between h c.args.loan t c.args.day k c.day-place.ensures.exists (omega (arith, until, on)) since }
