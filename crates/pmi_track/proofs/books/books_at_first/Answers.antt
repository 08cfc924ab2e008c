use Rattle.std.proofs.Common.{sym, subst}
use Rattle.svc_base.specs.Calendar.{IsReadDay}
use Rattle.pmi_track.proofs.LoanLemmas.{has_loan, first_read}
use Rattle.pmi_track.proofs.books.books_at_first.Goals as goal

pub books_on-requires : goal.books_on-requires
books_on-requires g c =
    let h = c.args.core.now.history in
    let k = has_loan h c.args.loan c.args.terms.now c.history_holds.ensures.history c.requires.terms in
    record { day = subst IsReadDay (sym c.first_day.ensures) (first_read h c.args.loan c.args.terms.now c.args.month k c.requires.later) }
