use Rattle.std.proofs.Common.{◌∙◌, sym, subst}
use Rattle.svc_core.specs.Core.{IsQueryFault}
use Rattle.serv_rows.proofs.FaultLemmas.{fault_told}
use Rattle.pmi_track.specs.Loans.{day_refusal}
use Rattle.pmi_track.proofs.LoanLemmas.{refusal_at, books_told, books_some}
use Rattle.pmi_track.proofs.books.books_on.Goals as goal

pub returns-in_err-answer-clause-refused : goal.returns-in_err-answer-clause-refused
returns-in_err-answer-clause-refused g c =
    let h = c.args.core.now.history in
    fault_told (IsQueryFault (day_refusal h c.args.loan c.args.day)) c.from_residual.result c.in_err-answer.field-0.0 c.from_residual.ensures.1
    (subst (λ o. IsQueryFault o c.in_err-answer.field-0.0) (refusal_at h c.args.loan c.args.day) c.in_err-answer.ensures.refused)

pub unreachable-requires : goal.unreachable-requires
unreachable-requires g c =
    let h = c.args.core.now.history in
    books_some h c.args.loan c.args.day c.in_ok-answer.answer c.in_ok-answer.ensures.answer (sym c.books_in.ensures ∙ c.in-None.is)

pub returns-clause-books : goal.returns-clause-books
returns-clause-books g c =
    let h = c.args.core.now.history in
    λ l found. books_told h c.args.loan c.args.day c.in_ok-answer.answer c.in-Some.books l c.in_ok-answer.ensures.answer (sym c.books_in.ensures ∙ c.in-Some.is) found

pub returns-clause-told : goal.returns-clause-told
returns-clause-told g c =
    let h = c.args.core.now.history in
    sym (refusal_at h c.args.loan c.args.day) ∙ c.in_ok-answer.ensures.asked
