use Rattle.std.proofs.Common.{◌≡◌, ◌∙◌, FitsSigned, w64, true, false, rules, sym, ap}
use Rattle.std.proofs.lemmas.Int.{to_z-of_z}
use Rattle.std.specs.Prelude.{Some}
use Rattle.svc_base.specs.Calendar.{first_day}
use Rattle.pmi_track.specs.Insurance.{ends_with}
use Rattle.pmi_track.proofs.LoanLemmas.{has_loan, loan_sound, loan_boarded, loan_books, loan_terms}
use Rattle.pmi_track.proofs.EndingLemmas.{ends_told, ended_on, not_ended_on}
use Rattle.pmi_track.proofs.ending.end_in.Goals as goal

pub ends_with-requires-clause-terms : goal.ends_with-requires-clause-terms
ends_with-requires-clause-terms g c =
    let h = c.args.core.now.history in
    loan_sound h c.args.insured.now.loan c.args.terms.now (has_loan h c.args.insured.now.loan c.args.terms.now c.history_holds.ensures.history c.requires.terms)

pub ends_with-requires-clause-boarded : goal.ends_with-requires-clause-boarded
ends_with-requires-clause-boarded g c =
    let h = c.args.core.now.history in
    loan_boarded h c.args.insured.now.loan c.args.terms.now (has_loan h c.args.insured.now.loan c.args.terms.now c.history_holds.ensures.history c.requires.terms)

pub ends_with-requires-clause-books : goal.ends_with-requires-clause-books
ends_with-requires-clause-books g c =
    let h = c.args.core.now.history in
    let k = has_loan h c.args.insured.now.loan c.args.terms.now c.history_holds.ensures.history c.requires.terms in
    loan_books h c.args.insured.now.loan c.args.terms.now (first_day c.args.month) c.in_ok-books.books k c.in_ok-books.ensures.books

pub returns-then-ends_with-clause-end : goal.returns-then-ends_with-clause-end
returns-then-ends_with-clause-end g c =
    let h = c.args.core.now.history in
    let t = c.args.terms.now in
    let i = c.args.insured.now in
    let month = c.args.month in
    let k = has_loan h i.loan t c.history_holds.ensures.history c.requires.terms in
    λ l found.
    let books = c.in_ok-books.ensures.books l found in
    let told = ends_told l.account c.in_ok-books.books t i.value c.args.balance month books (loan_terms h i.loan t k l found) c.requires.balance in
    let day = c.first_day-day.ensures in
    let fits : FitsSigned w64 i.value = search rules in
    let fits2 : FitsSigned w64 c.args.balance = c.ranges.balance in
    let tested : c.ends_with.result ≡ ends_with c.in_ok-books.books t c.first_day-day.result i.value c.args.balance = simp to_z-of_z at c.ends_with.ensures in
    let is : ends_with c.in_ok-books.books t (first_day month) i.value c.args.balance ≡ true =
    ap (λ d. ends_with c.in_ok-books.books t d i.value c.args.balance) (sym day) ∙ sym tested ∙ c.if-ends_with.true
    in
    ap (λ d. Some (d, c.cause_of.result)) day ∙ ap (λ x. Some (first_day month, x)) c.cause_of.ensures ∙ ended_on l.account c.in_ok-books.books i.value month books (told ∙ is)

pub returns-clause-end : goal.returns-clause-end
returns-clause-end g c =
    let h = c.args.core.now.history in
    let t = c.args.terms.now in
    let i = c.args.insured.now in
    let month = c.args.month in
    let k = has_loan h i.loan t c.history_holds.ensures.history c.requires.terms in
    λ l found.
    let books = c.in_ok-books.ensures.books l found in
    let told = ends_told l.account c.in_ok-books.books t i.value c.args.balance month books (loan_terms h i.loan t k l found) c.requires.balance in
    let day = c.first_day-day.ensures in
    let fits : FitsSigned w64 i.value = search rules in
    let fits2 : FitsSigned w64 c.args.balance = c.ranges.balance in
    let tested : c.ends_with.result ≡ ends_with c.in_ok-books.books t c.first_day-day.result i.value c.args.balance = simp to_z-of_z at c.ends_with.ensures in
    let is : ends_with c.in_ok-books.books t (first_day month) i.value c.args.balance ≡ false =
    ap (λ d. ends_with c.in_ok-books.books t d i.value c.args.balance) (sym day) ∙ sym tested ∙ c.if-ends_with.false
    in
    not_ended_on l.account i.value month (told ∙ is)
