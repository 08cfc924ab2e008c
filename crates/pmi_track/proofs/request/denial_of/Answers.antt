use Rattle.std.proofs.Common.{◌≡◌, ◌∙◌, FitsSigned, w64, rules, sym, ap}
use Rattle.std.specs.Prelude.{Some}
use Rattle.std.proofs.lemmas.Int.{to_z-of_z}
use Rattle.svc_spec.specs.Accounts.{books_of}
use Rattle.pmi_track.specs.Insurance.{denial_with, denial_of}
use Rattle.pmi_track.proofs.LoanLemmas.{has_loan, loan_sound, loan_boarded, loan_books, loan_terms}
use Rattle.pmi_track.proofs.OutcomeLemmas.{asked_refusal}
use Rattle.pmi_track.proofs.request.denial_of.Goals as goal

pub denial_with-requires-clause-terms : goal.denial_with-requires-clause-terms
denial_with-requires-clause-terms g c =
    let h = c.args.core.now.history in
    loan_sound h c.args.insured.now.loan c.args.terms.now (has_loan h c.args.insured.now.loan c.args.terms.now c.history_holds.ensures.history c.requires.terms)

pub denial_with-requires-clause-boarded : goal.denial_with-requires-clause-boarded
denial_with-requires-clause-boarded g c =
    let h = c.args.core.now.history in
    loan_boarded h c.args.insured.now.loan c.args.terms.now (has_loan h c.args.insured.now.loan c.args.terms.now c.history_holds.ensures.history c.requires.terms)

pub denial_with-requires-clause-books : goal.denial_with-requires-clause-books
denial_with-requires-clause-books g c =
    let h = c.args.core.now.history in
    let k = has_loan h c.args.insured.now.loan c.args.terms.now c.history_holds.ensures.history c.requires.terms in
    loan_books h c.args.insured.now.loan c.args.terms.now c.in-Some.day c.in_ok-books.books k c.in_ok-books.ensures.books

pub returns-clause-denial : goal.returns-clause-denial
returns-clause-denial g c =
    let h = c.args.core.now.history in
    let t = c.args.terms.now in
    let i = c.args.insured.now in
    let k = has_loan h i.loan t c.history_holds.ensures.history c.requires.terms in
    let day = c.in-Some.day in
    let asked : i.asked ≡ Some day = c.in-Some.is in
    let fits : FitsSigned w64 i.value = search rules in
    let is : c.denial_with.result ≡ denial_with c.in_ok-books.books t day i.value = simp to_z-of_z at c.denial_with.ensures in
    λ l found.
    is
    ∙ ap (λ x. denial_with x t day i.value) (c.in_ok-books.ensures.books l found)
    ∙ ap (λ x. denial_with (books_of l.account day) x day i.value) (sym (loan_terms h i.loan t k l found))
    ∙ ap (denial_of l.account i.value) (sym asked)

pub returns-clause-told : goal.returns-clause-told
returns-clause-told g c =
    let asked : c.args.insured.now.asked ≡ Some c.in-Some.day = c.in-Some.is in
    asked_refusal c.args.core.now.history c.args.insured.now c.in-Some.day asked ∙ c.in_ok-books.ensures.told
