use Rattle.std.proofs.Common.{◌≡◌, inl, inr, ◌+◌, ◌≤◌, ◌∙◌, false, arith, sym, ap, subst}
use Rattle.std.proofs.lemmas.Bool.{cases_eq}
use Rattle.svc_base.specs.Calendar.{month_of, first_day}
use Rattle.svc_types.specs.declared.terms.Terms.{Terms}
use Rattle.pmi_track.specs.Insurance.{ends_on}
use Rattle.pmi_track.specs.Schedule.{IsProgress}
use Rattle.pmi_track.proofs.LoanLemmas.{has_loan, loan_sound, loan_since, loan_terms, loan_today}
use Rattle.pmi_track.proofs.EndingLemmas.{none_ends, automatic_found, automatic_none, walked_some, walked_more}
use Rattle.pmi_track.proofs.ending.automatic_end.Goals as goal

pub overflow_sub-months : goal.overflow_sub-months
overflow_sub-months g c =
    let h = c.args.core.now.history in
    let le = loan_since h c.args.insured.now.loan c.args.terms.now (has_loan h c.args.insured.now.loan c.args.terms.now c.history_holds.ensures.history c.requires.terms) in
    omega (arith, le, c.number.ensures.value, c.number-2.ensures.value, c.month_of.ensures, c.month_of-boarded.ensures, c.today.ensures)

pub begun-progress-requires : goal.begun-progress-requires
begun-progress-requires g c =
    let h = c.args.core.now.history in
    loan_sound h c.args.insured.now.loan c.args.terms.now (has_loan h c.args.insured.now.loan c.args.terms.now c.history_holds.ensures.history c.requires.terms)

pub advanced-progress-requires-clause-terms : goal.advanced-progress-requires-clause-terms
advanced-progress-requires-clause-terms g c =
    let h = c.args.core.now.history in
    loan_sound h c.args.insured.now.loan c.args.terms.now (has_loan h c.args.insured.now.loan c.args.terms.now c.history_holds.ensures.history c.requires.terms)

pub returns-in_err-end-clause-steps : goal.returns-in_err-end-clause-steps
returns-in_err-end-clause-steps g c =
    let h = c.args.core.now.history in
    let t = c.args.terms.now in
    let id = c.args.insured.now.loan in
    let k = has_loan h id t c.history_holds.ensures.history c.requires.terms in
    let passed = c.loop-passed.passed in
    let begin = month_of t.boarded + 1 in
    let at : c.plus-month.result ≡ begin + passed = omega (arith, c.plus-month.ensures, c.month_of-boarded.ensures) in
    let test = c.loop-passed-test.true in
    λ l found.
    let boarded : month_of l.account.terms.boarded ≡ month_of t.boarded = ap (λ (x : Terms). month_of x.boarded) (loan_terms h id t k l found) in
    let today = loan_today h id t k l found in
    let cost = g.B.LoanBooks.cost l.account in
    let next = subst (λ m. c.end_in.new.steps ≤ c.loop-passed.steps + cost m) at (c.end_in.ensures.steps l found) in
    walked_some cost l.account begin (passed + 1) c.args.steps.now c.end_in.new.steps (omega (arith, boarded))
    (omega (arith, test, boarded, today, c.number.ensures.value, c.number-2.ensures.value, c.month_of.ensures, c.month_of-boarded.ensures, c.today.ensures))
    (walked_more cost begin passed c.args.steps.now c.loop-passed.steps c.end_in.new.steps (c.loop-passed.invariant.steps l found) next)

pub returns-in-Some-clause-end : goal.returns-in-Some-clause-end
returns-in-Some-clause-end g c =
    let h = c.args.core.now.history in
    let t = c.args.terms.now in
    let id = c.args.insured.now.loan in
    let k = has_loan h id t c.history_holds.ensures.history c.requires.terms in
    let test = c.loop-passed-test.true in
    let at : c.plus-month.result ≡ month_of t.boarded + (c.loop-passed.passed + 1) = omega (arith, c.plus-month.ensures, c.month_of-boarded.ensures) in
    λ l found.
    let boarded : month_of l.account.terms.boarded ≡ month_of t.boarded = ap (λ (x : Terms). month_of x.boarded) (loan_terms h id t k l found) in
    let today = loan_today h id t k l found in
    automatic_found l.account c.args.insured.now.value c.plus-month.result c.in-Some.end (omega (arith, boarded, at))
    (omega (arith, at, test, boarded, today, c.number.ensures.value, c.number-2.ensures.value, c.month_of.ensures, c.month_of-boarded.ensures, c.today.ensures))
    (λ y low high. c.loop-passed.invariant.none y (omega (arith, boarded)) (omega (arith, at)) l found)
    (sym c.in-Some.is ∙ c.in_ok-end.ensures.end l found)

pub returns-in-Some-clause-steps : goal.returns-in-Some-clause-steps
returns-in-Some-clause-steps g c =
    let h = c.args.core.now.history in
    let t = c.args.terms.now in
    let id = c.args.insured.now.loan in
    let k = has_loan h id t c.history_holds.ensures.history c.requires.terms in
    let passed = c.loop-passed.passed in
    let begin = month_of t.boarded + 1 in
    let at : c.plus-month.result ≡ begin + passed = omega (arith, c.plus-month.ensures, c.month_of-boarded.ensures) in
    let test = c.loop-passed-test.true in
    λ l found.
    let boarded : month_of l.account.terms.boarded ≡ month_of t.boarded = ap (λ (x : Terms). month_of x.boarded) (loan_terms h id t k l found) in
    let today = loan_today h id t k l found in
    let cost = g.B.LoanBooks.cost l.account in
    let next = subst (λ m. c.end_in.new.steps ≤ c.loop-passed.steps + cost m) at (c.end_in.ensures.steps l found) in
    walked_some cost l.account begin (passed + 1) c.args.steps.now c.end_in.new.steps (omega (arith, boarded))
    (omega (arith, test, boarded, today, c.number.ensures.value, c.number-2.ensures.value, c.month_of.ensures, c.month_of-boarded.ensures, c.today.ensures))
    (walked_more cost begin passed c.args.steps.now c.loop-passed.steps c.end_in.new.steps (c.loop-passed.invariant.steps l found) next)

pub loop-passed-preserved : goal.loop-passed-preserved
loop-passed-preserved g c =
    let t = c.args.terms.now in
    let passed = c.loop-passed.passed in
    let begin = month_of t.boarded + 1 in
    let value = c.args.insured.now.value in
    let month : c.plus-month.result ≡ month_of t.boarded + (passed + 1) = omega (arith, c.plus-month.ensures, c.month_of-boarded.ensures) in
    let at : c.plus-month.result ≡ begin + passed = omega (arith, c.plus-month.ensures, c.month_of-boarded.ensures) in
    record {
      progress = subst (λ m. IsProgress t m c.advanced-progress.result) month c.advanced-progress.ensures;
      none = λ y low high l found. elim (cases_eq y c.plus-month.result) as (λ d. ends_on l.account value (first_day y) ≡ false) [
        | inl e ↦ ap (λ m. ends_on l.account value (first_day m)) e ∙ none_ends l.account value c.plus-month.result (sym c.in_default.is ∙ c.in_ok-end.ensures.end l found)
        | inr ne ↦ c.loop-passed.invariant.none y low (omega (arith, month)) l found
      ];
      steps = λ l found.
          let cost = g.B.LoanBooks.cost l.account in
          let next = subst (λ m. c.end_in.new.steps ≤ c.loop-passed.steps + cost m) at (c.end_in.ensures.steps l found) in
          walked_more cost begin passed c.args.steps.now c.loop-passed.steps c.end_in.new.steps (c.loop-passed.invariant.steps l found) next;
    }

pub returns-clause-end : goal.returns-clause-end
returns-clause-end g c =
    let h = c.args.core.now.history in
    let t = c.args.terms.now in
    let id = c.args.insured.now.loan in
    let k = has_loan h id t c.history_holds.ensures.history c.requires.terms in
    let test = c.loop-passed-test.false in
    λ l found.
    let boarded : month_of l.account.terms.boarded ≡ month_of t.boarded = ap (λ (x : Terms). month_of x.boarded) (loan_terms h id t k l found) in
    let today = loan_today h id t k l found in
    automatic_none l.account c.args.insured.now.value
    (λ y low high. c.loop-passed.invariant.none y (omega (arith, boarded))
    (omega (arith, test, boarded, today, c.number.ensures.value, c.number-2.ensures.value, c.month_of.ensures, c.month_of-boarded.ensures, c.today.ensures)) l found)

pub returns-clause-steps : goal.returns-clause-steps
returns-clause-steps g c =
    let h = c.args.core.now.history in
    let t = c.args.terms.now in
    let id = c.args.insured.now.loan in
    let k = has_loan h id t c.history_holds.ensures.history c.requires.terms in
    let few = c.loop-passed.auto.passed-end in
    λ l found.
    let boarded : month_of l.account.terms.boarded ≡ month_of t.boarded = ap (λ (x : Terms). month_of x.boarded) (loan_terms h id t k l found) in
    let today = loan_today h id t k l found in
    walked_some (g.B.LoanBooks.cost l.account) l.account (month_of t.boarded + 1) c.loop-passed.passed c.args.steps.now c.loop-passed.steps (omega (arith, boarded))
    (omega (arith, few, boarded, today, c.number.ensures.value, c.number-2.ensures.value, c.month_of.ensures, c.month_of-boarded.ensures, c.today.ensures))
    (c.loop-passed.invariant.steps l found)
