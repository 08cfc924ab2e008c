use Rattle.std.proofs.Common.{sym, ap, ◌∙◌}
use Rattle.svc_base.proofs.TextLemmas.{on_none}
use Rattle.servicing_transfer.specs.LoanFields.{fields, values_of, words_of_fields}
use Rattle.servicing_transfer.specs.StatementTexts.{loan_words}
use Rattle.servicing_transfer.proofs.FieldLemmas.{stated}
use Rattle.servicing_transfer.proofs.LineWords.{loan_line_is, no_loan_line}
use Rattle.servicing_transfer.proofs.loan_line.read_loan_line.Goals as goal

pub returns-in_err-values-clause-none : goal.returns-in_err-values-clause-none
unfolding loan_words
returns-in_err-values-clause-none c =
    on_none _ (no_loan_line c.args.line.now (λ s is e. c.in_err-values.ensures.none (values_of s) (record { kinds = stated s is; are = e })))

pub returns-clause-read : goal.returns-clause-read
unfolding loan_words
returns-clause-read c =
    loan_line_is c.args.line.now c.line_of.result (c.in_ok-values.ensures.read.are ∙ ap (words_of_fields fields) (sym c.line_of.ensures))
