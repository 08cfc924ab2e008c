use Rattle.std.proofs.Common.{◌++◌, ◌∷◌, [], ap, ◌∙◌}
use Rattle.serv_line.specs.Lines.{joined}
use Rattle.servicing_transfer.specs.LoanFields.{fields, words_of_fields}
use Rattle.servicing_transfer.specs.StatementTexts.{loan_line, loan_words}
use Rattle.servicing_transfer.proofs.LineTexts.{pushed2}
use Rattle.servicing_transfer.proofs.statement_line.push_loan_line.Goals as goal

pub returns : goal.returns
unfolding loan_line loan_words
returns c =
    let o = c.args.out.now.items in
    pushed2 c.push_bytes.result o _ c.push_fields.new.out.items (10 ∷ []) c.push_bytes.new.out.items
    (c.in_ok-push_fields.ensures ∙ ap (λ vs. o ++ joined (words_of_fields fields vs)) c.values_of.ensures) c.push_bytes.ensures.pushed
