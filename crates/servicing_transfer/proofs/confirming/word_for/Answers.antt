use Rattle.std.proofs.Common.{Some, sym, ap, ◌∙◌}
use Rattle.servicing_transfer.specs.Confirmations.{word_for, word_of_same}
use Rattle.servicing_transfer.proofs.DifferenceLemmas.{line_tested}
use Rattle.servicing_transfer.proofs.confirming.word_for.Goals as goal

pub returns-in-Some-Some : goal.returns-in-Some-Some
returns-in-Some-Some c =
    let a = c.in-Some-Some.line in
    let b = c.in-Some-Some.other in
    c.word_of_same.ensures ∙ ap word_of_same (c.eq.ensures ∙ line_tested a b)
    ∙ ap (λ o. word_for o (Some b)) (sym c.in-Some-Some.is-0) ∙ ap (word_for c.args.stated) (sym c.in-Some-Some.is-1)
