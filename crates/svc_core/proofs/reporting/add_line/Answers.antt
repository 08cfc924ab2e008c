use Rattle.std.proofs.Common.{[], ◌∷◌, ◌++◌, sym, ap, ◌∙◌, append-nil}
use Rattle.svc_core.proofs.ReportedLemmas.{lines_yes, lines_no}
use Rattle.svc_core.proofs.reporting.add_line.Goals as goal

pub returns-then-is_reported-clause-lines : goal.returns-then-is_reported-clause-lines
returns-then-is_reported-clause-lines g c =
    let pending = c.args.seals.now.reporting.pending in
    let l = c.args.loan.now.held in
    c.push_reserved.ensures.items
    ∙ ap (λ x. c.args.lines.now.items ++ x ∷ []) c.line_of.ensures
    ∙ ap (λ xs. c.args.lines.now.items ++ xs) (sym (lines_yes pending c.args.month l (sym c.is_reported.ensures ∙ c.if-is_reported.true)))

pub returns-else-is_reported-clause-lines : goal.returns-else-is_reported-clause-lines
returns-else-is_reported-clause-lines g c =
    let pending = c.args.seals.now.reporting.pending in
    let l = c.args.loan.now.held in
    sym (append-nil c.args.lines.now.items)
    ∙ ap (λ xs. c.args.lines.now.items ++ xs) (sym (lines_no pending c.args.month l (sym c.is_reported.ensures ∙ c.if-is_reported.false)))
