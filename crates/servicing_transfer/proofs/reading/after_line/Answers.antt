use Rattle.std.proofs.Common.{◌≡◌, ◌≢◌, ◌∷◌, Some, true, false, refl, ap, ◌∙◌}
use Rattle.std.specs.Prelude.{slice_get}
use Rattle.svc_base.proofs.TextLemmas.{on_none}
use Rattle.servicing_transfer.specs.Stated.{text_lines}
use Rattle.servicing_transfer.proofs.ReadLemmas.{no_line_at, other_line_at}
use Rattle.servicing_transfer.proofs.reading.after_line.Goals as goal

pub returns-in_err-line-clause-none : goal.returns-in_err-line-clause-none
returns-in_err-line-clause-none c =
    let none : slice_get (text_lines c.args.text.now) 0 ≢ Some c.args.wanted.now = no_line_at _ c.args.wanted.now c.in_err-line.ensures.none in
    on_none _ none

pub returns-then-not-is_same-clause-none : goal.returns-then-not-is_same-clause-none
returns-then-not-is_same-clause-none c = other_line_at _ _ _ c.args.wanted.now c.in_ok-line.ensures.line (λ h. let t : false ≡ true = c.if-not-is_same.ensures.1 h in cc)

pub returns-clause-line : goal.returns-clause-line
returns-clause-line c = c.in_ok-line.ensures.line ∙ ap (λ x. x ∷ text_lines c.in_ok-line.rest.now) (c.if-not-is_same.ensures.0 refl)
