use Rattle.std.proofs.Common.{ℕ, ◌∷◌, ap, ◌∙◌}
use Rattle.svc_base.proofs.TextLemmas.{on_none}
use Rattle.servicing_transfer.specs.Stated.{BeginsWith, text_lines}
use Rattle.servicing_transfer.proofs.ReadLemmas.{no_line_at, other_line_at}
use Rattle.servicing_transfer.proofs.reading.read_first.Goals as goal

pub returns-in_err-line-clause-none : goal.returns-in_err-line-clause-none
returns-in_err-line-clause-none c =
    let none : (day n : ℕ) → BeginsWith (text_lines c.args.text.now) day n → ⊥ = λ d n b. no_line_at _ _ c.in_err-line.ensures.none b.line in
    on_none _ none

pub returns-in_err-day-clause-none : goal.returns-in_err-day-clause-none
returns-in_err-day-clause-none c =
    let none : (day n : ℕ) → BeginsWith (text_lines c.args.text.now) day n → ⊥ = λ d n b. other_line_at _ _ _ _ c.in_ok-line.ensures.line (c.in_err-day.ensures.none d n b.dated b.number) b.line in
    on_none _ none

pub returns-clause-line : goal.returns-clause-line
returns-clause-line c = c.in_ok-line.ensures.line ∙ ap (λ x. x ∷ text_lines c.in_ok-line.rest.now) c.in_ok-day.ensures.read
