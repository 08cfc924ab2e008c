use Rattle.std.proofs.Common.{◌≡◌, ◌∷◌, ℕ, List, arith, refl, true, false, ap, ◌∙◌}
use Rattle.std.specs.Borrow.{Bor}
use Rattle.servicing_transfer.specs.StatementTexts.{t_of, p_of, total_line, last_line}
use Rattle.servicing_transfer.specs.Stated.{text_lines}
use Rattle.servicing_transfer.specs.StatementReading.{IsTotalBefore, no_total, no_last, more}
use Rattle.servicing_transfer.proofs.ReadLemmas.{at_some, at_none, filled}
use Rattle.servicing_transfer.proofs.reading.read_end.Goals as goal

pub returns-in_default-clause-fault : goal.returns-in_default-clause-fault
returns-in_default-clause-fault c = no_total c.requires.place (at_none c.in_ok-behind.field-0 c.in_default.is c.in_ok-behind.ensures.none)

pub returns-in_default-after_line-clause-fault : goal.returns-in_default-after_line-clause-fault
returns-in_default-after_line-clause-fault c =
    let place = c.requires.place in
    let total = at_some (λ (r : Bor (List ℕ)). IsTotalBefore c.args.lines.now (text_lines c.args.text.now) (text_lines r.now)) c.in_ok-behind.field-0 c.in-Some.behind c.in-Some.is c.in_ok-behind.ensures.total in
    no_last (text_lines c.in-Some.behind.now) (omega (arith, place)) total c.in_default-after_line.ensures.none

pub returns-then-not-is_done-clause-fault : goal.returns-then-not-is_done-clause-fault
returns-then-not-is_done-clause-fault c =
    let place = c.requires.place in
    let total = at_some (λ (r : Bor (List ℕ)). IsTotalBefore c.args.lines.now (text_lines c.args.text.now) (text_lines r.now)) c.in_ok-behind.field-0 c.in-Some.behind c.in-Some.is c.in_ok-behind.ensures.total in
    more (text_lines c.in-Some.behind.now) (text_lines c.in-Some-after_line.rest.now) (omega (arith, place)) total c.in-Some-after_line.ensures.line
    (filled (text_lines c.in-Some-after_line.rest.now) (λ e. let t : false ≡ true = c.if-not-is_done.ensures.1 e in cc))

pub returns-clause-end : goal.returns-clause-end
returns-clause-end c =
    let st = c.args.lines.now in
    let total = at_some (λ (r : Bor (List ℕ)). IsTotalBefore st (text_lines c.args.text.now) (text_lines r.now)) c.in_ok-behind.field-0 c.in-Some.behind c.in-Some.is c.in_ok-behind.ensures.total in
    record {
      all = total.begins ∙ ap (λ r. total_line (t_of st) (p_of st) ∷ r) (c.in-Some-after_line.ensures.line ∙ ap (λ r. last_line ∷ r) (c.if-not-is_done.ensures.0 refl));
      t = total.t;
      p = total.p;
    }
