use Rattle.std.proofs.Common.{◌≡◌, ◌≢◌, ◌∷◌, ℕ, List, Some, Vec, Global, ap, sym, ◌∙◌}
use Rattle.std.specs.Borrow.{Bor}
use Rattle.std.specs.Prelude.{slice_get}
use Rattle.servicing_transfer.specs.StatementTexts.{t_of, p_of, total_line}
use Rattle.servicing_transfer.specs.Stated.{IsStatedBalance, text_lines}
use Rattle.servicing_transfer.specs.StatementReading.{IsTotalAt, IsTotalBefore}
use Rattle.servicing_transfer.proofs.ReadLemmas.{at_some, at_none, some_as, none_as}
use Rattle.servicing_transfer.proofs.reading.after_total.Goals as goal

pub returns-in-Some-clause-total : goal.returns-in-Some-clause-total
returns-in-Some-clause-total c =
    let st = c.args.lines.now in
    let line = at_some (λ (v : Vec ℕ Global). v.items ≡ total_line (t_of st) (p_of st)) c.in_ok-total.field-0 c.in-Some.total c.in-Some.is c.in_ok-total.ensures.line in
    let t = at_some (λ (v : Vec ℕ Global). IsStatedBalance (t_of st)) c.in_ok-total.field-0 c.in-Some.total c.in-Some.is c.in_ok-total.ensures.t in
    let p = at_some (λ (v : Vec ℕ Global). IsStatedBalance (p_of st)) c.in_ok-total.field-0 c.in-Some.total c.in-Some.is c.in_ok-total.ensures.p in
    some_as (λ (r : Bor (List ℕ)). text_lines c.args.text.now ≡ c.deref.result.now ∷ text_lines r.now) (λ (r : Bor (List ℕ)). IsTotalBefore st (text_lines c.args.text.now) (text_lines r.now)) c.after_line.result
    (λ r e. record { begins = e ∙ ap (λ x. x ∷ text_lines r.now) (c.deref.ensures.value ∙ line); t = t; p = p }) c.after_line.ensures.line

pub returns-in-Some-clause-none : goal.returns-in-Some-clause-none
returns-in-Some-clause-none c =
    let st = c.args.lines.now in
    let line = at_some (λ (v : Vec ℕ Global). v.items ≡ total_line (t_of st) (p_of st)) c.in_ok-total.field-0 c.in-Some.total c.in-Some.is c.in_ok-total.ensures.line in
    let f : (slice_get (text_lines c.args.text.now) 0 ≢ Some c.deref.result.now) → IsTotalAt st (text_lines c.args.text.now) 0 → ⊥ = λ none at. none (at.total ∙ ap Some (sym (c.deref.ensures.value ∙ line))) in
    none_as c.after_line.result f c.after_line.ensures.none

pub returns-in-None-clause-none : goal.returns-in-None-clause-none
returns-in-None-clause-none c = λ at. at_none c.in_ok-total.field-0 c.in-None.is c.in_ok-total.ensures.none at.t at.p
