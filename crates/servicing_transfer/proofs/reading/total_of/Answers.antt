use Rattle.std.proofs.Common.{◌++◌, rules, refl, ap, subst, ◌∙◌, to_z, of_z}
use Rattle.std.specs.Int.{w128}
use Rattle.std.specs.Prelude.{FitsSigned}
use Rattle.std.proofs.lemmas.Int.{to_z-of_z}
use Rattle.servicing_transfer.specs.StatementTexts.{t_of, p_of, total_line}
use Rattle.servicing_transfer.specs.Stated.{IsStatedBalance}
use Rattle.servicing_transfer.proofs.TotalLemmas.{not_stated}
use Rattle.servicing_transfer.proofs.reading.total_of.Goals as goal

pub returns-then-not-is_stated-clause-none : goal.returns-then-not-is_stated-clause-none
returns-then-not-is_stated-clause-none c =
    let fits : FitsSigned w128 c.totals-t.result.0 = search rules in
    λ it ip. not_stated (to_z w128 (of_z w128 c.totals-t.result.0)) (t_of c.args.lines.now) (to_z-of_z w128 c.totals-t.result.0 fits ∙ c.totals-t.ensures.t) c.if-not-is_stated.ensures.other it

pub returns-then-not-is_stated-2-clause-none : goal.returns-then-not-is_stated-2-clause-none
returns-then-not-is_stated-2-clause-none c =
    let fits : FitsSigned w128 c.totals-t.result.1 = search rules in
    λ it ip. not_stated (to_z w128 (of_z w128 c.totals-t.result.1)) (p_of c.args.lines.now) (to_z-of_z w128 c.totals-t.result.1 fits ∙ c.totals-t.ensures.p) c.if-not-is_stated-2.ensures.other ip

pub returns-clause-line : goal.returns-clause-line
returns-clause-line c =
    let t_fits : FitsSigned w128 c.totals-t.result.0 = search rules in
    let p_fits : FitsSigned w128 c.totals-t.result.1 = search rules in
    let t = to_z w128 (of_z w128 c.totals-t.result.0) in
    let p = to_z w128 (of_z w128 c.totals-t.result.1) in
    c.in_ok-push_total.ensures ∙ ap (λ x. x ++ total_line t p) c.new-line.ensures.items
    ∙ ap (λ z. total_line z p) (to_z-of_z w128 c.totals-t.result.0 t_fits ∙ c.totals-t.ensures.t)
    ∙ ap (total_line (t_of c.args.lines.now)) (to_z-of_z w128 c.totals-t.result.1 p_fits ∙ c.totals-t.ensures.p)

pub returns-clause-t : goal.returns-clause-t
returns-clause-t c =
    let fits : FitsSigned w128 c.totals-t.result.0 = search rules in
    subst IsStatedBalance (to_z-of_z w128 c.totals-t.result.0 fits ∙ c.totals-t.ensures.t) (c.if-not-is_stated.ensures.stated refl)

pub returns-clause-p : goal.returns-clause-p
returns-clause-p c =
    let fits : FitsSigned w128 c.totals-t.result.1 = search rules in
    subst IsStatedBalance (to_z-of_z w128 c.totals-t.result.1 fits ∙ c.totals-t.ensures.p) (c.if-not-is_stated-2.ensures.stated refl)
