use Rattle.std.proofs.Common.{◌≡◌, ◌+◌, ◌-◌, min, length, arith, sym, ap, ◌∙◌}
use Rattle.std.specs.Prelude.{Some}
use Rattle.period_adjust.specs.Conditions.{last_month}
use Rattle.svc_rules.proofs.RuleLemmas.{closed_from_is, none_closed_from}
use Rattle.svc_rules.proofs.entries.closed_from.Goals as goal

pub returns-in-Some-clause-value : goal.returns-in-Some-clause-value
returns-in-Some-clause-value c =
    let rs = c.args.seals.now.reporting.reports in
    let last : last_month rs ≡ Some c.in-Some.last = sym c.closed.ensures ∙ c.in-Some.is in
    let is = closed_from_is rs c.in-Some.last c.args.month c.reports.ensures.sealed.consecutive last in
    let count = ap length c.reports.ensures.value in
    let later : c.saturating_sub.result ≡ c.in-Some.last + 1 - c.args.month =
    (let s = c.saturating_sub.ensures in let a = c.from.ensures in let b = c.from-in-Some.ensures in let x = c.number.ensures.value in let y = c.number-in-Some.ensures.value in omega (arith, s, a, b, x, y)) in
    c.min.ensures ∙ ap (λ n. min n c.saturating_sub.result) count ∙ ap (min (length rs)) later ∙ is

pub returns-in-None-clause-value : goal.returns-in-None-clause-value
returns-in-None-clause-value c = sym (none_closed_from c.args.seals.now.reporting.reports c.args.month (sym c.closed.ensures ∙ c.in-None.is))
