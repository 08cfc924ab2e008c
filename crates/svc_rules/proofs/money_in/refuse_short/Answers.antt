use Rattle.std.proofs.Common.{◌≡◌, [], false, w64, to_z, of_z, ap, sym, ◌∙◌}
use Rattle.std.specs.Prelude.{int_lt}
use Rattle.std.specs.Int.Signed.{lt_z}
use Rattle.std.proofs.lemmas.Int.{to_z-of_z}
use Rattle.svc_spec.specs.Payoff.{payoff_due}
use Rattle.svc_world.specs.Refusals as rule
use Rattle.svc_rules.proofs.RuleLemmas.{first_past}
use Rattle.svc_rules.proofs.money_in.refuse_short.Goals as goal

pub returns-clause-cause : goal.returns-clause-cause
returns-clause-cause g c =
    let due = c.payoff_due-due.result in
    let asked = rule.payoff_due_on c.args.loan.now.held c.args.day in
    let is : due ≡ asked = c.payoff_due-due.ensures ∙ ap (λ t. payoff_due t c.args.day c.books_at.result) c.terms.ensures ∙ ap (λ b. payoff_due c.args.loan.now.held.account.terms c.args.day b) c.books_at.ensures.books in
    let same : to_z w64 (of_z w64 due) ≡ due = to_z-of_z w64 due (record { sfits = c.payoff_due-due.type_inv }) in
    let own : to_z w64 (of_z w64 c.args.cents) ≡ c.args.cents = to_z-of_z w64 c.args.cents c.ranges.cents in
    let less : int_lt c.args.cents due ≡ false = sym (ap (λ z. lt_z z (to_z w64 (of_z w64 due))) own ∙ ap (λ z. lt_z c.args.cents z) same) ∙ c.if-cents-due.false in
    sym (first_past (rule.payoff_short c.args.day c.args.cents c.args.loan.now.held) [] (ap (λ z. int_lt c.args.cents z) (sym is) ∙ less))
