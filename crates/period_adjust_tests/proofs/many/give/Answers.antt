use Rattle.std.proofs.Common.{◌≡◌, ◌+◌, [], ◌∷◌, get_or, set, ap, sym, ◌∙◌, subst}
use Rattle.remit_types.specs.declared.dues.MonthDue.{MonthDue}
use Rattle.period_adjust.specs.Sealed.{Reporting}
use Rattle.period_adjust.specs.Totals.{Change, after}
use Rattle.period_adjust.specs.Conditions.{MayChange}
use Rattle.period_adjust_tests.specs.WorkedMany.{worked_due, AreGiven}
use Rattle.period_adjust_tests.proofs.ManyLemmas.{may_give, given_more}
use Rattle.period_adjust_tests.proofs.many.give.Goals as goal

pub record_change-requires : goal.record_change-requires
record_change-requires c =
    let s : Reporting = c.args.seals.now.reporting in
    let was : MonthDue = worked_due (get_or c.args.cents.now c.args.loan 0) in
    let may : MayChange s c.args.number c.args.loan (was ∷ []) (worked_due c.args.number ∷ []) =
    may_give s c.args.cents.now c.args.number c.args.loan c.requires.given c.requires.number c.requires.loan in
    let later : MayChange s c.args.number c.args.loan (was ∷ []) (c.worked_due-after.result ∷ []) =
    subst (λ (d : MonthDue). MayChange s c.args.number c.args.loan (was ∷ []) (d ∷ [])) (sym c.worked_due-after.ensures.value) may in
    subst (λ (d : MonthDue). MayChange s c.args.number c.args.loan (d ∷ []) (c.worked_due-after.result ∷ [])) (sym c.worked_due-before.ensures.value) later

pub returns : goal.returns
returns c =
    let s : Reporting = c.args.seals.now.reporting in
    let was : MonthDue = worked_due (get_or c.args.cents.now c.args.loan 0) in
    let now : c.record_change.new.self.reporting ≡ after s (Change c.args.number c.args.loan (was ∷ []) (worked_due c.args.number ∷ [])) =
    c.in_ok-record_change.ensures.done
    ∙ ap (λ (d : MonthDue). after s (Change c.args.number c.args.loan (d ∷ []) (c.worked_due-after.result ∷ []))) c.worked_due-before.ensures.value
    ∙ ap (λ (d : MonthDue). after s (Change c.args.number c.args.loan (was ∷ []) (d ∷ []))) c.worked_due-after.ensures.value in
    subst (λ (x : Reporting). AreGiven x (set c.args.cents.now c.args.loan c.args.number) (c.args.number + 1)) (sym now)
    (given_more s c.args.cents.now c.args.number c.args.loan c.requires.given c.requires.number c.requires.loan)
