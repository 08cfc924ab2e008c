use Rattle.std.proofs.Common.{◌≡◌, ◌<◌, ℕ, [], ap, sym, ◌∙◌, subst}
use Rattle.std.proofs.lemmas.List.Elements.{All-nil}
use Rattle.period_adjust.specs.declared.adjustment.Adjustment.{Adjustment}
use Rattle.period_adjust.specs.Sealed.{Reporting, reporting}
use Rattle.period_adjust.specs.Totals.{Close, after}
use Rattle.period_adjust.specs.Conditions.{AreDues}
use Rattle.period_adjust_tests.specs.WorkedMany.{AreGiven}
use Rattle.period_adjust_tests.proofs.ManyLemmas.{empty_dues, given_start}
use Rattle.period_adjust_tests.proofs.many.start.Goals as goal

pub close-requires-clause-dues : goal.close-requires-clause-dues
close-requires-clause-dues c =
    subst (λ (s : Reporting). AreDues s.pending c.args.lines.now) (sym c.new-seals.ensures.reporting)
    (empty_dues [] c.args.lines.now c.requires.lines (All-nil (λ (a : Adjustment). a.loan < 3_000)))

pub returns : goal.returns
returns c =
    let now : c.close.new.self.reporting ≡ after (reporting [] []) (Close 24_287 c.args.lines.now) =
    c.in_ok-close.ensures.done
    ∙ ap (λ (s : Reporting). after s (Close c.month.result c.args.lines.now)) c.new-seals.ensures.reporting
    ∙ ap (λ (m : ℕ). after (reporting [] []) (Close m c.args.lines.now)) c.month.ensures in
    subst (λ (s : Reporting). AreGiven s c.args.cents.now 1) (sym now)
    (given_start c.args.lines.now c.args.cents.now c.requires.lines c.requires.cents)
