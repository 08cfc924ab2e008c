use Rattle.std.proofs.Common.{◌+◌, w64, sym, ap, ◌∙◌}
use Rattle.std.proofs.lemmas.Int.{to_z-of_z}
use Rattle.svc_base.specs.Calendar.{month_of}
use Rattle.escrow_resolve.specs.declared.analysis.Parts.{Parts}
use Rattle.svc_types.specs.declared.books.Books.{Books}
use Rattle.svc_rules.proofs.AnalysingLemmas.{escrow_same, amount_same, low_enough}
use Rattle.svc_rules.proofs.FiguresLemmas.{same_figures, share_same, below_same}
use Rattle.svc_rules.proofs.figures.figures_with.Goals as goal

pub returns : goal.returns
returns g c =
    let a = c.analysis_from-analysis.result in
    let e = c.analysis_from-analysis.ensures in
    let p = c.parts_of-parts.ensures in
    let b = c.now.ensures in
    same_figures
    (c.plus-from.ensures ∙ ap (λ m. m + 1) c.month_of.ensures ∙ ap (λ d. month_of d + 1) (sym c.requires.today))
    (amount_same a.base e.base_low (low_enough a.base e.base_high) ∙ e.base)
    (below_same a.cushion a.opening e.cushion_low e.cushion_high e.opening_high ∙ e.cushion)
    (amount_same a.opening e.opening_low e.opening_high ∙ e.opening)
    (escrow_same c.now.result.now.escrow b.sound.within.escrow_low b.sound.within.escrow_high ∙ ap (λ (x : Books). x.escrow) b.books)
    (share_same c.parts_of-parts.result.surplus p.limits.surplus_low p.limits.surplus_high ∙ ap (λ (x : Parts). x.surplus) p.value)
    (share_same c.parts_of-parts.result.short p.limits.short_low p.limits.short_high ∙ ap (λ (x : Parts). x.short) p.value)
    (share_same c.parts_of-parts.result.deficient p.limits.deficient_low p.limits.deficient_high ∙ ap (λ (x : Parts). x.deficient) p.value)
    (to_z-of_z w64 c.args.refund c.ranges.refund)
    (to_z-of_z w64 c.args.within30 c.ranges.within30)
    (to_z-of_z w64 c.args.pay c.ranges.pay)
