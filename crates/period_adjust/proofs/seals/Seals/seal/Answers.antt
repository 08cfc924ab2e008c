use Rattle.std.proofs.Common.{◌≡◌, ◌∷◌, [], ◌++◌, ◌∙◌, map, ap, sym, subst}
use Rattle.period_adjust.specs.Sealed.{Sealed, State, Reporting, reporting}
use Rattle.period_adjust.specs.Sums.{line_with, report_of}
use Rattle.period_adjust.specs.Conditions.{MayClose}
use Rattle.period_adjust.proofs.StateLemmas.{same_report, kept_closed}
use Rattle.period_adjust.proofs.seals.Seals.seal.Goals as goal

pub invariant_of-self : goal.invariant_of-self
invariant_of-self c =
    let s : Reporting = reporting c.self.inside.reports.items c.self.inside.pending.adjustments in
    let same : c.args.self.now.reporting ≡ s = sym (ap (λ (x : State). x.reporting) c.self.view_is) in
    let here : MayClose c.args.self.now.reporting c.args.month c.args.dues.now = record { calendar = c.requires.month; expected = c.requires.expected; lines = c.requires.dues } in
    let may : MayClose s c.args.month c.args.dues.now = subst (λ (b : Reporting). MayClose b c.args.month c.args.dues.now) same here in
    let lines : c.new-2.result.lines ≡ map (line_with s.pending) c.args.dues.now =
    c.new-2.ensures.lines ∙ c.report_lines-lines.ensures in
    let adjustments : c.new-2.result.adjustments ≡ s.pending = c.new-2.ensures.adjustments ∙ c.take-adjustments.ensures.taken in
    let report : c.new-2.result ≡ report_of c.args.month c.args.dues.now s.pending =
    same_report c.new-2.result c.args.month (map (line_with s.pending) c.args.dues.now) s.pending c.new-2.ensures.month lines adjustments in
    let items : c.push_reserved.new.self.items ≡ s.reports ++ report_of c.args.month c.args.dues.now s.pending ∷ [] =
    c.push_reserved.ensures.items ∙ ap (λ (r : Sealed). s.reports ++ r ∷ []) report in
    kept_closed s c.args.month c.args.dues.now c.self.inside.lines.items c.self.inside.held c.self.inside.first c.self.inside.closed c.self.inside.remitted _ _ _ _
    c.self.invariant may items (cc) (cc) c.unwrap_or.ensures
