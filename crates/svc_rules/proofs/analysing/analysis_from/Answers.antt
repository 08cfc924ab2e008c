use Rattle.std.proofs.Common.{◌≡◌, ap, ◌∙◌}
use Rattle.escrow_lines.specs.BillLists.{year_of}
use Rattle.escrow_analysis.specs.declared.analysis.Analysis.{Analysis}
use Rattle.svc_world.specs.Analysing.{year_of_loan}
use Rattle.svc_rules.proofs.AnalysingLemmas.{analysis_same}
use Rattle.svc_rules.proofs.analysing.analysis_from.Goals as goal

pub returns-clause-whole : goal.returns-clause-whole
returns-clause-whole g c =
    let l = c.args.loan.now.held in
    let e = c.analyse.ensures in
    let year : c.year.result ≡ year_of_loan l = c.year.ensures.value ∙ ap (λ b. year_of b c.args.begins) c.lines.ensures ∙ ap (year_of l.lines) c.requires in
    analysis_same l c.year.result c.terms.result.now.cushion c.analyse.result year (ap (λ t. t.cushion) c.terms.ensures) e.base e.cushion e.opening e.trial e.target e.above_cushion

pub returns-clause-opening : goal.returns-clause-opening
returns-clause-opening g c = ap (λ (a : Analysis). a.opening) (returns-clause-whole g c)
