use Rattle.std.proofs.Common.{List, ap, ◌∙◌}
use Rattle.std.specs.Prelude.{is_some}
use Rattle.std.specs.List.{list_any}
use Rattle.escrow_lines.specs.declared.line.Line.{Line}
use Rattle.escrow_lines.specs.BillLists.{has_id}
use Rattle.svc_rules.proofs.RuleLemmas.{is_some-find}
use Rattle.svc_rules.proofs.lines.has_line.Goals as goal

pub returns : goal.returns
returns g c =
    c.is_some.ensures ∙ ap is_some c.find.ensures ∙ is_some-find (has_id c.args.line) c.lines.result.now ∙ ap (λ (ls : List Line). list_any (has_id c.args.line) ls) c.lines.ensures
