use Rattle.std.proofs.Common.{ap, ◌∙◌}
use Rattle.svc_base.specs.Calendar.{first_day}
use Rattle.svc_core.proofs.PartsLemmas.{parts_first}
use Rattle.svc_core.proofs.parts.Parts.new.Goals as goal

pub returns-clause-parts : goal.returns-clause-parts
returns-clause-parts g c = parts_first c.new.result c.first_day.result c.new-3.result c.new-4.result c.new-5.result.rows c.new-6.result.items c.new.ensures.history c.new.ensures.replies (c.first_day.ensures ∙ ap first_day c.new-2.ensures) c.new-3.ensures c.new-4.ensures.reporting c.new-4.ensures.remitted c.new-5.ensures c.new-6.ensures
