use Rattle.std.proofs.Common.{ap, subst}
use Rattle.svc_world.specs.Laws.{AreLawful}
use Rattle.svc_world.proofs.LawLemmas.{are_lawful}
use Rattle.svc_core.specs.Core.{Standing}
use Rattle.svc_core.proofs.servicing.Core.history_holds.Goals as goal

pub returns-clause-lawful : goal.returns-clause-lawful
returns-clause-lawful g c = subst AreLawful (ap (λ (s : Standing). s.history) c.self.view_is) (are_lawful c.self.inside.parts.posted.history c.self.invariant.parts.history)
