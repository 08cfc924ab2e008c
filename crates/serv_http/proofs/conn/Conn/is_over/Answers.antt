use Rattle.std.proofs.Common.{◌∙◌}
use Rattle.serv_http.proofs.StepLemmas.{stands-going}
use Rattle.serv_http.proofs.conn.Conn.is_over.Goals as goal

pub returns-clause-stands : goal.returns-clause-stands
returns-clause-stands c = λ s x. c.has_ended.ensures ∙ stands-going c.args.self.now s x
