use Rattle.serv_texts.proofs.MadeLemmas.{made_empty}
use Rattle.serv_texts.proofs.journals.make_journal.Goals as goal

pub returns-in-Ok-clause-made : goal.returns-in-Ok-clause-made
returns-in-Ok-clause-made g c = made_empty (g.D.Disk.view c.init.new.disk).images c.in-Ok.ensures.durable
