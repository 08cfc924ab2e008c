use Rattle.std.proofs.lemmas.Result.{IfOk-weaker}
use Rattle.serv_report.specs.AnswerTexts.{IsSpellable}
use Rattle.serv_report.proofs.SpellLemmas.{spelled}
use Rattle.serv_machine.proofs.over_journal.EngineMachine.answer.Goals as goal

pub returns-clause-spelled : goal.returns-clause-spelled
returns-clause-spelled g c = IfOk-weaker c.ask.result _ IsSpellable (λ a e. spelled _ _ a c.history_holds.ensures.history e) c.ask.ensures.answer
