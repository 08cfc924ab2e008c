use Rattle.serv_report.proofs.PostingLemmas.{next_low}
use Rattle.serv_report.proofs.SpellLemmas.{spelled}
use Rattle.serv_report.proofs.laws.answers_are_spellable.Goals as goal

pub returns-clause-answers : goal.returns-clause-answers
returns-clause-answers c = spelled

pub returns-clause-replies : goal.returns-clause-replies
returns-clause-replies c = next_low
