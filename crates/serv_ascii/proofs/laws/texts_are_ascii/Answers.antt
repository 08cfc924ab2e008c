use Rattle.serv_ascii.proofs.AsciiLemmas.{reply_is_ascii, refusal_is_ascii, full_is_ascii}
use Rattle.serv_ascii.proofs.AnswerLemmas.{answer_is_ascii}
use Rattle.serv_ascii.proofs.laws.texts_are_ascii.Goals as goal

pub returns-clause-replies : goal.returns-clause-replies
returns-clause-replies c = reply_is_ascii

pub returns-clause-refusals : goal.returns-clause-refusals
returns-clause-refusals c = refusal_is_ascii

pub returns-clause-full : goal.returns-clause-full
returns-clause-full c = full_is_ascii

pub returns-clause-answers : goal.returns-clause-answers
returns-clause-answers c = answer_is_ascii
