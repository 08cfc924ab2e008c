use Rattle.serv_texts.proofs.TextLemmas.{lacking_of}
use Rattle.serv_texts.proofs.texts.answer_text.Goals as goal

pub returns-in-Ok-write_answer-clause-text : goal.returns-in-Ok-write_answer-clause-text
returns-in-Ok-write_answer-clause-text g c =
    record { asked = c.in-Ok.ensures.asked; answer = c.in-Ok.answer; is = c.in-Ok.ensures.answer; spelled = c.in-Ok-write_answer.ensures }

pub returns-clause-lacking : goal.returns-clause-lacking
returns-clause-lacking g c =
    rw c.unanswered.ensures (lacking_of (g.M.Machine.history c.args.machine.now).commands c.args.query.now c.in-Err.fault c.requires c.in-Err.ensures.refused)
