use Rattle.csv.specs.Records.{fields_of}
use Rattle.serv_import.proofs.AnswerLemmas.{asked_more}
use Rattle.serv_import.proofs.file.RowRequestRow.take.Goals as goal

pub returns-clause-taken : goal.returns-clause-taken
returns-clause-taken c =
    asked_more c.args.number (fields_of c.args.record.now) c.args.answers.now.items c.push_answer.new.answers.items c.in_ok-push_answer.ensures
