use Rattle.csv.specs.Records.{fields_of}
use Rattle.pmi_track.proofs.FileLemmas.{said_more}
use Rattle.pmi_track.proofs.reading.InsuredRowRow.take.Goals as goal

pub returns-clause-taken : goal.returns-clause-taken
returns-clause-taken c =
    said_more c.args.number (fields_of c.args.record.now) c.args.rows.now.items c.push_row.new.rows.items c.in_ok-push_row.ensures
