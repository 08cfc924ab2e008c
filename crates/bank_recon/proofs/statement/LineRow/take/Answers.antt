use Rattle.csv.specs.Records.{fields_of}
use Rattle.bank_recon.proofs.ReadingLemmas.{line_taken, memory_fault, wrong_row}
use Rattle.bank_recon.proofs.statement.LineRow.take.Goals as goal

pub returns-in-Ok-clause-taken : goal.returns-in-Ok-clause-taken
returns-in-Ok-clause-taken c =
    line_taken c.push_line.result c.args.number (fields_of c.args.record.now) c.in-Ok.line c.args.statement.now c.push_line.new.statement c.in-Ok.ensures.line c.push_line.ensures.taken

pub returns-in-Ok-clause-fault : goal.returns-in-Ok-clause-fault
returns-in-Ok-clause-fault c =
    memory_fault c.push_line.result c.args.number (fields_of c.args.record.now) c.args.statement.now c.push_line.ensures.fault

pub returns-in-Err-clause-fault : goal.returns-in-Err-clause-fault
returns-in-Err-clause-fault c = wrong_row c.args.number c.in-Err.column (fields_of c.args.record.now) c.args.statement.now c.in-Err.ensures.bad
