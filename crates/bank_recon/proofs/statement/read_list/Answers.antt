use Rattle.serv_rows.proofs.FaultLemmas.{fault_told}
use Rattle.bank_recon.specs.Reading.{IsFault}
use Rattle.bank_recon.proofs.ReadingLemmas.{statement_told}
use Rattle.bank_recon.proofs.statement.read_list.Goals as goal

pub returns-clause-read : goal.returns-clause-read
returns-clause-read c = statement_told c.args.bytes.now c.read_rows.new.said c.in_ok-read_rows.ensures.read

pub returns-in_err-read_rows-clause-bad : goal.returns-in_err-read_rows-clause-bad
returns-in_err-read_rows-clause-bad c =
    fault_told (IsFault c.args.bytes.now) c.from_residual.result c.in_err-read_rows.field-0.0 c.from_residual.ensures.1 c.in_err-read_rows.ensures.fault
