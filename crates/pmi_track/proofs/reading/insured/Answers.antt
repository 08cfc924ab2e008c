use Rattle.std.proofs.Common.{◌≡◌, None}
use Rattle.serv_rows.proofs.FaultLemmas.{fault_told}
use Rattle.serv_import.specs.declared.fault.ImportFault.TheVariants as faults
use Rattle.pmi_track.specs.Rows.{insured_in}
use Rattle.pmi_track.proofs.FileLemmas.{insured_told, rows_told}
use Rattle.pmi_track.proofs.reading.insured.Goals as goal

pub returns-clause-rows : goal.returns-clause-rows
returns-clause-rows c = insured_told c.args.bytes.now c.read_rows.new.said c.in_ok-read_rows.ensures.read

pub returns-clause-read : goal.returns-clause-read
returns-clause-read c = rows_told c.args.bytes.now c.read_rows.new.said c.in_ok-read_rows.ensures.read

pub returns-in_err-read_rows-clause-header : goal.returns-in_err-read_rows-clause-header
returns-in_err-read_rows-clause-header c =
    fault_told (λ fault. fault ≡ faults.Header → insured_in c.args.bytes.now ≡ None) c.from_residual.result c.in_err-read_rows.field-0.0
    c.from_residual.ensures.1 c.in_err-read_rows.ensures.fault
