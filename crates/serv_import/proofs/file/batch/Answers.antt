use Rattle.std.proofs.Common.{◌≡◌}
use Rattle.serv_import.specs.declared.fault.ImportFault.TheVariants as faults
use Rattle.serv_import.specs.Batches.{HasHeader}
use Rattle.serv_import.proofs.AnswerLemmas.{batch_of}
use Rattle.serv_import.proofs.UniqueLemmas.{one_batch}
use Rattle.serv_rows.proofs.FaultLemmas.{fault_told}
use Rattle.serv_import.proofs.file.batch.Goals as goal

pub returns-clause-read : goal.returns-clause-read
returns-clause-read c = batch_of c.args.bytes.now c.read_rows.new.said c.in_ok-read_rows.ensures.read

pub returns-clause-only : goal.returns-clause-only
returns-clause-only c = λ answers h.
    one_batch c.args.bytes.now c.read_rows.new.said.items answers (batch_of c.args.bytes.now c.read_rows.new.said c.in_ok-read_rows.ensures.read) h

pub returns-in_err-read_rows-clause-header : goal.returns-in_err-read_rows-clause-header
returns-in_err-read_rows-clause-header c =
    fault_told (λ fault. fault ≡ faults.Header → HasHeader c.args.bytes.now → ⊥) c.from_residual.result c.in_err-read_rows.field-0.0
    c.from_residual.ensures.1 c.in_err-read_rows.ensures.fault
