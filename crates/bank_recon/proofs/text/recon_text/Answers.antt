use Rattle.std.proofs.Common.{subst}
use Rattle.bank_recon.specs.declared.fault.ReconFault.{ReconFault}
use Rattle.bank_recon.specs.Reading.{Lists, BadRow, IsFault}
use Rattle.bank_recon.proofs.TextLemmas.{texts_told}
use Rattle.bank_recon.proofs.text.recon_text.Goals as goal

pub returns-in-Ok-clause-text : goal.returns-in-Ok-clause-text
returns-in-Ok-clause-text g c =
    let s = c.in-Ok.input in
    texts_told c.text_of_lists.result c.args.core.now.history c.args.first c.args.last c.args.bytes.now (Lists s.carried.items s.bank.items) c.in-Ok.ensures.read c.text_of_lists.ensures

pub returns-in-Err-Bad-clause-text : goal.returns-in-Err-Bad-clause-text
returns-in-Err-Bad-clause-text g c =
    let w = c.in-Err-Bad in
    texts_told c.text_of_bad_row.result c.args.core.now.history c.args.first c.args.last c.args.bytes.now (BadRow w.row w.column)
    (subst (λ (f : ReconFault). IsFault c.args.bytes.now f) w.field-0-is w.ensures.bad) c.text_of_bad_row.ensures
