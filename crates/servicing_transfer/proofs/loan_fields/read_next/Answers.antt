use Rattle.std.proofs.Common.{◌≡◌, ◌≢◌, true, false}
use Rattle.std.specs.Prelude.{codes}
use Rattle.svc_base.proofs.TextLemmas.{on_none}
use Rattle.servicing_transfer.proofs.FieldLemmas.{no_next}
use Rattle.servicing_transfer.proofs.loan_fields.read_next.Goals as goal

pub returns-in_err-month-clause-none : goal.returns-in_err-month-clause-none
returns-in_err-month-clause-none c =
    let dash : c.args.word.now ≢ codes "-" = λ h. let t : false ≡ true = c.if-is_dash.ensures.1 h in cc in
    on_none _ (no_next c.args.word.now dash c.in_err-month.ensures.none)
