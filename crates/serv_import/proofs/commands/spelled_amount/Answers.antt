use Rattle.std.proofs.Common.{rules, ◌≡◌, IfSome}
use Rattle.svc_base.specs.Text.{text_of_amount, IsReadAmount}
use Rattle.serv_import.proofs.FieldLemmas.{amount_fits}
use Rattle.serv_import.proofs.commands.spelled_amount.Goals as goal

pub returns-clause-fits : goal.returns-clause-fits
returns-clause-fits c =
    let read : IfSome c.read_amount.result (λ z. c.args.text.now ≡ text_of_amount z) = search rules in
    let range : IfSome c.read_amount.result IsReadAmount = search rules in
    amount_fits c.read_amount.result c.args.text.now read range
