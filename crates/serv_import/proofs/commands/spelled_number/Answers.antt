use Rattle.std.proofs.Common.{rules, ◌≡◌, IfSome}
use Rattle.svc_types.specs.Requests.{IsReadNumber}
use Rattle.svc_base.specs.Text.{text_of_number}
use Rattle.serv_import.proofs.FieldLemmas.{number_fits}
use Rattle.serv_import.proofs.commands.spelled_number.Goals as goal

pub returns-clause-fits : goal.returns-clause-fits
returns-clause-fits c =
    let read : IfSome c.read_number.result (λ n. c.args.text.now ≡ text_of_number n) = search rules in
    let range : IfSome c.read_number.result IsReadNumber = search rules in
    number_fits c.read_number.result c.args.text.now read range
