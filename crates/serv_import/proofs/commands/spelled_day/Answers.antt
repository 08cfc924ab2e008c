use Rattle.std.proofs.Common.{rules, ◌≡◌, IfSome}
use Rattle.svc_base.specs.Calendar.{IsReadDay}
use Rattle.svc_base.specs.Text.{text_of_day}
use Rattle.serv_import.proofs.FieldLemmas.{day_fits}
use Rattle.serv_import.proofs.commands.spelled_day.Goals as goal

pub returns-clause-fits : goal.returns-clause-fits
returns-clause-fits c =
    let read : IfSome c.ok.result (λ d. c.args.text.now ≡ text_of_day d) = search rules in
    let range : IfSome c.ok.result IsReadDay = search rules in
    day_fits c.ok.result c.args.text.now read range
