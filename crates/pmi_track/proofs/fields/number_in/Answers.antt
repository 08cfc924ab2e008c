use Rattle.std.proofs.Common.{rules, IfSome}
use Rattle.svc_types.specs.Requests.{IsReadNumber}
use Rattle.pmi_track.proofs.RowLemmas.{number_read}
use Rattle.pmi_track.proofs.fields.number_in.Goals as goal

pub returns : goal.returns
returns c =
    let range : IfSome c.read_number.result IsReadNumber = search rules in
    number_read c.read_number.result c.args.text.now c.read_number.ensures.read range c.read_number.ensures.none
