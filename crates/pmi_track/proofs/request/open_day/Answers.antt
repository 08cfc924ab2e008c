use Rattle.std.proofs.Common.{◌∙◌, sym}
use Rattle.pmi_track.proofs.RequestLemmas.{late_none}
use Rattle.pmi_track.proofs.request.open_day.Goals as goal

pub unreachable-requires : goal.unreachable-requires
unreachable-requires c = late_none c.args.terms.now c.args.day c.args.books.now c.requires.late (sym c.open_installment.ensures ∙ c.in-None.is)
