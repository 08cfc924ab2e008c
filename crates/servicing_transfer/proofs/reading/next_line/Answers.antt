use Rattle.std.proofs.Common.{sym, ◌∙◌}
use Rattle.servicing_transfer.proofs.TextLines.{first_line}
use Rattle.servicing_transfer.proofs.reading.next_line.Goals as goal

pub returns-in-Some-clause-line : goal.returns-in-Some-clause-line
returns-in-Some-clause-line c = first_line c.args.text.now c.split_at.result.0.now c.split_at.result.1.now c.in-Some.at (sym c.first_feed.ensures ∙ c.in-Some.is) c.split_at.ensures.front c.split_at.ensures.back
