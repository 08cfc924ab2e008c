use Rattle.std.proofs.Common.{ap, ◌∙◌, arith}
use Rattle.svc_base.specs.Text.{text_of_cents}
use Rattle.serv_rows.proofs.AmountLemmas.{zero_none}
use Rattle.serv_rows.proofs.amount.read_some.Goals as goal

pub returns-then-cents-eq0-clause-none : goal.returns-then-cents-eq0-clause-none
returns-then-cents-eq0-clause-none c = zero_none c.args.limit c.args.text.now (omega arith) (c.in_ok-cents.ensures.read.1 ∙ ap text_of_cents c.if-cents-eq0.true)
