use Rattle.std.proofs.Common.{arith}
use Rattle.std.proofs.lemmas.Int.{ints}
use Rattle.svc_base.proofs.TextLemmas.{on_none}
use Rattle.servicing_transfer.proofs.AmountLemmas.{no_amount, below_zero}
use Rattle.servicing_transfer.proofs.amounts.read_amount.Goals as goal

pub returns-in_err-cents-clause-none : goal.returns-in_err-cents-clause-none
returns-in_err-cents-clause-none c = on_none _ (no_amount c.args.text.now c.in_err-cents.ensures.none)

pub returns-then-cents-lt0-clause-none : goal.returns-then-cents-lt0-clause-none
returns-then-cents-lt0-clause-none c =
    below_zero c.args.text.now c.in_ok-cents.cents c.in_ok-cents.ensures.read c.in_ok-cents.ensures.range (omega (arith, ints, c.if-cents-lt0.true))
