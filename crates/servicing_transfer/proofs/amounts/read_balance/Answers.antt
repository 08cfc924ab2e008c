use Rattle.servicing_transfer.proofs.AmountLemmas.{balance_range, no_balance}
use Rattle.servicing_transfer.proofs.amounts.read_balance.Goals as goal

pub returns-clause-range : goal.returns-clause-range
returns-clause-range c = balance_range c.read_signed.result c.read_signed.ensures.range

pub returns-clause-none : goal.returns-clause-none
returns-clause-none c = no_balance c.read_signed.result c.args.text.now c.read_signed.ensures.none
