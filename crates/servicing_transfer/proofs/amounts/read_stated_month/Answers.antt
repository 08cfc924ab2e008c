use Rattle.std.proofs.Common.{inl, inr}
use Rattle.servicing_transfer.proofs.AmountLemmas.{other_month}
use Rattle.servicing_transfer.proofs.amounts.read_stated_month.Goals.{then-month-via-then-month, then-month-via-else-month+then-month-2}
use Rattle.servicing_transfer.proofs.amounts.read_stated_month.Goals as goal

pub returns-then-month-clause-none : goal.returns-then-month-clause-none
returns-then-month-clause-none c =
    let civil = c.in_ok-month.ensures.read in
    elim c.then-month.branch [
      | then-month-via-then-month w ↦ other_month c.args.text.now c.in_ok-month.month civil.0 civil.1 (inl w.if-month.true)
      | then-month-via-else-month+then-month-2 w ↦ other_month c.args.text.now c.in_ok-month.month civil.0 civil.1 (inr w.if-month-2.true)
    ]
