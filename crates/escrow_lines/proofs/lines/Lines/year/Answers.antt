use Rattle.std.proofs.Common.{◌+◌, pos, arith}
use Rattle.svc_base.specs.EscrowMonths.{IsMonthPaid}
use Rattle.svc_base.specs.Calendar.{number_in_year}
use Rattle.std.proofs.lemmas.List.FromFn.{fill_by_all}
use Rattle.std.proofs.lemmas.List.Elements.{All-from_get_or}
use Rattle.escrow_lines.specs.BillLists.{month_total}
use Rattle.escrow_lines.proofs.lines.Lines.year.Goals as goal

pub returns-clause-value : goal.returns-clause-value
returns-clause-value c = fill_by_all (λ k. month_total c.args.self.now (number_in_year (c.args.from + k))) c.loop-k.year 12 (pos 0) c.loop-k.invariant.twelve (λ k h. c.loop-k.invariant.written k (omega arith))

pub returns-clause-months : goal.returns-clause-months
returns-clause-months c = All-from_get_or IsMonthPaid c.loop-k.year (pos 0) (λ k h. c.loop-k.invariant.months k (omega (arith, c.loop-k.invariant.twelve)))
