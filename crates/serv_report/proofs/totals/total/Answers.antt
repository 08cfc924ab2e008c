use Rattle.std.proofs.Common.{◌≡◌, ◌+◌, get_or, take, pos, ◌+ℤ◌, to_z, of_z, arith}
use Rattle.std.specs.Int.{w128}
use Rattle.std.proofs.lemmas.Int.{ints}
use Rattle.svc_base.specs.Sums.{total_by}
use Rattle.period_adjust.specs.declared.report_line.ReportLine.{ReportLine}
use Rattle.serv_report.specs.Columns.{amount_in}
use Rattle.serv_report.proofs.SumLemmas.{total_by-more}
use Rattle.serv_report.proofs.totals.total.Goals as goal

pub loop-line-preserved : goal.loop-line-preserved
loop-line-preserved c =
    let d : ReportLine = record { loan = 0; interest = pos 0; principal = pos 0; adj_interest = pos 0; adj_principal = pos 0; upb = pos 0; balance = pos 0 } in
    let line : ReportLine = get_or c.args.lines.now c.loop-line.line-index d in
    let value : c.amount-total.result ≡ amount_in c.args.column line = c.amount-total.ensures.value in
    let more : total_by (amount_in c.args.column) (take (c.loop-line.line-index + 1) c.args.lines.now) ≡ total_by (amount_in c.args.column) (take c.loop-line.line-index c.args.lines.now) +ℤ amount_in c.args.column line =
    total_by-more (amount_in c.args.column) c.args.lines.now c.loop-line.line-index d c.loop-line-test.true in
    let fits : to_z w128 (of_z w128 (to_z w128 c.loop-line.total-bits +ℤ to_z w128 (of_z w128 c.amount-total.result))) ≡ to_z w128 c.loop-line.total-bits +ℤ c.amount-total.result = omega (arith, ints) in
    record { value = omega (arith, ints); low = omega (arith, ints); high = omega (arith, ints) }
