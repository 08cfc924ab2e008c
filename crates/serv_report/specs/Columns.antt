-- What is added up of a report's lines.
use Rattle.std.specs.Prelude.{ℤ}
use Rattle.period_adjust.specs.declared.report_line.ReportLine.{ReportLine}
use Rattle.serv_report.specs.declared.totals.Column.{Column}
use Rattle.serv_report.specs.declared.totals.Column.TheVariants as column
use Rattle.serv_report.specs.ReportTexts.{interest_sent, principal_sent}

-- what a line adds to a total
abbrev pub amount_in : Column → ReportLine → ℤ
amount_in column.Interest = interest_sent
amount_in column.Principal = principal_sent
amount_in column.Upb = λ l. l.upb
amount_in column.Balance = λ l. l.balance
