-- Sums over the first elements of a list, and of the balances of a report's lines.
use Rattle.std.proofs.Common.{◌≡◌, ℕ, ◌+◌, ◌<◌, List, length, get_or, take, ap, ◌∙◌}
use Rattle.std.specs.Prelude.{ℤ, pos, ◌+ℤ◌, ◌≤ℤ◌}
use Rattle.std.specs.List.{All}
use Rattle.std.proofs.lemmas.List.{take_more}
use Rattle.svc_base.specs.Sums.{total_by}
use Rattle.svc_base.proofs.SumLemmas.{total_by-push}
use Rattle.period_adjust.specs.declared.report_line.ReportLine.{ReportLine}
use Rattle.svc_world.specs.Laws.{IsUnsignedLine}
use Rattle.svc_world.proofs.SumsWithin.{total_low}
use Rattle.serv_report.specs.declared.totals.Column.TheVariants as column
use Rattle.serv_report.specs.Columns.{amount_in}

-- one element more
pub total_by-more : {A : Type 0} (f : A → ℤ) (xs : List A) (i : ℕ) (d : A) → i < length xs → total_by f (take (i + 1) xs) ≡ total_by f (take i xs) +ℤ f (get_or xs i d)
total_by-more f xs i d h = ap (total_by f) (take_more xs i d h) ∙ total_by-push f (take i xs) (get_or xs i d)

-- ---- balances that are not below 0 come to no less

pub upb_low : (lines : List ReportLine) → All IsUnsignedLine lines → pos 0 ≤ℤ total_by (amount_in column.Upb) lines
upb_low lines h = total_low (λ (l : ReportLine). l.upb) lines (λ k d lt. (h k d lt).0)

pub balance_low : (lines : List ReportLine) → All IsUnsignedLine lines → pos 0 ≤ℤ total_by (amount_in column.Balance) lines
balance_low lines h = total_low (λ (l : ReportLine). l.balance) lines (λ k d lt. (h k d lt).1)
