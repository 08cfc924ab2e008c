use Rattle.std.proofs.Common.{◌≡◌, ◌++◌, take}
use Rattle.std.specs.List.{flat_map}
use Rattle.escrow_analysis.specs.AggregateAnalysis.{months}
use Rattle.serv_report.specs.EscrowText.{text_of_month_of}
use Rattle.serv_report.proofs.analyses.push_months.Given as goal

abbrev pub invariant-loop-place : goal.invariant-loop-place
invariant-loop-place l = l.out.items ≡ l.initial.out.items ++ flat_map (text_of_month_of l.from l.analysis) (take l.place months)
