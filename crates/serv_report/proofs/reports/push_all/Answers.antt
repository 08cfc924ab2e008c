use Rattle.serv_report.proofs.SumLemmas.{upb_low, balance_low}
use Rattle.serv_report.proofs.reports.push_all.Goals as goal

pub push_amount_total-requires : goal.push_amount_total-requires
push_amount_total-requires c = upb_low c.args.lines.now c.requires

pub push_amount_total-requires-2 : goal.push_amount_total-requires-2
push_amount_total-requires-2 c = balance_low c.args.lines.now c.requires
