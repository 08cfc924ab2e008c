use Rattle.remit_types.proofs.LimitLemmas.{carried-within, carried-scheduled_low, carried-scheduled_high}
use Rattle.remit_types.proofs.laws.limits_month_by_month.Goals as goal

pub returns-clause-balances : goal.returns-clause-balances
returns-clause-balances c t months sound all = carried-within t months sound all

pub returns-clause-scheduled_low : goal.returns-clause-scheduled_low
returns-clause-scheduled_low c t months sound = carried-scheduled_low t months sound

pub returns-clause-scheduled_high : goal.returns-clause-scheduled_high
returns-clause-scheduled_high c t months sound all = carried-scheduled_high t months sound all
