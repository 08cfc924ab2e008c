use Rattle.remit_types.proofs.MonthsLemmas.{carried-upb, carried-balance, carried-actual, carried-scheduled, carried-passed, due_between-carried}
use Rattle.remit_types.proofs.laws.month_by_month.Goals as goal

pub returns-clause-loan_balance : goal.returns-clause-loan_balance
returns-clause-loan_balance c t months = carried-upb t months

pub returns-clause-balance : goal.returns-clause-balance
returns-clause-balance c t months = carried-balance t months

pub returns-clause-actual : goal.returns-clause-actual
returns-clause-actual c t months = carried-actual t months

pub returns-clause-scheduled : goal.returns-clause-scheduled
returns-clause-scheduled c t months = carried-scheduled t months

pub returns-clause-passed : goal.returns-clause-passed
returns-clause-passed c t months = carried-passed t months

pub returns-clause-due : goal.returns-clause-due
returns-clause-due c t m earlier = due_between-carried t m earlier
