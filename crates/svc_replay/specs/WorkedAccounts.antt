-- Accounts of a worked loan, on 2024-04-01: payments, a late one, a reversal, a payoff, escrow.
use Rattle.std.specs.Prelude.{ℕ, List, [], ◌∷◌, pos}
use Rattle.svc_types.specs.declared.account.Act.{Act}
use Rattle.svc_types.specs.declared.account.Act.TheVariants as act
use Rattle.svc_types.specs.declared.account.Entry.{Entry}
use Rattle.svc_types.specs.declared.escrow.Settled.{Settled}
use Rattle.svc_types.specs.WorkedLoan.{day_at, month_at}
use Rattle.svc_apply.specs.Rows.{worked_loan, analysis_from, regular}
use Rattle.svc_spec.specs.Accounts.{Account}

abbrev pub entry_on : ℕ → ℕ → Act → Entry
entry_on n d a = record { number = n; day = d; act = a }

abbrev pub account_with : List Entry → List (ℕ × ℕ) → Account
account_with entries reversals = record {
  terms = worked_loan;
  entries = entries;
  reversals = reversals;
  today = day_at 2024 4 1;
}

-- two payments of an installment, the later one on a day in March
abbrev pub paid_twice : ℕ → List (ℕ × ℕ) → Account
paid_twice d reversals = account_with
    (entry_on 3 (day_at 2024 2 1) (regular (pos 119_910)) ∷ entry_on 4 d (regular (pos 119_910)) ∷ [])
    reversals

-- a payment, and the payoff that is asked on 2024-02-16
abbrev pub paid_off : Account
paid_off = account_with
    (entry_on 3 (day_at 2024 2 1) (regular (pos 119_910))
    ∷ entry_on 5 (day_at 2024 2 16) (act.Payoff (pos 20_030_040))
    ∷ [])
    []

-- an analysis of the installments from April 2024 on, which refunds 50.00
abbrev pub refunding : Settled
refunding = record {
  plan = (analysis_from (month_at 2024 4) (pos 13_000)).plan;
  refund = pos 5_000;
  within30 = pos 0;
}

-- a deposit, a bill, an analysis that refunds, and a refund
abbrev pub escrowed : Account
escrowed = account_with
    (entry_on 3 (day_at 2024 2 1) (act.Deposit (pos 109_000))
    ∷ entry_on 4 (day_at 2024 2 10) (act.Disburse (pos 50_000) 1)
    ∷ entry_on 5 (day_at 2024 3 1) (act.Analyse refunding)
    ∷ entry_on 6 (day_at 2024 3 2) (act.Refund (pos 1_000))
    ∷ [])
    []
