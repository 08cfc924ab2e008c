-- What the entries of a loan brought in and paid out: the totals that custody is told of.
use Rattle.std.specs.Prelude.{List, ℤ, pos}
use Rattle.std.specs.List.{filter}
use Rattle.svc_base.specs.Sums.{total_by}
use Rattle.svc_types.specs.declared.account.Act.{Act}
use Rattle.svc_types.specs.declared.account.Act.TheVariants.{Pay, Curtail, Payoff, Deposit}
use Rattle.svc_types.specs.declared.account.Act.TheVariants.{Disburse, Refund, Waive, Analyse}
use Rattle.svc_types.specs.declared.account.Entry.{Entry}
use Rattle.svc_types.specs.Live.{is_reversed}
use Rattle.svc_spec.specs.Step.{brought}
use Rattle.svc_spec.specs.Accounts.{Account, live_of}

-- an amount of the act of each of some entries, summed
abbrev pub sum_over : (Act → ℤ) → List Entry → ℤ
sum_over f es = total_by (λ e. f e.act) es

-- what an act pays back to the borrower: a refund, and that of an analysis
abbrev pub refunded_by : Act → ℤ
refunded_by (Pay c to) = pos 0
refunded_by (Curtail c) = pos 0
refunded_by (Payoff c) = pos 0
refunded_by (Deposit c) = pos 0
refunded_by (Disburse c line) = pos 0
refunded_by (Refund c) = c
refunded_by (Waive c) = pos 0
refunded_by (Analyse s) = s.refund

-- what an act pays to others
abbrev pub disbursed_by : Act → ℤ
disbursed_by (Pay c to) = pos 0
disbursed_by (Curtail c) = pos 0
disbursed_by (Payoff c) = pos 0
disbursed_by (Deposit c) = pos 0
disbursed_by (Disburse c line) = c
disbursed_by (Refund c) = pos 0
disbursed_by (Waive c) = pos 0
disbursed_by (Analyse s) = pos 0

-- the entries that a reversal names
abbrev pub reversed_of : Account → List Entry
reversed_of a = filter (λ e. is_reversed a.reversals e.number) a.entries

-- all payments, curtailments, payoffs and deposits, reversed ones too
abbrev pub received : Account → ℤ
received a = sum_over brought a.entries

-- the reversed ones of these
abbrev pub returned : Account → ℤ
returned a = sum_over brought (reversed_of a)

-- live refunds, and refunds of live analyses
abbrev pub refunded : Account → ℤ
refunded a = sum_over refunded_by (live_of a)

-- live disbursements
abbrev pub disbursed : Account → ℤ
disbursed a = sum_over disbursed_by (live_of a)
