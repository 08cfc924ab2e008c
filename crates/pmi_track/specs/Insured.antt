-- What is said of an insured loan over all books, and how many steps it may take.
use Rattle.std.specs.Prelude.{ℕ, ◌+◌, List, [], Option, Some, None}
use Rattle.std.specs.List.{sum_by}
use Rattle.std.specs.Option.{option_map, option_map_or}
use Rattle.svc_base.specs.Calendar.{month_of}
use Rattle.svc_types.specs.declared.replies.Refusal.{Refusal}
use Rattle.svc_spec.specs.Accounts.{Account}
use Rattle.svc_world.specs.Held.{Held, find_loan}
use Rattle.svc_world.specs.World.{World}
use Rattle.svc_world.specs.Refusals.{Case, first_of, on_loan, day_cases}
use Rattle.pmi_track.specs.declared.insured_loan.InsuredLoan.{InsuredLoan}
use Rattle.pmi_track.specs.declared.pmi_outcome.PmiOutcome.{PmiOutcome}
use Rattle.pmi_track.specs.Insurance.{months_since, outcome_of}

-- the rules on the day of a request: it is not after the business day and not before the boarded day
abbrev pub asked_cases : World → Option ℕ → Held → List Case
asked_cases w None l = []
asked_cases w (Some day) l = day_cases w day l

-- why nothing is said of an insured loan: it is not there, or the first rule that holds
abbrev pub insurance_refusal : World → InsuredLoan → Option Refusal
insurance_refusal w i = first_of (on_loan w i.loan (asked_cases w i.asked))

-- what has become of the insurance of a loan that is there
abbrev pub outcome_in : World → InsuredLoan → Option PmiOutcome
outcome_in w i = option_map (λ (l : Held). outcome_of l.account i.value i.asked) (find_loan i.loan w.loans)

-- ---- steps, by what the books of a day of a month cost

abbrev pub asked_cost : (Account → ℕ → ℕ) → Option ℕ → Account → ℕ
asked_cost cost None a = 0
asked_cost cost (Some day) a = cost a (month_of day)

-- the books of the day of the request and of each first day
abbrev pub account_cost : (Account → ℕ → ℕ) → Option ℕ → Account → ℕ
account_cost cost asked a = asked_cost cost asked a + sum_by (cost a) (months_since a)

abbrev pub outcome_cost : (Account → ℕ → ℕ) → World → InsuredLoan → ℕ
outcome_cost cost w i =
    option_map_or (λ (l : Held). account_cost cost i.asked l.account) (find_loan i.loan w.loans) 0
