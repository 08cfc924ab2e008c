-- What the desk's questions cost in steps.
use Rattle.std.specs.Prelude.{ℕ, nat_le, List, if◌then◌else◌}
use Rattle.std.specs.List.{sum_by}
use Rattle.svc_base.specs.Calendar.{month_of}
use Rattle.svc_spec.specs.Accounts.{Account, advanced_to}
use Rattle.svc_spec.specs.Arrears.{installments_due}
use Rattle.svc_world.specs.Held.{Held, books_now}

-- a quote: the month of its day, or after the business day what it costs to advance the account to it
abbrev pub quote_cost : (Account → ℕ → ℕ) → ℕ → Held → ℕ
quote_cost cost d l =
    if nat_le d l.account.today then cost l.account (month_of d)
    else cost (advanced_to d l.account) (month_of l.account.today)

-- a step for each installment that is due
abbrev pub arrears_cost : ℕ → Held → ℕ
arrears_cost d l = installments_due l.account.terms d (books_now l)

abbrev pub aging_cost : ℕ → List Held → ℕ
aging_cost d loans = sum_by (arrears_cost d) loans
