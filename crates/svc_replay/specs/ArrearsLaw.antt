-- What is to be paid is the least that brings a loan current.
use Rattle.std.specs.Prelude.{◌≡◌, ℕ, false, ℤ}
use Rattle.svc_types.specs.declared.account.Designation.TheVariants.{Regular}
use Rattle.svc_types.specs.declared.account.Act.TheVariants.{Pay}
use Rattle.svc_types.specs.declared.account.Entry.{Entry}
use Rattle.svc_spec.specs.Settling.{is_overdue}
use Rattle.svc_spec.specs.Accounts.{Account, books_of}
use Rattle.svc_spec.specs.Arrears.{arrears_of}

-- a regular payment of x cents on the business day
abbrev pub payment_today : Account → ℕ → ℤ → Entry
payment_today a number x = record { number = number; day = a.today; act = Pay x Regular }

-- no installment that is due on or before the business day is open
abbrev pub NoneIsOverdue : Account → Type 0
NoneIsOverdue a = is_overdue a.terms a.today (books_of a a.today) ≡ false

-- what is to be paid on the business day beside what waits
abbrev pub to_pay : Account → ℤ
to_pay a = (arrears_of a.terms a.today (books_of a a.today)).pay
