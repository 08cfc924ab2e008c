-- What the desk asks: a quote for a day, who is late and by how much, where the books stand, and the commands with
-- their replies.
use Rattle.std.specs.Prelude.{ℕ, zero, suc, ◌+◌, ◌-◌, ◌&&◌, nat_le, nat_lt, Bool, List, [], ◌∷◌, length, map, Option, Some, None, is_some, ℤ, int_le, int_lt, pos, slice_get, if◌then◌else◌}
use Rattle.std.specs.List.{filter, find}
use Rattle.std.specs.Option.{option_map_or}
use Rattle.svc_base.specs.Calendar.{month_of, month_length, day_in_month}
use Rattle.svc_base.specs.Money.{day_interest}
use Rattle.svc_types.specs.declared.terms.Terms.{Terms}
use Rattle.svc_types.specs.declared.books.Books.{Books}
use Rattle.svc_types.specs.declared.books.Installment.{Installment}
use Rattle.svc_types.specs.declared.requests.Command.{Command}
use Rattle.svc_types.specs.declared.replies.Reply.{Reply}
use Rattle.svc_spec.specs.Installments.{due_month, open_installment}
use Rattle.svc_spec.specs.Payoff.{payoff_due}
use Rattle.svc_spec.specs.Arrears.{arrears_of}
use Rattle.svc_spec.specs.Accounts.{advanced_to, books_of}
use Rattle.period_adjust.specs.Sealed.{Sealed}
use Rattle.period_adjust.specs.Conditions.{last_month, count_held}
use Rattle.period_adjust.specs.Kept.{next_remit}
use Rattle.svc_world.specs.declared.desk.LateLoan.{LateLoan}
use Rattle.svc_world.specs.declared.desk.AgingCounts.{AgingCounts}
use Rattle.svc_world.specs.declared.desk.BooksStatus.{BooksStatus}
use Rattle.svc_world.specs.Held.{Held, books_now}
use Rattle.svc_world.specs.World.{World, Accepted, after, first_world}
use Rattle.svc_world.specs.Refusals.{expected_close}
use Rattle.svc_world.specs.Judging.{is_key, reply_of}

-- ---- a quote

-- a loan's books on a day: after the business day those of the account advanced to it, as if nothing else were booked
unfoldable pub books_on : Held → ℕ → Books
books_on l d = if nat_le d l.account.today then books_of l.account d else books_of (advanced_to d l.account) d

-- what pays the loan off on the day
abbrev pub quoted : Held → ℕ → ℤ
quoted l d = payoff_due l.account.terms d (books_on l d)

-- the interest of one day
abbrev pub per_day : Held → ℕ → ℤ
per_day l d = day_interest (books_on l d).upb l.account.terms.rate 1

-- ---- who is late

-- the days of n months from m on
abbrev pub days_of_months : ℕ → ℕ → ℕ
days_of_months m zero = 0
days_of_months m (suc n) = month_length m + days_of_months (m + 1) n

-- the days from a month's first day to a later day
abbrev pub days_since : ℕ → ℕ → ℕ
days_since m d = days_of_months m (month_of d - m) + (day_in_month d - 1)

-- the days from an installment's due day to a day, where that is later
abbrev pub late_by : ℕ → Installment → ℕ
late_by d i = if nat_lt i.due d then days_since (month_of i.due) d else 0

-- by how many days books are late; those of a satisfied loan by none
unfoldable pub late_days : ℕ → Terms → Books → ℕ
late_days d t b = option_map_or (late_by d) (open_installment t b) 0

-- by how many days a loan is late
abbrev pub days_late : ℕ → Held → ℕ
days_late d l = late_days d l.account.terms (books_now l)

abbrev pub is_late : ℕ → Held → Bool
is_late d l = nat_lt 0 (days_late d l)

-- what is said of a late loan
abbrev pub late_loan : ℕ → Held → LateLoan
late_loan d l = record {
  loan = l.id;
  next = due_month l.account.terms (books_now l).next;
  days = days_late d l;
  arrears = arrears_of l.account.terms d (books_now l);
}

-- the late loans, which rise by number as the loans do
unfoldable pub late_loans : ℕ → List Held → List LateLoan
late_loans d loans = map (late_loan d) (filter (is_late d) loans)

abbrev pub is_satisfied : Held → Bool
is_satisfied l = int_le (books_now l).upb (pos 0)

-- neither satisfied nor late
abbrev pub is_current : ℕ → Held → Bool
is_current d l = int_lt (pos 0) (books_now l).upb && nat_le (days_late d l) 0

-- late by so many days, from the one number to the other
abbrev pub is_late_from : ℕ → ℕ → ℕ → Held → Bool
is_late_from first last d l = nat_le first (days_late d l) && nat_le (days_late d l) last

abbrev pub count_loans : (Held → Bool) → List Held → ℕ
count_loans p loans = length (filter p loans)

-- how many loans are how late
unfoldable pub counts_of : ℕ → List Held → AgingCounts
counts_of d loans = record {
  current = count_loans (is_current d) loans;
  late1 = count_loans (is_late_from 1 29 d) loans;
  late30 = count_loans (is_late_from 30 59 d) loans;
  late60 = count_loans (is_late_from 60 89 d) loans;
  late90 = count_loans (λ l. nat_le 90 (days_late d l)) loans;
  satisfied = count_loans is_satisfied loans;
}

-- ---- where the books stand

-- the month that is to be remitted next; none before the first is closed
abbrev pub next_remit_of : Option ℕ → List Sealed → Option ℕ
next_remit_of remitted reports = if is_some (last_month reports) then Some (next_remit remitted reports) else None

-- after n accepted commands
unfoldable pub status_of : ℕ → World → BooksStatus
status_of n w = record {
  today = w.today;
  loans = length w.loans;
  commands = n;
  closed = last_month w.seals.reports;
  remitted = w.remitted;
  close = expected_close w;
  remit = next_remit_of w.remitted w.seals.reports;
  pending = length w.seals.pending;
  adjustments = count_held w.seals;
}

-- ---- the commands

-- an accepted command with its key, and the reply that was given to it
pub record Posting : Type 0 where
  pub key : List ℕ
  pub command : Command
  pub reply : Reply

-- those of some commands, of which the first has number n + 1
unfoldable pub postings_from : ℕ → World → List Accepted → List Posting
postings_from n w [] = []
postings_from n w (a ∷ more) =
    record { key = a.key; command = a.command; reply = reply_of (n + 1) w a.command }
    ∷ postings_from (n + 1) (after (n + 1) w a.command) more

-- those of a history
abbrev pub postings : List Accepted → List Posting
postings h = postings_from 0 first_world h

abbrev pub has_key : List ℕ → Posting → Bool
has_key key p = is_key p.key key

-- the one with a key
abbrev pub posting_under : List ℕ → List Posting → Option Posting
posting_under key ps = find (has_key key) ps

-- the one with a number, from 1
abbrev pub nth_posting : ℕ → List Posting → Option Posting
nth_posting zero ps = None
nth_posting (suc n) ps = slice_get ps n
