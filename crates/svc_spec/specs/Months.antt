-- What one month did to a loan, and what it may cost to fold a loan anew from a month on.
use Rattle.std.specs.Prelude.{ℕ, ◌+◌, ◌-◌, ◌*◌, min, nat_lt, nat_le, if◌then◌else◌, pos, ◌-ℤ◌, ◌≤ℤ◌, int_le}
use Rattle.std.specs.Prelude.{List, length}
use Rattle.std.specs.List.{filter}
use Rattle.svc_base.specs.Calendar.{month_of, last_day}
use Rattle.svc_types.specs.declared.terms.Terms.{Terms}
use Rattle.svc_types.specs.declared.books.Books.{Books}
use Rattle.svc_types.specs.declared.books.Collected.{Collected}
use Rattle.svc_types.specs.declared.books.MonthFacts.{MonthFacts}
use Rattle.svc_types.specs.declared.account.Entry.{Entry}
use Rattle.svc_types.specs.Collected.{collected_of}
use Rattle.svc_spec.specs.Installments.{due_month}
use Rattle.svc_spec.specs.Books.{start}
use Rattle.svc_spec.specs.Events.{events_to, books_at}
use Rattle.svc_spec.specs.Accounts.{Account, live_of, books_of}

-- the last day of a month, or the business day where that is earlier
abbrev pub end_day : Account → ℕ → ℕ
end_day a m = min (last_day m) a.today

-- the books at the end of a month; before the boarded month the principal is owed and every sum is 0
unfoldable pub books_at_end : Account → ℕ → Books
books_at_end a m = if nat_lt m (month_of a.terms.boarded) then start a.terms else books_of a (end_day a m)

-- what a month did, by what stood before it and at its end
abbrev pub facts_between : ℕ → Collected → Collected → MonthFacts
facts_between m before after = record {
  month = m;
  upb = after.upb;
  curtailed = after.curtailed -ℤ before.curtailed;
  interest = after.interest -ℤ before.interest;
  fee = after.fee -ℤ before.fee;
  satisfied = int_le after.upb (pos 0);
}

-- the facts of a month; of the business day's month those so far
abbrev pub month_facts : Account → ℕ → MonthFacts
month_facts a m = facts_between m (collected_of (books_at_end a (m - 1))) (collected_of (books_at_end a m))

-- the live entries of a month and of later ones
abbrev pub entries_from : Account → ℕ → List Entry
entries_from a m = filter (λ e. nat_le m (month_of e.day)) (live_of a)

-- the months from one to the business day's, both counted
abbrev pub months_from : Account → ℕ → ℕ
months_from a m = month_of a.today + 1 - m

-- the installments from the open one on that are due by a month
abbrev pub open_by : Terms → Books → ℕ → ℕ
open_by t b by = min (t.term + 1 - b.next) (by + 1 - due_month t b.next)

-- the bound on the steps from a month on: one for each entry, two for each month, one for each
-- installment that may be satisfied, and 4
unfoldable pub cost_of_month : Account → ℕ → ℕ
cost_of_month a m =
    length (entries_from a m) + 2 * months_from a m
    + open_by a.terms (books_at_end a (m - 1)) (month_of a.today + 1) + 4

-- what the books at a day took to fold from boarding, and one more: an event is a step, and so is each
-- installment that was satisfied, of which the open one is the next
abbrev pub counted : Terms → List Entry → ℕ → ℕ
counted t live d = length (events_to t live d) + (books_at t live d).next

-- facts of a month whose balance lies from 0 to the principal, and each other amount from 0 to 10^18
pub record AreFacts (t : Terms) (f : MonthFacts) : Type 0 where
  pub upb_low : pos 0 ≤ℤ f.upb
  pub upb_high : f.upb ≤ℤ t.principal
  pub curtailed_low : pos 0 ≤ℤ f.curtailed
  pub curtailed_high : f.curtailed ≤ℤ pos 1_000_000_000_000_000_000
  pub interest_low : pos 0 ≤ℤ f.interest
  pub interest_high : f.interest ≤ℤ pos 1_000_000_000_000_000_000
  pub fee_low : pos 0 ≤ℤ f.fee
  pub fee_high : f.fee ≤ℤ pos 1_000_000_000_000_000_000
