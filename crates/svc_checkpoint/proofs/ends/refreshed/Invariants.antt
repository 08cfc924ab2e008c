use Rattle.std.proofs.Common.{◌≡◌, ◌+◌, ◌-◌, ◌≤◌, length, vec_len, vec_capacity}
use Rattle.svc_base.specs.Calendar.{month_of}
use Rattle.svc_spec.specs.Accounts.{live_of, books_of}
use Rattle.svc_spec.specs.Months.{counted}
use Rattle.svc_replay.specs.Left.{IsPlace}
use Rattle.svc_checkpoint.specs.Plans.{AreNamed}
use Rattle.svc_checkpoint.specs.Ends.{AreEnds, counted_before, day_before}
use Rattle.svc_checkpoint.proofs.ends.refreshed.Given as goal

-- the books are those at the end of the month before, and the ends so far are those of the account
abbrev pub invariant-loop-last : goal.invariant-loop-last
invariant-loop-last g l = record {
  low : l.fn.from ≤ l.month;
  high : l.month ≤ l.last;
  count : length l.ends.items ≡ length l.fn.ends.items;
  len : vec_len l.ends ≡ vec_len l.fn.ends;
  capacity : vec_capacity l.ends ≡ vec_capacity l.fn.ends;
  ends : AreEnds l.kept.account l.ends.items (l.month - month_of l.kept.account.terms.boarded);
  books : l.books ≡ books_of l.kept.account l.books.day;
  day : l.books.day ≡ day_before l.kept.account l.month;
  place : IsPlace l.kept.account.terms (live_of l.kept.account) l.books.day l.cursor;
  plans : AreNamed l.kept.account l.plans;
  steps : l.steps + counted_before l.kept.account l.fn.from ≡ l.fn.steps + counted l.kept.account.terms (live_of l.kept.account) l.books.day;
}

abbrev pub decreases-loop-last : goal.decreases-loop-last
decreases-loop-last g l = l.last - l.month
