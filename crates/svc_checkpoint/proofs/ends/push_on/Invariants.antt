use Rattle.std.proofs.Common.{◌≡◌, ◌+◌, ◌-◌, ◌≤◌, length, vec_len, vec_capacity}
use Rattle.svc_base.specs.Calendar.{month_of, last_day}
use Rattle.svc_spec.specs.Accounts.{live_of, books_of}
use Rattle.svc_spec.specs.Months.{counted}
use Rattle.svc_replay.specs.Left.{IsPlace}
use Rattle.svc_checkpoint.specs.Plans.{AreNamed}
use Rattle.svc_checkpoint.specs.Ends.{AreEnds}
use Rattle.svc_checkpoint.proofs.ends.push_on.Given as goal

-- the books are those at the end of the month before, and the ends so far are those of the account
abbrev pub invariant-loop-last : goal.invariant-loop-last
invariant-loop-last g l = record {
  high : l.month ≤ l.last;
  books : l.now ≡ books_of l.kept.account l.now.day;
  since : l.kept.account.terms.boarded ≤ l.now.day;
  until : l.now.day ≤ l.day;
  here : l.now.day ≤ last_day l.month;
  count : month_of l.kept.account.terms.boarded + length l.ends.items ≡ l.month;
  len : vec_len l.ends + (l.last - l.month) ≤ vec_capacity l.fn.ends;
  capacity : vec_capacity l.ends ≡ vec_capacity l.fn.ends;
  place : IsPlace l.kept.account.terms (live_of l.kept.account) l.now.day l.cursor;
  ends : AreEnds l.kept.account l.ends.items (length l.ends.items);
  plans : AreNamed l.kept.account l.plans;
  steps : l.steps + counted l.kept.account.terms (live_of l.kept.account) l.fn.now.day ≡ l.fn.steps + counted l.kept.account.terms (live_of l.kept.account) l.now.day;
}

abbrev pub decreases-loop-last : goal.decreases-loop-last
decreases-loop-last g l = l.last - l.month
