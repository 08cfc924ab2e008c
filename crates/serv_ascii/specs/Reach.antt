-- What the types of days, months and keys say of a refusal and of an answer: the books reach each day and month.
use Rattle.std.specs.Prelude.{ℕ, List, Option, Some, None, ⊤}
use Rattle.std.specs.List.{All}
use Rattle.svc_base.specs.Calendar.{IsMonth, month_of}
use Rattle.svc_types.specs.Keys.{IsKey}
use Rattle.svc_types.specs.declared.desk.HistoryLine.{HistoryLine}
use Rattle.svc_types.specs.declared.replies.Refusal.{Refusal}
use Rattle.svc_types.specs.declared.replies.Refusal.TheVariants as refusal
use Rattle.svc_types.specs.declared.requests.TypeChange.{TypeChange}
use Rattle.svc_types.specs.declared.terms.Terms.{Terms}
use Rattle.period_adjust.specs.declared.adjustment.Adjustment.{Adjustment}
use Rattle.period_adjust.specs.Sealed.{Sealed}
use Rattle.svc_world.specs.declared.answer.Answer.{Answer}
use Rattle.svc_world.specs.declared.answer.Answer.TheVariants as answer
use Rattle.svc_world.specs.declared.desk.BooksStatus.{BooksStatus}
use Rattle.svc_world.specs.declared.desk.LateLoan.{LateLoan}

-- a day of a month that the books reach
abbrev pub IsReachedDay : ℕ → Type 0
IsReachedDay d = IsMonth (month_of d)

-- where there is a month, the books reach it
abbrev pub IsReachedMonth : Option ℕ → Type 0
IsReachedMonth None = ⊤
IsReachedMonth (Some m) = IsMonth m

-- the books reach the day or the month that a refusal names
abbrev pub IsReachedRefusal : Refusal → Type 0
IsReachedRefusal (refusal.DayNotLater d) = IsReachedDay d
IsReachedRefusal (refusal.BoardedLate m) = IsMonth m
IsReachedRefusal (refusal.FutureDated d) = IsReachedDay d
IsReachedRefusal (refusal.BeforeBoarding d) = IsReachedDay d
IsReachedRefusal (refusal.WrongPeriod m) = IsMonth m
IsReachedRefusal (refusal.NotEnded d) = IsReachedDay d
IsReachedRefusal (refusal.NotClosed m) = IsReachedMonth m
IsReachedRefusal (refusal.WrongRemit m) = IsMonth m
IsReachedRefusal (refusal.ClosedMonth m) = IsMonth m
IsReachedRefusal other = ⊤

-- the month of a report, and the months that it adjusts
pub record IsReachedReport (r : Sealed) : Type 0 where
  pub month : IsMonth r.month
  pub adjusted : All (λ (a : Adjustment). IsMonth a.month) r.adjustments

-- when a loan was taken on, the month in which its first installment is due, and the months from which types changed
pub record AreReachedTerms (t : Terms) (types : List TypeChange) : Type 0 where
  pub boarded : IsReachedDay t.boarded
  pub first : IsMonth t.first
  pub changed : All (λ (c : TypeChange). IsMonth c.from) types

-- the day of an event, and the month of the open installment after it
pub record IsReachedEvent (l : HistoryLine) : Type 0 where
  pub day : IsReachedDay l.day
  pub next : IsReachedMonth l.next

-- the business day, and the months that were closed and remitted last and are next
pub record IsReachedStatus (s : BooksStatus) : Type 0 where
  pub today : IsReachedDay s.today
  pub closed : IsReachedMonth s.closed
  pub remitted : IsReachedMonth s.remitted
  pub close : IsMonth s.close
  pub remit : IsReachedMonth s.remit

-- the books reach each day and month of an answer, and the key of a command is one; of an analysis, and of a command,
-- `IsSpellable` says it
abbrev pub IsReachedAnswer : Answer → Type 0
IsReachedAnswer (answer.Books loan books next pay) = IsReachedDay books.day × IsReachedMonth next
IsReachedAnswer (answer.Payoff loan day cents) = IsReachedDay day
IsReachedAnswer (answer.Report report) = IsReachedReport report
IsReachedAnswer (answer.Trial report) = IsReachedReport report
IsReachedAnswer (answer.Loan loan terms lines types) = AreReachedTerms terms types
IsReachedAnswer (answer.History loan day lines reversed) = IsReachedDay day × All IsReachedEvent lines
IsReachedAnswer (answer.Quote loan day cents perday) = IsReachedDay day
IsReachedAnswer (answer.Arrears loan day arrears) = IsReachedDay day
IsReachedAnswer (answer.Aging day late counts) = IsReachedDay day × All (λ (l : LateLoan). IsMonth l.next) late
IsReachedAnswer (answer.Status status) = IsReachedStatus status
IsReachedAnswer (answer.Command key command reply) = IsKey key
IsReachedAnswer other = ⊤
