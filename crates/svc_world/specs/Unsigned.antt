-- What texts say of an answer without a sign is not below 0.
use Rattle.std.specs.Prelude.{List, pos, ◌≤ℤ◌, ⊤}
use Rattle.std.specs.List.{All}
use Rattle.svc_types.specs.declared.books.Books.{Books}
use Rattle.svc_types.specs.declared.desk.Arrears.{Arrears}
use Rattle.svc_types.specs.declared.desk.HistoryLine.{HistoryLine}
use Rattle.svc_types.specs.declared.escrow.Figures.{Figures}
use Rattle.svc_types.specs.declared.terms.Terms.{Terms}
use Rattle.svc_spec.specs.Books.{IsWhat}
use Rattle.escrow_lines.specs.declared.line.Line.{Line}
use Rattle.svc_world.specs.declared.answer.Answer.{Answer}
use Rattle.svc_world.specs.declared.answer.Answer.TheVariants as answer
use Rattle.svc_world.specs.declared.custody.Custody.{Custody}
use Rattle.svc_world.specs.declared.desk.LateLoan.{LateLoan}
use Rattle.svc_world.specs.Laws.{IsUnsignedReport}

-- a loan's books: all but escrow, which has a sign
pub record AreUnsignedBooks (b : Books) : Type 0 where
  pub upb : pos 0 ≤ℤ b.upb
  pub suspense : pos 0 ≤ℤ b.suspense
  pub late_owed : pos 0 ≤ℤ b.late_owed
  pub interest : pos 0 ≤ℤ b.interest
  pub fee : pos 0 ≤ℤ b.fee
  pub principal : pos 0 ≤ℤ b.principal
  pub late_paid : pos 0 ≤ℤ b.late_paid

-- what an analysis on the business day would find: all but the balance
pub record AreUnsignedFigures (f : Figures) : Type 0 where
  pub base : pos 0 ≤ℤ f.base
  pub cushion : pos 0 ≤ℤ f.cushion
  pub opening : pos 0 ≤ℤ f.opening
  pub surplus : pos 0 ≤ℤ f.surplus
  pub short : pos 0 ≤ℤ f.short
  pub deficient : pos 0 ≤ℤ f.deficient

-- the custodial line: all but what the accounts hold, and escrow
pub record IsUnsignedCash (c : Custody) : Type 0 where
  pub suspense : pos 0 ≤ℤ c.suspense
  pub escrow_advance : pos 0 ≤ℤ c.escrow_advance
  pub held : pos 0 ≤ℤ c.held
  pub pi_advance : pos 0 ≤ℤ c.pi_advance

pub record AreUnsignedArrears (a : Arrears) : Type 0 where
  pub due : pos 0 ≤ℤ a.due
  pub suspense : pos 0 ≤ℤ a.suspense
  pub pay : pos 0 ≤ℤ a.pay
  pub late : pos 0 ≤ℤ a.late

-- the amounts of a loan's terms, and of its escrow lines
pub record AreUnsignedTerms (t : Terms) (lines : List Line) : Type 0 where
  pub principal : pos 0 ≤ℤ t.principal
  pub pi : pos 0 ≤ℤ t.pi
  pub escrow : pos 0 ≤ℤ t.escrow
  pub bills : All (λ (l : Line). pos 0 ≤ℤ l.cents) lines

-- an event of a history: the balance after it, and its own amounts
pub record IsUnsignedEvent (l : HistoryLine) : Type 0 where
  pub upb : pos 0 ≤ℤ l.upb
  pub what : IsWhat l.what

-- an answer; rows have signs, and of a command with its reply this says nothing
abbrev pub IsUnsignedAnswer : Answer → Type 0
IsUnsignedAnswer (answer.Books loan books next pay) = AreUnsignedBooks books × (pos 0 ≤ℤ pay)
IsUnsignedAnswer (answer.Payoff loan day cents) = pos 0 ≤ℤ cents
IsUnsignedAnswer (answer.Escrow loan figures analysis) = AreUnsignedFigures figures
IsUnsignedAnswer (answer.Report report) = IsUnsignedReport report
IsUnsignedAnswer (answer.Trial report) = IsUnsignedReport report
IsUnsignedAnswer (answer.Custodial custody) = IsUnsignedCash custody
IsUnsignedAnswer (answer.Rows number rows) = ⊤
IsUnsignedAnswer (answer.Loan loan terms lines types) = AreUnsignedTerms terms lines
IsUnsignedAnswer (answer.History loan day lines reversed) = All IsUnsignedEvent lines
IsUnsignedAnswer (answer.Quote loan day cents perday) = (pos 0 ≤ℤ cents) × (pos 0 ≤ℤ perday)
IsUnsignedAnswer (answer.Arrears loan day arrears) = AreUnsignedArrears arrears
IsUnsignedAnswer (answer.Aging day late counts) = All (λ (l : LateLoan). AreUnsignedArrears l.arrears) late
IsUnsignedAnswer (answer.Status status) = ⊤
IsUnsignedAnswer (answer.Command key command reply) = ⊤
