-- The laws of the books, over every history of accepted commands.
use Rattle.std.specs.Prelude.{◌≡◌, ◌≢◌, ◌⊎◌, ℕ, ◌+◌, ◌<◌, ◌≤◌, ◌==◌, ◌&&◌, if◌then◌else◌, List, [], ◌++◌, length, ⊤, IfSome, ℤ, pos, ◌+ℤ◌, ◌-ℤ◌, ◌≤ℤ◌}
use Rattle.std.specs.List.{All, AllPairs}
use Rattle.svc_base.specs.Calendar.{month_of}
use Rattle.svc_base.specs.Sums.{total_by}
use Rattle.svc_types.specs.declared.terms.Terms.{Terms}
use Rattle.svc_types.specs.declared.requests.TypeChange.{TypeChange}
use Rattle.svc_types.specs.declared.requests.Command.{Command}
use Rattle.svc_types.specs.declared.requests.Command.TheVariants as command
use Rattle.svc_spec.specs.Books.{AreBooks, total}
use Rattle.svc_spec.specs.Accounts.{books_of, entry_of}
use Rattle.svc_spec.specs.Totals.{received, returned, refunded, disbursed}
use Rattle.advance_book.specs.Positions.{IsSum}
use Rattle.period_adjust.specs.declared.adjustment.Adjustment.{Adjustment}
use Rattle.period_adjust.specs.declared.report_line.ReportLine.{ReportLine}
use Rattle.period_adjust.specs.Sealed.{Sealed}
use Rattle.custodial_book.specs.declared.part.Account.TheVariants.{T, P}
use Rattle.custodial_book.specs.declared.part.Part.{Part}
use Rattle.custodial_book.specs.declared.part.Part.TheVariants.{Received, Returned, Refunded, Disbursed, Collected, Fee, Late, PiAdvance, EscrowAdvance, Remitted, Residual}
use Rattle.custodial_book.specs.declared.row.Row.{Row}
use Rattle.custodial_book.specs.Rows.{total_of, balance_of}
use Rattle.svc_world.specs.declared.custody.Custody.{Custody}
use Rattle.svc_world.specs.Held.{Held, find_loan, books_now}
use Rattle.svc_world.specs.LoanDues.{kind_in, Counts}
use Rattle.svc_world.specs.Reports.{months_of, changes_of}
use Rattle.svc_world.specs.World.{World, Accepted, loans_after, after, world}
use Rattle.svc_world.specs.Worlds.{AddUp}
use Rattle.svc_world.specs.Custody.{remitted_for, collected, held_for, advanced_for, residual_of, totals_before, borrower_cash, rows_in}

-- a loan's money: what it received, less what was returned, refunded and disbursed, is what its books hold
-- and have collected
abbrev pub IsConserved : Held → Type 0
IsConserved l =
    received l.account -ℤ returned l.account -ℤ refunded l.account -ℤ disbursed l.account ≡ total (books_now l)

-- what is held for a loan is what was collected less what was remitted and left over, and what was advanced
abbrev pub IsHeldBack : World → Held → Type 0
IsHeldBack w l =
    held_for w l ≡ collected (books_now l) -ℤ remitted_for w l.id -ℤ residual_of w l +ℤ advanced_for w l

-- after every history reports and adjustments add up to the dues, each loan's money is conserved, and the
-- rows into an account less those out of it are what it holds for all loans
pub record AreLawful (h : List Accepted) : Type 0 where
  pub add_up : AddUp (world h).seals (world h).loans
  pub conserved : All IsConserved (world h).loans
  pub held_back : All (IsHeldBack (world h)) (world h).loans
  pub t : balance_of T (rows_in h) ≡ total_by borrower_cash (world h).loans
  pub p : balance_of P (rows_in h) ≡ total_by (held_for (world h)) (world h).loans

-- reports only grow
pub record ReportsGrow (before later : World) : Type 0 where
  pub more : List Sealed
  pub grown : later.seals.reports ≡ before.seals.reports ++ more

-- at every day the books of a loan are books of its terms
abbrev pub HasSoundBooks : Held → Type 0
HasSoundBooks l = (d : ℕ) → AreBooks l.account.terms (books_of l.account d)

-- what the custodial line says is not below 0: what the accounts hold, suspense, held, and both advances. Its escrow is the
-- sum of balances, of which some are below 0
pub record IsUnsigned (c : Custody) : Type 0 where
  pub t : pos 0 ≤ℤ c.t
  pub p : pos 0 ≤ℤ c.p
  pub suspense : pos 0 ≤ℤ c.suspense
  pub escrow_advance : pos 0 ≤ℤ c.escrow_advance
  pub held : pos 0 ≤ℤ c.held
  pub pi_advance : pos 0 ≤ℤ c.pi_advance

-- no total of the custodial line is further from 0 than 10^18 cents
pub record IsInRange (c : Custody) : Type 0 where
  pub t : IsSum c.t
  pub p : IsSum c.p
  pub suspense : IsSum c.suspense
  pub escrow : IsSum c.escrow
  pub escrow_advance : IsSum c.escrow_advance
  pub held : IsSum c.held
  pub pi_advance : IsSum c.pi_advance

-- the balances that a report's line says are not below 0: the loan's, and the investor's
abbrev pub IsUnsignedLine : ReportLine → Type 0
IsUnsignedLine l = (pos 0 ≤ℤ l.upb) × (pos 0 ≤ℤ l.balance)

abbrev pub IsUnsignedReport : Sealed → Type 0
IsUnsignedReport r = All IsUnsignedLine r.lines

-- the place of a part among all
abbrev pub place_of : Part → ℕ
place_of Received = 0
place_of Returned = 1
place_of Refunded = 2
place_of Disbursed = 3
place_of Collected = 4
place_of Fee = 5
place_of Late = 6
place_of PiAdvance = 7
place_of EscrowAdvance = 8
place_of Remitted = 9
place_of Residual = 10

-- what the rows of a loan and a part add up to
abbrev pub rows_sum : ℕ → Part → List Row → ℤ
rows_sum id part rows =
    total_by (λ (r : Row). if (r.loan == id) && (place_of r.part == place_of part) then r.cents else pos 0) rows

-- a loan's total of a part; of a loan that is not there it is 0
abbrev pub total_for : World → ℕ → Part → ℤ
total_for w id part = total_of (totals_before w (find_loan id w.loans)) part

-- no entry is reversed twice, and each is reversed by a command after its own
pub record AreReversedOnce (reversals : List (ℕ × ℕ)) : Type 0 where
  pub once : AllPairs (λ (r s : ℕ × ℕ). r.0 ≢ s.0) reversals
  pub later : All (λ (r : ℕ × ℕ). r.0 < r.1) reversals

abbrev pub IsReversedOnce : Held → Type 0
IsReversedOnce l = AreReversedOnce l.account.reversals

-- no change of a loan's remittance type begins by a month, and its type in it is that of the terms
pub record IsUnchanged (t : Terms) (types : List TypeChange) (month : ℕ) : Type 0 where
  pub kind : kind_in t types month ≡ t.kind
  pub none : All (λ (c : TypeChange). month < c.from) types

-- or one of them counts, and its type is that one's
pub record IsChanged (t : Terms) (types : List TypeChange) (month : ℕ) : Type 0 where
  pub change : TypeChange
  pub counts : Counts types month change
  pub kind : kind_in t types month ≡ change.kind

abbrev pub IsKindIn : Terms → List TypeChange → ℕ → Type 0
IsKindIn t types month = IsUnchanged t types month ⊎ IsChanged t types month

-- a command that can have adjustments: payments, bills and reversals. An analysis is none of them
abbrev pub CanAdjust : Command → Type 0
CanAdjust (command.Pay id d c over) = ⊤
CanAdjust (command.Curtail id d c) = ⊤
CanAdjust (command.Payoff id d c) = ⊤
CanAdjust (command.Deposit id d c) = ⊤
CanAdjust (command.Disburse id d c line) = ⊤
CanAdjust (command.Reverse id number) = ⊤
CanAdjust c = ⊥

-- the adjustments of command n
abbrev pub adjustments_by : ℕ → World → Command → List Adjustment
adjustments_by n w c = changes_of n (months_of w.seals.reports) w.loans (loans_after n w.today w.loans c)

-- an adjustment is of a loan, and of a month from one on
pub record IsFrom (id month : ℕ) (a : Adjustment) : Type 0 where
  pub loan : a.loan ≡ id
  pub since : month ≤ a.month

-- a command's adjustments are of its own loan, and of months from that of its entry on; those of a reversal from that of the
-- entry that it takes back. Other commands have none
abbrev pub AdjustsItsOwn : World → Command → List Adjustment → Type 0
AdjustsItsOwn w (command.Pay id d c over) xs = All (IsFrom id (month_of d)) xs
AdjustsItsOwn w (command.Curtail id d c) xs = All (IsFrom id (month_of d)) xs
AdjustsItsOwn w (command.Payoff id d c) xs = All (IsFrom id (month_of d)) xs
AdjustsItsOwn w (command.Deposit id d c) xs = All (IsFrom id (month_of d)) xs
AdjustsItsOwn w (command.Disburse id d c line) xs = All (IsFrom id (month_of d)) xs
AdjustsItsOwn w (command.Reverse id number) xs =
    IfSome (find_loan id w.loans) (λ l. IfSome (entry_of l.account number) (λ e. All (IsFrom id (month_of e.day)) xs))
AdjustsItsOwn w c xs = xs ≡ []

-- one accepted command more
pub record IsLawfulStep (h : List Accepted) (c : Command) : Type 0 where
  pub grow : ReportsGrow (world h) (after (length h + 1) (world h) c)
  pub adjusted : adjustments_by (length h + 1) (world h) c ≢ [] → CanAdjust c
  pub own : AdjustsItsOwn (world h) c (adjustments_by (length h + 1) (world h) c)
