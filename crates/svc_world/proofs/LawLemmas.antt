-- The laws of the books after every history: cash is what is held, reports only grow, and few commands have
-- adjustments.
use Rattle.std.proofs.Common.{◌≡◌, ℕ, ◌+◌, List, [], ◌∷◌, ◌++◌, length, arith, refl, sym, ap, ◌∙◌, append-nil, append_assoc, inl, inr}
use Rattle.std.specs.Prelude.{◌≢◌, ◌⊎◌, None, pos, ◌+ℤ◌, ◌-ℤ◌}
use Rattle.std.specs.List.{All}
use Rattle.std.proofs.lemmas.Int.{ints}
use Rattle.svc_base.specs.Sums.{total_by}
use Rattle.svc_base.proofs.SumLemmas.{total_by-same}
use Rattle.svc_types.specs.declared.account.Act.TheVariants as act
use Rattle.svc_types.specs.declared.requests.Command.{Command}
use Rattle.svc_types.specs.declared.requests.Command.TheVariants as command
use Rattle.svc_spec.specs.Accounts.{IsAccount}
use Rattle.svc_spec.proofs.TotalLemmas.{account_total}
use Rattle.custodial_book.specs.declared.row.Row.{Row}
use Rattle.custodial_book.specs.declared.part.Account.{Account as CashAccount}
use Rattle.custodial_book.specs.declared.part.Account.TheVariants.{T, P}
use Rattle.custodial_book.specs.Rows.{balance_of}
use Rattle.period_adjust.specs.declared.adjustment.Adjustment.{Adjustment}
use Rattle.period_adjust.specs.Sums.{report_of}
use Rattle.svc_world.specs.Held.{Held, find_loan, boarded, with_loan, with_entry, with_reversal, on_day, with_bill, without_bill, with_type}
use Rattle.svc_world.specs.LoanDues.{type_change}
use Rattle.svc_world.specs.Reports.{lines_of}
use Rattle.svc_world.specs.World.{World, Accepted, first_world, entry, with_analysis, loans_after, seals_after, after, world_from, world}
use Rattle.svc_world.specs.Refusals.{refusal_of, asks_no_more, over_principal, payoff_short, no_such_line}
use Rattle.svc_world.specs.Judging.{Fresh, judged, IsHistory}
use Rattle.svc_world.specs.Worlds.{IsWorld}
use Rattle.svc_world.specs.Custody.{borrower_cash, held_for, rows_made, rows_from, rows_in}
use Rattle.svc_world.specs.Laws.{AreLawful, ReportsGrow, CanAdjust, adjustments_by, AdjustsItsOwn, IsLawfulStep}
use Rattle.svc_world.proofs.LoanListLemmas.{numbers_of, changed_numbers, mapped_numbers}
use Rattle.svc_world.proofs.CashLemmas.{is_held_back, holds, rows_are_cash, boarding_rows_are_cash}
use Rattle.svc_world.proofs.QuietWorlds.{quiet_none}
use Rattle.svc_world.proofs.EntryWorlds.{entered_sum, dated_own, present_quiet, refund_enters, waive_enters}
use Rattle.svc_world.proofs.LoanWorlds.{reverse_own, line_quiet, drop_quiet, retype_quiet}
use Rattle.svc_world.proofs.AnalysedWorlds.{analyse_quiet}
use Rattle.svc_world.proofs.DayWorlds.{day_none, kept_none}
use Rattle.svc_world.proofs.BoardWorlds.{boarding, board_none}
use Rattle.svc_world.proofs.HistoryLemmas.{accepted_keeps, first_is_world, AreAccepted, history_accepted, is_world, fresh_none}

-- ---- the rows of a history

pub accounts : (n : ℕ) (w : World) → IsWorld n w → All (λ (l : Held). IsAccount l.account) w.loans
accounts n w h = λ k d lt. (h.held k d lt).limited.account

-- what the rows of a command bring into an account is what it holds more than before
pub IsMoved : CashAccount → ℕ → World → Command → List Row → Type 0
IsMoved account n w c rows =
    balance_of account (rows ++ rows_made (n + 1) w (after (n + 1) w c))
    ≡ balance_of account rows +ℤ (total_by (holds account (after (n + 1) w c)) (after (n + 1) w c).loans -ℤ total_by (holds account w) w.loans)

pub cash_kept : (account : CashAccount) (n : ℕ) (w : World) (c : Command) (rows : List Row) → IsWorld n w → IsWorld (n + 1) (after (n + 1) w c) → numbers_of (after (n + 1) w c).loans ≡ numbers_of w.loans → IsMoved account n w c rows
unfolding IsMoved
cash_kept account n w c rows h later same = rows_are_cash account (n + 1) w (after (n + 1) w c) rows h.rising same (accounts n w h) (accounts (n + 1) (after (n + 1) w c) later)

pub cash_boarded : (account : CashAccount) (n : ℕ) (w : World) (c : Command) (rows : List Row) (l : Held) → IsWorld n w → IsWorld (n + 1) (after (n + 1) w c) → (after (n + 1) w c).loans ≡ with_loan l w.loans → find_loan l.id w.loans ≡ None → IsMoved account n w c rows
unfolding IsMoved
cash_boarded account n w c rows l h later more new = boarding_rows_are_cash account (n + 1) w (after (n + 1) w c) rows l h.rising more new (accounts n w h) (accounts (n + 1) (after (n + 1) w c) later)

-- a loan that a command takes on
pub record IsTakenOn (n : ℕ) (w : World) (c : Command) : Type 0 where
  pub loan : Held
  pub more : (after (n + 1) w c).loans ≡ with_loan loan w.loans
  pub new : find_loan loan.id w.loans ≡ None

-- a command leaves the loans' numbers, or takes one on
abbrev pub KeepsLoans : ℕ → World → Command → Type 0
KeepsLoans n w c = (numbers_of (after (n + 1) w c).loans ≡ numbers_of w.loans) ⊎ IsTakenOn n w c

pub loans_stay : (n : ℕ) (w : World) (c : Command) → refusal_of n w c ≡ None → KeepsLoans n w c
unfolding after loans_after
loans_stay n w (command.Day d) e = inl (mapped_numbers (on_day d) w.loans (λ k. refl))
loans_stay n w (command.Board id t) e = inr (record { loan = boarded id t w.today; more = refl; new = (boarding n id t w e).new })
loans_stay n w (command.Pay id d c over) e = inl (changed_numbers id (with_entry (entry (n + 1) d (act.Pay c over))) w.loans (λ k. refl))
loans_stay n w (command.Curtail id d c) e = inl (changed_numbers id (with_entry (entry (n + 1) d (act.Curtail c))) w.loans (λ k. refl))
loans_stay n w (command.Payoff id d c) e = inl (changed_numbers id (with_entry (entry (n + 1) d (act.Payoff c))) w.loans (λ k. refl))
loans_stay n w (command.Deposit id d c) e = inl (changed_numbers id (with_entry (entry (n + 1) d (act.Deposit c))) w.loans (λ k. refl))
loans_stay n w (command.Disburse id d c line) e = inl (changed_numbers id (with_entry (entry (n + 1) d (act.Disburse c line))) w.loans (λ k. refl))
loans_stay n w (command.Refund id c) e = inl (changed_numbers id (with_entry (entry (n + 1) w.today (act.Refund c))) w.loans (λ k. refl))
loans_stay n w (command.Waive id c) e = inl (changed_numbers id (with_entry (entry (n + 1) w.today (act.Waive c))) w.loans (λ k. refl))
loans_stay n w (command.Reverse id number) e = inl (changed_numbers id (with_reversal number (n + 1)) w.loans (λ k. refl))
loans_stay n w (command.Line id line kind month every c) e = inl (changed_numbers id (with_bill (record { id = line; kind = kind; month = month; every = every; cents = c })) w.loans (λ k. refl))
loans_stay n w (command.Drop id line) e = inl (changed_numbers id (without_bill line) w.loans (λ k. refl))
loans_stay n w (command.Analyse id plan) e = inl (changed_numbers id (with_analysis (n + 1) w.today plan) w.loans (λ k. refl))
loans_stay n w (command.Close p) e = inl refl
loans_stay n w (command.Remit p) e = inl refl
loans_stay n w (command.Retype id from kind) e = inl (changed_numbers id (with_type (type_change from kind)) w.loans (λ k. refl))

pub cash_moved : (account : CashAccount) (n : ℕ) (w : World) (c : Command) (rows : List Row) → IsWorld n w → IsWorld (n + 1) (after (n + 1) w c) → refusal_of n w c ≡ None → IsMoved account n w c rows
cash_moved account n w c rows h later e =
    elim (loans_stay n w c e) as (λ _. IsMoved account n w c rows) [
      | inl same ↦ cash_kept account n w c rows h later same
      | inr on ↦ cash_boarded account n w c rows on.loan h later on.more on.new
    ]

pub cash_from : (account : CashAccount) (n : ℕ) (w : World) (rows : List Row) (h : List Accepted) → IsWorld n w → AreAccepted n w h → balance_of account (rows ++ rows_from n w h) ≡ balance_of account rows +ℤ (total_by (holds account (world_from n w h)) (world_from n w h).loans -ℤ total_by (holds account w) w.loans)
unfolding rows_from world_from IsMoved
cash_from account n w rows [] is all =
    let same = ap (balance_of account) (append-nil rows) in
    omega (arith, ints, same)
cash_from account n w rows (a ∷ more) is all =
    let next = after (n + 1) w a.command in
    let later = accepted_keeps n w a.command is all.0.0 all.0.1 in
    let made = rows_made (n + 1) w next in
    let split = ap (balance_of account) (sym (append_assoc rows made (rows_from (n + 1) next more))) in
    let rest = cash_from account (n + 1) next (rows ++ made) more later all.1 in
    let one = cash_moved account n w a.command rows is later all.0.1 in
    omega (arith, ints, split, rest, one)

pub no_balance : (account : CashAccount) → balance_of account [] ≡ pos 0
unfolding balance_of
no_balance T = refl
no_balance P = refl

-- the balance of an account is what it holds for all loans
pub balance_held : (account : CashAccount) (h : List Accepted) → IsHistory h → balance_of account (rows_in h) ≡ total_by (holds account (world h)) (world h).loans
balance_held account h is =
    let moved = cash_from account 0 first_world [] h first_is_world (history_accepted h is) in
    let none = no_balance account in
    omega (arith, ints, moved, none)

pub are_lawful : (h : List Accepted) → IsHistory h → AreLawful h
are_lawful h is =
    let w = is_world h is in
    record {
      add_up = w.add_up;
      conserved = λ k d lt. account_total _ (w.held k d lt).limited.account;
      held_back = λ k d lt. is_held_back (world h) _;
      t = balance_held T h is ∙ total_by-same (holds T (world h)) borrower_cash (world h).loans (λ k d lt. refl);
      p = balance_held P h is ∙ total_by-same (holds P (world h)) (held_for (world h)) (world h).loans (λ k d lt. refl);
    }

-- ---- one command more

-- a command that closes a month, and the report that it seals
pub record IsSealing (n : ℕ) (w : World) (c : Command) : Type 0 where
  pub month : ℕ
  pub asked : c ≡ command.Close month
  pub grown : (after n w c).seals.reports ≡ w.seals.reports ++ report_of month (lines_of w.seals.pending month w.loans) w.seals.pending ∷ []

-- any other command leaves the reports
pub reports_after : (n : ℕ) (w : World) (c : Command) → ((after n w c).seals.reports ≡ w.seals.reports) ⊎ IsSealing n w c
unfolding after loans_after seals_after
reports_after n w (command.Close p) = inr (record { month = p; asked = refl; grown = refl })
reports_after n w (command.Day d) = inl refl
reports_after n w (command.Board id t) = inl refl
reports_after n w (command.Pay id d c over) = inl refl
reports_after n w (command.Curtail id d c) = inl refl
reports_after n w (command.Payoff id d c) = inl refl
reports_after n w (command.Deposit id d c) = inl refl
reports_after n w (command.Disburse id d c line) = inl refl
reports_after n w (command.Refund id c) = inl refl
reports_after n w (command.Waive id c) = inl refl
reports_after n w (command.Reverse id number) = inl refl
reports_after n w (command.Line id line kind month every c) = inl refl
reports_after n w (command.Drop id line) = inl refl
reports_after n w (command.Analyse id plan) = inl refl
reports_after n w (command.Remit p) = inl refl
reports_after n w (command.Retype id from kind) = inl refl

pub grows : (n : ℕ) (w : World) (c : Command) → ReportsGrow w (after n w c)
grows n w c =
    elim (reports_after n w c) as (λ _. ReportsGrow w (after n w c)) [
      | inl same ↦ record { more = []; grown = same ∙ sym (append-nil w.seals.reports) }
      | inr it ↦ record { more = report_of it.month (lines_of w.seals.pending it.month w.loans) w.seals.pending ∷ []; grown = it.grown }
    ]

owns : (n : ℕ) (w : World) (c : Command) → IsWorld n w → refusal_of n w c ≡ None → AdjustsItsOwn w c (adjustments_by (n + 1) w c)
unfolding loans_after
owns n w (command.Day d) h e = day_none n d w h e
owns n w (command.Board id t) h e = board_none n id t w h (boarding n id t w e)
owns n w (command.Pay id d c over) h e = dated_own n id d w c asks_no_more (command.Pay id d c over) (act.Pay c over) refl (entered_sum c) h e
owns n w (command.Curtail id d c) h e = dated_own n id d w c (over_principal d c) (command.Curtail id d c) (act.Curtail c) refl (entered_sum c) h e
owns n w (command.Payoff id d c) h e = dated_own n id d w c (payoff_short d c) (command.Payoff id d c) (act.Payoff c) refl (entered_sum c) h e
owns n w (command.Deposit id d c) h e = dated_own n id d w c asks_no_more (command.Deposit id d c) (act.Deposit c) refl (entered_sum c) h e
owns n w (command.Disburse id d c line) h e = dated_own n id d w c (no_such_line line) (command.Disburse id d c line) (act.Disburse c line) refl (entered_sum c) h e
owns n w (command.Refund id c) h e = quiet_none n id w (with_entry (entry (n + 1) w.today (act.Refund c))) h (present_quiet n id w (act.Refund c) h (refund_enters n id w c h e))
owns n w (command.Waive id c) h e = quiet_none n id w (with_entry (entry (n + 1) w.today (act.Waive c))) h (present_quiet n id w (act.Waive c) h (waive_enters n id w c h e))
owns n w (command.Reverse id number) h e = reverse_own n id number w h e
owns n w (command.Line id line kind month every c) h e = quiet_none n id w (with_bill (record { id = line; kind = kind; month = month; every = every; cents = c })) h (line_quiet n id w (record { id = line; kind = kind; month = month; every = every; cents = c }) h e)
owns n w (command.Drop id line) h e = quiet_none n id w (without_bill line) h (drop_quiet n id line w h e)
owns n w (command.Analyse id plan) h e = quiet_none n id w (with_analysis (n + 1) w.today plan) h (analyse_quiet n id plan w h e)
owns n w (command.Close p) h e = kept_none n w h
owns n w (command.Remit p) h e = kept_none n w h
owns n w (command.Retype id from kind) h e = quiet_none n id w (with_type (type_change from kind)) h (retype_quiet n id from kind w h e)

-- so a command that has any is one that can
can_adjust : (w : World) (c : Command) (xs : List Adjustment) → AdjustsItsOwn w c xs → xs ≢ [] → CanAdjust c
can_adjust w (command.Day d) xs own some = absurd (some own)
can_adjust w (command.Board id t) xs own some = absurd (some own)
can_adjust w (command.Pay id d c over) xs own some = tt
can_adjust w (command.Curtail id d c) xs own some = tt
can_adjust w (command.Payoff id d c) xs own some = tt
can_adjust w (command.Deposit id d c) xs own some = tt
can_adjust w (command.Disburse id d c line) xs own some = tt
can_adjust w (command.Refund id c) xs own some = absurd (some own)
can_adjust w (command.Waive id c) xs own some = absurd (some own)
can_adjust w (command.Reverse id number) xs own some = tt
can_adjust w (command.Line id line kind month every c) xs own some = absurd (some own)
can_adjust w (command.Drop id line) xs own some = absurd (some own)
can_adjust w (command.Analyse id plan) xs own some = absurd (some own)
can_adjust w (command.Close p) xs own some = absurd (some own)
can_adjust w (command.Remit p) xs own some = absurd (some own)
can_adjust w (command.Retype id from kind) xs own some = absurd (some own)

pub is_lawful_step : (h : List Accepted) (key : List ℕ) (c : Command) → IsHistory h → judged h key c ≡ Fresh → IsLawfulStep h c
is_lawful_step h key c is fresh =
    let own = owns (length h) (world h) c (is_world h is) (fresh_none h key c fresh) in
    record {
      grow = grows (length h + 1) (world h) c;
      adjusted = can_adjust (world h) c (adjustments_by (length h + 1) (world h) c) own;
      own = own;
    }
