-- What the statement of a servicer says can be stated, so its text is a statement, and is confirmed.
use Rattle.std.proofs.Common.{◌≡◌, ℕ, ◌+◌, ◌-◌, ◌≤◌, true, false, List, [], ◌∷◌, map, fold, take, drop, length, refl, subst, arith, pos, ◌≤ℤ◌, Some, None, IfSome}
use Rattle.std.specs.Prelude.{if◌then◌else◌, int_lt}
use Rattle.std.specs.List.{All}
use Rattle.std.specs.Option.{option_map}
use Rattle.std.proofs.lemmas.Int.{ints, clamps}
use Rattle.std.proofs.lemmas.List.Elements.{All-cons, All-nil, All-append, All-head, All-tail, All-take, All-drop}
use Rattle.svc_base.specs.Calendar.{month_of, first_day, IsReadDay}
use Rattle.svc_base.specs.Sums.{total_by}
use Rattle.svc_base.proofs.SumLemmas.{total_by-map}
use Rattle.svc_base.proofs.CentsRules.{from_int_lt}
use Rattle.svc_types.specs.declared.terms.Terms.{Terms}
use Rattle.svc_types.specs.declared.books.Books.{Books}
use Rattle.svc_types.specs.declared.books.Installment.{Installment}
use Rattle.svc_types.specs.declared.requests.Command.{Command}
use Rattle.svc_types.specs.declared.requests.Command.TheVariants as command
use Rattle.svc_types.specs.Requests.{IsCommand, IsReadNumber}
use Rattle.svc_types.specs.Keys.{IsKey}
use Rattle.svc_types.specs.Terms.{IsSound}
use Rattle.svc_spec.specs.Books.{HaveSigns}
use Rattle.svc_spec.specs.Installments.{open_installment, installment}
use Rattle.svc_spec.proofs.AccountLemmas.{account_books}
use Rattle.advance_book.specs.Positions.{pi_advanced}
use Rattle.custodial_book.specs.declared.part.Account.TheVariants.{T, P}
use Rattle.svc_world.specs.Held.{Held, books_now}
use Rattle.svc_world.specs.World.{World, Accepted, world}
use Rattle.svc_world.specs.Worlds.{IsHeld, IsLimited, AreReports}
use Rattle.svc_world.specs.Custody.{advanced_for, remitted_for, collected, is_settled}
use Rattle.svc_world.specs.Judging.{IsHistory, AreWellFormed}
use Rattle.svc_world.proofs.HistoryLemmas.{is_world}
use Rattle.svc_world.proofs.HoldingLemmas.{account_holdings}
use Rattle.svc_world.proofs.CashLemmas.{holds}
use Rattle.svc_world.proofs.RemittedLemmas.{held_within, balance_within, pi_parts}
use Rattle.svc_world.proofs.LoanListLemmas.{numbers_of}
use Rattle.servicing_transfer.specs.declared.statement_line.StatementLine.{StatementLine}
use Rattle.servicing_transfer.specs.Numbers.{place_for, numbers_after}
use Rattle.servicing_transfer.specs.StatementTexts.{line_for, stated_loans, t_of, p_of, text_of_statement}
use Rattle.servicing_transfer.specs.Stated.{IsStatedLine, IsStatedMonth, AreStated, IsStatement}
use Rattle.servicing_transfer.proofs.NumberLemmas.{loans_are}
use Rattle.servicing_transfer.proofs.CoreLines.{few_loans, lines_rise}
use Rattle.servicing_transfer.proofs.OwnText.{own_lines}

-- ---- the number of a loan is that of a command

after_small : (ns : List ℕ) (c : Command) → All IsReadNumber ns → IsCommand c → All IsReadNumber (numbers_after ns c)
after_small ns (command.Day d) h is = h
after_small ns (command.Board id t) h is =
    All-append IsReadNumber (take (place_for id ns) ns) (id ∷ drop (place_for id ns) ns) (All-take IsReadNumber (place_for id ns) ns h) (All-cons IsReadNumber id (drop (place_for id ns) ns) is.0 (All-drop IsReadNumber (place_for id ns) ns h))
after_small ns (command.Pay id d c over) h is = h
after_small ns (command.Curtail id d c) h is = h
after_small ns (command.Payoff id d c) h is = h
after_small ns (command.Deposit id d c) h is = h
after_small ns (command.Disburse id d c line) h is = h
after_small ns (command.Refund id c) h is = h
after_small ns (command.Waive id c) h is = h
after_small ns (command.Reverse id number) h is = h
after_small ns (command.Line id line kind month every c) h is = h
after_small ns (command.Drop id line) h is = h
after_small ns (command.Analyse id plan) h is = h
after_small ns (command.Close p) h is = h
after_small ns (command.Remit p) h is = h
after_small ns (command.Retype id from kind) h is = h

abbrev step : List ℕ → Accepted → List ℕ
step ns a = numbers_after ns a.command

all_small : (ns : List ℕ) (h : List Accepted) → All IsReadNumber ns → AreWellFormed h → All IsReadNumber (fold step ns h)
all_small ns [] small formed = small
all_small ns (a ∷ h) small formed =
    let own = All-head (λ (b : Accepted). IsKey b.key × IsCommand b.command) a h formed in
    all_small (numbers_after ns a.command) h (after_small ns a.command small own.1) (All-tail (λ (b : Accepted). IsKey b.key × IsCommand b.command) a h formed)

by_number : (ls : List Held) → All IsReadNumber (numbers_of ls) → All (λ (l : Held). IsReadNumber l.id) ls
by_number [] h = All-nil (λ (l : Held). IsReadNumber l.id)
by_number (l ∷ ls) h = All-cons (λ (k : Held). IsReadNumber k.id) l ls (All-head IsReadNumber l.id (numbers_of ls) h) (by_number ls (All-tail IsReadNumber l.id (numbers_of ls) h))

small_ids : (h : List Accepted) → IsHistory h → All (λ (l : Held). IsReadNumber l.id) (world h).loans
small_ids h is = by_number (world h).loans (subst (All IsReadNumber) (loans_are h) (all_small [] h (All-nil IsReadNumber) is.formed))

-- ---- what is stated of a loan

next_month : (t : Terms) (k : ℕ) → IsSound t → IsReadDay t.boarded → 1 ≤ k → k ≤ t.term → IsStatedMonth (month_of (first_day (t.first + (k - 1))))
next_month t k sound day low high =
    let f1 = sound.first_low in let f2 = sound.first_high in let most = sound.term_high in
    let y1 = day.first in let y2 = day.last in
    record { first = omega (arith, f1, y1); last = omega (arith, f2, y2, high, most) }

next_stated : (t : Terms) (b : Books) → IsSound t → IsReadDay t.boarded → HaveSigns t b → IfSome (option_map (λ (i : Installment). month_of i.due) (open_installment t b)) IsStatedMonth
next_stated t b sound day signs =
    elim (int_lt (pos 0) b.upb) as (λ v. int_lt (pos 0) b.upb ≡ v → IfSome (option_map (λ (i : Installment). month_of i.due) (if v then Some (installment t b) else None)) IsStatedMonth) [
      | true ↦ λ e. let open_one = from_int_lt (pos 0) b.upb e in next_month t b.next sound day (signs.next_low open_one) (signs.next_high open_one)
      | false ↦ λ e. tt
    ] refl

advanced_low : (w : World) (l : Held) → pos 0 ≤ℤ advanced_for w l
advanced_low w l =
    elim (is_settled w l) as (λ v. pos 0 ≤ℤ pi_advanced (collected (books_now l)) (remitted_for w l.id) v) [
      | true ↦ omega (arith, ints)
      | false ↦ omega (arith, ints, clamps)
    ]

line_stated : (n : ℕ) (w : World) (l : Held) → IsHeld n w.today l → AreReports w → IsReadNumber l.id → IsStatedLine (line_for w l)
line_stated n w l h reports small =
    let a = h.limited.account in
    let books = account_books l.account l.account.today a in
    let u1 = books.signs.upb_low in let u2 = books.signs.upb_high in let most = a.terms.principal_high in
    let l1 = books.signs.late_owed in let l2 = books.within.late_owed in
    let x = account_holdings l.account h.limited in
    let e1 = x.escrow_low in let e2 = x.escrow_high in
    let s1 = x.suspense.low in let s2 = x.suspense.high in
    let held = held_within P w l h.limited reports in
    let h1 = held.low in let h2 = held.high in
    let advanced = (pi_parts w l h.limited reports).0 in
    let a1 = advanced_low w l in let a2 = advanced.1 in
    record {
      loan = small;
      upb = record { low = u1; high = omega (arith, ints, u2, most) };
      next = next_stated l.account.terms (books_now l) a.terms a.boarded books.signs;
      escrow = record { low = omega (arith, ints, e1); high = omega (arith, ints, e2) };
      suspense = record { low = s1; high = omega (arith, ints, s2) };
      late = record { low = l1; high = omega (arith, ints, l2) };
      escrow_advance = record { low = omega (arith, ints, clamps); high = omega (arith, ints, clamps, e1) };
      held = record { low = h1; high = omega (arith, ints, h2) };
      pi_advance = record { low = a1; high = omega (arith, ints, a2) };
    }

lines_stated : (n : ℕ) (w : World) (ls : List Held) → All (IsHeld n w.today) ls → AreReports w → All (λ (l : Held). IsReadNumber l.id) ls → All IsStatedLine (map (line_for w) ls)
lines_stated n w [] h reports small = All-nil IsStatedLine
lines_stated n w (l ∷ ls) h reports small =
    All-cons IsStatedLine (line_for w l) (map (line_for w) ls)
    (line_stated n w l (All-head (IsHeld n w.today) l ls h) reports (All-head (λ (k : Held). IsReadNumber k.id) l ls small))
    (lines_stated n w ls (All-tail (IsHeld n w.today) l ls h) reports (All-tail (λ (k : Held). IsReadNumber k.id) l ls small))

-- ---- what both accounts hold for all

t_is_held : (w : World) (ls : List Held) → t_of (map (line_for w) ls) ≡ total_by (holds T w) ls
t_is_held w [] = refl
t_is_held w (l ∷ ls) = let rest = t_is_held w ls in omega (arith, ints, rest)

p_is_held : (w : World) (ls : List Held) → p_of (map (line_for w) ls) ≡ total_by (holds P w) ls
p_is_held w ls = total_by-map (λ (s : StatementLine). s.held) (line_for w) ls

-- ---- the statement

pub own_stated : (h : List Accepted) → IsHistory h → AreStated (stated_loans (world h))
own_stated h is =
    let w = is_world h is in
    let few = few_loans h is in
    let limited = limits (world h).loans w.held in
    let t = balance_within T (world h) limited w.reports w.few in
    let p = balance_within P (world h) limited w.reports w.few in
    let t0 = t.0 in let t1 = t.1 in let p0 = p.0 in let p1 = p.1 in
    let t_is = t_is_held (world h) (world h).loans in
    let p_is = p_is_held (world h) (world h).loans in
    record {
      count = omega (arith, few);
      each = lines_stated (length h) (world h) (world h).loans w.held w.reports (small_ids h is);
      rising = lines_rise h is;
      t = record { low = omega (arith, ints, t_is, t0); high = omega (arith, ints, t_is, t1) };
      p = record { low = omega (arith, ints, p_is, p0); high = omega (arith, ints, p_is, p1) };
    }
  where
    limits : (ls : List Held) → All (IsHeld (length h) (world h).today) ls → All (λ (l : Held). IsLimited l.account) ls
    limits ls all k d lt = (all k d lt).limited

-- the text that a servicer's statement writes is a statement
pub own_statement : (h : List Accepted) → IsHistory h → IsStatement (text_of_statement (world h)) (world h).today (stated_loans (world h))
unfolding text_of_statement
own_statement h is = record {
  lines = own_lines (world h).today (stated_loans (world h)) (own_stated h is);
  dated = (is_world h is).today;
  loans = own_stated h is;
}
