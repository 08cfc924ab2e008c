-- What accepting a command does to rows and to the custodial line, from the worlds before and after it.
use Rattle.std.proofs.Common.{◌≡◌, ℕ, ◌+◌, ◌≤◌, ◌<◌, List, ◌++◌, map, length, get_or, true, arith, refl, sym, ap, subst, ◌∙◌}
use Rattle.std.specs.Prelude.{◌==◌, if◌then◌else◌, ◌+ℤ◌, ◌-ℤ◌, Option, Some, None, MatchOption}
use Rattle.std.specs.List.{All}
use Rattle.std.proofs.lemmas.Bool.Decides.{nat_tests}
use Rattle.std.proofs.lemmas.Int.{ints}
use Rattle.std.proofs.lemmas.List.{length-map}
use Rattle.std.proofs.lemmas.List.Elements.{All-map}
use Rattle.std.specs.Option.{option_map}
use Rattle.svc_base.specs.Sums.{total_by}
use Rattle.svc_base.proofs.SumLemmas.{total_by-same, total_by-map}
use Rattle.svc_types.specs.declared.account.Act.TheVariants as act
use Rattle.svc_types.specs.declared.terms.Terms.{Terms}
use Rattle.svc_types.specs.declared.requests.Command.{Command}
use Rattle.svc_types.specs.declared.requests.Command.TheVariants as command
use Rattle.svc_types.specs.Requests.{IsCommand}
use Rattle.custodial_book.specs.declared.part.Account.{Account as CashAccount}
use Rattle.custodial_book.specs.declared.part.Account.TheVariants.{T, P}
use Rattle.custodial_book.specs.declared.row.Row.{Row}
use Rattle.custodial_book.specs.declared.row.Totals.{Totals}
use Rattle.custodial_book.specs.Rows.{rows_of, balance_of, balance_with, cash_of, AreTotals, IsBalance}
use Rattle.custodial_book.proofs.CashLemmas.{balance_rows}
use Rattle.svc_world.specs.declared.custody.Custody.{Custody}
use Rattle.svc_world.specs.Held.{Held, find_loan, boarded, with_loan, changed, with_entry, with_reversal, on_day, with_bill, without_bill, with_type}
use Rattle.svc_world.specs.LoanDues.{type_change}
use Rattle.svc_world.specs.World.{World, entry, with_analysis, loans_after, seals_after, after}
use Rattle.svc_world.specs.Worlds.{IsLimited, IsWorld}
use Rattle.svc_world.specs.Refusals.{refusal_of}
use Rattle.svc_world.specs.Custody.{totals_of, rows_made, rows_between, custody_of, borrower_cash, held_for}
use Rattle.svc_world.proofs.LoanListLemmas.{KeepsNumber, all_found, find_changed, find_boarded, numbers_of, changed_numbers, mapped_numbers, length_by}
use Rattle.svc_world.proofs.CashLemmas.{holds, rows_are_cash, boarding_rows_are_cash, held_sum}
use Rattle.svc_world.proofs.RemittedLemmas.{balance_within, totals_within}
use Rattle.svc_world.proofs.LawLemmas.{accounts}
use Rattle.svc_world.proofs.HistoryLemmas.{accepted_keeps}
use Rattle.svc_world.proofs.BoardWorlds.{boarding}
use Rattle.svc_loan.specs.Kept.{KeptLoan}
use Rattle.svc_loan.specs.Loans.{find_kept, OfLoan, held_in}
use Rattle.svc_custody.specs.declared.position.Position.{Position}
use Rattle.svc_world.specs.declared.scope.Scope.TheVariants as scope
use Rattle.svc_custody.specs.Appending.{MayAppend, MayAppendAll, IsCashOf, rows_along}
use Rattle.svc_custody.specs.Cash.{IsKeptIn}
use Rattle.svc_custody.specs.Positions.{CanRead, IsPosition, IsLine, position, position_of, no_position, line_after}
use Rattle.svc_core.specs.Rows.{IsCash}
use Rattle.svc_world.specs.Scope.{scope_of}
use Rattle.svc_rules.proofs.RuleLemmas.{find-held}
use Rattle.svc_custody.proofs.SameLemmas.{SameReports, rows_changed, rows_boarded}
use Rattle.svc_custody.proofs.PositionLemmas.{all_held, position_within}
use Rattle.svc_custody.proofs.LineLemmas.{line_over, custody_is, line_within, line_changed, line_boarded}
use Rattle.svc_custody.proofs.AppendLemmas.{next_after, earlier_before, cash_within, along_is}

-- ---- the loans of a sound world can be read, and the line lies within the limits

pub limited_held : (n : ℕ) (w : World) → IsWorld n w → All (λ (l : Held). IsLimited l.account) w.loans
limited_held n w h = λ k d lt. (h.held k d lt).limited

pub can_read : (n : ℕ) (w : World) (ks : List KeptLoan) → IsWorld n w → w.loans ≡ held_in ks → All (IsKeptIn w) ks → CanRead w ks
can_read n w ks h same kept = record {
  reports = h.reports;
  few = (let few = h.few in let count = ap length same ∙ length-map ks (λ (k : KeptLoan). k.held) in omega (arith, few, count));
  limited = all_held (λ (l : Held). IsLimited l.account) ks (subst (All (λ (l : Held). IsLimited l.account)) same (limited_held n w h));
  kept = kept;
}

pub positions_within : (n : ℕ) (w : World) → IsWorld n w → All (λ (l : Held). IsPosition (position_of w l)) w.loans
positions_within n w h = λ k d lt. position_within w _ (limited_held n w h k d lt) h.reports

pub custody_within : (n : ℕ) (w : World) → IsWorld n w → IsLine (custody_of w)
custody_within n w h = subst IsLine (sym (custody_is w)) (line_within w w.loans h.few (positions_within n w h))

-- ---- a command on one loan

-- one loan is changed, and no report
pub record IsOneChange (id : ℕ) (w v : World) : Type 0 where
  pub change : Held → Held
  pub keeps : KeepsNumber change
  pub loans : v.loans ≡ changed id change w.loans
  pub same : SameReports w v
  pub loan : Held
  pub found : find_loan id w.loans ≡ Some loan

one_by : (id i : ℕ) (w v : World) (f : Held → Held) (l : Held) → scope.One i ≡ scope.One id → KeepsNumber f → v.loans ≡ changed i f w.loans → SameReports w v → find_loan id w.loans ≡ Some l → IsOneChange id w v
one_by id i w v f l is keeps loans same found = record {
  change = f;
  keeps = keeps;
  loans = loans ∙ (let number : i ≡ id = cc in ap (λ j. changed j f w.loans) number);
  same = same;
  loan = l;
  found = found;
}

pub one_changed : (n id : ℕ) (w : World) (c : Command) (l : Held) → scope_of c ≡ scope.One id → find_loan id w.loans ≡ Some l → IsOneChange id w (after n w c)
unfolding after loans_after seals_after
one_changed n id w (command.Day d) l is found = absurd (cc)
one_changed n id w (command.Board i t) l is found = absurd (cc)
one_changed n id w (command.Pay i d c over) l is found = one_by id i w (after n w (command.Pay i d c over)) (with_entry (entry n d (act.Pay c over))) l is (λ k. refl) refl (record { reports = refl; remitted = refl }) found
one_changed n id w (command.Curtail i d c) l is found = one_by id i w (after n w (command.Curtail i d c)) (with_entry (entry n d (act.Curtail c))) l is (λ k. refl) refl (record { reports = refl; remitted = refl }) found
one_changed n id w (command.Payoff i d c) l is found = one_by id i w (after n w (command.Payoff i d c)) (with_entry (entry n d (act.Payoff c))) l is (λ k. refl) refl (record { reports = refl; remitted = refl }) found
one_changed n id w (command.Deposit i d c) l is found = one_by id i w (after n w (command.Deposit i d c)) (with_entry (entry n d (act.Deposit c))) l is (λ k. refl) refl (record { reports = refl; remitted = refl }) found
one_changed n id w (command.Disburse i d c line) l is found = one_by id i w (after n w (command.Disburse i d c line)) (with_entry (entry n d (act.Disburse c line))) l is (λ k. refl) refl (record { reports = refl; remitted = refl }) found
one_changed n id w (command.Refund i c) l is found = one_by id i w (after n w (command.Refund i c)) (with_entry (entry n w.today (act.Refund c))) l is (λ k. refl) refl (record { reports = refl; remitted = refl }) found
one_changed n id w (command.Waive i c) l is found = one_by id i w (after n w (command.Waive i c)) (with_entry (entry n w.today (act.Waive c))) l is (λ k. refl) refl (record { reports = refl; remitted = refl }) found
one_changed n id w (command.Reverse i number) l is found = one_by id i w (after n w (command.Reverse i number)) (with_reversal number n) l is (λ k. refl) refl (record { reports = refl; remitted = refl }) found
one_changed n id w (command.Line i line kind month every c) l is found = one_by id i w (after n w (command.Line i line kind month every c)) (with_bill (record { id = line; kind = kind; month = month; every = every; cents = c })) l is (λ k. refl) refl (record { reports = refl; remitted = refl }) found
one_changed n id w (command.Drop i line) l is found = one_by id i w (after n w (command.Drop i line)) (without_bill line) l is (λ k. refl) refl (record { reports = refl; remitted = refl }) found
one_changed n id w (command.Analyse i plan) l is found = one_by id i w (after n w (command.Analyse i plan)) (with_analysis n w.today plan) l is (λ k. refl) refl (record { reports = refl; remitted = refl }) found
one_changed n id w (command.Close p) l is found = absurd (cc)
one_changed n id w (command.Remit p) l is found = absurd (cc)
one_changed n id w (command.Retype i from kind) l is found = one_by id i w (after n w (command.Retype i from kind)) (with_type (type_change from kind)) l is (λ k. refl) refl (record { reports = refl; remitted = refl }) found

-- the loan before and after it
one_before : (id : ℕ) (w v : World) (h : IsOneChange id w v) → position w (find_loan id w.loans) ≡ position_of w h.loan
one_before id w v h = ap (position w) h.found

pub one_later : (id : ℕ) (w v : World) (h : IsOneChange id w v) → position v (find_loan id v.loans) ≡ position_of v (h.change h.loan)
one_later id w v h = ap (λ ls. position v (find_loan id ls)) h.loans ∙ ap (position v) (find_changed id h.change w.loans h.loan h.found h.keeps)

pub one_rows : (n id : ℕ) (w v : World) → IsWorld n w → IsOneChange id w v → rows_made (n + 1) w v ≡ rows_of (n + 1) id (position w (find_loan id w.loans)).totals (position v (find_loan id v.loans)).totals
one_rows n id w v is h =
    ap (rows_between (n + 1) w v) h.loans
    ∙ rows_changed (n + 1) id w v h.change w.loans h.loan h.same h.keeps (all_found w.loans is.rising) h.found
    ∙ ap (λ (x : _). rows_of (n + 1) id x.totals (totals_of v (h.change h.loan))) (sym (one_before id w v h))
    ∙ ap (λ (x : _). rows_of (n + 1) id (position w (find_loan id w.loans)).totals x.totals) (sym (one_later id w v h))

pub one_line : (id : ℕ) (w v : World) → IsOneChange id w v → custody_of v ≡ line_after (custody_of w) (position w (find_loan id w.loans)) (position v (find_loan id v.loans))
one_line id w v h =
    custody_is v
    ∙ ap (line_over v) h.loans
    ∙ line_changed id w v h.change w.loans h.loan h.same h.found
    ∙ ap (λ (x : Custody). line_after x (position_of w h.loan) (position_of v (h.change h.loan))) (sym (custody_is w))
    ∙ ap (λ x. line_after (custody_of w) x (position_of v (h.change h.loan))) (sym (one_before id w v h))
    ∙ ap (line_after (custody_of w) (position w (find_loan id w.loans))) (sym (one_later id w v h))

-- ---- what adding the rows of one loan asks

-- the balances before a command are what the accounts hold
balances : (account : CashAccount) (n : ℕ) (w : World) (rows : List Row) (custody : Custody) (positions : List Position) → IsCash n w rows custody positions → balance_of account rows ≡ total_by (holds account w) w.loans
balances T n w rows custody positions h = h.t ∙ sym (total_by-same (holds T w) borrower_cash w.loans (λ k d lt. refl))
balances P n w rows custody positions h = h.p ∙ sym (total_by-same (holds P w) (held_for w) w.loans (λ k d lt. refl))

earlier : (n : ℕ) (rows : List Row) → All (λ (r : Row). r.number ≤ n) rows → All (λ (r : Row). r.number < n + 1) rows
earlier n rows h = λ k d lt. (let le : (get_or rows k d).number ≤ n = h k d lt in omega arith)

-- what the rows of a command bring into an account
Brings : CashAccount → ℕ → World → World → List Row → Type 0
Brings account n w v rows = balance_of account (rows ++ rows_made (n + 1) w v) ≡ balance_of account rows +ℤ (total_by (holds account v) v.loans -ℤ total_by (holds account w) w.loans)

balance_after : (account : CashAccount) (n id : ℕ) (w v : World) (rows : List Row) (custody : Custody) (positions : List Position) (x y : Totals) → IsWorld (n + 1) v → IsCash n w rows custody positions → rows_made (n + 1) w v ≡ rows_of (n + 1) id x y → Brings account n w v rows → IsBalance (balance_with account rows x y)
unfolding Brings
balance_after account n id w v rows custody positions x y later cash made brings =
    let whole = balances account n w rows custody positions cash in
    let by_rows = balance_rows account rows (n + 1) id x y in
    let same = ap (λ rs. balance_of account (rows ++ rs)) made in
    let is : total_by (holds account v) v.loans ≡ balance_with account rows x y = omega (arith, ints, whole, by_rows, same, brings) in
    subst IsBalance is (balance_within account v (limited_held (n + 1) v later) later.reports later.few)

may_by : (n id : ℕ) (w v : World) (rows : List Row) (custody : Custody) (positions : List Position) (x y : Totals) → IsWorld (n + 1) v → IsCash n w rows custody positions → rows_made (n + 1) w v ≡ rows_of (n + 1) id x y → ((account : CashAccount) → Brings account n w v rows) → AreTotals x → AreTotals y → MayAppend (n + 1) id rows x y
may_by n id w v rows custody positions x y later cash made brings old new = record {
  next = next_after (n + 1) id rows (earlier_before (n + 1) id rows (earlier n rows cash.numbers));
  old = old;
  new = new;
  t = balance_after T n id w v rows custody positions x y later cash made (brings T);
  p = balance_after P n id w v rows custody positions x y later cash made (brings P);
}

-- rows and line of a command on one loan, from its positions before and after it
pub record IsAdded (n id : ℕ) (w v : World) (rows : List Row) (x y : Position) : Type 0 where
  pub may : MayAppend (n + 1) id rows x.totals y.totals
  pub made : rows_of (n + 1) id x.totals y.totals ≡ rows_made (n + 1) w v
  pub line : line_after (custody_of w) x y ≡ custody_of v

one_added : (n id : ℕ) (w v : World) (rows : List Row) (custody : Custody) (positions : List Position) (x y : Position) → IsWorld n w → IsWorld (n + 1) v → IsCash n w rows custody positions → IsOneChange id w v → x ≡ position w (find_loan id w.loans) → y ≡ position v (find_loan id v.loans) → IsPosition x → IsPosition y → IsAdded n id w v rows x y
unfolding Brings
one_added n id w v rows custody positions x y is later cash h xe ye xw yw =
    let made : rows_made (n + 1) w v ≡ rows_of (n + 1) id x.totals y.totals =
    one_rows n id w v is h
    ∙ ap (λ (z : Position). rows_of (n + 1) id z.totals (position v (find_loan id v.loans)).totals) (sym xe)
    ∙ ap (λ (z : Position). rows_of (n + 1) id x.totals z.totals) (sym ye) in
    let numbers : numbers_of v.loans ≡ numbers_of w.loans = ap numbers_of h.loans ∙ changed_numbers id h.change w.loans h.keeps in
    record {
      may = may_by n id w v rows custody positions x.totals y.totals later cash made (λ account. rows_are_cash account (n + 1) w v rows is.rising numbers (accounts n w is) (accounts (n + 1) v later)) xw.totals yw.totals;
      made = sym made;
      line = sym (one_line id w v h ∙ ap (λ z. line_after (custody_of w) z (position v (find_loan id v.loans))) (sym xe) ∙ ap (line_after (custody_of w) x) (sym ye));
    }

-- the loan is there
there : (P' : KeptLoan → Type 0) (id : ℕ) (ks : List KeptLoan) → OfLoan id ks P' → (l : Held) × (find_loan id (held_in ks) ≡ Some l)
there P' id ks h = by (find_kept id ks) refl h
  where
    by : (o : Option KeptLoan) → find_kept id ks ≡ o → MatchOption o ⊥ P' → (l : Held) × (find_loan id (held_in ks) ≡ Some l)
    by None e h = absurd h
    by (Some k) e h = (k.held, find-held ks id ∙ ap (option_map (λ (j : KeptLoan). j.held)) e)

pub accepted_one : (n id : ℕ) (w v : World) (c : Command) (ks : List KeptLoan) (P' : KeptLoan → Type 0) (rows : List Row) (custody : Custody) (positions : List Position) (x y : Position) → IsWorld n w → IsCommand c → refusal_of n w c ≡ None → scope_of c ≡ scope.One id → w.loans ≡ held_in ks → OfLoan id ks P' → v ≡ after (n + 1) w c → IsCash n w rows custody positions → x ≡ position w (find_loan id w.loans) → y ≡ position v (find_loan id v.loans) → IsPosition x → IsPosition y → IsAdded n id w v rows x y
accepted_one n id w v c ks P' rows custody positions x y is formed fresh one loans ready made cash xe ye xw yw =
    let l = there P' id ks ready in
    let found : find_loan id w.loans ≡ Some l.0 = ap (find_loan id) loans ∙ l.1 in
    let change = subst (IsOneChange id w) (sym made) (one_changed (n + 1) id w c l.0 one found) in
    let later = subst (IsWorld (n + 1)) (sym made) (accepted_keeps n w c is formed fresh) in
    one_added n id w v rows custody positions x y is later cash change xe ye xw yw

pub later_world : (n : ℕ) (w v : World) (c : Command) → IsWorld n w → IsCommand c → refusal_of n w c ≡ None → v ≡ after (n + 1) w c → IsWorld (n + 1) v
later_world n w v c is formed fresh made = subst (IsWorld (n + 1)) (sym made) (accepted_keeps n w c is formed fresh)

-- ---- a loan that is taken on

-- what taking a loan on does, where it may
pub record IsTakenOn (n : ℕ) (l : Held) (w v : World) : Type 0 where
  pub loans : v.loans ≡ with_loan l w.loans
  pub new : find_loan l.id w.loans ≡ None
  pub same : SameReports w v

pub taken_on : (n id : ℕ) (w : World) (t : Terms) → refusal_of n w (command.Board id t) ≡ None → IsTakenOn n (boarded id t w.today) w (after (n + 1) w (command.Board id t))
unfolding after loans_after seals_after
taken_on n id w t fresh = record { loans = refl; new = (boarding n id t w fresh).new; same = record { reports = refl; remitted = refl } }

pub new_later : (n : ℕ) (l : Held) (w v : World) (h : IsTakenOn n l w v) → position v (find_loan l.id v.loans) ≡ position_of v l
new_later n l w v h =
    ap (λ ls. position v (find_loan l.id ls)) h.loans
    ∙ ap (position v) (find_boarded l.id l w.loans h.new)
    ∙ (let is : (l.id == l.id) ≡ true = grind (arith, nat_tests) in ap (λ b. position v (if b then Some l else find_loan l.id w.loans)) is)

new_added : (n : ℕ) (w v : World) (l : Held) (rows : List Row) (custody : Custody) (positions : List Position) (x y : Position) → IsWorld n w → IsWorld (n + 1) v → IsCash n w rows custody positions → IsTakenOn n l w v → x ≡ no_position → y ≡ position v (find_loan l.id v.loans) → IsPosition x → IsPosition y → IsAdded n l.id w v rows x y
unfolding Brings
new_added n w v l rows custody positions x y is later cash h xe ye xw yw =
    let made : rows_made (n + 1) w v ≡ rows_of (n + 1) l.id x.totals y.totals =
    ap (rows_between (n + 1) w v) h.loans
    ∙ rows_boarded (n + 1) w v l w.loans h.same (all_found w.loans is.rising) h.new
    ∙ ap (λ (z : Position). rows_of (n + 1) l.id z.totals (position_of v l).totals) (sym xe)
    ∙ ap (λ (z : Position). rows_of (n + 1) l.id x.totals z.totals) (sym (ye ∙ new_later n l w v h)) in
    record {
      may = may_by n l.id w v rows custody positions x.totals y.totals later cash made (λ account. boarding_rows_are_cash account (n + 1) w v rows l is.rising h.loans h.new (accounts n w is) (accounts (n + 1) v later)) xw.totals yw.totals;
      made = sym made;
      line = sym (
          custody_is v
          ∙ ap (line_over v) h.loans
          ∙ line_boarded w v l w.loans h.same
          ∙ ap (λ (z : Custody). line_after z no_position (position_of v l)) (sym (custody_is w))
          ∙ ap (λ z. line_after (custody_of w) z (position_of v l)) (sym xe)
          ∙ ap (line_after (custody_of w) x) (sym (ye ∙ new_later n l w v h))
          );
    }

pub accepted_new : (n id : ℕ) (w v : World) (t : Terms) (rows : List Row) (custody : Custody) (positions : List Position) (x y : Position) → IsWorld n w → IsCommand (command.Board id t) → refusal_of n w (command.Board id t) ≡ None → v ≡ after (n + 1) w (command.Board id t) → IsCash n w rows custody positions → x ≡ no_position → y ≡ position v (find_loan id v.loans) → IsPosition x → IsPosition y → IsAdded n id w v rows x y
accepted_new n id w v t rows custody positions x y is formed fresh made cash xe ye xw yw =
    let later = later_world n w v (command.Board id t) is formed fresh made in
    let new = subst (IsTakenOn n (boarded id t w.today) w) (sym made) (taken_on n id w t fresh) in
    new_added n w v (boarded id t w.today) rows custody positions x y is later cash new xe ye xw yw

-- ---- a command on all loans

pub every_numbers : (n : ℕ) (w : World) (c : Command) → scope_of c ≡ scope.Every → numbers_of (after n w c).loans ≡ numbers_of w.loans
unfolding after loans_after
every_numbers n w (command.Day d) is = mapped_numbers (on_day d) w.loans (λ k. refl)
every_numbers n w (command.Board i t) is = absurd (cc)
every_numbers n w (command.Pay i d c over) is = absurd (cc)
every_numbers n w (command.Curtail i d c) is = absurd (cc)
every_numbers n w (command.Payoff i d c) is = absurd (cc)
every_numbers n w (command.Deposit i d c) is = absurd (cc)
every_numbers n w (command.Disburse i d c line) is = absurd (cc)
every_numbers n w (command.Refund i c) is = absurd (cc)
every_numbers n w (command.Waive i c) is = absurd (cc)
every_numbers n w (command.Reverse i number) is = absurd (cc)
every_numbers n w (command.Line i line kind month every c) is = absurd (cc)
every_numbers n w (command.Drop i line) is = absurd (cc)
every_numbers n w (command.Analyse i plan) is = absurd (cc)
every_numbers n w (command.Close p) is = refl
every_numbers n w (command.Remit p) is = refl
every_numbers n w (command.Retype i from kind) is = absurd (cc)

-- the cash of the totals before it is what the accounts held
totals_cash : (account : CashAccount) (n : ℕ) (w : World) → IsWorld n w → total_by (cash_of account) (map (totals_of w) w.loans) ≡ total_by (holds account w) w.loans
totals_cash account n w is = total_by-map (cash_of account) (totals_of w) w.loans ∙ held_sum account w w.loans (accounts n w is)

may_append_all : (n : ℕ) (w v : World) (rows : List Row) (custody : Custody) (positions : List Position) → IsWorld n w → IsWorld (n + 1) v → IsCash n w rows custody positions → numbers_of v.loans ≡ numbers_of w.loans → MayAppendAll (n + 1) v (map (totals_of w) w.loans) rows
may_append_all n w v rows custody positions is later cash numbers = record {
  count = length-map w.loans (totals_of w) ∙ sym (length_by v.loans w.loans numbers);
  rising = later.rising;
  earlier = earlier n rows cash.numbers;
  each = All-map AreTotals (totals_of w) w.loans (λ k d lt. totals_within w _ (limited_held n w is k d lt) is.reports);
  cash = λ account. All-map (IsCashOf account) (totals_of w) w.loans (λ k d lt. cash_within account w _ (limited_held n w is k d lt) is.reports);
  balances = λ account. balances account n w rows custody positions cash ∙ sym (totals_cash account n w is);
}

-- what adding the rows of a command on all loans asks, and what it leaves
pub record AreAdded (n : ℕ) (w v : World) (rows : List Row) (xs : List Totals) : Type 0 where
  pub later : IsWorld (n + 1) v
  pub may : MayAppendAll (n + 1) v xs rows
  pub made : rows_along (n + 1) v xs v.loans ≡ rows_made (n + 1) w v
  pub count : length v.loans ≡ length w.loans

pub accepted_all : (n : ℕ) (w v : World) (c : Command) (rows : List Row) (custody : Custody) (positions : List Position) (xs : List Totals) → IsWorld n w → IsCommand c → refusal_of n w c ≡ None → scope_of c ≡ scope.Every → v ≡ after (n + 1) w c → IsCash n w rows custody positions → xs ≡ map (totals_of w) w.loans → AreAdded n w v rows xs
accepted_all n w v c rows custody positions xs is formed fresh every made cash totals =
    let later = later_world n w v c is formed fresh made in
    let numbers : numbers_of v.loans ≡ numbers_of w.loans = ap (λ (x : World). numbers_of x.loans) made ∙ every_numbers (n + 1) w c every in
    record {
      later = later;
      may = subst (λ ts. MayAppendAll (n + 1) v ts rows) (sym totals) (may_append_all n w v rows custody positions is later cash numbers);
      made = ap (λ ts. rows_along (n + 1) v ts v.loans) totals ∙ along_is (n + 1) w v w.loans v.loans numbers (all_found w.loans is.rising);
      count = length_by v.loans w.loans numbers;
    }
