-- What the rows of a loan add up to: the totals of the loan after the history.
use Rattle.std.proofs.Common.{◌≡◌, ℕ, ◌+◌, ◌<◌, true, false, cond, List, [], ◌∷◌, ◌++◌, arith, refl, sym, ap, ◌∙◌, get_or}
use Rattle.std.specs.Prelude.{◌==◌, nat_lt, ℤ, pos, ◌+ℤ◌, ◌-ℤ◌, Option, Some, None, if◌then◌else◌}
use Rattle.std.specs.List.{All, AllPairs, filter_map}
use Rattle.std.specs.Option.{option_map_or}
use Rattle.std.specs.Ordering.{int_eq}
use Rattle.std.proofs.lemmas.Int.{ints}
use Rattle.std.proofs.lemmas.List.Elements.{All-head, All-tail}
use Rattle.std.proofs.lemmas.Bool.Decides.{Decides-int_eq, nat_tests}
use Rattle.svc_base.specs.Sums.{total_by}
use Rattle.svc_types.specs.declared.account.Act.TheVariants as act
use Rattle.svc_types.specs.declared.requests.Command.{Command}
use Rattle.svc_types.specs.declared.requests.Command.TheVariants as command
use Rattle.svc_types.proofs.OrderLemmas.{pairs_head, pairs_tail}
use Rattle.custodial_book.specs.declared.part.Account.TheVariants.{P}
use Rattle.custodial_book.specs.declared.part.Part.{Part}
use Rattle.custodial_book.specs.declared.part.Part.TheVariants.{Received, Returned, Refunded, Disbursed, Collected, Fee, Late, PiAdvance, EscrowAdvance, Remitted, Residual}
use Rattle.custodial_book.specs.declared.row.Row.{Row}
use Rattle.custodial_book.specs.declared.row.Totals.{Totals}
use Rattle.custodial_book.specs.Parts.{parts}
use Rattle.custodial_book.specs.Rows.{total_of, row_of, rows_of, cash_of}
use Rattle.svc_world.specs.Held.{Held, find_loan, boarded, with_entry, with_reversal, on_day, with_bill, without_bill, with_type, changed}
use Rattle.svc_world.specs.LoanDues.{type_change}
use Rattle.svc_world.specs.World.{World, Accepted, entry, with_analysis, first_world, loans_after, after, world_from, world}
use Rattle.svc_world.specs.Refusals.{refusal_of}
use Rattle.svc_world.specs.Custody.{totals_of, no_totals, totals_before, rows_between, rows_made, rows_from, rows_in}
use Rattle.svc_world.specs.Judging.{IsHistory}
use Rattle.svc_world.specs.Worlds.{AreWorlds}
use Rattle.svc_world.proofs.BoardWorlds.{boarding}
use Rattle.svc_world.proofs.CashLemmas.{rows_nil, rows_cons}
use Rattle.svc_world.proofs.HistoryLemmas.{AreAccepted, history_accepted, are_worlds}
use Rattle.svc_world.proofs.LoanListLemmas.{rises, KeepsNumber, find_boarded, numbers_of, changed_numbers, mapped_numbers}
use Rattle.servicing_transfer.specs.RowSums.{of_loan, held_by, advanced_by, escrow_by}

-- ---- the rows of one command for one loan

-- what the parts of a total add up to
abbrev by_parts : (Part → ℤ → ℤ) → Totals → Totals → List Part → ℤ
by_parts g before later ps = total_by (λ p. g p (total_of later p -ℤ total_of before p)) ps

-- an amount of a row that is nothing where the row is of no cents
abbrev pub IsNothingAtZero : (Part → ℤ → ℤ) → Type 0
IsNothingAtZero g = (p : Part) → g p (pos 0) ≡ pos 0

own_rows : (g : Part → ℤ → ℤ) (n id : ℕ) (before later : Totals) (ps : List Part) → IsNothingAtZero g → total_by (of_loan id g) (filter_map (row_of n id before later) ps) ≡ by_parts g before later ps
unfolding row_of
own_rows g n id before later [] nothing = refl
own_rows g n id before later (p ∷ ps) nothing =
    let z = total_of later p -ℤ total_of before p in
    let rest = own_rows g n id before later ps nothing in
    let own : (id == id) ≡ true = grind (arith, nat_tests) in
    elim (int_eq z (pos 0)) as (λ v. int_eq z (pos 0) ≡ v → total_by (of_loan id g) (Rattle.std.specs.List.filter_map (row_of n id before later) (p ∷ ps)) ≡ g p z +ℤ by_parts g before later ps) [
      | true ↦ λ e.
          let zero : z ≡ pos 0 = (Decides-int_eq z (pos 0)).0 e in
          ap (λ o. total_by (of_loan id g) (shown o (filter_map (row_of n id before later) ps))) (ap (λ v. if v then None else Some (record { number = n; loan = id; part = p; cents = z })) e)
          ∙ rest ∙ none (by_parts g before later ps) ∙ ap (λ x. x +ℤ by_parts g before later ps) (sym (ap (g p) zero ∙ nothing p))
      | false ↦ λ e.
          ap (λ o. total_by (of_loan id g) (shown o (filter_map (row_of n id before later) ps))) (ap (λ v. if v then None else Some (record { number = n; loan = id; part = p; cents = z })) e)
          ∙ ap (λ v. (if v then g p z else pos 0) +ℤ total_by (of_loan id g) (filter_map (row_of n id before later) ps)) own
          ∙ ap (λ x. g p z +ℤ x) rest
    ] refl
  where
    shown : Option Row → List Row → List Row
    shown None rs = rs
    shown (Some r) rs = r ∷ rs

    none : (z : ℤ) → z ≡ pos 0 +ℤ z
    none z = omega (arith, ints)

other_rows : (g : Part → ℤ → ℤ) (n i id : ℕ) (before later : Totals) (ps : List Part) → (i == id) ≡ false → total_by (of_loan id g) (filter_map (row_of n i before later) ps) ≡ pos 0
unfolding row_of
other_rows g n i id before later [] apart = refl
other_rows g n i id before later (p ∷ ps) apart =
    let z = total_of later p -ℤ total_of before p in
    let rest = other_rows g n i id before later ps apart in
    elim (int_eq z (pos 0)) as (λ v. int_eq z (pos 0) ≡ v → total_by (of_loan id g) (filter_map (row_of n i before later) (p ∷ ps)) ≡ pos 0) [
      | true ↦ λ e. ap (λ o. total_by (of_loan id g) (shown o (filter_map (row_of n i before later) ps))) (ap (λ v. if v then None else Some (record { number = n; loan = i; part = p; cents = z })) e) ∙ rest
      | false ↦ λ e.
          ap (λ o. total_by (of_loan id g) (shown o (filter_map (row_of n i before later) ps))) (ap (λ v. if v then None else Some (record { number = n; loan = i; part = p; cents = z })) e)
          ∙ ap (λ v. (if v then g p z else pos 0) +ℤ total_by (of_loan id g) (filter_map (row_of n i before later) ps)) apart
          ∙ ap (λ x. pos 0 +ℤ x) rest ∙ zeros
    ] refl
  where
    shown : Option Row → List Row → List Row
    shown None rs = rs
    shown (Some r) rs = r ∷ rs

    zeros : pos 0 +ℤ pos 0 ≡ pos 0
    zeros = omega (arith, ints)

-- an amount of rows that is an amount of totals
pub record IsOfTotals (g : Part → ℤ → ℤ) (of : Totals → ℤ) : Type 0 where
  pub nothing : IsNothingAtZero g
  pub parts : (before later : Totals) → by_parts g before later parts ≡ of later -ℤ of before
  pub none : of no_totals ≡ pos 0

pub held_totals : IsOfTotals held_by (cash_of P)
unfolding Rattle.custodial_book.specs.Rows.moved
held_totals = record {
  nothing = λ p. elim p as (λ q. held_by q (pos 0) ≡ pos 0) [ Received ↦ omega (arith, ints) | Returned ↦ omega (arith, ints) | Refunded ↦ omega (arith, ints) | Disbursed ↦ omega (arith, ints) | Collected ↦ omega (arith, ints) | Fee ↦ omega (arith, ints) | Late ↦ omega (arith, ints) | PiAdvance ↦ omega (arith, ints) | EscrowAdvance ↦ omega (arith, ints) | Remitted ↦ omega (arith, ints) | Residual ↦ omega (arith, ints) ];
  parts = λ b a. omega (arith, ints);
  none = omega (arith, ints);
}

pub advanced_totals : IsOfTotals advanced_by (λ (t : Totals). t.pi_advance)
advanced_totals = record {
  nothing = λ p. elim p as (λ q. advanced_by q (pos 0) ≡ pos 0) [ Received ↦ refl | Returned ↦ refl | Refunded ↦ refl | Disbursed ↦ refl | Collected ↦ refl | Fee ↦ refl | Late ↦ refl | PiAdvance ↦ refl | EscrowAdvance ↦ refl | Remitted ↦ refl | Residual ↦ refl ];
  parts = λ b a. omega (arith, ints);
  none = refl;
}

pub escrow_totals : IsOfTotals escrow_by (λ (t : Totals). t.escrow_advance)
escrow_totals = record {
  nothing = λ p. elim p as (λ q. escrow_by q (pos 0) ≡ pos 0) [ Received ↦ refl | Returned ↦ refl | Refunded ↦ refl | Disbursed ↦ refl | Collected ↦ refl | Fee ↦ refl | Late ↦ refl | PiAdvance ↦ refl | EscrowAdvance ↦ refl | Remitted ↦ refl | Residual ↦ refl ];
  parts = λ b a. omega (arith, ints);
  none = refl;
}

-- ---- the rows of one command

sum_append : (f : Row → ℤ) (xs ys : List Row) → total_by f (xs ++ ys) ≡ total_by f xs +ℤ total_by f ys
sum_append f [] ys = omega (arith, ints)
sum_append f (x ∷ xs) ys = let rest = sum_append f xs ys in omega (arith, ints, rest)

-- an amount of a loan's totals, where it is there
abbrev pub found_by : (Totals → ℤ) → World → Option Held → ℤ
found_by of w None = pos 0
found_by of w (Some l) = of (totals_of w l)

before_by : (of : Totals → ℤ) (w : World) (o : Option Held) → of no_totals ≡ pos 0 → of (totals_before w o) ≡ found_by of w o
before_by of w None e = e
before_by of w (Some l) e = refl

-- what changed of a loan that is there
abbrev changed_by : (Totals → ℤ) → World → World → ℕ → Option Held → ℤ
changed_by of before later id None = pos 0
changed_by of before later id (Some l) = of (totals_of later l) -ℤ found_by of before (find_loan id before.loans)

between : (g : Part → ℤ → ℤ) (of : Totals → ℤ) (n id : ℕ) (before later : World) (ls : List Held) → IsOfTotals g of → AllPairs rises ls → total_by (of_loan id g) (rows_between n before later ls) ≡ changed_by of before later id (find_loan id ls)
between g of n id before later [] is rise = ap (total_by (of_loan id g)) (rows_nil n before later)
between g of n id before later (l ∷ ls) is rise =
    let rest = between g of n id before later ls is (pairs_tail rises l ls rise) in
    let mine = rows_of n l.id (totals_before before (find_loan l.id before.loans)) (totals_of later l) in
    ap (total_by (of_loan id g)) (rows_cons n before later l ls) ∙ sum_append (of_loan id g) mine (rows_between n before later ls)
    ∙ elim (l.id == id) as (λ v. (l.id == id) ≡ v → total_by (of_loan id g) mine +ℤ total_by (of_loan id g) (rows_between n before later ls) ≡ changed_by of before later id (cond v (Some l) (find_loan id ls))) [
      | true ↦ λ e.
          let same : l.id ≡ id = grind (arith, nat_tests) in
          let gone : find_loan id ls ≡ None = past ls (λ i d lt. let more : l.id < (get_or ls i d).id = pairs_head rises l ls rise i d lt in omega arith) in
          let others : total_by (of_loan id g) (rows_between n before later ls) ≡ pos 0 = rest ∙ ap (changed_by of before later id) gone in
          let own : total_by (of_loan l.id g) mine ≡ of (totals_of later l) -ℤ of (totals_before before (find_loan l.id before.loans)) = own_rows g n l.id (totals_before before (find_loan l.id before.loans)) (totals_of later l) parts is.nothing ∙ is.parts (totals_before before (find_loan l.id before.loans)) (totals_of later l) in
          let own' : total_by (of_loan id g) mine ≡ total_by (of_loan l.id g) mine = ap (λ i. total_by (of_loan i g) mine) (sym same) in
          let was : of (totals_before before (find_loan l.id before.loans)) ≡ found_by of before (find_loan id before.loans) = before_by of before (find_loan l.id before.loans) is.none ∙ ap (λ i. found_by of before (find_loan i before.loans)) same in
          omega (arith, ints, others, own, own', was)
      | false ↦ λ e.
          let none = other_rows g n l.id id (totals_before before (find_loan l.id before.loans)) (totals_of later l) parts e in
          let sum : total_by (of_loan id g) mine +ℤ total_by (of_loan id g) (rows_between n before later ls) ≡ total_by (of_loan id g) (rows_between n before later ls) = omega (arith, ints, none) in
          sum ∙ rest
    ] refl
  where
    past : (ks : List Held) → All (λ (k : Held). id < k.id) ks → find_loan id ks ≡ None
    past [] h = refl
    past (k ∷ ks) h =
        let lt : id < k.id = All-head (λ (x : Held). id < x.id) k ks h in
        let apart : (k.id == id) ≡ false = grind (arith, nat_tests) in
        ap (λ v. cond v (Some k) (find_loan id ks)) apart ∙ past ks (All-tail (λ (x : Held). id < x.id) k ks h)

-- ---- a loan stays

absent_by : (id : ℕ) (ks ls : List Held) → numbers_of ks ≡ numbers_of ls → find_loan id ks ≡ None → find_loan id ls ≡ None
absent_by id [] [] e none = refl
absent_by id [] (l ∷ ls) e none = absurd (cc)
absent_by id (k ∷ ks) [] e none = absurd (cc)
absent_by id (k ∷ ks) (l ∷ ls) e none =
    let one : k.id ≡ l.id = cc in
    let rest : numbers_of ks ≡ numbers_of ls = cc in
    elim (k.id == id) as (λ v. (k.id == id) ≡ v → cond v (Some k) (find_loan id ks) ≡ None → find_loan id (l ∷ ls) ≡ None) [
      | true ↦ λ is x. absurd (cc)
      | false ↦ λ is x. ap (λ v. cond v (Some l) (find_loan id ls)) (ap (λ i. i == id) (sym one) ∙ is) ∙ absent_by id ks ls rest x
    ] refl none

changed_absent : (id i : ℕ) (f : Held → Held) (ls : List Held) → KeepsNumber f → find_loan id (changed i f ls) ≡ None → find_loan id ls ≡ None
changed_absent id i f ls keeps none = absent_by id (changed i f ls) ls (changed_numbers i f ls keeps) none

-- where a loan is not there after a command, it was not there before
absent_before : (n today id : ℕ) (w : World) (c : Command) → refusal_of n w c ≡ None → find_loan id (loans_after (n + 1) today w.loans c) ≡ None → find_loan id w.loans ≡ None
unfolding loans_after
absent_before n today id w (command.Day d) ok none = absent_by id (Rattle.std.specs.Prelude.map (on_day d) w.loans) w.loans (mapped_numbers (on_day d) w.loans (λ k. refl)) none
absent_before n today id w (command.Board i t) ok none =
    let b = boarding n i t w ok in
    let found = find_boarded id (boarded i t today) w.loans b.new in
    elim (i == id) as (λ v. (if v then Some (boarded i t today) else find_loan id w.loans) ≡ None → find_loan id w.loans ≡ None) [
      | true ↦ λ x. absurd (cc)
      | false ↦ λ x. x
    ] (sym found ∙ none)
absent_before n today id w (command.Pay i d c over) ok none = changed_absent id i (with_entry (entry (n + 1) d (act.Pay c over))) w.loans (λ k. refl) none
absent_before n today id w (command.Curtail i d c) ok none = changed_absent id i (with_entry (entry (n + 1) d (act.Curtail c))) w.loans (λ k. refl) none
absent_before n today id w (command.Payoff i d c) ok none = changed_absent id i (with_entry (entry (n + 1) d (act.Payoff c))) w.loans (λ k. refl) none
absent_before n today id w (command.Deposit i d c) ok none = changed_absent id i (with_entry (entry (n + 1) d (act.Deposit c))) w.loans (λ k. refl) none
absent_before n today id w (command.Disburse i d c line) ok none = changed_absent id i (with_entry (entry (n + 1) d (act.Disburse c line))) w.loans (λ k. refl) none
absent_before n today id w (command.Refund i c) ok none = changed_absent id i (with_entry (entry (n + 1) today (act.Refund c))) w.loans (λ k. refl) none
absent_before n today id w (command.Waive i c) ok none = changed_absent id i (with_entry (entry (n + 1) today (act.Waive c))) w.loans (λ k. refl) none
absent_before n today id w (command.Reverse i number) ok none = changed_absent id i (with_reversal number (n + 1)) w.loans (λ k. refl) none
absent_before n today id w (command.Line i line kind month every c) ok none = changed_absent id i (with_bill (record { id = line; kind = kind; month = month; every = every; cents = c })) w.loans (λ k. refl) none
absent_before n today id w (command.Drop i line) ok none = changed_absent id i (without_bill line) w.loans (λ k. refl) none
absent_before n today id w (command.Analyse i plan) ok none = changed_absent id i (with_analysis (n + 1) today plan) w.loans (λ k. refl) none
absent_before n today id w (command.Close p) ok none = none
absent_before n today id w (command.Remit p) ok none = none
absent_before n today id w (command.Retype i from kind) ok none = changed_absent id i (with_type (type_change from kind)) w.loans (λ k. refl) none

absent_now : (n id : ℕ) (w : World) (c : Command) → refusal_of n w c ≡ None → find_loan id (after (n + 1) w c).loans ≡ None → find_loan id w.loans ≡ None
unfolding after
absent_now n id w c ok none = absent_before n w.today id w c ok none

-- ---- the rows of a history

one_command : (g : Part → ℤ → ℤ) (of : Totals → ℤ) (n id : ℕ) (w : World) (c : Command) → IsOfTotals g of → refusal_of n w c ≡ None → AllPairs rises (after (n + 1) w c).loans → found_by of w (find_loan id w.loans) +ℤ total_by (of_loan id g) (rows_made (n + 1) w (after (n + 1) w c)) ≡ found_by of (after (n + 1) w c) (find_loan id (after (n + 1) w c).loans)
one_command g of n id w c is ok rise =
    let later = after (n + 1) w c in
    let rows = between g of (n + 1) id w later later.loans is rise in
    with_found (find_loan id later.loans) refl rows
  where
    gone : find_loan id (after (n + 1) w c).loans ≡ None → find_loan id w.loans ≡ None
    gone e = absent_now n id w c ok e

    with_found : (o : Option Held) → find_loan id (after (n + 1) w c).loans ≡ o → total_by (of_loan id g) (rows_made (n + 1) w (after (n + 1) w c)) ≡ changed_by of w (after (n + 1) w c) id (find_loan id (after (n + 1) w c).loans) → found_by of w (find_loan id w.loans) +ℤ total_by (of_loan id g) (rows_made (n + 1) w (after (n + 1) w c)) ≡ found_by of (after (n + 1) w c) (find_loan id (after (n + 1) w c).loans)
    with_found None e rows =
        let was : found_by of w (find_loan id w.loans) ≡ pos 0 = ap (found_by of w) (gone e) in
        let now : found_by of (after (n + 1) w c) (find_loan id (after (n + 1) w c).loans) ≡ pos 0 = ap (found_by of (after (n + 1) w c)) e in
        let none : total_by (of_loan id g) (rows_made (n + 1) w (after (n + 1) w c)) ≡ pos 0 = rows ∙ ap (changed_by of w (after (n + 1) w c) id) e in
        omega (arith, ints, was, now, none)
    with_found (Some l) e rows =
        let now : found_by of (after (n + 1) w c) (find_loan id (after (n + 1) w c).loans) ≡ of (totals_of (after (n + 1) w c) l) = ap (found_by of (after (n + 1) w c)) e in
        let made : total_by (of_loan id g) (rows_made (n + 1) w (after (n + 1) w c)) ≡ of (totals_of (after (n + 1) w c) l) -ℤ found_by of w (find_loan id w.loans) = rows ∙ ap (changed_by of w (after (n + 1) w c) id) e in
        omega (arith, ints, now, made)

first_rises : (n : ℕ) (w : World) (more : List Accepted) → AreWorlds n w more → AllPairs rises w.loans
first_rises n w [] h = h.rising
first_rises n w (a ∷ more) h = h.0.rising

pub rows_sum : (g : Part → ℤ → ℤ) (of : Totals → ℤ) (id n : ℕ) (w : World) (more : List Accepted) → IsOfTotals g of → AreAccepted n w more → AreWorlds n w more → found_by of w (find_loan id w.loans) +ℤ total_by (of_loan id g) (rows_from n w more) ≡ found_by of (world_from n w more) (find_loan id (world_from n w more).loans)
unfolding rows_from world_from
rows_sum g of id n w [] is all sound = nothing (found_by of w (find_loan id w.loans))
  where
    nothing : (z : ℤ) → z +ℤ pos 0 ≡ z
    nothing z = omega (arith, ints)
rows_sum g of id n w (a ∷ more) is all sound =
    let later = after (n + 1) w a.command in
    let rest = rows_sum g of id (n + 1) later more is all.1 sound.1 in
    let one = one_command g of n id w a.command is all.0.1 (first_rises (n + 1) later more sound.1) in
    let sum = sum_append (of_loan id g) (rows_made (n + 1) w later) (rows_from (n + 1) later more) in
    joined (found_by of w (find_loan id w.loans)) (total_by (of_loan id g) (rows_made (n + 1) w later)) (total_by (of_loan id g) (rows_from (n + 1) later more)) (found_by of later (find_loan id later.loans)) (total_by (of_loan id g) (rows_made (n + 1) w later ++ rows_from (n + 1) later more)) one sum ∙ rest
  where
    joined : (a b c d s : ℤ) → a +ℤ b ≡ d → s ≡ b +ℤ c → a +ℤ s ≡ d +ℤ c
    joined a b c d s one sum = omega (arith, ints)

-- what the rows of a loan add up to is the amount of its totals
pub rows_are_totals : (g : Part → ℤ → ℤ) (of : Totals → ℤ) (id : ℕ) (h : List Accepted) → IsOfTotals g of → IsHistory h → total_by (of_loan id g) (rows_in h) ≡ found_by of (world h) (find_loan id (world h).loans)
rows_are_totals g of id h is history =
    let all = rows_sum g of id 0 first_world h is (history_accepted h history) (are_worlds h history) in
    nothing (total_by (of_loan id g) (rows_in h)) ∙ all
  where
    nothing : (z : ℤ) → z ≡ pos 0 +ℤ z
    nothing z = omega (arith, ints)
