-- The rows of a loan and a part add up to its total, over every history.
use Rattle.std.proofs.Common.{◌≡◌, ℕ, ◌+◌, ◌<◌, Bool, true, false, List, [], ◌∷◌, arith, refl, sym, ap, ◌∙◌, inl, inr}
use Rattle.std.specs.Prelude.{◌==◌, ◌&&◌, Some, None, ℤ, pos, ◌+ℤ◌, ◌-ℤ◌, if◌then◌else◌}
use Rattle.std.specs.List.{All, AllPairs, filter_map, cons_option}
use Rattle.std.specs.Option.{option_map_or}
use Rattle.std.specs.Ordering.{int_eq}
use Rattle.std.proofs.lemmas.Int.{ints}
use Rattle.std.proofs.lemmas.Bool.Decides.{nat_tests, Decides-int_eq}
use Rattle.std.proofs.lemmas.List.Elements.{All-head, All-tail}
use Rattle.svc_base.specs.Sums.{total_by}
use Rattle.svc_base.proofs.SumLemmas.{total_by-append}
use Rattle.svc_types.specs.declared.requests.Command.{Command}
use Rattle.svc_types.proofs.OrderLemmas.{pairs_head, pairs_tail}
use Rattle.custodial_book.specs.declared.part.Part.{Part}
use Rattle.custodial_book.specs.declared.part.Part.TheVariants.{Received, Returned, Refunded, Disbursed, Collected, Fee, Late, PiAdvance, EscrowAdvance, Remitted, Residual}
use Rattle.custodial_book.specs.declared.row.Row.{Row}
use Rattle.custodial_book.specs.declared.row.Totals.{Totals}
use Rattle.custodial_book.specs.Parts.{parts}
use Rattle.custodial_book.specs.Rows.{total_of, change_of, row_of, rows_of}
use Rattle.svc_world.specs.Held.{Held, find_loan}
use Rattle.svc_world.specs.World.{World, Accepted, first_world, after, world_from, world}
use Rattle.svc_world.specs.Refusals.{refusal_of}
use Rattle.svc_world.specs.Judging.{IsHistory}
use Rattle.svc_world.specs.Worlds.{IsWorld}
use Rattle.svc_world.specs.Custody.{totals_of, no_totals, totals_before, rows_between, rows_made, rows_from, rows_in}
use Rattle.svc_world.specs.Laws.{place_of, rows_sum, total_for}
use Rattle.svc_world.proofs.LoanListLemmas.{rises, found_id, numbers_of, find_boarded}
use Rattle.svc_world.proofs.CashLemmas.{rows_nil, rows_cons}
use Rattle.svc_world.proofs.HistoryLemmas.{accepted_keeps, first_is_world, AreAccepted, history_accepted}
use Rattle.svc_world.proofs.LawLemmas.{KeepsLoans, loans_stay}

-- ---- the rows of a command for one loan

picked : (t : Bool) (x : ℤ) → x ≡ pos 0 → (if t then x else pos 0) ≡ pos 0
picked true x zero = zero
picked false x zero = refl

-- what the changes of some parts add up to for one of them
abbrev changes : ℕ → Part → ℕ → Totals → Totals → List Part → ℤ
changes id part loan before after ps =
    total_by (λ (q : Part). if (loan == id) && (place_of q == place_of part) then change_of before after q else pos 0) ps

made_sum : (id : ℕ) (part : Part) (n loan : ℕ) (before after : Totals) (ps : List Part) → rows_sum id part (filter_map (row_of n loan before after) ps) ≡ changes id part loan before after ps
unfolding row_of
made_sum id part n loan before after [] = refl
made_sum id part n loan before after (q ∷ ps) =
    let rest = made_sum id part n loan before after ps in
    let change = total_of after q -ℤ total_of before q in
    let row : Row = record { number = n; loan = loan; part = q; cents = change } in
    elim (int_eq change (pos 0)) as (λ v. int_eq change (pos 0) ≡ v → rows_sum id part (cons_option (if v then None else Some row) (filter_map (row_of n loan before after) ps)) ≡ changes id part loan before after (q ∷ ps)) [
      | true ↦ λ same.
          let none = picked ((loan == id) && (place_of q == place_of part)) change ((Decides-int_eq change (pos 0)).0 same) in
          omega (arith, ints, rest, none)
      | false ↦ λ other. ap (λ z. (if (loan == id) && (place_of q == place_of part) then change else pos 0) +ℤ z) rest
    ] refl

one_of_all : (part : Part) (before after : Totals) → total_by (λ (q : Part). if place_of q == place_of part then change_of before after q else pos 0) parts ≡ change_of before after part
one_of_all Received before after = omega (arith, ints)
one_of_all Returned before after = omega (arith, ints)
one_of_all Refunded before after = omega (arith, ints)
one_of_all Disbursed before after = omega (arith, ints)
one_of_all Collected before after = omega (arith, ints)
one_of_all Fee before after = omega (arith, ints)
one_of_all Late before after = omega (arith, ints)
one_of_all PiAdvance before after = omega (arith, ints)
one_of_all EscrowAdvance before after = omega (arith, ints)
one_of_all Remitted before after = omega (arith, ints)
one_of_all Residual before after = omega (arith, ints)

-- the rows of a loan add up to the change of its total, those of another loan to 0
loan_sum : (id : ℕ) (part : Part) (n loan : ℕ) (before after : Totals) → rows_sum id part (rows_of n loan before after) ≡ (if loan == id then change_of before after part else pos 0)
loan_sum id part n loan before after =
    made_sum id part n loan before after parts
    ∙ elim (loan == id) as (λ v. total_by (λ (q : Part). if v && (place_of q == place_of part) then change_of before after q else pos 0) parts ≡ (if v then change_of before after part else pos 0)) [
      | true ↦ one_of_all part before after
      | false ↦ refl
    ]

-- ---- the rows of a command

none_above : (id : ℕ) (ls : List Held) → All (λ (k : Held). id < k.id) ls → find_loan id ls ≡ None
none_above id [] h = refl
none_above id (k ∷ ks) h =
    let lt = All-head (λ (k : Held). id < k.id) k ks h in
    let other : (k.id == id) ≡ false = grind (arith, nat_tests) in
    rw other (none_above id ks (All-tail (λ (k : Held). id < k.id) k ks h))

-- what a command changed of a loan's part
abbrev change_by : World → World → Part → Held → ℤ
change_by before later part l = change_of (totals_before before (find_loan l.id before.loans)) (totals_of later l) part

between_sum : (id : ℕ) (part : Part) (n : ℕ) (before later : World) (ls : List Held) → AllPairs rises ls → rows_sum id part (rows_between n before later ls) ≡ option_map_or (change_by before later part) (find_loan id ls) (pos 0)
between_sum id part n before later [] rise = ap (rows_sum id part) (rows_nil n before later)
between_sum id part n before later (l ∷ ls) rise =
    let mine = rows_of n l.id (totals_before before (find_loan l.id before.loans)) (totals_of later l) in
    let split = ap (rows_sum id part) (rows_cons n before later l ls) ∙ total_by-append (λ (r : Row). if (r.loan == id) && (place_of r.part == place_of part) then r.cents else pos 0) mine (rows_between n before later ls) in
    let one = loan_sum id part n l.id (totals_before before (find_loan l.id before.loans)) (totals_of later l) in
    let rest = between_sum id part n before later ls (pairs_tail rises l ls rise) in
    let above = pairs_head rises l ls rise in
    elim (l.id == id) as (λ v. (l.id == id) ≡ v → rows_sum id part mine ≡ (if v then change_by before later part l else pos 0) → rows_sum id part (rows_between n before later (l ∷ ls)) ≡ option_map_or (change_by before later part) (if v then Some l else find_loan id ls) (pos 0)) [
      | true ↦ λ same this.
          let is : l.id ≡ id = grind (arith, nat_tests) in
          let none : find_loan id ls ≡ None = none_above id ls (λ k d lt. (let up = above k d lt in omega (arith, up, is))) in
          let zero : rows_sum id part (rows_between n before later ls) ≡ pos 0 = rest ∙ ap (λ o. option_map_or (change_by before later part) o (pos 0)) none in
          omega (arith, ints, split, this, zero)
      | false ↦ λ other this. omega (arith, ints, split, this, rest)
    ] refl one

nothing_for : (part : Part) → total_of no_totals part ≡ pos 0
nothing_for Received = refl
nothing_for Returned = refl
nothing_for Refunded = refl
nothing_for Disbursed = refl
nothing_for Collected = refl
nothing_for Fee = refl
nothing_for Late = refl
nothing_for PiAdvance = refl
nothing_for EscrowAdvance = refl
nothing_for Remitted = refl
nothing_for Residual = refl

-- a loan that is not there after a command was not there before it
none_by_numbers : (id : ℕ) (ks ls : List Held) → numbers_of ks ≡ numbers_of ls → find_loan id ks ≡ None → find_loan id ls ≡ None
none_by_numbers id [] [] e none = refl
none_by_numbers id [] (l ∷ ls) e none = absurd (cc)
none_by_numbers id (k ∷ ks) [] e none = absurd (cc)
none_by_numbers id (k ∷ ks) (l ∷ ls) e none =
    let one : k.id ≡ l.id = cc in
    let rest : numbers_of ks ≡ numbers_of ls = cc in
    elim (l.id == id) as (λ v. (l.id == id) ≡ v → (if v then Some l else find_loan id ls) ≡ None) [
      | true ↦ λ same.
          let there : (k.id == id) ≡ true = ap (λ i. i == id) one ∙ same in
          let found : find_loan id (k ∷ ks) ≡ Some k = rw there refl in
          absurd (cc)
      | false ↦ λ other.
          let apart : (k.id == id) ≡ false = ap (λ i. i == id) one ∙ other in
          let on : find_loan id (k ∷ ks) ≡ find_loan id ks = rw apart refl in
          none_by_numbers id ks ls rest (sym on ∙ none)
    ] refl

none_before : (id n : ℕ) (w : World) (c : Command) → KeepsLoans n w c → find_loan id (after (n + 1) w c).loans ≡ None → find_loan id w.loans ≡ None
none_before id n w c (inl same) none = none_by_numbers id (after (n + 1) w c).loans w.loans same none
none_before id n w c (inr on) none =
    let boarded : find_loan id (after (n + 1) w c).loans ≡ (if on.loan.id == id then Some on.loan else find_loan id w.loans) = ap (find_loan id) on.more ∙ find_boarded id on.loan w.loans on.new in
    elim (on.loan.id == id) as (λ v. (if v then Some on.loan else find_loan id w.loans) ≡ None → find_loan id w.loans ≡ None) [
      | true ↦ λ e. absurd (cc)
      | false ↦ λ e. e
    ] (sym boarded ∙ none)

command_sum : (id : ℕ) (part : Part) (n : ℕ) (w : World) (c : Command) → IsWorld (n + 1) (after (n + 1) w c) → refusal_of n w c ≡ None → rows_sum id part (rows_made (n + 1) w (after (n + 1) w c)) ≡ total_for (after (n + 1) w c) id part -ℤ total_for w id part
command_sum id part n w c later e =
    let next = after (n + 1) w c in
    let sum = between_sum id part (n + 1) w next next.loans later.rising in
    let zero = nothing_for part in
    elim (find_loan id next.loans) as (λ o. find_loan id next.loans ≡ o → rows_sum id part (rows_made (n + 1) w next) ≡ option_map_or (change_by w next part) o (pos 0) → rows_sum id part (rows_made (n + 1) w next) ≡ total_of (totals_before next o) part -ℤ total_for w id part) [
      | None ↦ λ none is.
          let old : total_for w id part ≡ total_of no_totals part = ap (λ o. total_of (totals_before w o) part) (none_before id n w c (loans_stay n w c e) none) in
          omega (arith, ints, is, old, zero)
      | Some l ↦ λ found is.
          let old : total_of (totals_before w (find_loan l.id w.loans)) part ≡ total_for w id part = ap (λ i. total_for w i part) (found_id id next.loans l found) in
          omega (arith, ints, is, old)
    ] refl sum

-- ---- the rows of a history

sum_from : (id : ℕ) (part : Part) (n : ℕ) (w : World) (h : List Accepted) → IsWorld n w → AreAccepted n w h → rows_sum id part (rows_from n w h) ≡ total_for (world_from n w h) id part -ℤ total_for w id part
unfolding rows_from world_from
sum_from id part n w [] is all = omega (arith, ints)
sum_from id part n w (a ∷ more) is all =
    let next = after (n + 1) w a.command in
    let later = accepted_keeps n w a.command is all.0.0 all.0.1 in
    let split = total_by-append (λ (r : Row). if (r.loan == id) && (place_of r.part == place_of part) then r.cents else pos 0) (rows_made (n + 1) w next) (rows_from (n + 1) next more) in
    let one = command_sum id part n w a.command later all.0.1 in
    let rest = sum_from id part (n + 1) next more later all.1 in
    omega (arith, ints, split, one, rest)

pub rows_are_totals : (h : List Accepted) (id : ℕ) (part : Part) → IsHistory h → rows_sum id part (rows_in h) ≡ total_for (world h) id part
rows_are_totals h id part is =
    let sum = sum_from id part 0 first_world h first_is_world (history_accepted h is) in
    let zero = nothing_for part in
    omega (arith, ints, sum, zero)
