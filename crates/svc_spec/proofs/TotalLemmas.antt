-- A loan's money is conserved: what its entries brought in, less what they paid out, is what its
-- books hold and have collected.
use Rattle.std.proofs.Common.{◌≡◌, ℕ, zero, suc, ◌+◌, ◌-◌, ◌≤◌, true, false, cond, List, [], ◌∷◌, ◌++◌, arith, refl, ap}
use Rattle.std.specs.Prelude.{ℤ, pos, ◌+ℤ◌, ◌-ℤ◌, nat_le, if◌then◌else◌}
use Rattle.std.specs.List.{All, filter}
use Rattle.std.proofs.lemmas.List.Elements.{All-head, All-tail}
use Rattle.std.proofs.lemmas.Int.{ints}
use Rattle.svc_base.specs.Calendar.{month_of}
use Rattle.svc_base.specs.Sums.{total_by}
use Rattle.svc_base.proofs.SumLemmas.{total_by-append, total_by-parts}
use Rattle.svc_types.specs.declared.terms.Terms.{Terms}
use Rattle.svc_types.specs.declared.books.Books.{Books}
use Rattle.svc_types.specs.declared.account.Act.{Act}
use Rattle.svc_types.specs.declared.account.Act.TheVariants.{Pay, Curtail, Payoff, Deposit, Disburse, Refund, Waive, Analyse}
use Rattle.svc_types.specs.declared.account.Entry.{Entry}
use Rattle.svc_types.specs.declared.account.Event.{Event}
use Rattle.svc_types.specs.declared.account.What.{What}
use Rattle.svc_types.specs.declared.account.What.TheVariants as what
use Rattle.svc_types.specs.Terms.{IsSound}
use Rattle.svc_types.specs.Live.{is_before, placed, placed_onto, is_reversed, is_live, live_entries}
use Rattle.svc_types.proofs.OrderLemmas.{live_all}
use Rattle.svc_spec.specs.Step.{step, brought, paid_out, brought_by, paid_out_by}
use Rattle.svc_spec.specs.Books.{IsWhat, total, start}
use Rattle.svc_spec.specs.Events.{month_marks_from, month_marks, late_mark, late_marks_from, late_marks, up_to, entry_events, insert_event, by_day, events_to, folded, books_at}
use Rattle.svc_spec.specs.Accounts.{Account, live_of, books_of, IsAccount}
use Rattle.svc_spec.specs.Totals.{sum_over, refunded_by, disbursed_by, reversed_of, received, returned, refunded, disbursed}
use Rattle.svc_spec.proofs.SettlingLemmas.{nat_le-true}
use Rattle.svc_spec.proofs.WholeStep.{step_total}
use Rattle.svc_spec.proofs.EventLemmas.{CanFold, can_fold_step}
use Rattle.svc_spec.proofs.AccountLemmas.{account_folds}

-- ---- what the events bring in and pay out

-- an amount of each of some events, summed
abbrev pub tally : (What → ℤ) → List Event → ℤ
tally f es = total_by (λ e. f e.what) es

-- each event moves the total by what it brings in less what it pays out, and so do all of them
folded_total : (t : Terms) (b : Books) (es : List Event) → IsSound t → CanFold t b es → total (folded t b es) +ℤ tally paid_out_by es ≡ total b +ℤ tally brought_by es
folded_total t b [] s h = refl
folded_total t b (e ∷ es) s h =
    let one = step_total t e b s (All-head (λ x. IsWhat x.what) e es h.whats) h.books.signs in
    let rest = folded_total t (step t e b) es s (can_fold_step t b e es s h) in
    omega (arith, ints, one, rest)

tally_insert : (f : What → ℤ) (e : Event) (xs : List Event) → tally f (insert_event e xs) ≡ f e.what +ℤ tally f xs
tally_insert f e [] = refl
tally_insert f e (x ∷ xs) =
    elim (nat_le e.day x.day) as (λ v. tally f (if v then e ∷ x ∷ xs else x ∷ insert_event e xs) ≡ f e.what +ℤ (f x.what +ℤ tally f xs)) [
      | true ↦ refl
      | false ↦ omega (arith, ints, tally_insert f e xs)
    ]

tally_by_day : (f : What → ℤ) (xs : List Event) → tally f (by_day xs) ≡ tally f xs
tally_by_day f [] = refl
tally_by_day f (x ∷ xs) = omega (arith, ints, tally_insert f x (by_day xs), tally_by_day f xs)

tally_months : (f : What → ℤ) → f what.MonthMark ≡ pos 0 → (m n : ℕ) → tally f (month_marks_from m n) ≡ pos 0
tally_months f none m zero = refl
tally_months f none m (suc n) = omega (arith, ints, none, tally_months f none (m + 1) n)

tally_lates : (f : What → ℤ) → ((k : ℕ) → f (what.LateMark k) ≡ pos 0) → (t : Terms) (d k n : ℕ) → tally f (up_to d (late_marks_from t k n)) ≡ pos 0
tally_lates f none t d k zero = refl
tally_lates f none t d k (suc n) =
    let rest = tally_lates f none t d (k + 1) n in
    elim (nat_le (late_mark t k).day d) as (λ v. tally f (cond v (late_mark t k ∷ up_to d (late_marks_from t (k + 1) n)) (up_to d (late_marks_from t (k + 1) n))) ≡ pos 0) [
      | true ↦ omega (arith, ints, none k, rest)
      | false ↦ rest
    ]

tally_entries : (f : What → ℤ) (d : ℕ) (live : List Entry) → All (λ e. e.day ≤ d) live → tally f (entry_events live d) ≡ sum_over (λ a. f (what.Act a)) live
tally_entries f d [] h = refl
tally_entries f d (e ∷ es) h =
    let now : nat_le e.day d ≡ true = nat_le-true e.day d (All-head (λ x. x.day ≤ d) e es h) in
    let rest = tally_entries f d es (All-tail (λ x. x.day ≤ d) e es h) in
    rw now (ap (λ z. f (what.Act e.act) +ℤ z) rest)

-- the marks bring nothing in and pay nothing out
pub tally_events : (f : What → ℤ) → f what.MonthMark ≡ pos 0 → ((k : ℕ) → f (what.LateMark k) ≡ pos 0) → (t : Terms) (live : List Entry) (d : ℕ) → All (λ e. e.day ≤ d) live → tally f (events_to t live d) ≡ sum_over (λ a. f (what.Act a)) live
unfolding events_to
tally_events f none none' t live d h =
    let months = month_marks t d in
    let lates = late_marks t d in
    let entries = entry_events live d in
    omega (arith, ints, tally_by_day f (months ++ lates ++ entries), total_by-append (λ (e : Event). f e.what) (months ++ lates) entries, total_by-append (λ (e : Event). f e.what) months lates, tally_months f none (month_of t.boarded + 1) (month_of d - month_of t.boarded), tally_lates f none' t d 1 t.term, tally_entries f d live h)

-- ---- sums over entries

pub sum_placed : (f : Act → ℤ) (e : Entry) (xs : List Entry) → sum_over f (placed e xs) ≡ f e.act +ℤ sum_over f xs
sum_placed f e [] = refl
sum_placed f e (x ∷ xs) =
    elim (is_before e x) as (λ v. sum_over f (if v then e ∷ x ∷ xs else x ∷ placed e xs) ≡ f e.act +ℤ (f x.act +ℤ sum_over f xs)) [
      | true ↦ refl
      | false ↦ omega (arith, ints, sum_placed f e xs)
    ]

sum_placed_onto : (f : Act → ℤ) (xs es : List Entry) → sum_over f (placed_onto xs es) ≡ sum_over f xs +ℤ sum_over f es
sum_placed_onto f xs [] = omega (arith, ints)
sum_placed_onto f xs (e ∷ es) = omega (arith, ints, sum_placed_onto f (placed e xs) es, sum_placed f e xs)

-- the entries are the live and the reversed ones
pub sum_live : (f : Act → ℤ) (a : Account) → sum_over f a.entries ≡ sum_over f (live_of a) +ℤ sum_over f (reversed_of a)
unfolding live_entries
sum_live f a = omega (arith, ints, sum_placed_onto f [] (filter (is_live a.reversals) a.entries), total_by-parts (λ (e : Entry). f e.act) (λ e. is_reversed a.reversals e.number) a.entries)

paid_out_parts : (x : Act) → paid_out x ≡ refunded_by x +ℤ disbursed_by x
paid_out_parts (Pay c to) = refl
paid_out_parts (Curtail c) = refl
paid_out_parts (Payoff c) = refl
paid_out_parts (Deposit c) = refl
paid_out_parts (Disburse c line) = omega (arith, ints)
paid_out_parts (Refund c) = omega (arith, ints)
paid_out_parts (Waive c) = refl
paid_out_parts (Analyse s) = omega (arith, ints)

pub sum_paid_out : (es : List Entry) → sum_over paid_out es ≡ sum_over refunded_by es +ℤ sum_over disbursed_by es
sum_paid_out [] = refl
sum_paid_out (e ∷ es) = omega (arith, ints, paid_out_parts e.act, sum_paid_out es)

start_total : (t : Terms) → total (start t) ≡ pos 0
unfolding start
start_total t = refl

-- what a loan received less what was returned, refunded and disbursed is what its books now hold
-- and have collected
pub account_total : (a : Account) → IsAccount a → received a -ℤ returned a -ℤ refunded a -ℤ disbursed a ≡ total (books_of a a.today)
unfolding books_at
account_total a h =
    let live = live_of a in
    let d = a.today in
    let can = account_folds a d h in
    let all = folded_total a.terms (start a.terms) (events_to a.terms live d) h.terms can in
    let early : All (λ e. e.day ≤ d) live = live_all (λ e. e.day ≤ d) a.entries a.reversals h.until in
    let inward = tally_events brought_by refl (λ k. refl) a.terms live d early in
    let outward = tally_events paid_out_by refl (λ k. refl) a.terms live d early in
    omega (arith, ints, all, inward, outward, sum_live brought a, sum_paid_out live, start_total a.terms)
