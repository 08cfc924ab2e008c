-- Where a call about a month costs no more than that month, and the facts of a month cost nothing, what a
-- request costs lies within the bound on its steps.
use Rattle.std.proofs.Common.{◌≡◌, ℕ, ◌+◌, ◌-◌, ◌≤◌, Bool, true, false, cond, List, [], ◌∷◌, length, arith, refl, sym, ap, subst, ◌∙◌}
use Rattle.std.specs.Prelude.{Some, None, ℤ, nat_le, if◌then◌else◌}
use Rattle.std.specs.List.{filter, sum_by, range_with_len}
use Rattle.std.specs.Option.{option_map_or}
use Rattle.std.proofs.lemmas.List.Sums.{sum_by-cons}
use Rattle.svc_base.specs.Calendar.{month_of}
use Rattle.svc_types.specs.declared.account.Act.{Act}
use Rattle.svc_types.specs.declared.account.Act.TheVariants.{Curtail, Payoff}
use Rattle.svc_types.specs.declared.account.Entry.{Entry}
use Rattle.svc_types.specs.declared.requests.Command.{Command}
use Rattle.svc_types.specs.declared.requests.Command.TheVariants as command
use Rattle.svc_types.specs.declared.requests.Query.{Query}
use Rattle.svc_types.specs.declared.requests.Query.TheVariants as query
use Rattle.svc_types.specs.declared.replies.Refusal.TheVariants.{KeyReused}
use Rattle.svc_types.specs.Live.{is_before, placed}
use Rattle.svc_spec.specs.Accounts.{Account, IsAccount, MayPost, advanced_to, begun, posted, live_of, entry_of}
use Rattle.svc_spec.specs.Books.{IsAct}
use Rattle.svc_spec.specs.Months.{books_at_end, entries_from, open_by, cost_of_month}
use Rattle.svc_spec.proofs.AccountLemmas.{live_after_post}
use Rattle.period_adjust.specs.Conditions.{last_month}
use Rattle.period_adjust.specs.Kept.{month_after}
use Rattle.svc_world.specs.Held.{Held, find_loan, changed, with_entry, boarded_month}
use Rattle.svc_world.specs.World.{World, Accepted, entry, loans_after, after, world}
use Rattle.svc_world.specs.Worlds.{IsWorld}
use Rattle.svc_world.specs.Refusals.{refusal_of, dated_cases, over_principal, payoff_short}
use Rattle.svc_world.specs.Judging.{Judgement, Kept, Refused, Fresh, Known, known, judged, IsHistory}
use Rattle.svc_types.specs.Same.{is_same}
use Rattle.svc_core.specs.Bound.{cost_for, cost_for_all, bound_refused, bound_fresh, bound_by, entry_cost, cost_for_entry, step_bound, query_bound}
use Rattle.svc_world.proofs.AgreeLemmas.{posted_agrees}
use Rattle.svc_world.proofs.LoanListLemmas.{KeepsNumber, find_changed}
use Rattle.svc_world.proofs.CaseLemmas.{dated}
use Rattle.svc_world.proofs.NamedLoans.{named_loan, asked}
use Rattle.svc_world.proofs.EntryWorlds.{entered_sum, entry_posts}
use Rattle.svc_world.proofs.HistoryLemmas.{is_world, fresh_none}
use Rattle.svc_loan.specs.Closed.{months_cost}
use Rattle.svc_desk.specs.Costs.{quote_cost}
use Rattle.svc_core.specs.Costs.{asking_month, refusing_cost, preparing_cost, changing_cost, entering_cost, reversing_cost, advancing_cost, closing_cost, accepting_cost, asking_cost}
use Rattle.svc_core.specs.Core.{unknown_cost, where_unknown, judging_cost, accepted_cost, where_fresh, submitting_cost}
use Rattle.svc_core.proofs.PartsLemmas.{judged_known}

-- ---- an entry more makes no month cheaper

placed_filter : (p : Entry → Bool) (e : Entry) (xs : List Entry) → length (filter p xs) ≤ length (filter p (placed e xs))
placed_filter p e [] = omega arith
placed_filter p e (x ∷ xs) =
    let rest = placed_filter p e xs in
    let more = one_more p e (x ∷ xs) in
    elim (is_before e x) as (λ v. length (filter p (x ∷ xs)) ≤ length (filter p (if v then e ∷ x ∷ xs else x ∷ placed e xs))) [
      | true ↦ more
      | false ↦ elim (p x) as (λ v. length (cond v (x ∷ filter p xs) (filter p xs)) ≤ length (cond v (x ∷ filter p (placed e xs)) (filter p (placed e xs)))) [ true ↦ omega (arith, rest) | false ↦ rest ]
    ]
  where
    one_more : (p : Entry → Bool) (e : Entry) (ys : List Entry) → length (filter p ys) ≤ length (filter p (e ∷ ys))
    one_more p e ys = elim (p e) as (λ v. length (filter p ys) ≤ length (cond v (e ∷ filter p ys) (filter p ys))) [ true ↦ omega arith | false ↦ omega arith ]

pub posted_cost : (a : Account) (e : Entry) (m : ℕ) → IsAccount a → MayPost a e → m ≡ month_of e.day → 1 ≤ m → cost_of_month a m ≤ cost_of_month (posted e a) m
unfolding cost_of_month
posted_cost a e m h may is some =
    let live = live_after_post a e h may in
    let count : length (entries_from a m) ≤ length (entries_from (posted e a) m) = subst (λ es. length (entries_from a m) ≤ length (filter (λ (x : Entry). nat_le m (month_of x.day)) es)) (sym live) (placed_filter (λ (x : Entry). nat_le m (month_of x.day)) e (live_of a)) in
    let ends = (posted_agrees a e h may).ends (m - 1) (omega (arith, is, some)) in
    let open_ones : open_by a.terms (books_at_end (posted e a) (m - 1)) (month_of a.today + 1) ≡ open_by a.terms (books_at_end a (m - 1)) (month_of a.today + 1) = ap (λ b. open_by a.terms b (month_of a.today + 1)) ends in
    omega (arith, count, open_ones)

-- ---- what the loan of a curtailment or of a payoff costs before and after it

late_enough : (a : Account) (d : ℕ) → IsAccount a → a.terms.boarded ≤ d → 1 ≤ month_of d
late_enough a d h le = let first = h.boarded.first in omega (arith, first, le)

-- the entry of an amount may follow
posted_month : (n id d : ℕ) (w : World) (a : Act) (l : Held) → IsWorld n w → find_loan id w.loans ≡ Some l → l.account.terms.boarded ≤ d → d ≤ w.today → IsAct a → asking_month cost_of_month w id (month_of d) ≤ option_map_or (λ (k : Held). cost_of_month k.account (month_of d)) (find_loan id (changed id (with_entry (entry (n + 1) d a)) w.loans)) 0
posted_month n id d w a l h found since until act =
    let is = (named_loan n w id l h found).held in
    let account = is.limited.account in
    let may = entry_posts n w (entry (n + 1) d a) l is refl since until act in
    let keeps : KeepsNumber (with_entry (entry (n + 1) d a)) = λ k. refl in
    let there = find_changed id (with_entry (entry (n + 1) d a)) w.loans l found keeps in
    let le = posted_cost l.account (entry (n + 1) d a) (month_of d) account may refl (late_enough l.account d account since) in
    let before : option_map_or (λ (k : Held). cost_of_month k.account (month_of d)) (find_loan id w.loans) 0 ≡ cost_of_month l.account (month_of d) = ap (λ o. option_map_or (λ (k : Held). cost_of_month k.account (month_of d)) o 0) found in
    let later : option_map_or (λ (k : Held). cost_of_month k.account (month_of d)) (find_loan id (changed id (with_entry (entry (n + 1) d a)) w.loans)) 0 ≡ cost_of_month (posted (entry (n + 1) d a) l.account) (month_of d) = ap (λ o. option_map_or (λ (k : Held). cost_of_month k.account (month_of d)) o 0) there in
    subst (λ x. x ≤ option_map_or (λ (k : Held). cost_of_month k.account (month_of d)) (find_loan id (changed id (with_entry (entry (n + 1) d a)) w.loans)) 0) (sym before) (subst (λ y. cost_of_month l.account (month_of d) ≤ y) (sym later) le)

-- ---- what costs nothing

zero_sum : {X : Type 0} (f : X → ℕ) (xs : List X) → ((x : X) → f x ≡ 0) → sum_by f xs ≡ 0
zero_sum f [] h = refl
zero_sum f (x ∷ xs) h = omega (arith, sum_by-cons f x xs, h x, zero_sum f xs h)

months_free : (mc : Account → ℕ → ℕ) (a : Account) (m n : ℕ) → ((b : Account) (p : ℕ) → mc b p ≡ 0) → months_cost mc a m n ≡ 0
unfolding months_cost
months_free mc a m n free = zero_sum (mc a) (range_with_len m n) (λ p. free a p)

changing_within : (cost mc : Account → ℕ → ℕ) (w : World) (m : ℕ) (l : Held) → ((b : Account) (p : ℕ) → cost b p ≤ cost_of_month b p) → ((b : Account) (p : ℕ) → mc b p ≡ 0) → changing_cost cost mc w m l ≤ cost_of_month l.account m
changing_within cost mc w m l is free = (let n = month_after (last_month w.seals.reports) - m in omega (arith, is l.account m, months_free mc l.account m n free))

month_within : (cost : Account → ℕ → ℕ) (w : World) (id m : ℕ) → ((b : Account) (p : ℕ) → cost b p ≤ cost_of_month b p) → asking_month cost w id m ≤ cost_for w id m
month_within cost w id m is = elim (find_loan id w.loans) as (λ o. option_map_or (λ (l : Held). cost l.account m) o 0 ≤ option_map_or (λ (l : Held). cost_of_month l.account m) o 0) [ None ↦ omega arith | Some l ↦ is l.account m ]

entering_within : (cost mc : Account → ℕ → ℕ) (w : World) (id m : ℕ) → ((b : Account) (p : ℕ) → cost b p ≤ cost_of_month b p) → ((b : Account) (p : ℕ) → mc b p ≡ 0) → entering_cost cost mc w id m ≤ cost_for w id m
entering_within cost mc w id m is free = elim (find_loan id w.loans) as (λ o. option_map_or (changing_cost cost mc w m) o 0 ≤ option_map_or (λ (l : Held). cost_of_month l.account m) o 0) [ None ↦ omega arith | Some l ↦ changing_within cost mc w m l is free ]

reversing_within : (cost mc : Account → ℕ → ℕ) (w : World) (number : ℕ) (l : Held) → ((b : Account) (p : ℕ) → cost b p ≤ cost_of_month b p) → ((b : Account) (p : ℕ) → mc b p ≡ 0) → reversing_cost cost mc w number l ≤ entry_cost number l
reversing_within cost mc w number l is free = elim (entry_of l.account number) as (λ o. option_map_or (λ (e : Entry). changing_cost cost mc w (month_of e.day) l) o 0 ≤ option_map_or (λ (e : Entry). cost_of_month l.account (month_of e.day)) o 0) [ None ↦ omega arith | Some e ↦ changing_within cost mc w (month_of e.day) l is free ]

reversals_within : (cost mc : Account → ℕ → ℕ) (w : World) (id number : ℕ) → ((b : Account) (p : ℕ) → cost b p ≤ cost_of_month b p) → ((b : Account) (p : ℕ) → mc b p ≡ 0) → option_map_or (reversing_cost cost mc w number) (find_loan id w.loans) 0 ≤ cost_for_entry w id number
reversals_within cost mc w id number is free = elim (find_loan id w.loans) as (λ o. option_map_or (reversing_cost cost mc w number) o 0 ≤ option_map_or (entry_cost number) o 0) [ None ↦ omega arith | Some l ↦ reversing_within cost mc w number l is free ]

advancing_within : (cost : Account → ℕ → ℕ) (today : ℕ) (ls : List Held) → ((b : Account) (p : ℕ) → cost b p ≤ cost_of_month b p) → advancing_cost cost today ls ≤ cost_for_all (month_of today) ls
advancing_within cost today [] is = omega arith
advancing_within cost today (l ∷ ls) is = omega (arith, sum_by-cons (λ (k : Held). cost k.account (month_of today)) l ls, is l.account (month_of today), advancing_within cost today ls is)

closing_free : (mc : Account → ℕ → ℕ) (p : ℕ) (ls : List Held) → ((b : Account) (q : ℕ) → mc b q ≡ 0) → closing_cost mc p ls ≡ 0
closing_free mc p ls free = zero_sum (λ (l : Held). if nat_le (boarded_month l) p then mc l.account p else 0) ls (λ l. elim (nat_le (boarded_month l) p) as (λ v. (if v then mc l.account p else 0) ≡ 0) [ true ↦ free l.account p | false ↦ refl ])

-- ---- a curtailment and a payoff look at the books of their day before they are accepted

curtail_more : (n id d : ℕ) (w : World) (c : ℤ) → IsWorld n w → refusal_of n w (command.Curtail id d c) ≡ None → cost_for w id (month_of d) ≤ cost_for (after (n + 1) w (command.Curtail id d c)) id (month_of d)
unfolding after loans_after
curtail_more n id d w c h e =
    let q = asked n w id (dated_cases w d c (over_principal d c)) (command.Curtail id d c) refl e in
    let it = dated w d c (over_principal d c) q.loan.loan q.loan.rest in
    posted_month n id d w (Curtail c) q.loan.loan h q.loan.found it.since it.until (entered_sum c it.amount)

payoff_more : (n id d : ℕ) (w : World) (c : ℤ) → IsWorld n w → refusal_of n w (command.Payoff id d c) ≡ None → cost_for w id (month_of d) ≤ cost_for (after (n + 1) w (command.Payoff id d c)) id (month_of d)
unfolding after loans_after
payoff_more n id d w c h e =
    let q = asked n w id (dated_cases w d c (payoff_short d c)) (command.Payoff id d c) refl e in
    let it = dated w d c (payoff_short d c) q.loan.loan q.loan.rest in
    posted_month n id d w (Payoff c) q.loan.loan h q.loan.found it.since it.until (entered_sum c it.amount)

-- ---- a refused command, and a fresh one

refused_within : (cost : Account → ℕ → ℕ) (w : World) (c : Command) → ((b : Account) (p : ℕ) → cost b p ≤ cost_of_month b p) → refusing_cost cost w c ≤ bound_refused w c
refused_within cost w (command.Curtail id d c) is = omega (arith, month_within cost w id (month_of d) is)
refused_within cost w (command.Payoff id d c) is = omega (arith, month_within cost w id (month_of d) is)
refused_within cost w (command.Day d) is = omega arith
refused_within cost w (command.Board id t) is = omega arith
refused_within cost w (command.Pay id d c over) is = omega arith
refused_within cost w (command.Deposit id d c) is = omega arith
refused_within cost w (command.Disburse id d c line) is = omega arith
refused_within cost w (command.Refund id c) is = omega arith
refused_within cost w (command.Waive id c) is = omega arith
refused_within cost w (command.Reverse id number) is = omega arith
refused_within cost w (command.Line id line kind month every c) is = omega arith
refused_within cost w (command.Drop id line) is = omega arith
refused_within cost w (command.Analyse id plan) is = omega arith
refused_within cost w (command.Close p) is = omega arith
refused_within cost w (command.Remit p) is = omega arith
refused_within cost w (command.Retype id from kind) is = omega arith

fresh_within : (cost mc : Account → ℕ → ℕ) (n : ℕ) (w : World) (c : Command) → ((b : Account) (p : ℕ) → cost b p ≤ cost_of_month b p) → ((b : Account) (p : ℕ) → mc b p ≡ 0) → IsWorld n w → refusal_of n w c ≡ None → refusing_cost cost w c + preparing_cost cost w c + accepting_cost cost mc w (after (n + 1) w c) c ≤ bound_fresh w (after (n + 1) w c) c
fresh_within cost mc n w (command.Day d) is free h e = omega (arith, advancing_within cost w.today (after (n + 1) w (command.Day d)).loans is)
fresh_within cost mc n w (command.Board id t) is free h e = omega (arith, is (begun t w.today) (month_of t.boarded))
fresh_within cost mc n w (command.Pay id d c over) is free h e = omega (arith, entering_within cost mc (after (n + 1) w (command.Pay id d c over)) id (month_of d) is free)
fresh_within cost mc n w (command.Curtail id d c) is free h e = omega (arith, month_within cost w id (month_of d) is, curtail_more n id d w c h e, entering_within cost mc (after (n + 1) w (command.Curtail id d c)) id (month_of d) is free)
fresh_within cost mc n w (command.Payoff id d c) is free h e = omega (arith, month_within cost w id (month_of d) is, payoff_more n id d w c h e, entering_within cost mc (after (n + 1) w (command.Payoff id d c)) id (month_of d) is free)
fresh_within cost mc n w (command.Deposit id d c) is free h e = omega (arith, entering_within cost mc (after (n + 1) w (command.Deposit id d c)) id (month_of d) is free)
fresh_within cost mc n w (command.Disburse id d c line) is free h e = omega (arith, entering_within cost mc (after (n + 1) w (command.Disburse id d c line)) id (month_of d) is free)
fresh_within cost mc n w (command.Refund id c) is free h e = omega (arith, entering_within cost mc (after (n + 1) w (command.Refund id c)) id (month_of w.today) is free)
fresh_within cost mc n w (command.Waive id c) is free h e = omega (arith, entering_within cost mc (after (n + 1) w (command.Waive id c)) id (month_of w.today) is free)
fresh_within cost mc n w (command.Reverse id number) is free h e = omega (arith, reversals_within cost mc (after (n + 1) w (command.Reverse id number)) id number is free)
fresh_within cost mc n w (command.Line id line kind month every c) is free h e = omega arith
fresh_within cost mc n w (command.Drop id line) is free h e = omega arith
fresh_within cost mc n w (command.Analyse id plan) is free h e = omega (arith, entering_within cost mc (after (n + 1) w (command.Analyse id plan)) id (month_of w.today) is free)
fresh_within cost mc n w (command.Close p) is free h e = omega (arith, closing_free mc p w.loans free)
fresh_within cost mc n w (command.Remit p) is free h e = omega arith
fresh_within cost mc n w (command.Retype id from kind) is free h e = omega arith

-- ---- all commands, and queries

known_kept : (h : List Accepted) (key : List ℕ) (c : Command) (k : Known) (n : ℕ) → known h key ≡ Some k → where_fresh (judged h key c) n ≡ 0
known_kept h key c k n e = ap (λ j. where_fresh j n) (judged_known h key c k e) ∙ (elim (is_same k.command c) as (λ v. where_fresh (if v then Kept k.reply else Refused (KeyReused k.reply.number)) n ≡ 0) [ true ↦ refl | false ↦ refl ])

unknown_within : (cost mc : Account → ℕ → ℕ) (h : List Accepted) (key : List ℕ) (c : Command) (j : Judgement) → ((b : Account) (p : ℕ) → cost b p ≤ cost_of_month b p) → ((b : Account) (p : ℕ) → mc b p ≡ 0) → IsHistory h → judged h key c ≡ j → unknown_cost cost (world h) c j + where_fresh j (accepted_cost cost mc h c) ≤ bound_by (world h) (after (length h + 1) (world h) c) c j
unknown_within cost mc h key c (Kept r) is free hist e = omega arith
unknown_within cost mc h key c (Refused why) is free hist e = omega (arith, refused_within cost (world h) c is)
unknown_within cost mc h key c Fresh is free hist e = omega (arith, fresh_within cost mc (length h) (world h) c is free (is_world h hist) (fresh_none h key c e))

pub submitting_within : (cost mc : Account → ℕ → ℕ) (h : List Accepted) (key : List ℕ) (c : Command) → ((b : Account) (p : ℕ) → cost b p ≤ cost_of_month b p) → ((b : Account) (p : ℕ) → mc b p ≡ 0) → IsHistory h → submitting_cost cost mc h key c ≤ step_bound h key c
unfolding step_bound
submitting_within cost mc h key c is free hist =
    let j = judged h key c in
    let w = world h in
    let later = after (length h + 1) w c in
    elim (known h key) as (λ o. known h key ≡ o → where_unknown o (unknown_cost cost w c j) + where_fresh j (accepted_cost cost mc h c) ≤ where_unknown o (bound_by w later c j)) [
      | None ↦ λ e. unknown_within cost mc h key c j is free hist refl
      | Some k ↦ λ e. omega (arith, known_kept h key c k (accepted_cost cost mc h c) e)
    ] refl

quoting_within : (cost : Account → ℕ → ℕ) (w : World) (id d : ℕ) → ((b : Account) (p : ℕ) → cost b p ≤ cost_of_month b p) → option_map_or (quote_cost cost d) (find_loan id w.loans) 0 ≤ option_map_or (quote_cost cost_of_month d) (find_loan id w.loans) 0
quoting_within cost w id d is = elim (find_loan id w.loans) as (λ o. option_map_or (quote_cost cost d) o 0 ≤ option_map_or (quote_cost cost_of_month d) o 0) [
  | None ↦ omega arith
  | Some l ↦ elim (nat_le d l.account.today) as (λ v. (if v then cost l.account (month_of d) else cost (advanced_to d l.account) (month_of l.account.today)) ≤ (if v then cost_of_month l.account (month_of d) else cost_of_month (advanced_to d l.account) (month_of l.account.today))) [
    | true ↦ is l.account (month_of d)
    | false ↦ is (advanced_to d l.account) (month_of l.account.today)
  ]
]

pub asking_within : (cost : Account → ℕ → ℕ) (w : World) (q : Query) → ((b : Account) (p : ℕ) → cost b p ≤ cost_of_month b p) → asking_cost cost w q ≤ query_bound w q
unfolding query_bound
asking_within cost w (query.At id d) is = omega (arith, month_within cost w id (month_of d) is)
asking_within cost w (query.Payoff id d) is = omega (arith, month_within cost w id (month_of d) is)
asking_within cost w (query.Books id) is = omega arith
asking_within cost w (query.Escrow id) is = omega arith
asking_within cost w (query.Report p) is = omega arith
asking_within cost w (query.Trial p) is = omega arith
asking_within cost w query.Custodial is = omega arith
asking_within cost w (query.Rows number) is = omega arith
asking_within cost w (query.Loan id) is = omega arith
asking_within cost w (query.History id) is = omega arith
asking_within cost w (query.Quote id d) is = omega (arith, quoting_within cost w id d is)
asking_within cost w (query.Arrears id) is = omega arith
asking_within cost w query.Aging is = omega arith
asking_within cost w query.Status is = omega arith
asking_within cost w (query.Command number) is = omega arith
asking_within cost w (query.Key key) is = omega arith

-- what a command that is accepted was counted for, before it and by it
pub fresh_counted : (cost mc : Account → ℕ → ℕ) (h h' : List Accepted) (key : List ℕ) (c : Command) (s s' s'' : ℕ) → judged h key c ≡ Fresh → h' ≡ h → s' ≤ s + judging_cost cost h key c → s'' ≤ s' + accepted_cost cost mc h' c → s'' ≤ s + submitting_cost cost mc h key c
fresh_counted cost mc h h' key c s s' s'' fresh same first second =
    let whole : where_fresh (judged h key c) (accepted_cost cost mc h c) ≡ accepted_cost cost mc h c = ap (λ j. where_fresh j (accepted_cost cost mc h c)) fresh in
    let le : s'' ≤ s' + accepted_cost cost mc h c = subst (λ x. s'' ≤ s' + accepted_cost cost mc x c) same second in
    omega (arith, whole, le, first)
