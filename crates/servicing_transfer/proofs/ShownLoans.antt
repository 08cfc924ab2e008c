-- What a command does to the loans of a set is what it does to them in the part of the history.
use Rattle.std.proofs.Common.{◌≡◌, ℕ, suc, ◌+◌, ◌≤◌, ◌<◌, Bool, true, false, cond, List, [], ◌∷◌, map, length, arith, refl, sym, ap, ◌∙◌}
use Rattle.std.specs.Prelude.{◌==◌, nat_lt, nat_le, if◌then◌else◌, Option, Some, None, min}
use Rattle.std.specs.List.{All, AllPairs}
use Rattle.std.specs.Option.{option_map}
use Rattle.std.proofs.lemmas.List.{map-append}
use Rattle.std.proofs.lemmas.List.Elements.{All-cons, All-head, All-tail, All-nil}
use Rattle.std.proofs.lemmas.List.Kept.{AllPairs-cons}
use Rattle.std.proofs.lemmas.Bool.Decides.{nat_tests}
use Rattle.svc_base.specs.Calendar.{last_day}
use Rattle.svc_types.specs.declared.account.Act.{Act}
use Rattle.svc_types.specs.declared.account.Act.TheVariants as act
use Rattle.svc_types.specs.declared.escrow.Plan.{Plan}
use Rattle.svc_types.specs.declared.escrow.Settled.{Settled}
use Rattle.svc_types.specs.declared.books.Books.{Books}
use Rattle.svc_types.proofs.OrderLemmas.{pairs_head, pairs_tail}
use Rattle.svc_spec.specs.Accounts.{Account, books_of}
use Rattle.svc_spec.specs.Months.{books_at_end}
use Rattle.escrow_resolve.specs.Parts.{escrow_parts}
use Rattle.escrow_resolve.specs.Settlement.{settled_plan}
use Rattle.escrow_analysis.specs.AggregateAnalysis.{base}
use Rattle.svc_world.specs.Held.{Held, find_loan, boarded_month, books_now, with_entry, with_reversal, with_loan, changed}
use Rattle.svc_world.specs.LoanDues.{due_of, carry_of}
use Rattle.svc_world.specs.Analysing.{settlement_of, opening_of, year_of_loan, year_begins}
use Rattle.svc_world.specs.World.{entry, with_analysis}
use Rattle.svc_world.proofs.AgreeLemmas.{AgreeBefore, AgreeTo, same_due, same_carried}
use Rattle.svc_world.proofs.LoanListLemmas.{rises, KeepsNumber}
use Rattle.servicing_transfer.proofs.Renumbering.{Counts, AreCounted, entry_at, pair_at, account_at, books_of_at}

-- ---- one loan

-- a loan as the part has it: its entries have their new numbers
abbrev pub loan_at : (ℕ → ℕ) → Held → Held
loan_at place l = record l { account = account_at place l.account }

-- what a part asks of a loan of the whole: its entries are counted, and no month before the part's is due
pub record IsShown (set months : ℕ → Bool) (place : ℕ → ℕ) (l : Held) : Type 0 where
  pub counted : set l.id ≡ true → AreCounted place l.account
  pub since : set l.id ≡ true → (p : ℕ) → months p ≡ false → p < boarded_month l

pub now_shown : (place : ℕ → ℕ) (l : Held) → Counts place → AreCounted place l.account → books_now (loan_at place l) ≡ books_now l
now_shown place l counts are = books_of_at place l.account l.account.today counts are

agrees_at : (place : ℕ → ℕ) (a : Account) (m : ℕ) → Counts place → AreCounted place a → AgreeBefore m a (account_at place a)
unfolding books_at_end
agrees_at place a m counts are = record {
  terms = refl;
  ends = λ p lt. elim (nat_lt p (Rattle.svc_base.specs.Calendar.month_of a.terms.boarded)) as (λ v. (if v then Rattle.svc_spec.specs.Books.start a.terms else books_of (account_at place a) (min (last_day p) a.today)) ≡ (if v then Rattle.svc_spec.specs.Books.start a.terms else books_of a (min (last_day p) a.today))) [
    | true ↦ refl
    | false ↦ books_of_at place a (min (last_day p) a.today) counts are
  ];
}

agrees_to_at : (place : ℕ → ℕ) (l : Held) (m : ℕ) → Counts place → AreCounted place l.account → AgreeTo m l (loan_at place l)
agrees_to_at place l m counts are = record { account = agrees_at place l.account m counts are; kinds = λ p lt. refl }

-- dues and what is carried are the same
pub due_of_at : (place : ℕ → ℕ) (l : Held) (p : ℕ) → Counts place → AreCounted place l.account → due_of (loan_at place l) p ≡ due_of l p
due_of_at place l p counts are = same_due (p + 1 + boarded_month l) l (loan_at place l) p (agrees_to_at place l (p + 1 + boarded_month l) counts are) (omega arith) (omega arith)

pub carry_of_at : (place : ℕ → ℕ) (l : Held) (p : ℕ) → Counts place → AreCounted place l.account → carry_of (loan_at place l) p ≡ carry_of l p
carry_of_at place l p counts are = same_carried (p + 1 + boarded_month l) l (loan_at place l) p (agrees_to_at place l (p + 1 + boarded_month l) counts are) (omega arith) (omega arith)

pub entry_shown : (place : ℕ → ℕ) (n d : ℕ) (a : Act) (l : Held) → loan_at place (with_entry (entry n d a) l) ≡ with_entry (entry (place n) d a) (loan_at place l)
entry_shown place n d a l = ap (λ es. record l { account = record l.account { entries = es; reversals = map (pair_at place) l.account.reversals } }) (map-append (entry_at place) l.account.entries (entry n d a ∷ []))

pub reversal_shown : (place : ℕ → ℕ) (number n : ℕ) (l : Held) → loan_at place (with_reversal number n l) ≡ with_reversal (place number) (place n) (loan_at place l)
reversal_shown place number n l = ap (λ rs. record l { account = record l.account { entries = map (entry_at place) l.account.entries; reversals = rs } }) (map-append (pair_at place) l.account.reversals ((number, n) ∷ []))

-- the settlement of a plan is the same: it reads books, lines and terms
pub settlement_shown : (place : ℕ → ℕ) (l : Held) (plan : Plan) → Counts place → AreCounted place l.account → settlement_of (loan_at place l) plan ≡ settlement_of l plan
settlement_shown place l plan counts are =
    ap (λ (b : Books). settled_plan (escrow_parts b.escrow (opening_of l)) (base (year_of_loan l)) (year_begins l) plan) (now_shown place l counts are)

pub analysis_shown : (place : ℕ → ℕ) (n today : ℕ) (plan : Plan) (l : Held) → Counts place → AreCounted place l.account → loan_at place (with_analysis n today plan l) ≡ with_analysis (place n) today plan (loan_at place l)
analysis_shown place n today plan l counts are =
    entry_shown place n today (act.Analyse (settlement_of l plan)) l
    ∙ ap (λ (s : Settled). with_entry (entry (place n) today (act.Analyse s)) (loan_at place l)) (sym (settlement_shown place l plan counts are))

-- ---- all loans

-- the loans of a set, as the part has them
abbrev pub loans_shown : (ℕ → Bool) → (ℕ → ℕ) → List Held → List Held
loans_shown set place [] = []
loans_shown set place (l ∷ ls) = if set l.id then loan_at place l ∷ loans_shown set place ls else loans_shown set place ls

pub shown_in : (set : ℕ → Bool) (place : ℕ → ℕ) (l : Held) (ls : List Held) → set l.id ≡ true → loans_shown set place (l ∷ ls) ≡ loan_at place l ∷ loans_shown set place ls
shown_in set place l ls is = ap (λ v. if v then loan_at place l ∷ loans_shown set place ls else loans_shown set place ls) is

pub shown_out : (set : ℕ → Bool) (place : ℕ → ℕ) (l : Held) (ls : List Held) → set l.id ≡ false → loans_shown set place (l ∷ ls) ≡ loans_shown set place ls
shown_out set place l ls is = ap (λ v. if v then loan_at place l ∷ loans_shown set place ls else loans_shown set place ls) is

pub shown_mapped : (set : ℕ → Bool) (place : ℕ → ℕ) (f : Held → Held) (ls : List Held) → KeepsNumber f → ((l : Held) → loan_at place (f l) ≡ f (loan_at place l)) → loans_shown set place (map f ls) ≡ map f (loans_shown set place ls)
shown_mapped set place f [] keeps same = refl
shown_mapped set place f (l ∷ ls) keeps same =
    let rest = shown_mapped set place f ls keeps same in
    ap (λ i. if set i then loan_at place (f l) ∷ loans_shown set place (map f ls) else loans_shown set place (map f ls)) (keeps l)
    ∙ elim (set l.id) as (λ v. (if v then loan_at place (f l) ∷ loans_shown set place (map f ls) else loans_shown set place (map f ls)) ≡ map f (if v then loan_at place l ∷ loans_shown set place ls else loans_shown set place ls)) [
      | true ↦ ap (λ k. k ∷ loans_shown set place (map f ls)) (same l) ∙ ap (λ ks. f (loan_at place l) ∷ ks) rest
      | false ↦ rest
    ]

-- one change and another do the same to a loan of the set
abbrev pub Commutes : (ℕ → Bool) → (ℕ → ℕ) → (Held → Held) → (Held → Held) → Held → Type 0
Commutes set place f g l = set l.id ≡ true → loan_at place (f l) ≡ g (loan_at place l)

pub shown_changed : (set : ℕ → Bool) (place : ℕ → ℕ) (id : ℕ) (f g : Held → Held) (ls : List Held) → set id ≡ true → KeepsNumber f → All (Commutes set place f g) ls → loans_shown set place (changed id f ls) ≡ changed id g (loans_shown set place ls)
shown_changed set place id f g [] is keeps same = refl
shown_changed set place id f g (l ∷ ls) is keeps same =
    let rest = shown_changed set place id f g ls is keeps (All-tail (Commutes set place f g) l ls same) in
    elim (l.id == id) as (λ v. (l.id == id) ≡ v → loans_shown set place (if v then f l ∷ ls else l ∷ changed id f ls) ≡ changed id g (loans_shown set place (l ∷ ls))) [
      | true ↦ λ e.
          let number : l.id ≡ id = grind (arith, nat_tests) in
          let member : set l.id ≡ true = ap set number ∙ is in
          let member' : set (f l).id ≡ true = ap set (keeps l) ∙ member in
          shown_in set place (f l) ls member'
          ∙ ap (λ k. k ∷ loans_shown set place ls) (All-head (Commutes set place f g) l ls same member)
          ∙ sym (ap (changed id g) (shown_in set place l ls member) ∙ ap (λ v. if v then g (loan_at place l) ∷ loans_shown set place ls else loan_at place l ∷ changed id g (loans_shown set place ls)) e)
      | false ↦ λ e.
          elim (set l.id) as (λ v. (if v then loan_at place l ∷ loans_shown set place (changed id f ls) else loans_shown set place (changed id f ls)) ≡ changed id g (if v then loan_at place l ∷ loans_shown set place ls else loans_shown set place ls)) [
            | true ↦ ap (λ ks. loan_at place l ∷ ks) rest ∙ sym (ap (λ v. if v then g (loan_at place l) ∷ loans_shown set place ls else loan_at place l ∷ changed id g (loans_shown set place ls)) e)
            | false ↦ rest
          ]
    ] refl

-- a change of a loan outside of the set shows nothing
pub shown_unchanged : (set : ℕ → Bool) (place : ℕ → ℕ) (id : ℕ) (f : Held → Held) (ls : List Held) → set id ≡ false → KeepsNumber f → loans_shown set place (changed id f ls) ≡ loans_shown set place ls
shown_unchanged set place id f [] is keeps = refl
shown_unchanged set place id f (l ∷ ls) is keeps =
    let rest = shown_unchanged set place id f ls is keeps in
    elim (l.id == id) as (λ v. (l.id == id) ≡ v → loans_shown set place (if v then f l ∷ ls else l ∷ changed id f ls) ≡ loans_shown set place (l ∷ ls)) [
      | true ↦ λ e.
          let number : l.id ≡ id = grind (arith, nat_tests) in
          let out : set l.id ≡ false = ap set number ∙ is in
          let out' : set (f l).id ≡ false = ap set (keeps l) ∙ out in
          shown_out set place (f l) ls out' ∙ sym (shown_out set place l ls out)
      | false ↦ λ e. ap (λ ks. if set l.id then loan_at place l ∷ ks else ks) rest
    ] refl

-- a loan before all others stands first
with_first : (set : ℕ → Bool) (place : ℕ → ℕ) (m : Held) (ls : List Held) → All (λ (k : Held). m.id < k.id) ls → with_loan (loan_at place m) (loans_shown set place ls) ≡ loan_at place m ∷ loans_shown set place ls
with_first set place m [] h = refl
with_first set place m (l ∷ ls) h =
    let first : m.id < l.id = All-head (λ (k : Held). m.id < k.id) l ls h in
    let e : nat_lt m.id l.id ≡ true = grind (arith, nat_tests) in
    elim (set l.id) as (λ v. with_loan (loan_at place m) (if v then loan_at place l ∷ loans_shown set place ls else loans_shown set place ls) ≡ loan_at place m ∷ (if v then loan_at place l ∷ loans_shown set place ls else loans_shown set place ls)) [
      | true ↦ ap (λ v. if v then loan_at place m ∷ loan_at place l ∷ loans_shown set place ls else loan_at place l ∷ with_loan (loan_at place m) (loans_shown set place ls)) e
      | false ↦ with_first set place m ls (All-tail (λ (k : Held). m.id < k.id) l ls h)
    ]

above_more : (m l : Held) (ls : List Held) → m.id < l.id → All (rises l) ls → All (λ (k : Held). m.id < k.id) (l ∷ ls)
above_more m l ls lt h = All-cons (λ (k : Held). m.id < k.id) l ls lt (λ i d len. let more : l.id < (Rattle.std.specs.Prelude.get_or ls i d).id = h i d len in omega arith)

pub shown_boarded : (set : ℕ → Bool) (place : ℕ → ℕ) (m : Held) (ls : List Held) → set m.id ≡ true → AllPairs rises ls → loans_shown set place (with_loan m ls) ≡ with_loan (loan_at place m) (loans_shown set place ls)
shown_boarded set place m [] is rise = shown_in set place m [] is
shown_boarded set place m (l ∷ ls) is rise =
    let rest = shown_boarded set place m ls is (pairs_tail rises l ls rise) in
    elim (nat_lt m.id l.id) as (λ v. nat_lt m.id l.id ≡ v → loans_shown set place (if v then m ∷ l ∷ ls else l ∷ with_loan m ls) ≡ with_loan (loan_at place m) (loans_shown set place (l ∷ ls))) [
      | true ↦ λ e.
          let lt : m.id < l.id = grind (arith, nat_tests) in
          shown_in set place m (l ∷ ls) is ∙ sym (with_first set place m (l ∷ ls) (above_more m l ls lt (pairs_head rises l ls rise)))
      | false ↦ λ e.
          elim (set l.id) as (λ v. (if v then loan_at place l ∷ loans_shown set place (with_loan m ls) else loans_shown set place (with_loan m ls)) ≡ with_loan (loan_at place m) (if v then loan_at place l ∷ loans_shown set place ls else loans_shown set place ls)) [
            | true ↦ ap (λ ks. loan_at place l ∷ ks) rest ∙ sym (ap (λ v. if v then loan_at place m ∷ loan_at place l ∷ loans_shown set place ls else loan_at place l ∷ with_loan (loan_at place m) (loans_shown set place ls)) e)
            | false ↦ rest
          ]
    ] refl

pub shown_not_boarded : (set : ℕ → Bool) (place : ℕ → ℕ) (m : Held) (ls : List Held) → set m.id ≡ false → loans_shown set place (with_loan m ls) ≡ loans_shown set place ls
shown_not_boarded set place m [] is = shown_out set place m [] is
shown_not_boarded set place m (l ∷ ls) is =
    let rest = shown_not_boarded set place m ls is in
    elim (nat_lt m.id l.id) as (λ v. loans_shown set place (if v then m ∷ l ∷ ls else l ∷ with_loan m ls) ≡ loans_shown set place (l ∷ ls)) [
      | true ↦ shown_out set place m (l ∷ ls) is
      | false ↦ ap (λ ks. if set l.id then loan_at place l ∷ ks else ks) rest
    ]

pub find_shown : (set : ℕ → Bool) (place : ℕ → ℕ) (id : ℕ) (ls : List Held) → set id ≡ true → find_loan id (loans_shown set place ls) ≡ option_map (loan_at place) (find_loan id ls)
find_shown set place id [] is = refl
find_shown set place id (l ∷ ls) is =
    let rest = find_shown set place id ls is in
    elim (l.id == id) as (λ v. (l.id == id) ≡ v → find_loan id (loans_shown set place (l ∷ ls)) ≡ option_map (loan_at place) (cond v (Some l) (find_loan id ls))) [
      | true ↦ λ e.
          let number : l.id ≡ id = grind (arith, nat_tests) in
          let member : set l.id ≡ true = ap set number ∙ is in
          ap (find_loan id) (shown_in set place l ls member) ∙ ap (λ v. cond v (Some (loan_at place l)) (find_loan id (loans_shown set place ls))) e
      | false ↦ λ e.
          elim (set l.id) as (λ v. find_loan id (if v then loan_at place l ∷ loans_shown set place ls else loans_shown set place ls) ≡ option_map (loan_at place) (find_loan id ls)) [
            | true ↦ ap (λ v. cond v (Some (loan_at place l)) (find_loan id (loans_shown set place ls))) e ∙ rest
            | false ↦ rest
          ]
    ] refl

pub fewer_loans : (set : ℕ → Bool) (place : ℕ → ℕ) (ls : List Held) → length (loans_shown set place ls) ≤ length ls
fewer_loans set place [] = omega arith
fewer_loans set place (l ∷ ls) =
    let rest = fewer_loans set place ls in
    elim (set l.id) as (λ v. length (if v then loan_at place l ∷ loans_shown set place ls else loans_shown set place ls) ≤ suc (length ls)) [
      | true ↦ omega (arith, rest)
      | false ↦ omega (arith, rest)
    ]

-- what holds of the loans of a set in the whole holds of the part's loans
pub shown_all : (P : Held → Type 0) (set : ℕ → Bool) (place : ℕ → ℕ) (ls : List Held) → All (λ l. set l.id ≡ true → P (loan_at place l)) ls → All P (loans_shown set place ls)
shown_all P set place [] h = All-nil P
shown_all P set place (l ∷ ls) h =
    let rest = shown_all P set place ls (All-tail (λ l. set l.id ≡ true → P (loan_at place l)) l ls h) in
    elim (set l.id) as (λ v. set l.id ≡ v → All P (if v then loan_at place l ∷ loans_shown set place ls else loans_shown set place ls)) [
      | true ↦ λ e. All-cons P (loan_at place l) (loans_shown set place ls) (All-head (λ l. set l.id ≡ true → P (loan_at place l)) l ls h e) rest
      | false ↦ λ e. rest
    ] refl

pub rising_shown : (set : ℕ → Bool) (place : ℕ → ℕ) (ls : List Held) → AllPairs rises ls → AllPairs rises (loans_shown set place ls)
rising_shown set place [] h = h
rising_shown set place (l ∷ ls) h =
    let rest = rising_shown set place ls (pairs_tail rises l ls h) in
    let above = pairs_head rises l ls h in
    elim (set l.id) as (λ v. AllPairs rises (if v then loan_at place l ∷ loans_shown set place ls else loans_shown set place ls)) [
      | true ↦ AllPairs-cons rises (loan_at place l) (loans_shown set place ls) (shown_all (rises (loan_at place l)) set place ls (λ i d len is. above i d len)) rest
      | false ↦ rest
    ]
