-- What lines of a report send for each loan, and what was remitted for it with them.
use Rattle.std.proofs.Common.{◌≡◌, ℕ, zero, suc, ◌+◌, ◌<◌, true, false, cond, List, [], ◌∷◌, map, length, take, get_or, ℤ, pos, neg_ℤ, ◌+ℤ◌, ◌≤ℤ◌, w64, to_z, of_z, arith, refl, sym, ap, subst, ◌∙◌}
use Rattle.std.specs.Prelude.{◌==◌, is_some, Option, Some, None, MatchOption, if◌then◌else◌}
use Rattle.std.specs.List.{All, AllPairs}
use Rattle.std.proofs.lemmas.Int.{ints}
use Rattle.std.proofs.lemmas.Bool.Decides.{nat_tests}
use Rattle.std.proofs.lemmas.List.{take_more}
use Rattle.std.proofs.lemmas.List.Elements.{All-head, All-tail, All-take}
use Rattle.svc_base.specs.Sums.{total_by}
use Rattle.svc_base.proofs.SumLemmas.{total_by-push}
use Rattle.svc_types.proofs.OrderLemmas.{pairs_head, pairs_tail}
use Rattle.period_adjust.specs.declared.report_line.ReportLine.{ReportLine}
use Rattle.svc_world.specs.Custody.{sent_of_line}
use Rattle.svc_loan.specs.Kept.{KeptLoan}
use Rattle.svc_loan.specs.Loans.{OfLoan, find_kept, held_in, remitted_in, remitted_by}
use Rattle.svc_loan.proofs.ClosedLemmas.{cents_same}
use Rattle.svc_core.specs.Reported.{IsSmallSent, IsSmallRemitted, AreSent, sent_to, remitted_with}

-- ---- one line of a loan at most

abbrev pub by_loan : ReportLine → ReportLine → Type 0
by_loan l m = l.loan < m.loan

-- what lines say of a loan
abbrev pub own : (ReportLine → ℤ) → ℕ → ReportLine → ℤ
own f id l = if l.loan == id then f l else pos 0

-- from -m to m
pub record IsAround (m : ℕ) (z : ℤ) : Type 0 where
  pub low : neg_ℤ (pos m) ≤ℤ z
  pub high : z ≤ℤ pos m

own_yes : (f : ReportLine → ℤ) (id : ℕ) (l : ReportLine) → (l.loan == id) ≡ true → own f id l ≡ f l
own_yes f id l e = rw e refl

own_no : (f : ReportLine → ℤ) (id : ℕ) (l : ReportLine) → (l.loan == id) ≡ false → own f id l ≡ pos 0
own_no f id l e = rw e refl

later_none : (f : ReportLine → ℤ) (id : ℕ) (ls : List ReportLine) → All (λ (l : ReportLine). id < l.loan) ls → total_by (own f id) ls ≡ pos 0
later_none f id [] h = refl
later_none f id (l ∷ ls) h =
    let P : ReportLine → Type 0 = λ x. id < x.loan in
    let lt : id < l.loan = All-head P l ls h in
    let none = own_no f id l (grind (arith, nat_tests)) in
    let rest = later_none f id ls (All-tail P l ls h) in
    omega (arith, ints, none, rest)

-- the first of some lines by rising loan
pub own_around : (f : ReportLine → ℤ) (id m : ℕ) (ls : List ReportLine) (i : ℕ) → AllPairs by_loan ls → All (λ (l : ReportLine). IsAround m (f l)) ls → IsAround m (total_by (own f id) (take i ls))
own_around f id m [] zero up h = record { low = omega (arith, ints); high = omega (arith, ints) }
own_around f id m [] (suc i) up h = record { low = omega (arith, ints); high = omega (arith, ints) }
own_around f id m (l ∷ ls) zero up h = record { low = omega (arith, ints); high = omega (arith, ints) }
own_around f id m (l ∷ ls) (suc i) up h =
    let P : ReportLine → Type 0 = λ x. IsAround m (f x) in
    let rest = own_around f id m ls i (pairs_tail by_loan l ls up) (All-tail P l ls h) in
    let here = All-head P l ls h in
    let r0 = rest.low in
    let r1 = rest.high in
    let h0 = here.low in
    let h1 = here.high in
    elim (l.loan == id) as (λ v. (l.loan == id) ≡ v → IsAround m (own f id l +ℤ total_by (own f id) (take i ls))) [
      | true ↦ λ e.
          let number : l.loan ≡ id = grind (arith, nat_tests) in
          let above = subst (λ n. All (λ (x : ReportLine). n < x.loan) ls) number (pairs_head by_loan l ls up) in
          let none = later_none f id (take i ls) (All-take (λ (x : ReportLine). id < x.loan) i ls above) in
          let mine = own_yes f id l e in
          record { low = omega (arith, ints, none, mine, h0); high = omega (arith, ints, none, mine, h1) }
      | false ↦ λ e.
          let none = own_no f id l e in
          record { low = omega (arith, ints, none, r0); high = omega (arith, ints, none, r1) }
    ] refl

-- the line of a loan says all that they say of it
pub own_here : (f : ReportLine → ℤ) (ls : List ReportLine) (i : ℕ) (d : ReportLine) → AllPairs by_loan ls → i < length ls → total_by (own f (get_or ls i d).loan) ls ≡ f (get_or ls i d)
own_here f [] i d up lt = absurd (omega arith)
own_here f (l ∷ ls) zero d up lt =
    let mine = own_yes f l.loan l (grind (arith, nat_tests)) in
    let none = later_none f l.loan ls (pairs_head by_loan l ls up) in
    omega (arith, ints, mine, none)
own_here f (l ∷ ls) (suc i) d up lt =
    let above : l.loan < (get_or ls i d).loan = pairs_head by_loan l ls up i d (omega arith) in
    let none = own_no f (get_or ls i d).loan l (grind (arith, nat_tests)) in
    let rest = own_here f ls i d (pairs_tail by_loan l ls up) (omega arith) in
    omega (arith, ints, none, rest)

-- ---- what a line sends

pub sent_around : (l : ReportLine) → IsSmallSent l → IsAround 100_000_000_000_000 (sent_of_line l)
sent_around l h =
    let i0 = h.interest.low in
    let i1 = h.interest.high in
    let p0 = h.principal.low in
    let p1 = h.principal.high in
    record { low = omega (arith, ints, i0, p0); high = omega (arith, ints, i1, p1) }

-- as a number of 64 bits
pub sent_same : (z : ℤ) (l : ReportLine) → IsSmallSent l → z ≡ sent_of_line l → to_z w64 (of_z w64 z) ≡ sent_of_line l
sent_same z l h is =
    let around = sent_around l h in
    let low = around.low in
    let high = around.high in
    cents_same z (omega (arith, ints, low, is)) (omega (arith, ints, high, is)) ∙ is

-- ---- what was remitted with the first lines

-- what holds of the loan with a number, by what was remitted for each
of_sent : (P : KeptLoan → Type 0) (f : KeptLoan → ℤ) (id : ℕ) (ks js : List KeptLoan) → held_in js ≡ held_in ks → remitted_in js ≡ map f ks → is_some (find_kept id ks) ≡ true → All (λ (k : KeptLoan). (j : KeptLoan) → j.remitted ≡ f k → P j) ks → OfLoan id js P
of_sent P f id [] [] h r there all = absurd (cc)
of_sent P f id [] (j ∷ js) h r there all = absurd (cc)
of_sent P f id (k ∷ ks) [] h r there all = absurd (cc)
of_sent P f id (k ∷ ks) (j ∷ js) h r there all =
    let Q : KeptLoan → Type 0 = λ x. (y : KeptLoan) → y.remitted ≡ f x → P y in
    let same : j.held ≡ k.held = cc in
    let sent : j.remitted ≡ f k = cc in
    let rest : held_in js ≡ held_in ks = cc in
    let others : remitted_in js ≡ map f ks = cc in
    elim (k.held.id == id) as (λ v. (k.held.id == id) ≡ v → is_some (cond v (Some k) (find_kept id ks)) ≡ true → OfLoan id (j ∷ js) P) [
      | true ↦ λ e t.
          let mine : (j.held.id == id) ≡ true = ap (λ (l : _). l.id == id) same ∙ e in
          let P' : Option KeptLoan → Type 0 = λ o. MatchOption o ⊥ P in
          subst P' (ap (λ v. cond v (Some j) (find_kept id js)) (sym mine)) (All-head Q k ks all j sent)
      | false ↦ λ e t.
          let other : (j.held.id == id) ≡ false = ap (λ (l : _). l.id == id) same ∙ e in
          let P' : Option KeptLoan → Type 0 = λ o. MatchOption o ⊥ P in
          subst P' (ap (λ v. cond v (Some j) (find_kept id js)) (sym other)) (of_sent P f id ks js rest others t (All-tail Q k ks all))
    ] refl there

-- what is remitted for a loan stays within the limits, with one line more
pub record IsWithinLimits (cents : ℤ) (k : KeptLoan) : Type 0 where
  pub low : neg_ℤ (pos 1_000_000_000_000_000_000) ≤ℤ (k.remitted +ℤ cents)
  pub high : (k.remitted +ℤ cents) ≤ℤ pos 1_000_000_000_000_000_000

pub may_send : (ls : List ReportLine) (i : ℕ) (l : ReportLine) (cents : ℤ) (ks js : List KeptLoan) → AreSent ls → IsSmallSent l → cents ≡ sent_of_line l → All IsSmallRemitted ks → is_some (find_kept l.loan ks) ≡ true → held_in js ≡ held_in ks → remitted_in js ≡ map (remitted_with (take i ls)) ks → OfLoan l.loan js (IsWithinLimits cents)
may_send ls i l cents ks js sent small is few there held remitted =
    of_sent (IsWithinLimits cents) (remitted_with (take i ls)) l.loan ks js held remitted there (λ n d lt.
    λ j same.
    let k = get_or ks n d in
    let before = few n d lt in
    let b0 = before.low in
    let b1 = before.high in
    let line = sent_around l small in
    let l0 = line.low in
    let l1 = line.high in
    let others = own_around sent_of_line k.held.id 100_000_000_000_000 ls i sent.rising (λ m x in'. sent_around (get_or ls m x) (sent.small m x in')) in
    let o0 = others.low in
    let o1 = others.high in
    record { low = omega (arith, ints, same, b0, l0, o0, is); high = omega (arith, ints, same, b1, l1, o1, is) })

-- one line more
one_sent : (ls : List ReportLine) (i : ℕ) (d : ReportLine) (cents : ℤ) (k j : KeptLoan) → i < length ls → cents ≡ sent_of_line (get_or ls i d) → j.held ≡ k.held → j.remitted ≡ remitted_with (take i ls) k → remitted_by (get_or ls i d).loan cents j ≡ remitted_with (take (i + 1) ls) k
one_sent ls i d cents k j lt is held remitted =
    let l = get_or ls i d in
    let id = k.held.id in
    let more : total_by (sent_to id) (take (i + 1) ls) ≡ total_by (sent_to id) (take i ls) +ℤ sent_to id l = ap (total_by (sent_to id)) (take_more ls i d lt) ∙ total_by-push (sent_to id) (take i ls) l in
    ap (λ (h : _). if h.id == l.loan then j.remitted +ℤ cents else j.remitted) held
    ∙ (elim (id == l.loan) as (λ v. (id == l.loan) ≡ v → (if v then j.remitted +ℤ cents else j.remitted) ≡ remitted_with (take (i + 1) ls) k) [
      | true ↦ λ e.
          let mine : sent_to id l ≡ sent_of_line l = own_yes sent_of_line id l (grind (arith, nat_tests)) in
          omega (arith, ints, more, mine, remitted, is)
      | false ↦ λ e.
          let none : sent_to id l ≡ pos 0 = own_no sent_of_line id l (grind (arith, nat_tests)) in
          omega (arith, ints, more, none, remitted)
    ] refl)

pub all_sent : (ls : List ReportLine) (i : ℕ) (d : ReportLine) (cents : ℤ) (ks js : List KeptLoan) → i < length ls → cents ≡ sent_of_line (get_or ls i d) → held_in js ≡ held_in ks → remitted_in js ≡ map (remitted_with (take i ls)) ks → map (remitted_by (get_or ls i d).loan cents) js ≡ map (remitted_with (take (i + 1) ls)) ks
all_sent ls i d cents [] [] lt is h r = refl
all_sent ls i d cents [] (j ∷ js) lt is h r = absurd (cc)
all_sent ls i d cents (k ∷ ks) [] lt is h r = absurd (cc)
all_sent ls i d cents (k ∷ ks) (j ∷ js) lt is h r =
    let same : j.held ≡ k.held = cc in
    let sent : j.remitted ≡ remitted_with (take i ls) k = cc in
    ap (λ z. z ∷ map (remitted_by (get_or ls i d).loan cents) js) (one_sent ls i d cents k j lt is same sent)
    ∙ ap (λ zs. remitted_with (take (i + 1) ls) k ∷ zs) (all_sent ls i d cents ks js lt is (cc) (cc))

pub of_weaker : (P Q : KeptLoan → Type 0) (o : Option KeptLoan) → ((k : KeptLoan) → P k → Q k) → MatchOption o ⊥ P → MatchOption o ⊥ Q
of_weaker P Q None f h = h
of_weaker P Q (Some k) f h = f k h

-- the line that is read where there is none
abbrev pub no_line : ReportLine
no_line = record { loan = 0; interest = pos 0; principal = pos 0; adj_interest = pos 0; adj_principal = pos 0; upb = pos 0; balance = pos 0 }
