-- The least month in which a loan of a set was boarded: over commands and over loans.
use Rattle.std.proofs.Common.{◌≡◌, ℕ, ◌+◌, ◌≤◌, ◌<◌, Bool, true, false, List, [], ◌∷◌, map, arith, refl, sym, ap, subst, ◌∙◌}
use Rattle.std.specs.Prelude.{◌==◌, nat_lt, nat_le, min, fold, if◌then◌else◌, Option, Some, None, IfSome}
use Rattle.std.specs.List.{All}
use Rattle.std.proofs.lemmas.List.Elements.{All-head, All-tail}
use Rattle.std.proofs.lemmas.Bool.Decides.{nat_tests}
use Rattle.svc_base.specs.Calendar.{month_of}
use Rattle.svc_types.specs.declared.account.Act.TheVariants as act
use Rattle.svc_types.specs.declared.requests.Command.{Command}
use Rattle.svc_types.specs.declared.requests.Command.TheVariants as command
use Rattle.period_adjust.specs.Sums.{report_of}
use Rattle.period_adjust.specs.Conditions.{last_month}
use Rattle.period_adjust.proofs.KeptLemmas.{last_month-push}
use Rattle.svc_world.specs.Held.{Held, boarded_month, boarded, with_entry, with_reversal, on_day, with_bill, without_bill, with_type, with_loan, changed}
use Rattle.svc_world.specs.LoanDues.{type_change}
use Rattle.svc_world.specs.Reports.{lines_of}
use Rattle.svc_world.specs.World.{World, Accepted, entry, with_analysis, loans_after, seals_after, after}
use Rattle.svc_world.specs.Refusals.{least_boarded, first_expected, refusal_of}
use Rattle.svc_world.proofs.LoanListLemmas.{KeepsNumber}
use Rattle.svc_world.proofs.BoardWorlds.{boarding}
use Rattle.svc_world.proofs.ClosedWorlds.{closing}
use Rattle.svc_world.proofs.HistoryLemmas.{AreAccepted}
use Rattle.servicing_transfer.specs.Parts.{earlier, with_board, is_since}
use Rattle.servicing_transfer.proofs.ShownLoans.{loan_at, loans_shown}

-- ---- over loans

earlier_swap : (a b : ℕ) (o : Option ℕ) → earlier a (earlier b o) ≡ earlier b (earlier a o)
earlier_swap a b None = let e : min a b ≡ min b a = omega arith in ap Some e
earlier_swap a b (Some n) = let e : min a (min b n) ≡ min b (min a n) = omega arith in ap Some e

-- the least month with one more loan
abbrev pub least_with : (ℕ → Bool) → ℕ → ℕ → Option ℕ → Option ℕ
least_with set id month o = if set id then earlier month o else o

-- the least boarded month of a set's loans
abbrev pub least_of : (ℕ → Bool) → List Held → Option ℕ
least_of set [] = None
least_of set (l ∷ ls) = least_with set l.id (boarded_month l) (least_of set ls)

with_swap : (set : ℕ → Bool) (i j a b : ℕ) (o : Option ℕ) → least_with set i a (least_with set j b o) ≡ least_with set j b (least_with set i a o)
with_swap set i j a b o =
    elim (set i) as (λ u. (if u then earlier a (least_with set j b o) else least_with set j b o) ≡ least_with set j b (if u then earlier a o else o)) [
      | true ↦ elim (set j) as (λ v. earlier a (if v then earlier b o else o) ≡ (if v then earlier b (earlier a o) else earlier a o)) [ true ↦ earlier_swap a b o | false ↦ refl ]
      | false ↦ refl
    ]

-- a change that keeps a loan's number and its boarded month
record KeepsMonth (f : Held → Held) : Type 0 where
  number : KeepsNumber f
  month : (k : Held) → boarded_month (f k) ≡ boarded_month k

one_same : (set : ℕ → Bool) (f : Held → Held) (l : Held) (o : Option ℕ) → KeepsMonth f → least_with set (f l).id (boarded_month (f l)) o ≡ least_with set l.id (boarded_month l) o
one_same set f l o keeps = ap (λ i. least_with set i (boarded_month (f l)) o) (keeps.number l) ∙ ap (λ m. least_with set l.id m o) (keeps.month l)

least_changed : (set : ℕ → Bool) (id : ℕ) (f : Held → Held) (ls : List Held) → KeepsMonth f → least_of set (changed id f ls) ≡ least_of set ls
least_changed set id f [] keeps = refl
least_changed set id f (l ∷ ls) keeps =
    let rest = least_changed set id f ls keeps in
    elim (l.id == id) as (λ v. least_of set (if v then f l ∷ ls else l ∷ changed id f ls) ≡ least_of set (l ∷ ls)) [
      | true ↦ one_same set f l (least_of set ls) keeps
      | false ↦ ap (least_with set l.id (boarded_month l)) rest
    ]

least_mapped : (set : ℕ → Bool) (f : Held → Held) (ls : List Held) → KeepsMonth f → least_of set (map f ls) ≡ least_of set ls
least_mapped set f [] keeps = refl
least_mapped set f (l ∷ ls) keeps = one_same set f l (least_of set (map f ls)) keeps ∙ ap (least_with set l.id (boarded_month l)) (least_mapped set f ls keeps)

least_more : (set : ℕ → Bool) (m : Held) (ls : List Held) → least_of set (with_loan m ls) ≡ least_with set m.id (boarded_month m) (least_of set ls)
least_more set m [] = refl
least_more set m (l ∷ ls) =
    let rest = least_more set m ls in
    elim (nat_lt m.id l.id) as (λ v. least_of set (if v then m ∷ l ∷ ls else l ∷ with_loan m ls) ≡ least_with set m.id (boarded_month m) (least_of set (l ∷ ls))) [
      | true ↦ refl
      | false ↦ ap (least_with set l.id (boarded_month l)) rest ∙ with_swap set l.id m.id (boarded_month l) (boarded_month m) (least_of set ls)
    ]

plain : (f : Held → Held) → ((k : Held) → (f k).id ≡ k.id) → ((k : Held) → boarded_month (f k) ≡ boarded_month k) → KeepsMonth f
plain f a b = record { number = a; month = b }

-- the least month after one command more
pub least_after : (set : ℕ → Bool) (n today : ℕ) (loans : List Held) (c : Command) → least_of set (loans_after n today loans c) ≡ with_board set (least_of set loans) c
unfolding loans_after
least_after set n today loans (command.Day d) = least_mapped set (on_day d) loans (plain (on_day d) (λ k. refl) (λ k. refl))
least_after set n today loans (command.Board id t) = least_more set (boarded id t today) loans
least_after set n today loans (command.Pay id d c over) = least_changed set id (with_entry (entry n d (act.Pay c over))) loans (plain (with_entry (entry n d (act.Pay c over))) (λ k. refl) (λ k. refl))
least_after set n today loans (command.Curtail id d c) = least_changed set id (with_entry (entry n d (act.Curtail c))) loans (plain (with_entry (entry n d (act.Curtail c))) (λ k. refl) (λ k. refl))
least_after set n today loans (command.Payoff id d c) = least_changed set id (with_entry (entry n d (act.Payoff c))) loans (plain (with_entry (entry n d (act.Payoff c))) (λ k. refl) (λ k. refl))
least_after set n today loans (command.Deposit id d c) = least_changed set id (with_entry (entry n d (act.Deposit c))) loans (plain (with_entry (entry n d (act.Deposit c))) (λ k. refl) (λ k. refl))
least_after set n today loans (command.Disburse id d c line) = least_changed set id (with_entry (entry n d (act.Disburse c line))) loans (plain (with_entry (entry n d (act.Disburse c line))) (λ k. refl) (λ k. refl))
least_after set n today loans (command.Refund id c) = least_changed set id (with_entry (entry n today (act.Refund c))) loans (plain (with_entry (entry n today (act.Refund c))) (λ k. refl) (λ k. refl))
least_after set n today loans (command.Waive id c) = least_changed set id (with_entry (entry n today (act.Waive c))) loans (plain (with_entry (entry n today (act.Waive c))) (λ k. refl) (λ k. refl))
least_after set n today loans (command.Reverse id number) = least_changed set id (with_reversal number n) loans (plain (with_reversal number n) (λ k. refl) (λ k. refl))
least_after set n today loans (command.Line id line kind month every c) = least_changed set id (with_bill (record { id = line; kind = kind; month = month; every = every; cents = c })) loans (plain (with_bill (record { id = line; kind = kind; month = month; every = every; cents = c })) (λ k. refl) (λ k. refl))
least_after set n today loans (command.Drop id line) = least_changed set id (without_bill line) loans (plain (without_bill line) (λ k. refl) (λ k. refl))
least_after set n today loans (command.Analyse id plan) = least_changed set id (with_analysis n today plan) loans (plain (with_analysis n today plan) (λ k. refl) (λ k. refl))
least_after set n today loans (command.Close p) = refl
least_after set n today loans (command.Remit p) = refl
least_after set n today loans (command.Retype id from kind) = least_changed set id (with_type (type_change from kind)) loans (plain (with_type (type_change from kind)) (λ k. refl) (λ k. refl))

-- the least boarded month of some loans
abbrev least_all : List Held → Option ℕ
least_all [] = None
least_all (l ∷ ls) = earlier (boarded_month l) (least_all ls)

-- the first month that a part closes is the least boarded one of its loans
expected_is : (d : ℕ) (ls : List Held) (m : ℕ) → least_all ls ≡ Some m → first_expected d ls ≡ m
expected_is d [] m e = absurd (cc)
expected_is d (l ∷ ls) m e = walk (boarded_month l) ls m e
  where
    merged : (a b : ℕ) (o : Option ℕ) → earlier a (earlier b o) ≡ earlier (min a b) o
    merged a b None = refl
    merged a b (Some n) = let e : min a (min b n) ≡ min (min a b) n = omega arith in ap Some e

    walk : (a : ℕ) (ks : List Held) (m : ℕ) → earlier a (least_all ks) ≡ Some m → least_boarded a ks ≡ m
    walk a [] m e = cc
    walk a (k ∷ ks) m e = walk (min a (boarded_month k)) ks m (sym (merged a (boarded_month k) (least_all ks)) ∙ e)

least_shown : (set : ℕ → Bool) (place : ℕ → ℕ) (ls : List Held) → least_all (loans_shown set place ls) ≡ least_of set ls
least_shown set place [] = refl
least_shown set place (l ∷ ls) =
    let rest = least_shown set place ls in
    elim (set l.id) as (λ v. least_all (if v then loan_at place l ∷ loans_shown set place ls else loans_shown set place ls) ≡ (if v then earlier (boarded_month l) (least_of set ls) else least_of set ls)) [
      | true ↦ ap (earlier (boarded_month l)) rest
      | false ↦ rest
    ]

pub first_is : (set : ℕ → Bool) (place : ℕ → ℕ) (d m : ℕ) (ls : List Held) → least_of set ls ≡ Some m → first_expected d (loans_shown set place ls) ≡ m
first_is set place d m ls e = expected_is d (loans_shown set place ls) m (least_shown set place ls ∙ e)

-- no loan of the set was boarded before the least month
pub least_low : (set : ℕ → Bool) (p m : ℕ) (ls : List Held) → All (λ (l : Held). p ≤ boarded_month l) ls → least_of set ls ≡ Some m → p ≤ m
least_low set p m [] h e = absurd (cc)
least_low set p m (l ∷ ls) h e =
    let here : p ≤ boarded_month l = All-head (λ (k : Held). p ≤ boarded_month k) l ls h in
    elim (least_of set ls) as (λ o. least_of set ls ≡ o → least_with set l.id (boarded_month l) o ≡ Some m → p ≤ m) [
      | None ↦ λ is one. elim (set l.id) as (λ v. (if v then Some (boarded_month l) else None) ≡ Some m → p ≤ m) [
        | true ↦ λ x. let same : boarded_month l ≡ m = cc in omega (arith, here)
        | false ↦ λ x. absurd (cc)
      ] one
      | Some k ↦ λ is one.
          let rest = least_low set p k ls (All-tail (λ (x : Held). p ≤ boarded_month x) l ls h) is in
          elim (set l.id) as (λ v. (if v then Some (min (boarded_month l) k) else Some k) ≡ Some m → p ≤ m) [
            | true ↦ λ x. let same : min (boarded_month l) k ≡ m = cc in omega (arith, here, rest)
            | false ↦ λ x. let same : k ≡ m = cc in omega (arith, rest)
          ] one
    ] refl e

-- ---- over the commands to come

-- the least month after some more commands
abbrev pub least_from : (ℕ → Bool) → Option ℕ → List Accepted → Option ℕ
least_from set o more = fold (λ least (a : Accepted). with_board set least a.command) o more

-- a month is at most another one that need be there
abbrev pub Reaches : ℕ → Option ℕ → Type 0
Reaches p None = ⊥
Reaches p (Some last) = p ≤ last

board_low : (set : ℕ → Bool) (m : ℕ) (c : Command) → IfSome (with_board set (Some m) c) (λ k. k ≤ m)
board_low set m (command.Board id t) = elim (set id) as (λ v. IfSome (if v then Some (min (month_of t.boarded) m) else Some m) (λ k. k ≤ m)) [ true ↦ omega arith | false ↦ omega arith ]
board_low set m c = omega arith

-- what was boarded stays boarded: the least month only falls
record IsFallen (m : ℕ) (o : Option ℕ) : Type 0 where
  pub least : ℕ
  pub is : o ≡ Some least
  pub low : least ≤ m

fallen_on : (m k : ℕ) (o : Option ℕ) → k ≤ m → IsFallen k o → IsFallen m o
fallen_on m k o le h = record { least = h.least; is = h.is; low = omega (arith, h.low) }

from_low : (set : ℕ → Bool) (m : ℕ) (more : List Accepted) → IsFallen m (least_from set (Some m) more)
from_low set m [] = record { least = m; is = refl; low = omega arith }
from_low set m (a ∷ more) =
    elim (with_board set (Some m) a.command) as (λ o. with_board set (Some m) a.command ≡ o → IfSome o (λ k. k ≤ m) → IsFallen m (least_from set o more)) [
      | None ↦ λ e h. absurd (never a.command e)
      | Some k ↦ λ e h. fallen_on m k (least_from set (Some k) more) h (from_low set k more)
    ] refl (board_low set m a.command)
  where
    never : (c : Command) → with_board set (Some m) c ≡ None → ⊥
    never (command.Board id t) e = elim (set id) as (λ v. (if v then Some (min (month_of t.boarded) m) else Some m) ≡ None → ⊥) [ true ↦ λ x. cc | false ↦ λ x. cc ] e
    never c e = cc

-- a month before the least one of the whole is before the month of a loan that is boarded now
pub board_since : (set : ℕ → Bool) (month p : ℕ) (o : Option ℕ) (more : List Accepted) → is_since (least_from set (earlier month o) more) p ≡ false → p < month
board_since set month p None more e = before (from_low set month more) e
  where
    before : IsFallen month (least_from set (Some month) more) → is_since (least_from set (Some month) more) p ≡ false → p < month
    before h e = let no : is_since (Some h.least) p ≡ false = ap (λ x. is_since x p) (sym h.is) ∙ e in let low = h.low in grind (arith, nat_tests)
board_since set month p (Some k) more e = before (from_low set (min month k) more) e
  where
    before : IsFallen (min month k) (least_from set (Some (min month k)) more) → is_since (least_from set (Some (min month k)) more) p ≡ false → p < month
    before h e =
        let no : nat_le h.least p ≡ false = ap (λ x. is_since x p) (sym h.is) ∙ e in
        let lt : p < h.least = grind (arith, nat_tests) in
        let low = h.low in
        omega arith

-- the last closed month never falls
last_on : (n p : ℕ) (w : World) (c : Command) → refusal_of n w c ≡ None → Reaches p (last_month w.seals.reports) → Reaches p (last_month (after (n + 1) w c).seals.reports)
unfolding after seals_after
last_on n p w (command.Close q) none h =
    let is = (closing n q w none).0 in
    subst (Reaches p) (sym (last_month-push w.seals.reports (report_of q (lines_of w.seals.pending q (loans_after (n + 1) w.today w.loans (command.Close q))) w.seals.pending))) (next (last_month w.seals.reports) is.next h)
  where
    next : (o : Option ℕ) → IfSome o (λ last. q ≡ last + 1) → Reaches p o → p ≤ q
    next None e h = absurd h
    next (Some last) e h = omega (arith, e, h)
last_on n p w c none h = h

-- where a month is closed, a least month that is not after it was boarded before
pub boarded_before : (set : ℕ → Bool) (p m n : ℕ) (w : World) (o : Option ℕ) (more : List Accepted) → AreAccepted n w more → Reaches p (last_month w.seals.reports) → least_from set o more ≡ Some m → m ≤ p → o ≡ Some m
boarded_before set p m n w o [] all reach e le = e
boarded_before set p m n w o (a ∷ more) all reach e le =
    let rest = boarded_before set p m (n + 1) (after (n + 1) w a.command) (with_board set o a.command) more all.1 (last_on n p w a.command all.0.1 reach) e le in
    back a.command all.0.1 rest
  where
    late : (o : Option ℕ) (month : ℕ) → IfSome o (λ last. last < month) → Reaches p o → p < month
    late None month lt h = absurd h
    late (Some last) month lt h = omega (arith, lt, h)

    was : (month : ℕ) (o : Option ℕ) → p < month → earlier month o ≡ Some m → o ≡ Some m
    was month None lt is = let same : month ≡ m = cc in absurd (omega arith)
    was month (Some k) lt is = let same : min month k ≡ m = cc in let this : k ≡ m = omega arith in ap Some this

    back : (c : Command) → refusal_of n w c ≡ None → with_board set o c ≡ Some m → o ≡ Some m
    back (command.Board id t) none is =
        let b = boarding n id t w none in
        elim (set id) as (λ v. (if v then earlier (month_of t.boarded) o else o) ≡ Some m → o ≡ Some m) [
          | true ↦ λ x. was (month_of t.boarded) o (late (last_month w.seals.reports) (month_of t.boarded) b.late reach) x
          | false ↦ λ x. x
        ] is
    back c none is = is
