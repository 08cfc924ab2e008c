-- What the reports of a sound world send, and the one that is remitted next.
use Rattle.std.proofs.Common.{◌≡◌, ℕ, suc, ◌+◌, ◌≤◌, ◌<◌, Bool, true, false, not, cond, List, [], ◌∷◌, ◌++◌, map, length, take, get_or, pos, ◌+ℤ◌, arith, refl, sym, ap, subst, ◌∙◌}
use Rattle.std.specs.Prelude.{◌==◌, nat_le, is_some, Option, Some, None, if◌then◌else◌}
use Rattle.std.specs.List.{All, AllPairs, filter}
use Rattle.std.specs.Option.{option_map_or}
use Rattle.std.proofs.lemmas.Int.{ints}
use Rattle.std.proofs.lemmas.Bool.Decides.{nat_tests}
use Rattle.std.proofs.lemmas.List.{take_more}
use Rattle.std.proofs.lemmas.List.Elements.{All-head, All-tail, All-cons}
use Rattle.svc_base.specs.Sums.{total_by}
use Rattle.svc_base.proofs.SumLemmas.{total_by-push}
use Rattle.svc_types.proofs.OrderLemmas.{pairs_head, pairs_tail}
use Rattle.svc_types.specs.declared.requests.Command.TheVariants as command
use Rattle.svc_types.specs.declared.replies.Extra.TheVariants.{Plain, Remitted}
use Rattle.svc_types.specs.declared.replies.Refusal.TheVariants.{WrongRemit}
use Rattle.period_adjust.specs.declared.report_line.ReportLine.{ReportLine}
use Rattle.period_adjust.specs.Sealed.{Sealed, Reporting, State}
use Rattle.period_adjust.specs.Sums.{DuePart, Interest, Principal}
use Rattle.period_adjust.specs.Totals.{part_of_line, part_of_sums}
use Rattle.period_adjust.specs.Conditions.{IsClosed, last_month}
use Rattle.period_adjust.specs.Kept.{AreConsecutive, is_after, next_remit, remit_fault}
use Rattle.svc_world.specs.Held.{Held, find_loan}
use Rattle.svc_world.specs.Reports.{months_of, changes_of}
use Rattle.svc_world.specs.World.{World, loans_after, seals_after, after}
use Rattle.svc_world.specs.Custody.{sent_for, remitted_reports, remitted_for}
use Rattle.svc_world.specs.Refusals.{case, refusal_of, full_of_commands, not_closed, is_closed_by, expected_remit, remit_cases}
use Rattle.svc_world.specs.Judging.{report_for, net_of, extra_of}
use Rattle.svc_world.specs.Worlds.{IsThere, IsPassed, sent_part, IsWorld}
use Rattle.svc_world.proofs.LoanListLemmas.{rises}
use Rattle.svc_world.proofs.CaseLemmas.{past}
use Rattle.svc_world.proofs.DayWorlds.{none_pending, kept_none, remitted_closed}
use Rattle.svc_world.proofs.RemittedLemmas.{later_none, remitted_within}
use Rattle.svc_loan.specs.Kept.{KeptLoan}
use Rattle.svc_loan.specs.Loans.{KeptLoans, find_kept, held_in, closed_in, remitted_in}
use Rattle.svc_custody.specs.Cash.{IsKeptIn}
use Rattle.svc_core.specs.Reported.{IsSmallPart, IsSmallRemitted, AreSent, remitted_with}
use Rattle.svc_core.specs.State.{world_of, IsState}
use Rattle.svc_rules.proofs.RuleLemmas.{find-held, some-mapped}
use Rattle.svc_core.proofs.RemittingLemmas.{by_loan, own_here}
use Rattle.svc_core.proofs.EveryoneLemmas.{kept_by}

-- ---- no more lines than loans

abbrev is_there : List Held → ReportLine → Type 0
is_there loans l = is_some (find_loan l.loan loans) ≡ true

after_first : (k : Held) (ks : List Held) (l : ReportLine) → k.id < l.loan → is_there (k ∷ ks) l → is_there ks l
after_first k ks l lt h =
    let apart : (k.id == l.loan) ≡ false = grind (arith, nat_tests) in
    sym (ap (λ v. is_some (cond v (Some k) (find_loan l.loan ks))) apart) ∙ h

above_first : (k : Held) (ks : List Held) (l : ReportLine) → All (rises k) ks → is_there ks l → k.id < l.loan
above_first k [] l above h = absurd (cc)
above_first k (j ∷ js) l above h =
    elim (j.id == l.loan) as (λ v. (j.id == l.loan) ≡ v → is_some (cond v (Some j) (find_loan l.loan js)) ≡ true → k.id < l.loan) [
      | true ↦ λ e t.
          let number : j.id ≡ l.loan = grind (arith, nat_tests) in
          let here : k.id < j.id = All-head (rises k) j js above in
          omega (arith, number, here)
      | false ↦ λ e t. above_first k js l (All-tail (rises k) j js above) t
    ] refl h

pub lines_few : (loans : List Held) (ls : List ReportLine) → AllPairs rises loans → AllPairs by_loan ls → All (is_there loans) ls → length ls ≤ length loans
lines_few loans [] rise up there = omega arith
lines_few [] (l ∷ ls) rise up there = absurd (let t : is_there [] l = All-head (is_there []) l ls there in cc)
lines_few (k ∷ ks) (l ∷ ls) rise up there =
    let here = All-head (is_there (k ∷ ks)) l ls there in
    let rest = All-tail (is_there (k ∷ ks)) l ls there in
    let above = pairs_head by_loan l ls up in
    elim (k.id == l.loan) as (λ v. (k.id == l.loan) ≡ v → is_some (cond v (Some k) (find_loan l.loan ks)) ≡ true → suc (length ls) ≤ suc (length ks)) [
      | true ↦ λ e t.
          let number : k.id ≡ l.loan = grind (arith, nat_tests) in
          let few = lines_few ks ls (pairs_tail rises k ks rise) (pairs_tail by_loan l ls up) (λ i d lt. after_first k ks (get_or ls i d) (let over : l.loan < (get_or ls i d).loan = above i d lt in omega (arith, number, over)) (rest i d lt)) in
          omega (arith, few)
      | false ↦ λ e t.
          let below : k.id < l.loan = above_first k ks l (pairs_head rises k ks rise) t in
          let few = lines_few ks (l ∷ ls) (pairs_tail rises k ks rise) up (All-cons (is_there ks) l ls t (λ i d lt. after_first k ks (get_or ls i d) (let over : l.loan < (get_or ls i d).loan = above i d lt in omega (arith, below, over)) (rest i d lt))) in
          omega (arith, few)
    ] refl here

-- ---- what a line sends is small

passed_small : (part : DuePart) (id : ℕ) (rs : List Sealed) (j : ℕ) (d : Sealed) → j < length rs → IsPassed (total_by (sent_part part id) (take j rs)) → IsPassed (total_by (sent_part part id) (take (j + 1) rs)) → IsSmallPart (sent_part part id (get_or rs j d))
passed_small part id rs j d lt before later =
    let more = ap (total_by (sent_part part id)) (take_more rs j d lt) ∙ total_by-push (sent_part part id) (take j rs) (get_or rs j d) in
    let b0 = before.low in
    let b1 = before.high in
    let l0 = later.low in
    let l1 = later.high in
    record { low = omega (arith, ints, more, b1, l0); high = omega (arith, ints, more, b0, l1) }

part_here : (part : DuePart) (r : Sealed) (i : ℕ) (d : ReportLine) → AllPairs by_loan r.lines → i < length r.lines → sent_part part (get_or r.lines i d).loan r ≡ part_of_line part (get_or r.lines i d) +ℤ part_of_sums part (get_or r.lines i d)
part_here part r i d up lt =
    let line = own_here (part_of_line part) r.lines i d up lt in
    let sums = own_here (part_of_sums part) r.lines i d up lt in
    ap (λ z. z +ℤ total_by (λ (l : ReportLine). if l.loan == (get_or r.lines i d).loan then part_of_sums part l else pos 0) r.lines) line
    ∙ ap (λ z. part_of_line part (get_or r.lines i d) +ℤ z) sums

pub listed_there : (loans : List Held) (month : ℕ) (ls : List ReportLine) → All (λ (l : ReportLine). IsThere loans l.loan month) ls → All (is_there loans) ls
listed_there loans month ls h = λ i d lt. ap is_some (h i d lt).found

pub report_sent : (n : ℕ) (w : World) → IsWorld n w → All (λ (r : Sealed). AreSent r.lines) w.seals.reports
report_sent n w h = λ j x lt.
    let rs = w.seals.reports in
    let r = get_or rs j x in
    let up = h.reports.in_order j x lt in
    let there = listed_there w.loans r.month r.lines (h.reports.listed j x lt) in
    let loans = h.few in
    let few = lines_few w.loans r.lines h.rising up there in
    let small : (part : DuePart) (i : ℕ) (d : ReportLine) → i < length r.lines → IsSmallPart (part_of_line part (get_or r.lines i d) +ℤ part_of_sums part (get_or r.lines i d)) = λ part i d in'.
    let id = (get_or r.lines i d).loan in
    subst IsSmallPart (part_here part r i d up in') (passed_small part id rs j x lt (h.reports.passed part j id) (h.reports.passed part (j + 1) id)) in
    record {
      few = omega (arith, few, loans);
      rising = up;
      small = λ i d in'. record { interest = small Interest i d in'; principal = small Principal i d in' };
    }

-- the report of a month is one of them
found_among : (P : Sealed → Type 0) (month : ℕ) (rs : List Sealed) (r : Sealed) → report_for month rs ≡ Some r → All P rs → P r
found_among P month [] r found all = absurd (cc)
found_among P month (x ∷ xs) r found all =
    elim (x.month == month) as (λ v. cond v (Some x) (report_for month xs) ≡ Some r → P r) [
      | true ↦ λ e. (let same : x ≡ r = cc in subst P same (All-head P x xs all))
      | false ↦ λ e. found_among P month xs r e (All-tail P x xs all)
    ] found

pub found_sent : (n month : ℕ) (w : World) (r : Sealed) → IsWorld n w → report_for month w.seals.reports ≡ Some r → AreSent r.lines
found_sent n month w r h found = found_among (λ (x : Sealed). AreSent x.lines) month w.seals.reports r found (report_sent n w h)

-- ---- the report that is remitted next

none_above : (last : ℕ) (r : Sealed) (rs : List Sealed) → AreConsecutive (r ∷ rs) → last ≤ r.month → filter (λ (x : Sealed). nat_le x.month last) rs ≡ []
none_above last r [] c le = refl
none_above last r (s ∷ ss) c le = (let next : s.month ≡ r.month + 1 = c.0 in later_none last ss s c.1 (omega (arith, next, le)))

first_alone : (last : ℕ) (r : Sealed) (rs : List Sealed) → AreConsecutive (r ∷ rs) → r.month ≡ last → filter (λ (x : Sealed). nat_le x.month last) (r ∷ rs) ≡ r ∷ []
first_alone last r rs c is =
    let yes : nat_le r.month last ≡ true = grind (arith, nat_tests) in
    ap (λ v. cond v (r ∷ filter (λ (x : Sealed). nat_le x.month last) rs) (filter (λ (x : Sealed). nat_le x.month last) rs)) yes
    ∙ ap (λ xs. r ∷ xs) (none_above last r rs c (omega arith))

filter_next : (m : ℕ) (rs : List Sealed) (r : Sealed) → AreConsecutive rs → report_for (m + 1) rs ≡ Some r → filter (λ (x : Sealed). nat_le x.month (m + 1)) rs ≡ filter (λ (x : Sealed). nat_le x.month m) rs ++ r ∷ []
filter_next m [] r c found = absurd (cc)
filter_next m (x ∷ xs) r c found =
    let now : List Sealed → List Sealed = λ ys. filter (λ (y : Sealed). nat_le y.month (m + 1)) ys in
    let before : List Sealed → List Sealed = λ ys. filter (λ (y : Sealed). nat_le y.month m) ys in
    elim (x.month == (m + 1)) as (λ v. (x.month == (m + 1)) ≡ v → cond v (Some x) (report_for (m + 1) xs) ≡ Some r → now (x ∷ xs) ≡ before (x ∷ xs) ++ r ∷ []) [
      | true ↦ λ e is.
          let at : x.month ≡ m + 1 = grind (arith, nat_tests) in
          let same : x ≡ r = cc in
          let none : before (x ∷ xs) ≡ [] = later_none m xs x c (omega (arith, at)) in
          first_alone (m + 1) x xs c at ∙ ap (λ y. y ∷ []) same ∙ sym (ap (λ ys. ys ++ r ∷ []) none)
      | false ↦ λ e is.
          let rest = filter_next m xs r (rest_of x xs c) is in
          elim (nat_le x.month m) as (λ v. nat_le x.month m ≡ v → now (x ∷ xs) ≡ cond v (x ∷ before xs) (before xs) ++ r ∷ []) [
            | true ↦ λ t.
                let yes : nat_le x.month (m + 1) ≡ true = grind (arith, nat_tests) in
                ap (λ v. cond v (x ∷ now xs) (now xs)) yes ∙ ap (λ ys. x ∷ ys) rest
            | false ↦ λ t.
                let no : nat_le x.month (m + 1) ≡ false = grind (arith, nat_tests) in
                ap (λ v. cond v (x ∷ now xs) (now xs)) no ∙ rest
          ] refl
    ] refl found
  where
    rest_of : (r : Sealed) (rs : List Sealed) → AreConsecutive (r ∷ rs) → AreConsecutive rs
    rest_of r [] h = tt
    rest_of r (s ∷ rs) h = h.1

pub remitted_next : (o : Option ℕ) (rs : List Sealed) (r : Sealed) → AreConsecutive rs → report_for (next_remit o rs) rs ≡ Some r → remitted_reports (Some (next_remit o rs)) rs ≡ remitted_reports o rs ++ r ∷ []
remitted_next None [] r c found = absurd (cc)
remitted_next None (x ∷ xs) r c found =
    let yes : (x.month == x.month) ≡ true = grind (arith, nat_tests) in
    let is : Some x ≡ Some r = sym (ap (λ v. cond v (Some x) (report_for x.month xs)) yes) ∙ found in
    let same : x ≡ r = cc in
    first_alone x.month x xs c refl ∙ ap (λ y. y ∷ []) same
remitted_next (Some m) rs r c found = filter_next m rs r c found

-- ---- a month that may be remitted

pub record IsRemitting (w : World) (p : ℕ) : Type 0 where
  pub next : p ≡ next_remit w.remitted w.seals.reports
  pub closed : IsClosed w.seals.reports p
  pub fault : remit_fault w.seals.reports w.remitted p ≡ None

pub remitting : (n p : ℕ) (w : World) → IsWorld n w → refusal_of n w (command.Remit p) ≡ None → IsRemitting w p
unfolding refusal_of
remitting n p w h e =
    let one = past (full_of_commands n) (remit_cases w p) e in
    let two = past (not_closed w p) (case (not (p == expected_remit w)) (WrongRemit (expected_remit w)) ∷ []) one.rest in
    let three = past (case (not (p == expected_remit w)) (WrongRemit (expected_remit w))) [] two.rest in
    let next : p ≡ expected_remit w = same p (expected_remit w) three.no in
    let by_last = yes (is_closed_by (last_month w.seals.reports) p) two.no in
    let next_by : is_closed_by (last_month w.seals.reports) (expected_remit w) ≡ true = ap (is_closed_by (last_month w.seals.reports)) (sym next) ∙ by_last in
    let not_after = early (last_month w.seals.reports) by_last in
    let is_next : (expected_remit w == p) ≡ true = grind (arith, nat_tests) in
    record {
      next = next;
      closed = subst (IsClosed w.seals.reports) (sym next) (remitted_closed w.seals.reports w.remitted h.reports.sealed.consecutive h.reports.remitted next_by);
      fault = rw (not_after, is_next) refl;
    }
  where
    yes : (b : Bool) → not b ≡ false → b ≡ true
    yes true e = refl
    yes false e = absurd (cc)

    same : (a b : ℕ) → not (a == b) ≡ false → a ≡ b
    same a b e = let t = yes (a == b) e in grind (arith, nat_tests)

    early : (o : Option ℕ) → is_closed_by o p ≡ true → is_after p o ≡ false
    early None e = absurd (cc)
    early (Some last) e = grind (arith, nat_tests)

-- ---- what remitting it leaves

abbrev pub with_remitted : State → ℕ → State
with_remitted seals p = record seals { remitted = Some p }

-- what is asked of the report's lines and of the loans
pub record IsSending (loans : KeptLoans) (r : Sealed) : Type 0 where
  pub sent : AreSent r.lines
  pub there : All (λ (l : ReportLine). is_some (find_kept l.loan loans.loans) ≡ true) r.lines
  pub small : All IsSmallRemitted loans.loans

kept_there : (ks : List KeptLoan) (l : ReportLine) → is_there (held_in ks) l → is_some (find_kept l.loan ks) ≡ true
kept_there ks l h = sym (some-mapped (λ (k : KeptLoan). k.held) (find_kept l.loan ks)) ∙ sym (ap is_some (find-held ks l.loan)) ∙ h

pub remit_found : (p : ℕ) (seals later : State) (r : Sealed) → later ≡ with_remitted seals p → report_for p later.reporting.reports ≡ Some r → report_for p seals.reporting.reports ≡ Some r
remit_found p seals later r is found = sym (ap (λ (s : State). report_for p s.reporting.reports) is) ∙ found

pub remit_sending : (n p today : ℕ) (loans : KeptLoans) (seals : State) (r : Sealed) → IsState n today loans seals → report_for p seals.reporting.reports ≡ Some r → IsSending loans r
remit_sending n p today loans seals r h found =
    let w = world_of today loans seals in
    record {
      sent = found_sent n p w r h.world found;
      there = found_among (λ (x : Sealed). All (λ (l : ReportLine). is_some (find_kept l.loan loans.loans) ≡ true) x.lines) p seals.reporting.reports r found (λ j x lt.
          λ i d in'. kept_there loans.loans (get_or (get_or seals.reporting.reports j x).lines i d) (listed_there w.loans (get_or seals.reporting.reports j x).month (get_or seals.reporting.reports j x).lines (h.world.reports.listed j x lt) i d in'));
      small = λ i d lt.
          let k = get_or loans.loans i d in
          let is = (h.kept i d lt).remitted in
          let within = remitted_within w k.held.id h.world.reports in
          let low = within.low in
          let high = within.high in
          record { low = omega (arith, ints, is, low); high = omega (arith, ints, is, high) };
    }

pub remit_world : (n p today : ℕ) (loans later : KeptLoans) (seals sealed : State) → IsState n today loans seals → sealed ≡ with_remitted seals p → held_in later.loans ≡ held_in loans.loans → world_of today later sealed ≡ after (n + 1) (world_of today loans seals) (command.Remit p)
unfolding after loans_after seals_after
remit_world n p today loans later seals sealed h is held =
    let w = world_of today loans seals in
    let with : List Held → Reporting → World = λ ls s. record { today = today; loans = ls; seals = s; remitted = Some p } in
    let none = none_pending seals.reporting (changes_of (n + 1) (months_of seals.reporting.reports) w.loans w.loans) (kept_none n w h.world) in
    ap (λ (s : State). world_of today later s) is ∙ ap (λ ls. with ls seals.reporting) held ∙ ap (with w.loans) (sym none)

-- what was remitted for each loan
remitted_more : (n p id : ℕ) (w : World) (r : Sealed) → IsWorld n w → IsRemitting w p → report_for p w.seals.reports ≡ Some r → total_by (sent_for id) (remitted_reports (Some p) w.seals.reports) ≡ total_by (sent_for id) (remitted_reports w.remitted w.seals.reports) +ℤ sent_for id r
remitted_more n p id w r h may found =
    let rs = w.seals.reports in
    let there = ap (λ q. report_for q rs) (sym may.next) ∙ found in
    ap (λ q. total_by (sent_for id) (remitted_reports (Some q) rs)) may.next
    ∙ ap (total_by (sent_for id)) (remitted_next w.remitted rs r h.reports.sealed.consecutive there)
    ∙ total_by-push (sent_for id) (remitted_reports w.remitted rs) r

pub remit_kept : (n p today : ℕ) (loans later : KeptLoans) (seals sealed : State) (r : Sealed) → IsState n today loans seals → IsRemitting (world_of today loans seals) p → report_for p seals.reporting.reports ≡ Some r → sealed ≡ with_remitted seals p → held_in later.loans ≡ held_in loans.loans → closed_in later.loans ≡ closed_in loans.loans → remitted_in later.loans ≡ map (remitted_with r.lines) loans.loans → All (IsKeptIn (world_of today later sealed)) later.loans
unfolding remitted_for
remit_kept n p today loans later seals sealed r h may found is held closed remitted =
    let w = world_of today loans seals in
    let done = world_of today later (with_remitted seals p) in
    let kept = kept_by done (λ (k : KeptLoan). k.held) (λ (k : KeptLoan). k.closed) (remitted_with r.lines) loans.loans later.loans held closed remitted (λ i d lt.
    let k = get_or loans.loans i d in
    let before = h.kept i d lt in
    record {
      sent = ap (λ z. z +ℤ sent_for k.held.id r) before.remitted ∙ sym (remitted_more n p k.held.id w r h.world may found);
      months = before.closed;
    })
    in
    subst (λ (s : State). All (IsKeptIn (world_of today later s)) later.loans) (sym is) kept

pub remit_extra : (n p : ℕ) (w : World) (r : Sealed) → report_for p w.seals.reports ≡ Some r → Remitted (net_of r) ≡ extra_of w (after (n + 1) w (command.Remit p)) (command.Remit p)
unfolding after seals_after
remit_extra n p w r found = sym (ap (λ (o : Option Sealed). option_map_or (λ (x : Sealed). Remitted (net_of x)) o Plain) found)
