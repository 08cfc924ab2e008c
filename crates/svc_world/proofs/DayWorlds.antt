-- A world stays sound on a later business day, and where a month is remitted.
use Rattle.std.proofs.Common.{◌≡◌, ℕ, ◌+◌, ◌≤◌, ◌<◌, Bool, true, false, not, List, [], ◌∷◌, ◌++◌, map, get_or, arith, refl, sym, ap, subst, ◌∙◌, append-nil}
use Rattle.std.specs.Prelude.{◌==◌, nat_le, Option, Some, None, IfSome}
use Rattle.std.specs.List.{All}
use Rattle.std.proofs.lemmas.Bool.Decides.{nat_tests}
use Rattle.std.proofs.lemmas.List.Elements.{All-map}
use Rattle.svc_base.specs.Calendar.{IsReadDay, month_of, last_day}
use Rattle.svc_types.specs.declared.requests.Command.TheVariants as command
use Rattle.svc_types.specs.declared.replies.Refusal.TheVariants.{DayNotLater, WrongRemit}
use Rattle.period_adjust.specs.declared.adjustment.Adjustment.{Adjustment}
use Rattle.period_adjust.specs.Sealed.{Sealed, Reporting, reporting}
use Rattle.period_adjust.specs.Conditions.{IsClosed, first_month, last_month}
use Rattle.period_adjust.specs.Kept.{AreConsecutive, month_after, next_remit}
use Rattle.period_adjust.proofs.KeptLemmas.{closed_to_end, closed_from_first}
use Rattle.svc_world.specs.Held.{Held, find_loan, boarded_month, on_day}
use Rattle.svc_world.specs.LoanDues.{due_of}
use Rattle.svc_world.specs.Reports.{months_of, changes_of, nothing_due}
use Rattle.svc_world.specs.World.{World, loans_after, seals_after, after}
use Rattle.svc_world.specs.Refusals.{case, refusal_of, full_of_commands, not_closed, is_closed_by, expected_remit, remit_cases, cases_by_command}
use Rattle.svc_world.specs.Worlds.{IsHeld, IsThere, due_by, AreReports, IsWorld}
use Rattle.svc_world.proofs.LimitedLemmas.{advanced_limited}
use Rattle.svc_world.proofs.AgreeLemmas.{AgreeTo, day_agrees, same_due}
use Rattle.svc_world.proofs.AddUpLemmas.{same_adds}
use Rattle.svc_world.proofs.ChangesLemmas.{IsSameDue, equal_due, changes_kept, changes_mapped}
use Rattle.svc_world.proofs.LoanListLemmas.{all_found, mapped_numbers, rises_by, length_by, find_mapped, find_mapped_none, found_all}
use Rattle.svc_world.proofs.CaseLemmas.{past}
use Rattle.svc_world.proofs.ChangedWorlds.{held_more}
use Rattle.svc_world.proofs.NamedLoans.{not_full}
use Rattle.svc_world.proofs.QuietWorlds.{after_month}

-- ---- a later business day

-- all closed months are before the business day's
pub closed_early : (n : ℕ) (w : World) → IsWorld n w → All (λ p. p < month_of w.today) (months_of w.seals.reports)
closed_early n w h = All-map (λ p. p < month_of w.today) (λ (r : Sealed). r.month) w.seals.reports (λ k d lt.
    let before = (h.reports.sealed.reports k d lt).high in
    early (last_month w.seals.reports) (get_or w.seals.reports k d).month before h.reports.ended)
  where
    early : (o : Option ℕ) (p : ℕ) → p < month_after o → IfSome o (λ last. last_day last < w.today) → p < month_of w.today
    early None p lt e = absurd (omega (arith, lt))
    early (Some last) p lt e = let later = after_month last w.today h.today.exists e in omega (arith, lt, later)

pub day_held : (n d : ℕ) (w : World) (l : Held) → w.today ≤ d → IsHeld n w.today l → IsHeld (n + 1) d (on_day d l)
day_held n d w l le h =
    let from : l.account.today ≤ d = subst (λ t. t ≤ d) (sym h.today) le in
    record {
      limited = advanced_limited l.account d h.limited from;
      today = refl;
      numbers = λ k x lt. (let few : (get_or l.account.entries k x).number ≤ n = h.numbers k x lt in omega arith);
      lines = h.lines;
      types = h.types;
      since = h.since;
    }

pub day_agrees_to : (n d : ℕ) (w : World) (l : Held) → w.today ≤ d → IsHeld n w.today l → AgreeTo (month_of w.today) l (on_day d l)
day_agrees_to n d w l le h = subst (λ t. AgreeTo (month_of t) l (on_day d l)) h.today (day_agrees l d (subst (λ t. t ≤ d) (sym h.today) le))

pub boarded_by : (n : ℕ) (w : World) (l : Held) → IsHeld n w.today l → boarded_month l ≤ month_of w.today
boarded_by n w l h = let from = h.limited.account.after in let is = h.today in omega (arith, from, is)

pub there_mapped : (d : ℕ) (loans : List Held) (id month : ℕ) → IsThere loans id month → IsThere (map (on_day d) loans) id month
there_mapped d loans id month h = record { loan = on_day d h.loan; found = find_mapped id (on_day d) loans h.loan h.found (λ k. refl); since = h.since }

pub same_due_on : (n d id p : ℕ) (w : World) → IsWorld n w → w.today ≤ d → p < month_of w.today → IsSameDue (due_by (find_loan id w.loans) p) (due_by (find_loan id (map (on_day d) w.loans)) p)
same_due_on n d id p w h le lt =
    elim (find_loan id w.loans) as (λ o. find_loan id w.loans ≡ o → IsSameDue (due_by o p) (due_by (find_loan id (map (on_day d) w.loans)) p)) [
      | None ↦ λ e.
          let none = find_mapped_none id (on_day d) w.loans e (λ k. refl) in
          equal_due (nothing_due p) (due_by (find_loan id (map (on_day d) w.loans)) p) (ap (λ o. due_by o p) none)
      | Some l ↦ λ e.
          let held = found_all (IsHeld n w.today) id w.loans l e h.held in
          let some = find_mapped id (on_day d) w.loans l e (λ k. refl) in
          equal_due (due_of l p) (due_by (find_loan id (map (on_day d) w.loans)) p)
          (ap (λ o. due_by o p) some ∙ same_due (month_of w.today) l (on_day d l) p (day_agrees_to n d w l le held) (boarded_by n w l held) lt)
    ] refl

-- the world on another day, before its adjustments are known to be none
abbrev pub on_day_of : ℕ → World → Reporting → World
on_day_of d w s = record { today = d; loans = map (on_day d) w.loans; seals = s; remitted = w.remitted }

pub ended_on : (o : Option ℕ) (t d : ℕ) → t ≤ d → IfSome o (λ last. last_day last < t) → IfSome o (λ last. last_day last < d)
ended_on None t d le e = tt
ended_on (Some last) t d le e = omega (arith, le, e)

pub first_mapped : (o : Option ℕ) (d : ℕ) (loans : List Held) → IfSome o (λ first. All (λ (l : Held). first ≤ boarded_month l) loans) → IfSome o (λ first. All (λ (l : Held). first ≤ boarded_month l) (map (on_day d) loans))
first_mapped None d loans h = tt
first_mapped (Some first) d loans h = All-map (λ (l : Held). first ≤ boarded_month l) (on_day d) loans h

pub day_reports : (n d : ℕ) (w : World) → IsWorld n w → w.today ≤ d → AreReports (on_day_of d w w.seals)
day_reports n d w h le =
    let r = h.reports in
    record {
      sealed = r.sealed;
      few = r.few;
      held = r.held;
      ended = ended_on (last_month w.seals.reports) w.today d le r.ended;
      from_first = first_mapped (first_month w.seals.reports) d w.loans r.from_first;
      owned = λ k x lt. there_mapped d w.loans (get_or w.seals.pending k x).loan (get_or w.seals.pending k x).month (r.owned k x lt);
      listed = λ k x lt i y len. there_mapped d w.loans (get_or (get_or w.seals.reports k x).lines i y).loan (get_or w.seals.reports k x).month (r.listed k x lt i y len);
      remitted = r.remitted;
      in_order = r.in_order;
      sends = r.sends;
      passed = r.passed;
    }

pub day_world : (n d : ℕ) (w : World) → IsWorld n w → n < 1_000_000 → IsReadDay d → w.today ≤ d → IsWorld (n + 1) (on_day_of d w w.seals)
day_world n d w h few read le =
    let numbers = mapped_numbers (on_day d) w.loans (λ k. refl) in
    record {
      count = omega arith;
      today = read;
      rising = rises_by (map (on_day d) w.loans) w.loans numbers h.rising;
      few = (let len = length_by (map (on_day d) w.loans) w.loans numbers in let most = h.few in omega (arith, len, most));
      held = All-map (IsHeld (n + 1) d) (on_day d) w.loans (λ k x lt. day_held n d w (get_or w.loans k x) le (h.held k x lt));
      reports = day_reports n d w h le;
      add_up = same_adds w.seals w.loans (map (on_day d) w.loans) (λ id p lt. same_due_on n d id p w h le (early (last_month w.seals.reports) p lt h.reports.ended)) h.add_up;
    }
  where
    early : (o : Option ℕ) (p : ℕ) → p < month_after o → IfSome o (λ last. last_day last < w.today) → p < month_of w.today
    early None p lt e = absurd (omega (arith, lt))
    early (Some last) p lt e = let later = after_month last w.today h.today.exists e in omega (arith, lt, later)

-- a command without adjustments leaves what is reported
pub none_pending : (s : Reporting) (xs : List Adjustment) → xs ≡ [] → reporting s.reports (s.pending ++ xs) ≡ s
none_pending s xs none = ap (λ ys. reporting s.reports (s.pending ++ ys)) none ∙ ap (λ ys. reporting s.reports ys) (append-nil s.pending)

-- the day is not before the business day
pub day_later : (n d : ℕ) (w : World) → refusal_of n w (command.Day d) ≡ None → w.today ≤ d × n < 1_000_000
unfolding refusal_of
day_later n d w e =
    let p = past (full_of_commands n) (cases_by_command w (command.Day d)) e in
    let later = (past (case (nat_le d w.today) (DayNotLater w.today)) [] p.rest).no in
    (grind (arith, nat_tests), not_full n p.no)

-- a business day has no adjustments
pub day_none : (n d : ℕ) (w : World) → IsWorld n w → refusal_of n w (command.Day d) ≡ None → changes_of (n + 1) (months_of w.seals.reports) w.loans (map (on_day d) w.loans) ≡ []
day_none n d w h e =
    let le = (day_later n d w e).0 in
    changes_mapped (n + 1) (month_of w.today) (months_of w.seals.reports) w.loans w.loans (on_day d) (all_found w.loans h.rising) (λ k. refl)
    (λ k x lt. day_agrees_to n d w (get_or w.loans k x) le (h.held k x lt))
    (λ k x lt. boarded_by n w (get_or w.loans k x) (h.held k x lt))
    (closed_early n w h)

pub day_keeps : (n d : ℕ) (w : World) → IsWorld n w → IsReadDay d → refusal_of n w (command.Day d) ≡ None → IsWorld (n + 1) (after (n + 1) w (command.Day d))
unfolding after loans_after seals_after
day_keeps n d w h read e =
    let le = day_later n d w e in
    subst (λ s. IsWorld (n + 1) (on_day_of d w s)) (sym (none_pending w.seals (changes_of (n + 1) (months_of w.seals.reports) w.loans (map (on_day d) w.loans)) (day_none n d w h e)))
    (day_world n d w h le.1 read le.0)

-- where no loan changes there are no adjustments
pub kept_none : (n : ℕ) (w : World) → IsWorld n w → changes_of (n + 1) (months_of w.seals.reports) w.loans w.loans ≡ []
kept_none n w h = changes_kept (n + 1) (months_of w.seals.reports) w.loans w.loans (all_found w.loans h.rising)

-- ---- a remitted month

-- the month that is to be remitted next is closed where it is not after the last closed one
pub remitted_closed : (reports : List Sealed) (remitted : Option ℕ) → AreConsecutive reports → IfSome remitted (IsClosed reports) → is_closed_by (last_month reports) (next_remit remitted reports) ≡ true → IsClosed reports (next_remit remitted reports)
remitted_closed [] None c h by_last = absurd (cc)
remitted_closed [] (Some m) c h by_last = absurd (cc)
remitted_closed (r ∷ rs) None c h by_last = closed_to_end (r ∷ rs) r.month r.month c refl (omega arith) (within (last_month (r ∷ rs)) r.month by_last)
  where
    within : (o : Option ℕ) (p : ℕ) → is_closed_by o p ≡ true → p < month_after o
    within None p e = absurd (cc)
    within (Some last) p e = grind (arith, nat_tests)
remitted_closed (r ∷ rs) (Some m) c h by_last =
    let from = closed_from_first (r ∷ rs) r.month m c refl h in
    closed_to_end (r ∷ rs) r.month (m + 1) c refl (omega (arith, from)) (within (last_month (r ∷ rs)) (m + 1) by_last)
  where
    within : (o : Option ℕ) (p : ℕ) → is_closed_by o p ≡ true → p < month_after o
    within None p e = absurd (cc)
    within (Some last) p e = grind (arith, nat_tests)

pub remit_world : (n p : ℕ) (w : World) → IsWorld n w → n < 1_000_000 → IsClosed w.seals.reports p → IsWorld (n + 1) (record w { remitted = Some p })
remit_world n p w h few closed =
    let r = h.reports in
    record {
      count = omega arith;
      today = h.today;
      rising = h.rising;
      few = h.few;
      held = λ k x lt. held_more n w.today (get_or w.loans k x) (h.held k x lt);
      reports = record { sealed = r.sealed; few = r.few; held = r.held; ended = r.ended; from_first = r.from_first; owned = r.owned; listed = r.listed; remitted = closed; in_order = r.in_order; sends = r.sends; passed = r.passed };
      add_up = h.add_up;
    }

abbrev pub remitted_with : World → ℕ → Reporting → World
remitted_with w p s = record { today = w.today; loans = w.loans; seals = s; remitted = Some p }

pub remit_keeps : (n p : ℕ) (w : World) → IsWorld n w → refusal_of n w (command.Remit p) ≡ None → IsWorld (n + 1) (after (n + 1) w (command.Remit p))
unfolding after loans_after seals_after refusal_of
remit_keeps n p w h e =
    let one = past (full_of_commands n) (remit_cases w p) e in
    let two = past (not_closed w p) (case (not (p == expected_remit w)) (WrongRemit (expected_remit w)) ∷ []) one.rest in
    let three = past (case (not (p == expected_remit w)) (WrongRemit (expected_remit w))) [] two.rest in
    let is : p ≡ expected_remit w = same p (expected_remit w) three.no in
    let by_last : is_closed_by (last_month w.seals.reports) (expected_remit w) ≡ true = ap (is_closed_by (last_month w.seals.reports)) (sym is) ∙ yes (is_closed_by (last_month w.seals.reports) p) two.no in
    let closed = remitted_closed w.seals.reports w.remitted h.reports.sealed.consecutive h.reports.remitted by_last in
    let none = kept_none n w h in
    subst (λ s. IsWorld (n + 1) (remitted_with w p s)) (sym (none_pending w.seals (changes_of (n + 1) (months_of w.seals.reports) w.loans w.loans) none))
    (remit_world n p w h (not_full n one.no) (subst (IsClosed w.seals.reports) (sym is) closed))
  where
    yes : (b : Bool) → not b ≡ false → b ≡ true
    yes true e = refl
    yes false e = absurd (cc)

    same : (a b : ℕ) → not (a == b) ≡ false → a ≡ b
    same a b e = let t = yes (a == b) e in grind (arith, nat_tests)
