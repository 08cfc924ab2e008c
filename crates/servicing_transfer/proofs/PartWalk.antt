-- The whole history, seen from a part: its world shows the world of the part, and each command of the part is
-- fresh there.
use Rattle.std.proofs.Common.{◌≡◌, ℕ, ◌+◌, ◌-◌, ◌≤◌, Bool, true, false, cond, List, [], ◌∷◌, ◌++◌, map, length, arith, refl, sym, ap, subst, ◌∙◌, length-append, append-nil, append_assoc}
use Rattle.std.specs.Prelude.{◌||◌, if◌then◌else◌, Option, None}
use Rattle.std.specs.List.{filter}
use Rattle.svc_base.specs.Calendar.{month_of}
use Rattle.svc_types.specs.declared.requests.Command.{Command}
use Rattle.svc_types.specs.declared.requests.Command.TheVariants as command
use Rattle.period_adjust.specs.Sums.{report_of}
use Rattle.period_adjust.specs.Conditions.{last_month}
use Rattle.period_adjust.proofs.KeptLemmas.{last_month-push}
use Rattle.svc_world.specs.Reports.{lines_of}
use Rattle.svc_world.specs.World.{World, Accepted, loans_after, seals_after, after, world}
use Rattle.svc_world.specs.Refusals.{full_of_commands, reversal_cases, cases_by_command, refusal_of}
use Rattle.svc_world.specs.Judging.{Fresh, judged, IsHistoryFrom}
use Rattle.svc_world.specs.Worlds.{IsWorld}
use Rattle.svc_world.proofs.CaseLemmas.{past, past_loan}
use Rattle.svc_world.proofs.HistoryLemmas.{AreAccepted, accepted_keeps, world-push}
use Rattle.svc_world.proofs.LoanListLemmas.{found_id, found_all}
use Rattle.servicing_transfer.specs.Parts.{is_for, is_part, is_since, renumbered, moved_to, with_board, earlier}
use Rattle.servicing_transfer.proofs.Renumbering.{Counts, IsCounted}
use Rattle.servicing_transfer.proofs.ShownLoans.{IsShown}
use Rattle.servicing_transfer.proofs.StepShown.{shown, All_shown, IsSince, IsNamed, IsFitting, IsHidden, later_shown, step_shown, step_hidden}
use Rattle.servicing_transfer.proofs.ShownRefusals.{IsTimely, named_number, accepted_shown}
use Rattle.servicing_transfer.proofs.LeastMonth.{least_of, least_from, least_after, Reaches, board_since, boarded_before}
use Rattle.servicing_transfer.proofs.Timely.{since_upward, timely_close, close_hidden, remit_hidden, timely_remit}
use Rattle.servicing_transfer.proofs.PartPlaces.{next_place, ArePlaced, is_taken, taken_more, fresh_by, AreNew}

-- ---- one command

-- what is known of the world before some commands of which the first has number n + 1, and of these
pub record IsBefore (set : ℕ → Bool) (place : ℕ → ℕ) (least : Option ℕ) (n : ℕ) (w : World) (more : List Accepted) : Type 0 where
  pub accepted : AreAccepted n w more
  pub sound : IsWorld n w
  pub shows : All_shown set (is_since least) place w.loans
  pub ends : least ≡ least_from set (least_of set w.loans) more
  pub placed : ArePlaced set (is_since least) place n more

fitting_since : (set : ℕ → Bool) (least : Option ℕ) (o : Option ℕ) (more : List Accepted) (c : Command) → least ≡ least_from set (with_board set o c) more → IsSince set (is_since least) c
fitting_since set least o more (command.Board id t) e = λ is p out.
    let all : least ≡ least_from set (earlier (month_of t.boarded) o) more = e ∙ ap (λ v. least_from set (if v then earlier (month_of t.boarded) o else o) more) is in
    board_since set (month_of t.boarded) p o more (ap (λ x. is_since x p) (sym all) ∙ out)
fitting_since set least o more c e = tt

fitting_named : (set : ℕ → Bool) (place : ℕ → ℕ) (months : ℕ → Bool) (n : ℕ) (w : World) (c : Command) → All_shown set months place w.loans → refusal_of n w c ≡ None → IsNamed set place c
unfolding refusal_of
fitting_named set place months n w (command.Reverse id number) h none = λ is.
    let on = past_loan w id (reversal_cases w number) ((past (full_of_commands n) (cases_by_command w (command.Reverse id number)) none).rest) in
    let held = found_all (IsShown set months place) id w.loans on.loan on.found h in
    named_number place w number on.loan (held.counted (ap set (found_id id w.loans on.loan on.found) ∙ is)) on.rest
fitting_named set place months n w c h none = tt

counted_here : (place : ℕ → ℕ) (n : ℕ) (b : Bool) → place (n + 1) ≡ next_place b (place n) → b ≡ true → IsCounted place (n + 1)
counted_here place n b e is =
    let back : n + 1 - 1 ≡ n = omega arith in
    record { some = omega arith; next = e ∙ ap (λ v. next_place v (place n)) is ∙ ap (λ k. place k + 1) (sym back) }

fitting : (set : ℕ → Bool) (place : ℕ → ℕ) (least : Option ℕ) (n : ℕ) (w : World) (a : Accepted) (more : List Accepted) → IsBefore set place least n w (a ∷ more) → IsFitting set (is_since least) place (n + 1) a.command
fitting set place least n w a more h = record {
  counted = counted_here place n (is_for set (is_since least) a.command) h.placed.0;
  since = fitting_since set least (least_of set w.loans) more a.command h.ends;
  named = fitting_named set place (is_since least) n w a.command h.shows h.accepted.0.1;
}

later : (set : ℕ → Bool) (place : ℕ → ℕ) (least : Option ℕ) (n : ℕ) (w : World) (a : Accepted) (more : List Accepted) → IsBefore set place least n w (a ∷ more) → All_shown set (is_since least) place (loans_after (n + 1) w.today w.loans a.command)
later set place least n w a more h = later_shown set (is_since least) place (n + 1) w.today w.loans a.command (fitting set place least n w a more h) h.shows

-- the world after it
pub before_next : (set : ℕ → Bool) (place : ℕ → ℕ) (least : Option ℕ) (n : ℕ) (w : World) (a : Accepted) (more : List Accepted) → IsBefore set place least n w (a ∷ more) → IsBefore set place least (n + 1) (after (n + 1) w a.command) more
unfolding after
before_next set place least n w a more h = record {
  accepted = h.accepted.1;
  sound = accepted_keeps n w a.command h.sound h.accepted.0.0 h.accepted.0.1;
  shows = later set place least n w a more h;
  ends = h.ends ∙ ap (λ o. least_from set o more) (sym (least_after set (n + 1) w.today w.loans a.command));
  placed = h.placed.1;
}

closed_reach : (n : ℕ) (w : World) (p : ℕ) → Reaches p (last_month (after (n + 1) w (command.Close p)).seals.reports)
unfolding after seals_after
closed_reach n w p = subst (Reaches p) (sym (last_month-push w.seals.reports (report_of p (lines_of w.seals.pending p (loans_after (n + 1) w.today w.loans (command.Close p))) w.seals.pending))) (omega arith)

timely : (set : ℕ → Bool) (place : ℕ → ℕ) (least : Option ℕ) (n : ℕ) (w : World) (c : Command) (more : List Accepted) → IsWorld n w → refusal_of n w c ≡ None → AreAccepted (n + 1) (after (n + 1) w c) more → least ≡ least_from set (with_board set (least_of set w.loans) c) more → is_for set (is_since least) c ≡ true → IsTimely set (is_since least) place w c
timely set place least n w (command.Close p) more sound none all ends is =
    timely_close set place least n w p sound.reports.sealed.consecutive none is (λ m e le. boarded_before set p m (n + 1) (after (n + 1) w (command.Close p)) (least_of set w.loans) more all (closed_reach n w p) (sym ends ∙ e) le)
timely set place least n w (command.Remit p) more sound none all ends is = timely_remit set (is_since least) place n w p sound (since_upward least) none is
timely set place least n w c more sound none all ends is = tt

-- what the part does where it keeps the command
pub step_in : (set : ℕ → Bool) (place : ℕ → ℕ) (least : Option ℕ) (n : ℕ) (w : World) (a : Accepted) (more : List Accepted) → Counts place → IsBefore set place least n w (a ∷ more) → is_part set (is_since least) a ≡ true → shown set (is_since least) place (after (n + 1) w a.command) ≡ after (place n + 1) (shown set (is_since least) place w) (renumbered place a.command)
step_in set place least n w a more counts h is =
    step_shown set (is_since least) place (n + 1) w a.command counts h.sound.rising h.shows (later set place least n w a more h) is
    ∙ ap (λ k. after k (shown set (is_since least) place w) (renumbered place a.command)) (h.placed.0 ∙ ap (λ v. next_place v (place n)) is)

pub fresh_in : (set : ℕ → Bool) (place : ℕ → ℕ) (least : Option ℕ) (n m : ℕ) (w : World) (a : Accepted) (more : List Accepted) → Counts place → IsBefore set place least n w (a ∷ more) → m ≤ n → is_part set (is_since least) a ≡ true → refusal_of m (shown set (is_since least) place w) (renumbered place a.command) ≡ None
fresh_in set place least n m w a more counts h le is =
    accepted_shown set (is_since least) place n m w a.command le counts (since_upward least) h.sound.reports.sealed.consecutive h.shows
    (timely set place least n w a.command more h.sound h.accepted.0.1 h.accepted.1 h.ends is) is h.accepted.0.1

hidden : (set : ℕ → Bool) (place : ℕ → ℕ) (least : Option ℕ) (n : ℕ) (w : World) (c : Command) → IsWorld n w → refusal_of n w c ≡ None → All_shown set (is_since least) place w.loans → is_for set (is_since least) c ≡ false → IsHidden set (is_since least) place w c
hidden set place least n w (command.Close p) sound none h is = close_hidden set (is_since least) place n w p sound none (since_upward least) h is
hidden set place least n w (command.Remit p) sound none h is = remit_hidden (is_since least) n w p (since_upward least) none is
hidden set place least n w c sound none h is = tt

-- and where it does not
pub step_out : (set : ℕ → Bool) (place : ℕ → ℕ) (least : Option ℕ) (n : ℕ) (w : World) (a : Accepted) (more : List Accepted) → Counts place → IsBefore set place least n w (a ∷ more) → is_part set (is_since least) a ≡ false → shown set (is_since least) place (after (n + 1) w a.command) ≡ shown set (is_since least) place w
step_out set place least n w a more counts h is =
    step_hidden set (is_since least) place (n + 1) w a.command counts h.sound.rising h.shows (later set place least n w a more h)
    (hidden set place least n w a.command h.sound h.accepted.0.1 h.shows is) is

-- ---- all commands

-- the first commands, their part, and the worlds after them
pub record IsSplitAt (set : ℕ → Bool) (place : ℕ → ℕ) (least : Option ℕ) (n : ℕ) (w : World) (done k : List Accepted) : Type 0 where
  pub count : length done ≡ n
  pub world_is : world done ≡ w
  pub place_is : length k ≡ place n
  pub fewer : place n ≤ n
  pub part_is : world k ≡ shown set (is_since least) place w
  pub keys : (key : List ℕ) → is_taken key done ≡ false → is_taken key k ≡ false

-- the part of some commands
abbrev pub part_from : (ℕ → Bool) → (ℕ → Bool) → (ℕ → ℕ) → List Accepted → List Accepted
part_from set months place more = map (moved_to place) (filter (is_part set months) more)

world_next : (n : ℕ) (w : World) (h : List Accepted) (a : Accepted) → length h ≡ n → world h ≡ w → world (h ++ a ∷ []) ≡ after (n + 1) w a.command
world_next n w h a count is = world-push h a ∙ ap (λ k. after (k + 1) (world h) a.command) count ∙ ap (λ x. after (n + 1) x a.command) is

both : (a b : Bool) → (a || b) ≡ false → (a ≡ false) × (b ≡ false)
both true b e = absurd (cc)
both false b e = (refl, e)

neither : (a b : Bool) → a ≡ false → b ≡ false → (a || b) ≡ false
neither a b ea eb = rw (ea, eb) refl

split_in : (set : ℕ → Bool) (place : ℕ → ℕ) (least : Option ℕ) (n : ℕ) (w : World) (done k : List Accepted) (a : Accepted) (more : List Accepted) → Counts place → IsBefore set place least n w (a ∷ more) → IsSplitAt set place least n w done k → is_part set (is_since least) a ≡ true → IsSplitAt set place least (n + 1) (after (n + 1) w a.command) (done ++ a ∷ []) (k ++ moved_to place a ∷ [])
split_in set place least n w done k a more counts h s is =
    let next : place (n + 1) ≡ place n + 1 = h.placed.0 ∙ ap (λ v. next_place v (place n)) is in
    let count = s.count in
    let place_is = s.place_is in
    let few = s.fewer in
    record {
      count = omega (arith, length-append done (a ∷ []));
      world_is = world_next n w done a s.count s.world_is;
      place_is = omega (arith, length-append k (moved_to place a ∷ []));
      fewer = omega arith;
      part_is = world_next (place n) (shown set (is_since least) place w) k (moved_to place a) s.place_is s.part_is ∙ sym (step_in set place least n w a more counts h is);
      keys = λ key e.
          let e' = both (is_taken key done) (Rattle.svc_world.specs.Judging.is_key a.key key) (sym (taken_more key done a) ∙ e) in
          taken_more key k (moved_to place a) ∙ neither (is_taken key k) (Rattle.svc_world.specs.Judging.is_key a.key key) (s.keys key e'.0) e'.1;
    }

split_out : (set : ℕ → Bool) (place : ℕ → ℕ) (least : Option ℕ) (n : ℕ) (w : World) (done k : List Accepted) (a : Accepted) (more : List Accepted) → Counts place → IsBefore set place least n w (a ∷ more) → IsSplitAt set place least n w done k → is_part set (is_since least) a ≡ false → IsSplitAt set place least (n + 1) (after (n + 1) w a.command) (done ++ a ∷ []) k
split_out set place least n w done k a more counts h s is =
    let next : place (n + 1) ≡ place n = h.placed.0 ∙ ap (λ v. next_place v (place n)) is in
    let count = s.count in
    let place_is = s.place_is in
    let few = s.fewer in
    record {
      count = omega (arith, length-append done (a ∷ []));
      world_is = world_next n w done a s.count s.world_is;
      place_is = omega arith;
      fewer = omega arith;
      part_is = s.part_is ∙ sym (step_out set place least n w a more counts h is);
      keys = λ key e.
          let e' = both (is_taken key done) (Rattle.svc_world.specs.Judging.is_key a.key key) (sym (taken_more key done a) ∙ e) in
          s.keys key e'.0;
    }

-- at the end
pub record IsFollowed (set : ℕ → Bool) (place : ℕ → ℕ) (least : Option ℕ) (done k more : List Accepted) : Type 0 where
  pub fresh : IsHistoryFrom k (part_from set (is_since least) place more)
  pub shown_is : world (k ++ part_from set (is_since least) place more) ≡ shown set (is_since least) place (world (done ++ more))
  pub shows : All_shown set (is_since least) place (world (done ++ more)).loans

fresh_now : (set : ℕ → Bool) (place : ℕ → ℕ) (least : Option ℕ) (n : ℕ) (w : World) (done k : List Accepted) (a : Accepted) (more : List Accepted) → Counts place → IsBefore set place least n w (a ∷ more) → IsSplitAt set place least n w done k → is_taken a.key done ≡ false → is_part set (is_since least) a ≡ true → judged k a.key (renumbered place a.command) ≡ Fresh
fresh_now set place least n w done k a more counts h s new is =
    let few = s.fewer in
    let place_is = s.place_is in
    fresh_by k a.key (renumbered place a.command) (s.keys a.key new)
    (ap (λ v. refusal_of (length k) v (renumbered place a.command)) s.part_is
    ∙ fresh_in set place least n (length k) w a more counts h (omega arith) is)

-- the same, where it is known whether the part keeps the next command
record IsFollowedBy (set : ℕ → Bool) (place : ℕ → ℕ) (least : Option ℕ) (done k : List Accepted) (a : Accepted) (more : List Accepted) (kept : Bool) : Type 0 where
  fresh : IsHistoryFrom k (map (moved_to place) (cond kept (a ∷ filter (is_part set (is_since least)) more) (filter (is_part set (is_since least)) more)))
  shown_is : world (k ++ map (moved_to place) (cond kept (a ∷ filter (is_part set (is_since least)) more) (filter (is_part set (is_since least)) more))) ≡ shown set (is_since least) place (world (done ++ a ∷ more))
  shows : All_shown set (is_since least) place (world (done ++ a ∷ more)).loans

followed_in : (set : ℕ → Bool) (place : ℕ → ℕ) (least : Option ℕ) (done k : List Accepted) (a : Accepted) (more : List Accepted) → judged k a.key (renumbered place a.command) ≡ Fresh → IsFollowed set place least (done ++ a ∷ []) (k ++ moved_to place a ∷ []) more → IsFollowedBy set place least done k a more true
followed_in set place least done k a more now f = record {
  fresh = (now, f.fresh);
  shown_is = ap world (sym (append_assoc k (moved_to place a ∷ []) (part_from set (is_since least) place more))) ∙ f.shown_is ∙ ap (λ x. shown set (is_since least) place (world x)) (append_assoc done (a ∷ []) more);
  shows = subst (λ x. All_shown set (is_since least) place (world x).loans) (append_assoc done (a ∷ []) more) f.shows;
}

followed_out : (set : ℕ → Bool) (place : ℕ → ℕ) (least : Option ℕ) (done k : List Accepted) (a : Accepted) (more : List Accepted) → IsFollowed set place least (done ++ a ∷ []) k more → IsFollowedBy set place least done k a more false
followed_out set place least done k a more f = record {
  fresh = f.fresh;
  shown_is = f.shown_is ∙ ap (λ x. shown set (is_since least) place (world x)) (append_assoc done (a ∷ []) more);
  shows = subst (λ x. All_shown set (is_since least) place (world x).loans) (append_assoc done (a ∷ []) more) f.shows;
}

followed : (set : ℕ → Bool) (place : ℕ → ℕ) (least : Option ℕ) (done k : List Accepted) (a : Accepted) (more : List Accepted) (b : Bool) → is_part set (is_since least) a ≡ b → IsFollowedBy set place least done k a more b → IsFollowed set place least done k (a ∷ more)
followed set place least done k a more b is f =
    let whole = subst (IsFollowedBy set place least done k a more) (sym is) f in
    record { fresh = whole.fresh; shown_is = whole.shown_is; shows = whole.shows }

pub walk : (set : ℕ → Bool) (place : ℕ → ℕ) (least : Option ℕ) (n : ℕ) (w : World) (done k more : List Accepted) → Counts place → AreNew done more → IsBefore set place least n w more → IsSplitAt set place least n w done k → IsFollowed set place least done k more
walk set place least n w done k [] counts new h s = record {
  fresh = tt;
  shown_is = ap world (append-nil k) ∙ s.part_is ∙ ap (shown set (is_since least) place) (sym s.world_is ∙ ap world (sym (append-nil done)));
  shows = subst (λ x. All_shown set (is_since least) place x.loans) (sym s.world_is ∙ ap world (sym (append-nil done))) h.shows;
}
walk set place least n w done k (a ∷ more) counts new h s = followed set place least done k a more (is_part set (is_since least) a) refl (
    elim (is_part set (is_since least) a) as (λ v. is_part set (is_since least) a ≡ v → IsFollowedBy set place least done k a more v) [
      | true ↦ λ is. followed_in set place least done k a more (fresh_now set place least n w done k a more counts h s new.0 is)
          (walk set place least (n + 1) (after (n + 1) w a.command) (done ++ a ∷ []) (k ++ moved_to place a ∷ []) more counts new.1 (before_next set place least n w a more h) (split_in set place least n w done k a more counts h s is))
      | false ↦ λ is. followed_out set place least done k a more
          (walk set place least (n + 1) (after (n + 1) w a.command) (done ++ a ∷ []) k more counts new.1 (before_next set place least n w a more h) (split_out set place least n w done k a more counts h s is))
    ] refl)
