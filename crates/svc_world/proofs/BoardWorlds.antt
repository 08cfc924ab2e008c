-- A world stays sound where a loan is taken on.
use Rattle.std.proofs.Common.{◌≡◌, ℕ, ◌+◌, ◌≤◌, ◌<◌, Bool, true, false, not, List, [], ◌∷◌, ◌++◌, length, get_or, arith, refl, sym, ap, subst, ◌∙◌}
use Rattle.std.specs.Prelude.{◌==◌, nat_le, ◌&&◌, ◌||◌, is_some, Option, Some, None, IfSome, pos, int_le, int_lt, if◌then◌else◌}
use Rattle.std.specs.List.{All, find}
use Rattle.std.proofs.lemmas.Bool.Decides.{nat_tests}
use Rattle.std.proofs.lemmas.List.Elements.{All-map, All-nil}
use Rattle.svc_base.specs.Calendar.{IsReadDay, month_of}
use Rattle.svc_base.proofs.CentsRules.{from_int_le, from_int_lt}
use Rattle.svc_types.specs.declared.terms.Terms.{Terms}
use Rattle.svc_types.specs.declared.faults.TermFault.{TermFault}
use Rattle.svc_types.specs.declared.faults.TermFault.TheVariants.{Principal, RateRange, FeeRange, Payment, Term, FirstDue, Grace, Late, Cushion, EscrowPay}
use Rattle.svc_types.specs.declared.account.Entry.{Entry}
use Rattle.svc_types.specs.declared.requests.TypeChange.{TypeChange}
use Rattle.svc_types.specs.declared.requests.Command.TheVariants as command
use Rattle.svc_types.specs.declared.replies.Refusal.TheVariants.{Full, LoanExists, BadTerms, BoardedLate}
use Rattle.svc_types.specs.declared.replies.Limit.TheVariants.{Loans}
use Rattle.svc_types.specs.Terms.{is_in_range, first_missed, term_fault, IsSound}
use Rattle.svc_base.specs.Money.{month_interest}
use Rattle.svc_spec.specs.Accounts.{MayBegin}
use Rattle.escrow_lines.specs.Bills.{IsBill}
use Rattle.period_adjust.specs.Sealed.{Sealed, Reporting}
use Rattle.period_adjust.specs.Conditions.{first_month, last_month}
use Rattle.period_adjust.specs.Kept.{AreConsecutive, month_after}
use Rattle.period_adjust.proofs.KeptLemmas.{month_after-last}
use Rattle.svc_world.specs.Held.{Held, find_loan, boarded, boarded_month, with_loan}
use Rattle.svc_world.specs.Reports.{months_of, changes_of, nothing_due}
use Rattle.svc_world.specs.World.{World, loans_after, seals_after, after}
use Rattle.svc_world.specs.Refusals.{case, case_of, refusal_of, full_of_commands, future_dated, with_last, board_cases}
use Rattle.svc_world.specs.Worlds.{IsHeld, IsThere, due_by, IsWorld}
use Rattle.svc_world.proofs.LimitedLemmas.{begun_limited}
use Rattle.svc_world.proofs.AddUpLemmas.{same_adds}
use Rattle.svc_world.proofs.ChangesLemmas.{IsSameDue, equal_due, due_before, changes_boarded}
use Rattle.svc_world.proofs.LoanListLemmas.{all_found, find_boarded, with_loan_all, with_loan_length, with_loan_rises}
use Rattle.svc_world.proofs.CaseLemmas.{past, past_of, past_last}
use Rattle.svc_world.proofs.ChangedWorlds.{held_more}
use Rattle.svc_world.proofs.DayWorlds.{none_pending}
use Rattle.svc_world.proofs.NamedLoans.{not_full}

-- ---- terms without a fault

pub both : (a b : Bool) → (a && b) ≡ true → (a ≡ true) × (b ≡ true)
both true true e = (refl, refl)
both true false e = absurd (cc)
both false b e = absurd (cc)

pub within : (t : Terms) (f : TermFault) (fs : List TermFault) → first_missed t (f ∷ fs) ≡ None → (is_in_range t f ≡ true) × (first_missed t fs ≡ None)
within t f fs e =
    elim (is_in_range t f) as (λ v. is_in_range t f ≡ v → (if not v then Some f else find (λ x. not (is_in_range t x)) fs) ≡ None → (is_in_range t f ≡ true) × (first_missed t fs ≡ None)) [
      | true ↦ λ is none. (is, none)
      | false ↦ λ is none. absurd (cc)
    ] refl e

pub is_sound : (t : Terms) → term_fault t ≡ None → IsSound t
is_sound t e =
    let w1 = within t Principal (RateRange ∷ FeeRange ∷ Payment ∷ Term ∷ FirstDue ∷ Grace ∷ Late ∷ Cushion ∷ EscrowPay ∷ []) e in
    let w2 = within t RateRange (FeeRange ∷ Payment ∷ Term ∷ FirstDue ∷ Grace ∷ Late ∷ Cushion ∷ EscrowPay ∷ []) w1.1 in
    let w3 = within t FeeRange (Payment ∷ Term ∷ FirstDue ∷ Grace ∷ Late ∷ Cushion ∷ EscrowPay ∷ []) w2.1 in
    let w4 = within t Payment (Term ∷ FirstDue ∷ Grace ∷ Late ∷ Cushion ∷ EscrowPay ∷ []) w3.1 in
    let w5 = within t Term (FirstDue ∷ Grace ∷ Late ∷ Cushion ∷ EscrowPay ∷ []) w4.1 in
    let w6 = within t FirstDue (Grace ∷ Late ∷ Cushion ∷ EscrowPay ∷ []) w5.1 in
    let w7 = within t Grace (Late ∷ Cushion ∷ EscrowPay ∷ []) w6.1 in
    let w8 = within t Late (Cushion ∷ EscrowPay ∷ []) w7.1 in
    let w9 = within t Cushion (EscrowPay ∷ []) w8.1 in
    let w10 = within t EscrowPay [] w9.1 in
    let p = both (int_le (pos 1) t.principal) (int_le t.principal (pos 10_000_000_000)) w1.0 in
    let r = both (nat_le 1 t.rate) (nat_le t.rate 25_000) w2.0 in
    let pay = both (int_lt (month_interest t.principal t.rate) t.pi) (int_le t.pi (pos 10_000_000_000)) w4.0 in
    let m = both (nat_le 1 t.term) (nat_le t.term 480) w5.0 in
    let es = both (int_le (pos 0) t.escrow) (int_le t.escrow (pos 10_000_000_000)) w10.0 in
    record {
      principal_low = from_int_le (pos 1) t.principal p.0;
      principal_high = from_int_le t.principal (pos 10_000_000_000) p.1;
      rate_low = at_most 1 t.rate r.0;
      rate_high = at_most t.rate 25_000 r.1;
      fee = at_most t.fee t.rate w3.0;
      pi_low = from_int_lt (month_interest t.principal t.rate) t.pi pay.0;
      pi_high = from_int_le t.pi (pos 10_000_000_000) pay.1;
      term_low = at_most 1 t.term m.0;
      term_high = at_most t.term 480 m.1;
      first_low = (one_of (month_of t.boarded) t.first w6.0).0;
      first_high = (one_of (month_of t.boarded) t.first w6.0).1;
      grace = at_most t.grace 28 w7.0;
      late = at_most t.late 1_000 w8.0;
      cushion = at_most t.cushion 2 w9.0;
      escrow_low = from_int_le (pos 0) t.escrow es.0;
      escrow_high = from_int_le t.escrow (pos 10_000_000_000) es.1;
    }
  where
    at_most : (a b : ℕ) → nat_le a b ≡ true → a ≤ b
    at_most a b e = grind (arith, nat_tests)

    one_of : (m f : ℕ) → ((f == m + 1) || (f == m + 2)) ≡ true → (m + 1 ≤ f) × (f ≤ m + 2)
    one_of m f e =
        elim (f == m + 1) as (λ v. (f == m + 1) ≡ v → (v || (f == m + 2)) ≡ true → (m + 1 ≤ f) × (f ≤ m + 2)) [
          | true ↦ λ is t. let same : f ≡ m + 1 = grind (arith, nat_tests) in (omega (arith, same), omega (arith, same))
          | false ↦ λ is t. let same : f ≡ m + 2 = grind (arith, nat_tests) in (omega (arith, same), omega (arith, same))
        ] refl e

-- ---- a new loan

pub new_held : (n id : ℕ) (t : Terms) (w : World) → MayBegin t w.today → IsHeld (n + 1) w.today (boarded id t w.today)
new_held n id t w may = record {
  limited = begun_limited t w.today may;
  today = refl;
  numbers = All-nil (λ (e : Entry). e.number ≤ n + 1);
  lines = record { few = omega arith; bills = All-nil IsBill; distinct = tt };
  types = omega arith;
  since = All-nil (λ (c : TypeChange). month_of t.boarded ≤ c.from);
}

pub there_boarded : (l : Held) (loans : List Held) (id month : ℕ) → find_loan l.id loans ≡ None → IsThere loans id month → IsThere (with_loan l loans) id month
there_boarded l loans id month none h =
    elim (l.id == id) as (λ v. (l.id == id) ≡ v → find_loan id (with_loan l loans) ≡ (if v then Some l else find_loan id loans) → IsThere (with_loan l loans) id month) [
      | true ↦ λ e found.
          let is : l.id ≡ id = grind (arith, nat_tests) in
          let no : find_loan id loans ≡ None = ap (λ i. find_loan i loans) (sym is) ∙ none in
          absurd (clash (find_loan id loans) h.loan h.found no)
      | false ↦ λ e found. record { loan = h.loan; found = found ∙ h.found; since = h.since }
    ] refl (find_boarded id l loans none)
  where
    clash : (o : Option Held) (l : Held) → o ≡ Some l → o ≡ None → ⊥
    clash o l some none = cc

pub same_due_boarded : (l : Held) (loans : List Held) (id p : ℕ) → find_loan l.id loans ≡ None → p < boarded_month l → IsSameDue (due_by (find_loan id loans) p) (due_by (find_loan id (with_loan l loans)) p)
same_due_boarded l loans id p none lt =
    elim (l.id == id) as (λ v. (l.id == id) ≡ v → find_loan id (with_loan l loans) ≡ (if v then Some l else find_loan id loans) → IsSameDue (due_by (find_loan id loans) p) (due_by (find_loan id (with_loan l loans)) p)) [
      | true ↦ λ e found.
          let is : l.id ≡ id = grind (arith, nat_tests) in
          let no : find_loan id loans ≡ None = ap (λ i. find_loan i loans) (sym is) ∙ none in
          let new = due_before l p lt in
          subst (λ o. IsSameDue (due_by o p) (due_by (find_loan id (with_loan l loans)) p)) (sym no)
          (subst (λ o. IsSameDue (nothing_due p) (due_by o p)) (sym found) new)
      | false ↦ λ e found. equal_due (due_by (find_loan id loans) p) (due_by (find_loan id (with_loan l loans)) p) (ap (λ o. due_by o p) found)
    ] refl (find_boarded id l loans none)

-- the first closed month is not after the month of a loan that is boarded after the last one
pub first_before : (reports : List Sealed) (loans : List Held) (l : Held) → AreConsecutive reports → IfSome (last_month reports) (λ last. last < boarded_month l) → IfSome (first_month reports) (λ first. All (λ (k : Held). first ≤ boarded_month k) loans) → IfSome (first_month reports) (λ first. All (λ (k : Held). first ≤ boarded_month k) (with_loan l loans))
first_before [] loans l c late h = tt
first_before (r ∷ rs) loans l c late h =
    let end = month_after-last r rs c in
    with_loan_all (λ (k : Held). r.month ≤ boarded_month k) l loans (after_last (last_month (r ∷ rs)) r.month (boarded_month l) (omega (arith, end)) late) h
  where
    after_last : (o : Option ℕ) (first b : ℕ) → first + 1 ≤ month_after o → IfSome o (λ last. last < b) → first ≤ b
    after_last None first b le lt = omega (arith, le)
    after_last (Some last) first b le lt = omega (arith, le, lt)

abbrev pub boarded_with : World → Held → Reporting → World
boarded_with w l s = record { today = w.today; loans = with_loan l w.loans; seals = s; remitted = w.remitted }

-- the months that were closed are before the month of the loan
pub closed_before : (n : ℕ) (w : World) (b p : ℕ) → IsWorld n w → IfSome (last_month w.seals.reports) (λ last. last < b) → p < month_after (last_month w.seals.reports) → p < b
closed_before n w b p h late lt = before (last_month w.seals.reports) late lt
  where
    before : (o : Option ℕ) → IfSome o (λ last. last < b) → p < month_after o → p < b
    before None late lt = absurd (omega (arith, lt))
    before (Some last) late lt = omega (arith, late, lt)

pub board_world : (n : ℕ) (w : World) (l : Held) → IsWorld n w → n < 1_000_000 → length w.loans < 12_000 → find_loan l.id w.loans ≡ None → IfSome (last_month w.seals.reports) (λ last. last < boarded_month l) → IsHeld (n + 1) w.today l → IsWorld (n + 1) (boarded_with w l w.seals)
board_world n w l h few room none late held =
    let r = h.reports in
    record {
      count = omega arith;
      today = h.today;
      rising = with_loan_rises l w.loans none h.rising;
      few = (let len = with_loan_length l w.loans in omega (arith, len, room));
      held = with_loan_all (IsHeld (n + 1) w.today) l w.loans held (λ k x lt. held_more n w.today (get_or w.loans k x) (h.held k x lt));
      reports = record {
        sealed = r.sealed;
        few = r.few;
        held = r.held;
        ended = r.ended;
        from_first = first_before w.seals.reports w.loans l r.sealed.consecutive late r.from_first;
        owned = λ k x lt. there_boarded l w.loans (get_or w.seals.pending k x).loan (get_or w.seals.pending k x).month none (r.owned k x lt);
        listed = λ k x lt i y len. there_boarded l w.loans (get_or (get_or w.seals.reports k x).lines i y).loan (get_or w.seals.reports k x).month none (r.listed k x lt i y len);
        remitted = r.remitted;
        in_order = r.in_order;
        sends = r.sends;
        passed = r.passed;
      };
      add_up = same_adds w.seals w.loans (with_loan l w.loans) (λ id p lt. same_due_boarded l w.loans id p none (closed_before n w (boarded_month l) p h late lt)) h.add_up;
    }

-- what the rules of boarding leave
pub record IsBoarding (n : ℕ) (w : World) (id : ℕ) (t : Terms) : Type 0 where
  pub few : n < 1_000_000
  pub room : length w.loans < 12_000
  pub new : find_loan id w.loans ≡ None
  pub terms : IsSound t
  pub late : IfSome (last_month w.seals.reports) (λ last. last < month_of t.boarded)
  pub until : t.boarded ≤ w.today

pub boarding : (n id : ℕ) (t : Terms) (w : World) → refusal_of n w (command.Board id t) ≡ None → IsBoarding n w id t
unfolding refusal_of
boarding n id t w e =
    let one = past (full_of_commands n) (board_cases w id t) e in
    let two = past (case (nat_le 12_000 (length w.loans)) (Full Loans)) (case (is_some (find_loan id w.loans)) LoanExists ∷ (case_of BadTerms (term_fault t) ++ (with_last BoardedLate w (month_of t.boarded) ++ (future_dated w t.boarded ∷ [])))) one.rest in
    let three = past (case (is_some (find_loan id w.loans)) LoanExists) (case_of BadTerms (term_fault t) ++ (with_last BoardedLate w (month_of t.boarded) ++ (future_dated w t.boarded ∷ []))) two.rest in
    let four = past_of BadTerms (term_fault t) (with_last BoardedLate w (month_of t.boarded) ++ (future_dated w t.boarded ∷ [])) three.rest in
    let five = past_last BoardedLate w (month_of t.boarded) (future_dated w t.boarded ∷ []) four.rest in
    let six = past (future_dated w t.boarded) [] five.rest in
    let n2 = two.no in
    let n6 = six.no in
    record {
      few = not_full n one.no;
      room = grind (arith, nat_tests);
      new = absent (find_loan id w.loans) three.no;
      terms = is_sound t four.no;
      late = five.later;
      until = grind (arith, nat_tests);
    }
  where
    absent : (o : Option Held) → is_some o ≡ false → o ≡ None
    absent None e = refl
    absent (Some x) e = absurd (cc)

-- nor has a boarding
pub board_none : (n id : ℕ) (t : Terms) (w : World) → IsWorld n w → IsBoarding n w id t → changes_of (n + 1) (months_of w.seals.reports) w.loans (with_loan (boarded id t w.today) w.loans) ≡ []
board_none n id t w h b =
    let l = boarded id t w.today in
    changes_boarded (n + 1) (months_of w.seals.reports) w.loans w.loans l (all_found w.loans h.rising) b.new
    (All-map (λ p. p < boarded_month l) (λ (r : Sealed). r.month) w.seals.reports (λ k d lt. closed_before n w (boarded_month l) (get_or w.seals.reports k d).month h b.late (h.reports.sealed.reports k d lt).high))

pub board_keeps : (n id : ℕ) (t : Terms) (w : World) → IsWorld n w → IsReadDay t.boarded → refusal_of n w (command.Board id t) ≡ None → IsWorld (n + 1) (after (n + 1) w (command.Board id t))
unfolding after loans_after seals_after
board_keeps n id t w h read e =
    let l = boarded id t w.today in
    let b = boarding n id t w e in
    let may : MayBegin t w.today = record { terms = b.terms; boarded = read; after = b.until } in
    subst (λ s. IsWorld (n + 1) (boarded_with w l s)) (sym (none_pending w.seals (changes_of (n + 1) (months_of w.seals.reports) w.loans (with_loan l w.loans)) (board_none n id t w h b)))
    (board_world n w l h b.few b.room b.new b.late (new_held n id t w may))
