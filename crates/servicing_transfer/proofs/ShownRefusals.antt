-- A command of the part is accepted there where it is accepted here.
use Rattle.std.proofs.Common.{◌≡◌, ℕ, suc, ◌+◌, ◌-◌, ◌≤◌, ◌<◌, Bool, true, false, cond, not, List, [], ◌∷◌, ◌++◌, map, length, get_or, arith, refl, sym, ap, subst, ◌∙◌}
use Rattle.std.specs.Prelude.{◌==◌, nat_lt, nat_le, int_lt, is_some, if◌then◌else◌, Option, Some, None, ⊤, ℤ}
use Rattle.std.specs.List.{All, filter, find}
use Rattle.std.specs.Option.{option_map, option_map_or}
use Rattle.std.proofs.lemmas.List.{length-map}
use Rattle.std.proofs.lemmas.List.Elements.{All-head, All-tail}
use Rattle.std.proofs.lemmas.Bool.Decides.{nat_tests}
use Rattle.svc_base.specs.Calendar.{month_of, last_day}
use Rattle.svc_types.specs.declared.account.Entry.{Entry}
use Rattle.svc_types.specs.declared.books.Books.{Books}
use Rattle.svc_types.specs.declared.escrow.Plan.{Plan}
use Rattle.svc_types.specs.declared.requests.Command.{Command}
use Rattle.svc_types.specs.declared.requests.Command.TheVariants as command
use Rattle.svc_types.specs.declared.replies.Refusal.{Refusal}
use Rattle.svc_types.specs.declared.replies.Refusal.TheVariants as why
use Rattle.svc_types.specs.declared.replies.Limit.TheVariants as limit
use Rattle.svc_types.specs.declared.terms.Terms.{Terms}
use Rattle.svc_types.specs.Terms.{term_fault}
use Rattle.svc_spec.specs.Accounts.{entry_of, reverser_of}
use Rattle.svc_spec.specs.Payoff.{payoff_due, available, is_current}
use Rattle.escrow_analysis.specs.AggregateAnalysis.{base}
use Rattle.escrow_resolve.specs.Parts.{escrow_parts}
use Rattle.escrow_resolve.specs.Lawful.{plan_fault}
use Rattle.period_adjust.specs.Sealed.{Sealed}
use Rattle.period_adjust.specs.Conditions.{last_month, count_sent, count_held}
use Rattle.period_adjust.specs.Kept.{AreConsecutive}
use Rattle.svc_world.specs.Held.{Held, find_loan, boarded_month}
use Rattle.svc_world.specs.Analysing.{opening_of, year_of_loan, loan_plan_fault}
use Rattle.svc_world.specs.World.{World}
use Rattle.svc_world.specs.Refusals.{Case, case, case_of, first_of, on_loan, full_of_commands, full_of_entries, bad_amount, future_dated, before_boarding, closed_from, adjustments_full, is_closed_by, with_last, not_closed, dated_cases, present_cases, asks_no_more, over_principal, payoff_short, no_such_line, over_refund, over_waiver, analyse_cases, is_analysis, entry_reversal_cases, reversal_cases, retype_cases, line_cases, board_cases, expected_close, close_cases, expected_remit, remit_cases, cases_by_command, refusal_of}
use Rattle.svc_world.proofs.CaseLemmas.{past, past_loan}
use Rattle.servicing_transfer.specs.Parts.{is_for, renumbered}
use Rattle.servicing_transfer.proofs.Renumbering.{Counts, IsCounted, IsCountedEntry, IsCountedPair, AreCounted, entry_at, pair_at, counted_eq, books_of_at}
use Rattle.servicing_transfer.proofs.ShownLoans.{loan_at, loans_shown, IsShown, now_shown, find_shown, fewer_loans}
use Rattle.servicing_transfer.proofs.ShownChanges.{reports_shown, report_shown, fewer_adjustments}
use Rattle.servicing_transfer.proofs.StepShown.{remitted_shown, shown, All_shown}

-- from a month on all are the part's
abbrev pub IsUpward : (ℕ → Bool) → Type 0
IsUpward months = (p q : ℕ) → p ≤ q → months p ≡ true → months q ≡ true

-- ---- rules

-- where the first rules refuse nothing, nor do the second
pub record Eases (xs ys : List Case) : Type 0 where
  pub eases : first_of xs ≡ None → first_of ys ≡ None

next_of : (y : Case) (ys : List Case) → y.holds ≡ false → first_of ys ≡ None → first_of (y ∷ ys) ≡ None
next_of y ys holds rest = ap (λ v. option_map (λ (c : Case). c.why) (if v then Some y else find (λ (c : Case). c.holds) ys)) holds ∙ rest

ease : (x y : Case) (xs ys : List Case) → (x.holds ≡ false → y.holds ≡ false) → Eases xs ys → Eases (x ∷ xs) (y ∷ ys)
ease x y xs ys one rest = record { eases = λ e. let p = past x xs e in next_of y ys (one p.no) (rest.eases p.rest) }

same_rules : (xs ys : List Case) → ys ≡ xs → Eases xs ys
same_rules xs ys e = record { eases = λ none. ap first_of e ∙ none }

-- a fault that both have or have not
ease_fault : {A : Type 0} (f : A → Refusal) (o : Option A) (xs ys : List Case) → Eases xs ys → Eases (case_of f o ++ xs) (case_of f o ++ ys)
ease_fault f None xs ys rest = rest
ease_fault f (Some a) xs ys rest = record { eases = λ e. absurd (cc) }

on_shown : (set months : ℕ → Bool) (place : ℕ → ℕ) (w : World) (id : ℕ) (f g : Held → List Case) → set id ≡ true → All_shown set months place w.loans → ((l : Held) → find_loan id w.loans ≡ Some l → AreCounted place l.account → Eases (f l) (g (loan_at place l))) → Eases (on_loan w id f) (on_loan (shown set months place w) id g)
on_shown set months place w id f g is h each = record {
  eases = λ e.
      let on = past_loan w id f e in
      let number = Rattle.svc_world.proofs.LoanListLemmas.found_id id w.loans on.loan on.found in
      let held = Rattle.svc_world.proofs.LoanListLemmas.found_all (IsShown set months place) id w.loans on.loan on.found h in
      let there : find_loan id (loans_shown set place w.loans) ≡ Some (loan_at place on.loan) = find_shown set place id w.loans is ∙ ap (option_map (loan_at place)) on.found in
      ap (λ o. first_of (option_map_or g o (case true why.NoSuchLoan ∷ []))) there ∙ (each on.loan on.found (held.counted (ap set number ∙ is))).eases on.rest;
}

-- ---- reports and adjustments are fewer

fewer_sent : (set months : ℕ → Bool) (place : ℕ → ℕ) (rs : List Sealed) → count_sent (reports_shown set months place rs) ≤ count_sent rs
fewer_sent set months place [] = omega arith
fewer_sent set months place (r ∷ rs) =
    let rest = fewer_sent set months place rs in
    let here = fewer_adjustments set place r.adjustments in
    elim (months r.month) as (λ v. count_sent (if v then report_shown set place r ∷ reports_shown set months place rs else reports_shown set months place rs) ≤ length r.adjustments + count_sent rs) [
      | true ↦ omega (arith, rest, here)
      | false ↦ omega (arith, rest)
    ]

fewer_reports : (set months : ℕ → Bool) (place : ℕ → ℕ) (rs : List Sealed) → length (reports_shown set months place rs) ≤ length rs
fewer_reports set months place [] = omega arith
fewer_reports set months place (r ∷ rs) =
    let rest = fewer_reports set months place rs in
    elim (months r.month) as (λ v. length (if v then report_shown set place r ∷ reports_shown set months place rs else reports_shown set months place rs) ≤ suc (length rs)) [
      | true ↦ omega (arith, rest)
      | false ↦ omega (arith, rest)
    ]

fewer_from : (set months : ℕ → Bool) (place : ℕ → ℕ) (rs : List Sealed) (m : ℕ) → closed_from (reports_shown set months place rs) m ≤ closed_from rs m
fewer_from set months place [] m = omega arith
fewer_from set months place (r ∷ rs) m =
    let rest = fewer_from set months place rs m in
    elim (months r.month) as (λ v. closed_from (if v then report_shown set place r ∷ reports_shown set months place rs else reports_shown set months place rs) m ≤ closed_from (r ∷ rs) m) [
      | true ↦ elim (nat_le m r.month) as (λ v. length (cond v (report_shown set place r ∷ filter (λ (x : Sealed). nat_le m x.month) (reports_shown set months place rs)) (filter (λ (x : Sealed). nat_le m x.month) (reports_shown set months place rs))) ≤ length (cond v (r ∷ filter (λ (x : Sealed). nat_le m x.month) rs) (filter (λ (x : Sealed). nat_le m x.month) rs))) [
        | true ↦ omega (arith, rest)
        | false ↦ rest
      ]
      | false ↦ elim (nat_le m r.month) as (λ v. closed_from (reports_shown set months place rs) m ≤ length (cond v (r ∷ filter (λ (x : Sealed). nat_le m x.month) rs) (filter (λ (x : Sealed). nat_le m x.month) rs))) [
        | true ↦ omega (arith, rest)
        | false ↦ rest
      ]
    ]

room_eased : (set months : ℕ → Bool) (place : ℕ → ℕ) (w : World) (m : ℕ) → (adjustments_full w m).holds ≡ false → (adjustments_full (shown set months place w) m).holds ≡ false
room_eased set months place w m e =
    let sent = fewer_sent set months place w.seals.reports in
    let pending = fewer_adjustments set place w.seals.pending in
    let from = fewer_from set months place w.seals.reports m in
    fits (count_held w.seals + closed_from w.seals.reports m) (count_held (shown set months place w).seals + closed_from (shown set months place w).seals.reports m) (omega (arith, sent, pending, from)) e
  where
    fits : (a b : ℕ) → b ≤ a → nat_lt 4_000_000 a ≡ false → nat_lt 4_000_000 b ≡ false
    fits a b le e = grind (arith, nat_tests)

room_rules : (set months : ℕ → Bool) (place : ℕ → ℕ) (w : World) (m : ℕ) → Eases (adjustments_full w m ∷ []) (adjustments_full (shown set months place w) m ∷ [])
room_rules set months place w m = ease (adjustments_full w m) (adjustments_full (shown set months place w) m) [] [] (room_eased set months place w m) (same_rules [] [] refl)

-- ---- the months of reports

pub last_shown : (set months : ℕ → Bool) (place : ℕ → ℕ) (rs : List Sealed) → IsUpward months → AreConsecutive rs → last_month (reports_shown set months place rs) ≡ remitted_shown months (last_month rs)
last_shown set months place [] up c = refl
last_shown set months place (r ∷ []) up c =
    elim (months r.month) as (λ v. last_month (if v then report_shown set place r ∷ [] else []) ≡ (if v then Some r.month else None)) [ true ↦ refl | false ↦ refl ]
last_shown set months place (r ∷ (s ∷ rs)) up c =
    let rest = last_shown set months place (s ∷ rs) up c.1 in
    elim (months r.month) as (λ v. months r.month ≡ v → last_month (if v then report_shown set place r ∷ reports_shown set months place (s ∷ rs) else reports_shown set months place (s ∷ rs)) ≡ remitted_shown months (last_month (s ∷ rs))) [
      | true ↦ λ e.
          let next : s.month ≡ r.month + 1 = c.0 in
          let also : months s.month ≡ true = up r.month s.month (omega arith) e in
          let is : reports_shown set months place (s ∷ rs) ≡ report_shown set place s ∷ reports_shown set months place rs = ap (λ v. if v then report_shown set place s ∷ reports_shown set months place rs else reports_shown set months place rs) also in
          ap (λ xs. last_month (report_shown set place r ∷ xs)) is ∙ ap last_month (sym is) ∙ rest
      | false ↦ λ e. rest
    ] refl

-- a month that is to be after the last closed one
last_eased : (months : ℕ → Bool) (f : ℕ → Refusal) (m : ℕ) (o : Option ℕ) (xs ys : List Case) → Eases xs ys → Eases (option_map_or (λ last. case (nat_le m last) (f last) ∷ []) o [] ++ xs) (option_map_or (λ last. case (nat_le m last) (f last) ∷ []) (remitted_shown months o) [] ++ ys)
last_eased months f m None xs ys rest = rest
last_eased months f m (Some last) xs ys rest =
    elim (months last) as (λ v. Eases (case (nat_le m last) (f last) ∷ xs) (option_map_or (λ last. case (nat_le m last) (f last) ∷ []) (if v then Some last else None) [] ++ ys)) [
      | true ↦ ease (case (nat_le m last) (f last)) (case (nat_le m last) (f last)) xs ys (λ e. e) rest
      | false ↦ record { eases = λ e. rest.eases ((past (case (nat_le m last) (f last)) xs e).rest) }
    ]

with_last_eased : (set months : ℕ → Bool) (place : ℕ → ℕ) (f : ℕ → Refusal) (w : World) (m : ℕ) (xs ys : List Case) → IsUpward months → AreConsecutive w.seals.reports → Eases xs ys → Eases (with_last f w m ++ xs) (with_last f (shown set months place w) m ++ ys)
with_last_eased set months place f w m xs ys up c rest =
    subst (λ o. Eases (with_last f w m ++ xs) (option_map_or (λ last. case (nat_le m last) (f last) ∷ []) o [] ++ ys)) (sym (last_shown set months place w.seals.reports up c)) (last_eased months f m (last_month w.seals.reports) xs ys rest)

-- ---- entries

full_eased : (place : ℕ → ℕ) (l : Held) → (full_of_entries l).holds ≡ false → (full_of_entries (loan_at place l)).holds ≡ false
full_eased place l e = ap (nat_le 4_096) (length-map l.account.entries (entry_at place)) ∙ e

dated_eased : (set months : ℕ → Bool) (place : ℕ → ℕ) (w : World) (day : ℕ) (c : ℤ) (own : Held → Case) (l : Held) → own (loan_at place l) ≡ own l → Eases (dated_cases w day c own l) (dated_cases (shown set months place w) day c own (loan_at place l))
dated_eased set months place w day c own l same =
    let v = shown set months place w in
    let k = loan_at place l in
    let e5 = ease (own l) (own k) (adjustments_full w (month_of day) ∷ []) (adjustments_full v (month_of day) ∷ []) (λ e. ap (λ (x : Case). x.holds) same ∙ e) (room_rules set months place w (month_of day)) in
    let e4 = ease (before_boarding l day) (before_boarding k day) (own l ∷ adjustments_full w (month_of day) ∷ []) (own k ∷ adjustments_full v (month_of day) ∷ []) (λ e. e) e5 in
    let e3 = ease (future_dated w day) (future_dated v day) (before_boarding l day ∷ own l ∷ adjustments_full w (month_of day) ∷ []) (before_boarding k day ∷ own k ∷ adjustments_full v (month_of day) ∷ []) (λ e. e) e4 in
    let e2 = ease (bad_amount c) (bad_amount c) (future_dated w day ∷ before_boarding l day ∷ own l ∷ adjustments_full w (month_of day) ∷ []) (future_dated v day ∷ before_boarding k day ∷ own k ∷ adjustments_full v (month_of day) ∷ []) (λ e. e) e3 in
    ease (full_of_entries l) (full_of_entries k) (bad_amount c ∷ future_dated w day ∷ before_boarding l day ∷ own l ∷ adjustments_full w (month_of day) ∷ []) (bad_amount c ∷ future_dated v day ∷ before_boarding k day ∷ own k ∷ adjustments_full v (month_of day) ∷ []) (full_eased place l) e2

present_eased : (set months : ℕ → Bool) (place : ℕ → ℕ) (w : World) (c : ℤ) (own : Held → Case) (l : Held) → own (loan_at place l) ≡ own l → Eases (present_cases w c own l) (present_cases (shown set months place w) c own (loan_at place l))
present_eased set months place w c own l same =
    let v = shown set months place w in
    let k = loan_at place l in
    let e3 = ease (own l) (own k) (adjustments_full w (month_of w.today) ∷ []) (adjustments_full v (month_of w.today) ∷ []) (λ e. ap (λ (x : Case). x.holds) same ∙ e) (room_rules set months place w (month_of w.today)) in
    let e2 = ease (bad_amount c) (bad_amount c) (own l ∷ adjustments_full w (month_of w.today) ∷ []) (own k ∷ adjustments_full v (month_of w.today) ∷ []) (λ e. e) e3 in
    ease (full_of_entries l) (full_of_entries k) (bad_amount c ∷ own l ∷ adjustments_full w (month_of w.today) ∷ []) (bad_amount c ∷ own k ∷ adjustments_full v (month_of w.today) ∷ []) (full_eased place l) e2

principal_same : (place : ℕ → ℕ) (day : ℕ) (c : ℤ) (l : Held) → Counts place → AreCounted place l.account → over_principal day c (loan_at place l) ≡ over_principal day c l
principal_same place day c l counts are = ap (λ (b : Books). case (int_lt b.upb c) (why.OverPrincipal b.upb)) (books_of_at place l.account day counts are)

short_same : (place : ℕ → ℕ) (day : ℕ) (c : ℤ) (l : Held) → Counts place → AreCounted place l.account → payoff_short day c (loan_at place l) ≡ payoff_short day c l
short_same place day c l counts are = ap (λ (b : Books). case (int_lt c (payoff_due l.account.terms day b)) (why.PayoffShort (payoff_due l.account.terms day b))) (books_of_at place l.account day counts are)

refund_same : (place : ℕ → ℕ) (c : ℤ) (l : Held) → Counts place → AreCounted place l.account → over_refund c (loan_at place l) ≡ over_refund c l
refund_same place c l counts are = ap (λ (b : Books). case (int_lt (available b) c) (why.OverRefund (available b))) (now_shown place l counts are)

waiver_same : (place : ℕ → ℕ) (c : ℤ) (l : Held) → Counts place → AreCounted place l.account → over_waiver c (loan_at place l) ≡ over_waiver c l
waiver_same place c l counts are = ap (λ (b : Books). case (int_lt b.late_owed c) (why.OverWaiver b.late_owed)) (now_shown place l counts are)

plan_same : (place : ℕ → ℕ) (plan : Plan) (l : Held) → Counts place → AreCounted place l.account → loan_plan_fault (loan_at place l) plan ≡ loan_plan_fault l plan
plan_same place plan l counts are = ap (λ (b : Books). plan_fault (escrow_parts b.escrow (opening_of l)) (base (year_of_loan l)) (is_current l.account.terms l.account.today b) plan) (now_shown place l counts are)

analyse_eased : (set months : ℕ → Bool) (place : ℕ → ℕ) (w : World) (plan : Plan) (l : Held) → Counts place → AreCounted place l.account → Eases (analyse_cases w plan l) (analyse_cases (shown set months place w) plan (loan_at place l))
analyse_eased set months place w plan l counts are =
    let v = shown set months place w in
    let room = room_rules set months place w (month_of w.today) in
    let fault = ease_fault why.BadPlan (loan_plan_fault l plan) (adjustments_full w (month_of w.today) ∷ []) (adjustments_full v (month_of w.today) ∷ []) room in
    let fault' : Eases (case_of why.BadPlan (loan_plan_fault l plan) ++ (adjustments_full w (month_of w.today) ∷ [])) (case_of why.BadPlan (loan_plan_fault (loan_at place l) plan) ++ (adjustments_full v (month_of w.today) ∷ [])) = subst (λ o. Eases (case_of why.BadPlan (loan_plan_fault l plan) ++ (adjustments_full w (month_of w.today) ∷ [])) (case_of why.BadPlan o ++ (adjustments_full v (month_of w.today) ∷ []))) (sym (plan_same place plan l counts are)) fault in
    ease (full_of_entries l) (full_of_entries (loan_at place l)) (case_of why.BadPlan (loan_plan_fault l plan) ++ (adjustments_full w (month_of w.today) ∷ [])) (case_of why.BadPlan (loan_plan_fault (loan_at place l) plan) ++ (adjustments_full v (month_of w.today) ∷ [])) (full_eased place l) fault'

-- ---- reversals

pub found_number : (place : ℕ → ℕ) (number : ℕ) (es : List Entry) (e : Entry) → All (IsCountedEntry place) es → find (λ (x : Entry). x.number == number) es ≡ Some e → IsCounted place number
found_number place number [] e h is = absurd (cc)
found_number place number (x ∷ xs) e h is =
    elim (x.number == number) as (λ v. (x.number == number) ≡ v → cond v (Some x) (find (λ (y : Entry). y.number == number) xs) ≡ Some e → IsCounted place number) [
      | true ↦ λ same found. let number_is : x.number ≡ number = grind (arith, nat_tests) in subst (IsCounted place) number_is (All-head (IsCountedEntry place) x xs h)
      | false ↦ λ other found. found_number place number xs e (All-tail (IsCountedEntry place) x xs h) found
    ] refl is

entry_of_at : (place : ℕ → ℕ) (number : ℕ) (es : List Entry) → Counts place → IsCounted place number → All (IsCountedEntry place) es → find (λ (x : Entry). x.number == place number) (map (entry_at place) es) ≡ option_map (entry_at place) (find (λ (x : Entry). x.number == number) es)
entry_of_at place number [] counts is h = refl
entry_of_at place number (x ∷ xs) counts is h =
    let here = counted_eq place x.number number counts (All-head (IsCountedEntry place) x xs h) is in
    let rest = entry_of_at place number xs counts is (All-tail (IsCountedEntry place) x xs h) in
    ap (λ v. cond v (Some (entry_at place x)) (find (λ (y : Entry). y.number == place number) (map (entry_at place) xs))) here
    ∙ elim (x.number == number) as (λ v. cond v (Some (entry_at place x)) (find (λ (y : Entry). y.number == place number) (map (entry_at place) xs)) ≡ option_map (entry_at place) (cond v (Some x) (find (λ (y : Entry). y.number == number) xs))) [
      | true ↦ refl
      | false ↦ rest
    ]

reverser_at : (place : ℕ → ℕ) (number : ℕ) (rs : List (ℕ × ℕ)) → Counts place → IsCounted place number → All (IsCountedPair place) rs → option_map (λ (r : ℕ × ℕ). r.1) (find (λ (r : ℕ × ℕ). r.0 == place number) (map (pair_at place) rs)) ≡ option_map place (option_map (λ (r : ℕ × ℕ). r.1) (find (λ (r : ℕ × ℕ). r.0 == number) rs))
reverser_at place number [] counts is h = refl
reverser_at place number (x ∷ xs) counts is h =
    let here = counted_eq place x.0 number counts (All-head (IsCountedPair place) x xs h) is in
    let rest = reverser_at place number xs counts is (All-tail (IsCountedPair place) x xs h) in
    ap (λ v. option_map (λ (r : ℕ × ℕ). r.1) (cond v (Some (pair_at place x)) (find (λ (r : ℕ × ℕ). r.0 == place number) (map (pair_at place) xs)))) here
    ∙ elim (x.0 == number) as (λ v. option_map (λ (r : ℕ × ℕ). r.1) (cond v (Some (pair_at place x)) (find (λ (r : ℕ × ℕ). r.0 == place number) (map (pair_at place) xs))) ≡ option_map place (option_map (λ (r : ℕ × ℕ). r.1) (cond v (Some x) (find (λ (r : ℕ × ℕ). r.0 == number) xs)))) [
      | true ↦ refl
      | false ↦ rest
    ]

-- the entry is there, and its number is counted
pub named_number : (place : ℕ → ℕ) (w : World) (number : ℕ) (l : Held) → AreCounted place l.account → first_of (reversal_cases w number l) ≡ None → IsCounted place number
named_number place w number l are none =
    elim (entry_of l.account number) as (λ o. entry_of l.account number ≡ o → first_of (entry_reversal_cases w (reverser_of l.account number) o) ≡ None → IsCounted place number) [
      | None ↦ λ e h. absurd (cc)
      | Some x ↦ λ e h. found_number place number l.account.entries x are.entries e
    ] refl none

entry_eased : (set months : ℕ → Bool) (place : ℕ → ℕ) (w : World) (r : Option ℕ) (o : Option Entry) → Eases (entry_reversal_cases w r o) (entry_reversal_cases (shown set months place w) (option_map place r) (option_map (entry_at place) o))
entry_eased set months place w r None = record { eases = λ e. absurd (cc) }
entry_eased set months place w None (Some x) = ease (case (is_analysis x.act) why.NotReversible) (case (is_analysis x.act) why.NotReversible) (adjustments_full w (month_of x.day) ∷ []) (adjustments_full (shown set months place w) (month_of x.day) ∷ []) (λ e. e) (room_rules set months place w (month_of x.day))
entry_eased set months place w (Some n) (Some x) = record { eases = λ e. absurd (cc) }

reverse_eased : (set months : ℕ → Bool) (place : ℕ → ℕ) (w : World) (number : ℕ) (l : Held) → Counts place → AreCounted place l.account → Eases (reversal_cases w number l) (reversal_cases (shown set months place w) (place number) (loan_at place l))
reverse_eased set months place w number l counts are = record {
  eases = λ e.
      let is = named_number place w number l are e in
      let v = shown set months place w in
      ap (λ o. first_of (entry_reversal_cases v (reverser_of (loan_at place l).account (place number)) o)) (entry_of_at place number l.account.entries counts is are.entries)
      ∙ ap (λ r. first_of (entry_reversal_cases v r (option_map (entry_at place) (entry_of l.account number)))) (reverser_at place number l.account.reversals counts is are.reversals)
      ∙ (entry_eased set months place w (reverser_of l.account number) (entry_of l.account number)).eases e;
}

-- ---- loans and months

retype_eased : (set months : ℕ → Bool) (place : ℕ → ℕ) (w : World) (from : ℕ) (l : Held) → IsUpward months → AreConsecutive w.seals.reports → Eases (retype_cases w from l) (retype_cases (shown set months place w) from (loan_at place l))
retype_eased set months place w from l up c =
    let v = shown set months place w in
    let last : Eases (with_last why.ClosedMonth w from) (with_last why.ClosedMonth v from) = subst (λ xs. Eases xs (with_last why.ClosedMonth v from)) (Rattle.std.proofs.Common.append-nil (with_last why.ClosedMonth w from)) (subst (λ ys. Eases (with_last why.ClosedMonth w from ++ []) ys) (Rattle.std.proofs.Common.append-nil (with_last why.ClosedMonth v from)) (with_last_eased set months place why.ClosedMonth w from [] [] up c (same_rules [] [] refl))) in
    let begun = ease (case (nat_lt from (boarded_month l)) (why.BeforeBoarding l.account.terms.boarded)) (case (nat_lt from (boarded_month l)) (why.BeforeBoarding l.account.terms.boarded)) (with_last why.ClosedMonth w from) (with_last why.ClosedMonth v from) (λ e. e) last in
    ease (case (nat_le 64 (length l.types)) (why.Full limit.Types)) (case (nat_le 64 (length l.types)) (why.Full limit.Types)) (case (nat_lt from (boarded_month l)) (why.BeforeBoarding l.account.terms.boarded) ∷ with_last why.ClosedMonth w from) (case (nat_lt from (boarded_month l)) (why.BeforeBoarding l.account.terms.boarded) ∷ with_last why.ClosedMonth v from) (λ e. e) begun

board_eased : (set months : ℕ → Bool) (place : ℕ → ℕ) (w : World) (id : ℕ) (t : Terms) → set id ≡ true → IsUpward months → AreConsecutive w.seals.reports → Eases (board_cases w id t) (board_cases (shown set months place w) id t)
board_eased set months place w id t is up c =
    let v = shown set months place w in
    let future = ease (future_dated w t.boarded) (future_dated v t.boarded) [] [] (λ e. e) (same_rules [] [] refl) in
    let late = with_last_eased set months place why.BoardedLate w (month_of t.boarded) (future_dated w t.boarded ∷ []) (future_dated v t.boarded ∷ []) up c future in
    let terms = ease_fault why.BadTerms (term_fault t) (with_last why.BoardedLate w (month_of t.boarded) ++ (future_dated w t.boarded ∷ [])) (with_last why.BoardedLate v (month_of t.boarded) ++ (future_dated v t.boarded ∷ [])) late in
    let exists = ease (case (is_some (find_loan id w.loans)) why.LoanExists) (case (is_some (find_loan id v.loans)) why.LoanExists) (case_of why.BadTerms (term_fault t) ++ (with_last why.BoardedLate w (month_of t.boarded) ++ (future_dated w t.boarded ∷ []))) (case_of why.BadTerms (term_fault t) ++ (with_last why.BoardedLate v (month_of t.boarded) ++ (future_dated v t.boarded ∷ []))) (λ e. ap is_some (find_shown set place id w.loans is) ∙ some_same (find_loan id w.loans) ∙ e) terms in
    ease (case (nat_le 12_000 (length w.loans)) (why.Full limit.Loans)) (case (nat_le 12_000 (length v.loans)) (why.Full limit.Loans)) (case (is_some (find_loan id w.loans)) why.LoanExists ∷ (case_of why.BadTerms (term_fault t) ++ (with_last why.BoardedLate w (month_of t.boarded) ++ (future_dated w t.boarded ∷ [])))) (case (is_some (find_loan id v.loans)) why.LoanExists ∷ (case_of why.BadTerms (term_fault t) ++ (with_last why.BoardedLate v (month_of t.boarded) ++ (future_dated v t.boarded ∷ [])))) (λ e. fits (length w.loans) (length v.loans) (fewer_loans set place w.loans) e) exists
  where
    some_same : (o : Option Held) → is_some (option_map (loan_at place) o) ≡ is_some o
    some_same None = refl
    some_same (Some l) = refl

    fits : (a b : ℕ) → b ≤ a → nat_le 12_000 a ≡ false → nat_le 12_000 b ≡ false
    fits a b le e = grind (arith, nat_tests)

same_test : (a b : ℕ) → a ≡ b → not (a == b) ≡ false
same_test a b e = let is : (a == b) ≡ true = grind (arith, nat_tests) in ap not is

close_eased : (set months : ℕ → Bool) (place : ℕ → ℕ) (w : World) (p : ℕ) → p ≡ expected_close (shown set months place w) → Eases (close_cases w p) (close_cases (shown set months place w) p)
close_eased set months place w p timely =
    let v = shown set months place w in
    let ended = ease (case (nat_le w.today (last_day p)) (why.NotEnded (last_day p))) (case (nat_le w.today (last_day p)) (why.NotEnded (last_day p))) [] [] (λ e. e) (same_rules [] [] refl) in
    let period = ease (case (not (p == expected_close w)) (why.WrongPeriod (expected_close w))) (case (not (p == expected_close v)) (why.WrongPeriod (expected_close v))) (case (nat_le w.today (last_day p)) (why.NotEnded (last_day p)) ∷ []) (case (nat_le w.today (last_day p)) (why.NotEnded (last_day p)) ∷ []) (λ e. same_test p (expected_close v) timely) ended in
    ease (case (nat_le 600 (length w.seals.reports)) (why.Full limit.Months)) (case (nat_le 600 (length v.seals.reports)) (why.Full limit.Months)) (case (not (p == expected_close w)) (why.WrongPeriod (expected_close w)) ∷ case (nat_le w.today (last_day p)) (why.NotEnded (last_day p)) ∷ []) (case (not (p == expected_close v)) (why.WrongPeriod (expected_close v)) ∷ case (nat_le w.today (last_day p)) (why.NotEnded (last_day p)) ∷ []) (λ e. fits (length w.seals.reports) (length v.seals.reports) (fewer_reports set months place w.seals.reports) e) period
  where
    fits : (a b : ℕ) → b ≤ a → nat_le 600 a ≡ false → nat_le 600 b ≡ false
    fits a b le e = grind (arith, nat_tests)

closed_shown : (months : ℕ → Bool) (p : ℕ) (o : Option ℕ) → IsUpward months → months p ≡ true → is_closed_by (remitted_shown months o) p ≡ is_closed_by o p
closed_shown months p None up is = refl
closed_shown months p (Some last) up is =
    elim (nat_le p last) as (λ v. nat_le p last ≡ v → is_closed_by (if months last then Some last else None) p ≡ nat_le p last) [
      | true ↦ λ e.
          let le : p ≤ last = grind (arith, nat_tests) in
          ap (λ v. is_closed_by (if v then Some last else None) p) (up p last le is)
      | false ↦ λ e.
          elim (months last) as (λ v. is_closed_by (if v then Some last else None) p ≡ nat_le p last) [ true ↦ refl | false ↦ sym e ]
    ] refl

remit_eased : (set months : ℕ → Bool) (place : ℕ → ℕ) (w : World) (p : ℕ) → IsUpward months → AreConsecutive w.seals.reports → months p ≡ true → p ≡ expected_remit (shown set months place w) → Eases (remit_cases w p) (remit_cases (shown set months place w) p)
remit_eased set months place w p up c is timely =
    let v = shown set months place w in
    let due = ease (case (not (p == expected_remit w)) (why.WrongRemit (expected_remit w))) (case (not (p == expected_remit v)) (why.WrongRemit (expected_remit v))) [] [] (λ e. same_test p (expected_remit v) timely) (same_rules [] [] refl) in
    ease (not_closed w p) (not_closed v p) (case (not (p == expected_remit w)) (why.WrongRemit (expected_remit w)) ∷ []) (case (not (p == expected_remit v)) (why.WrongRemit (expected_remit v)) ∷ []) (λ e. ap (λ o. not (is_closed_by o p)) (last_shown set months place w.seals.reports up c) ∙ ap not (closed_shown months p (last_month w.seals.reports) up is) ∙ e) due

-- ---- all commands

-- a month that the part closes or remits is the one that it expects
abbrev pub IsTimely : (ℕ → Bool) → (ℕ → Bool) → (ℕ → ℕ) → World → Command → Type 0
IsTimely set months place w (command.Close p) = p ≡ expected_close (shown set months place w)
IsTimely set months place w (command.Remit p) = p ≡ expected_remit (shown set months place w)
IsTimely set months place w c = ⊤

cases_eased : (set months : ℕ → Bool) (place : ℕ → ℕ) (w : World) (c : Command) → Counts place → IsUpward months → AreConsecutive w.seals.reports → All_shown set months place w.loans → IsTimely set months place w c → is_for set months c ≡ true → Eases (cases_by_command w c) (cases_by_command (shown set months place w) (renumbered place c))
cases_eased set months place w (command.Day d) counts up con h timely is = same_rules _ _ refl
cases_eased set months place w (command.Board id t) counts up con h timely is = board_eased set months place w id t is up con
cases_eased set months place w (command.Pay id d c over) counts up con h timely is = on_shown set months place w id (dated_cases w d c asks_no_more) (dated_cases (shown set months place w) d c asks_no_more) is h (λ l found are. dated_eased set months place w d c asks_no_more l refl)
cases_eased set months place w (command.Curtail id d c) counts up con h timely is = on_shown set months place w id (dated_cases w d c (over_principal d c)) (dated_cases (shown set months place w) d c (over_principal d c)) is h (λ l found are. dated_eased set months place w d c (over_principal d c) l (principal_same place d c l counts are))
cases_eased set months place w (command.Payoff id d c) counts up con h timely is = on_shown set months place w id (dated_cases w d c (payoff_short d c)) (dated_cases (shown set months place w) d c (payoff_short d c)) is h (λ l found are. dated_eased set months place w d c (payoff_short d c) l (short_same place d c l counts are))
cases_eased set months place w (command.Deposit id d c) counts up con h timely is = on_shown set months place w id (dated_cases w d c asks_no_more) (dated_cases (shown set months place w) d c asks_no_more) is h (λ l found are. dated_eased set months place w d c asks_no_more l refl)
cases_eased set months place w (command.Disburse id d c line) counts up con h timely is = on_shown set months place w id (dated_cases w d c (no_such_line line)) (dated_cases (shown set months place w) d c (no_such_line line)) is h (λ l found are. dated_eased set months place w d c (no_such_line line) l refl)
cases_eased set months place w (command.Refund id c) counts up con h timely is = on_shown set months place w id (present_cases w c (over_refund c)) (present_cases (shown set months place w) c (over_refund c)) is h (λ l found are. present_eased set months place w c (over_refund c) l (refund_same place c l counts are))
cases_eased set months place w (command.Waive id c) counts up con h timely is = on_shown set months place w id (present_cases w c (over_waiver c)) (present_cases (shown set months place w) c (over_waiver c)) is h (λ l found are. present_eased set months place w c (over_waiver c) l (waiver_same place c l counts are))
cases_eased set months place w (command.Reverse id number) counts up con h timely is = on_shown set months place w id (reversal_cases w number) (reversal_cases (shown set months place w) (place number)) is h (λ l found are. reverse_eased set months place w number l counts are)
cases_eased set months place w (command.Line id line kind month every c) counts up con h timely is = on_shown set months place w id (line_cases (record { id = line; kind = kind; month = month; every = every; cents = c })) (line_cases (record { id = line; kind = kind; month = month; every = every; cents = c })) is h (λ l found are. same_rules _ _ refl)
cases_eased set months place w (command.Drop id line) counts up con h timely is = on_shown set months place w id (λ l. no_such_line line l ∷ []) (λ l. no_such_line line l ∷ []) is h (λ l found are. same_rules _ _ refl)
cases_eased set months place w (command.Analyse id plan) counts up con h timely is = on_shown set months place w id (analyse_cases w plan) (analyse_cases (shown set months place w) plan) is h (λ l found are. analyse_eased set months place w plan l counts are)
cases_eased set months place w (command.Close p) counts up con h timely is = close_eased set months place w p timely
cases_eased set months place w (command.Remit p) counts up con h timely is = remit_eased set months place w p up con is timely
cases_eased set months place w (command.Retype id from kind) counts up con h timely is = on_shown set months place w id (retype_cases w from) (retype_cases (shown set months place w) from) is h (λ l found are. retype_eased set months place w from l up con)

pub accepted_shown : (set months : ℕ → Bool) (place : ℕ → ℕ) (n m : ℕ) (w : World) (c : Command) → m ≤ n → Counts place → IsUpward months → AreConsecutive w.seals.reports → All_shown set months place w.loans → IsTimely set months place w c → is_for set months c ≡ true → refusal_of n w c ≡ None → refusal_of m (shown set months place w) (renumbered place c) ≡ None
unfolding refusal_of
accepted_shown set months place n m w c le counts up con h timely is none =
    (ease (full_of_commands n) (full_of_commands m) (cases_by_command w c) (cases_by_command (shown set months place w) (renumbered place c)) (fits n m le) (cases_eased set months place w c counts up con h timely is)).eases none
  where
    fits : (a b : ℕ) → b ≤ a → nat_le 1_000_000 a ≡ false → nat_le 1_000_000 b ≡ false
    fits a b le e = grind (arith, nat_tests)
