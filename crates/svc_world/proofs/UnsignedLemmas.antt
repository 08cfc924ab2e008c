-- What texts say of an answer without a sign is not below 0.
use Rattle.std.proofs.Common.{◌≡◌, ℕ, List, [], ◌∷◌, true, false, cond, map, get_or, length, arith, refl, subst}
use Rattle.std.specs.Prelude.{pos, ◌≤ℤ◌, Option, Some, None, ◌==◌, int_lt, if◌then◌else◌}
use Rattle.std.specs.List.{All, filter}
use Rattle.std.specs.Option.{option_map, option_map_or}
use Rattle.std.proofs.lemmas.Int.{ints, clamps}
use Rattle.std.proofs.lemmas.List.Elements.{All-map, All-filter, All-cons, All-nil, All-head, All-tail}
use Rattle.svc_base.proofs.MoneyLemmas.{month_interest_low, day_interest_low}
use Rattle.svc_types.specs.Terms.{IsSound}
use Rattle.svc_types.specs.declared.terms.Terms.{Terms}
use Rattle.svc_types.specs.declared.books.Books.{Books}
use Rattle.svc_types.specs.declared.requests.Query.{Query}
use Rattle.svc_types.specs.declared.requests.Query.TheVariants as query
use Rattle.svc_types.specs.declared.account.Entry.{Entry}
use Rattle.svc_types.specs.declared.account.Event.{Event}
use Rattle.svc_spec.specs.Books.{HaveSigns, IsWhat, start}
use Rattle.svc_spec.specs.Step.{step}
use Rattle.svc_spec.specs.Events.{events_to}
use Rattle.svc_spec.specs.Accounts.{Account, IsAccount, live_of, books_of}
use Rattle.svc_spec.specs.History.{Passed, passed, number_for, left_behind, has_line, history_line, lines_of_passed, history_of}
use Rattle.svc_spec.specs.Arrears.{arrears_of}
use Rattle.svc_spec.specs.Installments.{installment, open_installment, due_month}
use Rattle.svc_spec.proofs.AccountLemmas.{account_books, account_folds}
use Rattle.svc_spec.proofs.EventLemmas.{CanFold, can_fold_step}
use Rattle.svc_spec.proofs.ArrearsLemmas.{sum_low}
use Rattle.svc_spec.proofs.InstallmentLemmas.{IsBalance, principal_part_bounds, escrow_part_bounds}
use Rattle.period_adjust.specs.Sealed.{Sealed}
use Rattle.svc_world.specs.declared.answer.Answer.{Answer}
use Rattle.svc_world.specs.declared.desk.LateLoan.{LateLoan}
use Rattle.svc_world.specs.Held.{Held, find_loan, books_now}
use Rattle.svc_world.specs.Analysing.{asked_figures}
use Rattle.svc_world.specs.World.{Accepted, world}
use Rattle.svc_world.specs.Worlds.{IsHeld}
use Rattle.svc_world.specs.Judging.{report_for, IsHistory}
use Rattle.svc_world.specs.Desk.{books_on, late_loan, late_loans, is_late}
use Rattle.svc_world.specs.Answers.{whole_of, books_answer, answer_from, answer_to}
use Rattle.svc_world.specs.Laws.{IsUnsignedReport}
use Rattle.svc_world.specs.Unsigned.{AreUnsignedBooks, AreUnsignedFigures, AreUnsignedArrears, AreUnsignedTerms, IsUnsignedEvent, IsUnsignedAnswer}
use Rattle.svc_world.proofs.AnalysisLemmas.{is_analysed}
use Rattle.svc_world.proofs.HistoryLemmas.{is_world}
use Rattle.svc_world.proofs.LoanListLemmas.{found_all}
use Rattle.svc_world.proofs.SignLemmas.{custody_is_unsigned, reports_are_unsigned}

-- ---- a loan's books

signs_at : (l : Held) (d : ℕ) → IsAccount l.account → HaveSigns l.account.terms (books_of l.account d)
signs_at l d h = (account_books l.account d h).signs

books_unsigned : (t : Terms) (b : Books) → HaveSigns t b → AreUnsignedBooks b
books_unsigned t b h = record { upb = h.upb_low; suspense = h.suspense; late_owed = h.late_owed; interest = h.interest; fee = h.fee; principal = h.principal; late_paid = h.late_paid }

whole_low : (t : Terms) (b : Books) → IsSound t → HaveSigns t b → pos 0 ≤ℤ whole_of (installment t b)
whole_low t b s h =
    let balance : IsBalance t b.upb = record { low = h.upb_low; high = h.upb_high } in
    let interest = month_interest_low b.upb t.rate in
    let principal = (principal_part_bounds t b.upb b.next s balance).0 in
    let escrow = (escrow_part_bounds b.plan b.earlier (due_month t b.next) h.plan h.earlier).0 in
    omega (arith, ints, interest, principal, escrow)

pay_low : (t : Terms) (b : Books) → IsSound t → HaveSigns t b → pos 0 ≤ℤ option_map_or whole_of (open_installment t b) (pos 0)
pay_low t b s h =
    elim (int_lt (pos 0) b.upb) as (λ v. pos 0 ≤ℤ option_map_or whole_of (if v then Some (installment t b) else None) (pos 0)) [
      | true ↦ whole_low t b s h
      | false ↦ omega (arith, ints)
    ]

books_low : (l : Held) (d : ℕ) → IsAccount l.account → IsUnsignedAnswer (books_answer l (books_of l.account d))
books_low l d h = (books_unsigned l.account.terms (books_of l.account d) (signs_at l d h), pay_low l.account.terms (books_of l.account d) h.terms (signs_at l d h))

arrears_low : (l : Held) (d : ℕ) → IsAccount l.account → AreUnsignedArrears (arrears_of l.account.terms d (books_now l))
arrears_low l d h =
    let signs = signs_at l l.account.today h in
    record { due = sum_low l.account.terms d (books_now l) h.terms signs; suspense = signs.suspense; pay = omega (arith, ints, clamps); late = signs.late_owed }

terms_low : (n d : ℕ) (l : Held) → IsHeld n d l → AreUnsignedTerms l.account.terms l.lines
terms_low n d l h =
    let s = h.limited.account.terms in
    let t = l.account.terms in
    let principal = s.principal_low in
    let pi = s.pi_low in
    let interest = month_interest_low t.principal t.rate in
    record {
      principal = omega (arith, ints, principal);
      pi = omega (arith, ints, pi, interest);
      escrow = s.escrow_low;
      bills = λ k x lt. let low = (h.lines.bills k x lt).cents_low in omega (arith, ints, low);
    }

figures_low : (n d : ℕ) (l : Held) → IsHeld n d l → AreUnsignedFigures (asked_figures l)
figures_low n d l h =
    let it = is_analysed n d l h in
    let parts = it.within.parts in
    record {
      base = it.base.low;
      cushion = omega (arith, ints);
      opening = it.opening.low;
      surplus = parts.surplus_low;
      short = parts.short_low;
      deficient = parts.deficient_low;
    }

-- ---- a loan's history

events_low : (t : Terms) (b : Books) (live : List Entry) (es : List Event) → IsSound t → CanFold t b es → All IsUnsignedEvent (lines_of_passed t (passed t b live es))
unfolding passed
events_low t b live [] s h = All-nil IsUnsignedEvent
events_low t b live (e ∷ es) s h =
    let p : Passed = record { event = e; number = number_for e.what live; before = b; after = step t e b } in
    let ps = passed t (step t e b) (left_behind e.what live) es in
    let next = can_fold_step t b e es s h in
    let rest = events_low t (step t e b) (left_behind e.what live) es s next in
    let low : IsUnsignedEvent (history_line t p) = record { upb = next.books.signs.upb_low; what = All-head (λ x. IsWhat x.what) e es h.whats } in
    elim (has_line p) as (λ v. All IsUnsignedEvent (map (history_line t) (cond v (p ∷ filter has_line ps) (filter has_line ps)))) [
      | true ↦ All-cons IsUnsignedEvent (history_line t p) (map (history_line t) (filter has_line ps)) low rest
      | false ↦ rest
    ]

history_low : (a : Account) → IsAccount a → All IsUnsignedEvent (history_of a)
unfolding history_of
history_low a h = events_low a.terms (start a.terms) (live_of a) (events_to a.terms (live_of a) a.today) h.terms (account_folds a a.today h)

-- ---- an answer

made : {A : Type 0} (f : A → Answer) (o : Option A) (a : Answer) → ((x : A) → o ≡ Some x → IsUnsignedAnswer (f x)) → option_map f o ≡ Some a → IsUnsignedAnswer a
made f None a all e = absurd (cc)
made f (Some x) a all e = let same : f x ≡ a = cc in subst IsUnsignedAnswer same (all x refl)

there : {x a : Answer} → IsUnsignedAnswer x → Some x ≡ Some a → IsUnsignedAnswer a
there {x} {a} is e = let same : x ≡ a = cc in subst IsUnsignedAnswer same is

report_low : (p : ℕ) (rs : List Sealed) (r : Sealed) → report_for p rs ≡ Some r → All IsUnsignedReport rs → IsUnsignedReport r
report_low p [] r e h = absurd (cc)
report_low p (x ∷ xs) r e h =
    elim (x.month == p) as (λ v. cond v (Some x) (report_for p xs) ≡ Some r → IsUnsignedReport r) [
      | true ↦ λ is. let same : x ≡ r = cc in subst IsUnsignedReport same (All-head IsUnsignedReport x xs h)
      | false ↦ λ is. report_low p xs r is (All-tail IsUnsignedReport x xs h)
    ] e

late_low : (d : ℕ) (ls : List Held) → All (λ (l : Held). IsAccount l.account) ls → All (λ (x : LateLoan). AreUnsignedArrears x.arrears) (late_loans d ls)
unfolding late_loans
late_low d ls h =
    All-map (λ (x : LateLoan). AreUnsignedArrears x.arrears) (late_loan d) (filter (is_late d) ls)
    (All-filter (is_late d) (λ (l : Held). AreUnsignedArrears (late_loan d l).arrears) ls (λ k x lt. arrears_low (get_or ls k x) d (h k x lt)))

module _ (h : List Accepted) (is : IsHistory h) where
  held : (id : ℕ) (l : Held) → find_loan id (world h).loans ≡ Some l → IsHeld (length h) (world h).today l
  held id l found = found_all (IsHeld (length h) (world h).today) id (world h).loans l found (is_world h is).held

  account : (id : ℕ) (l : Held) → find_loan id (world h).loans ≡ Some l → IsAccount l.account
  account id l found = (held id l found).limited.account

  pub answer_low : (q : Query) (a : Answer) → answer_to h q ≡ Some a → IsUnsignedAnswer a
  unfolding answer_from
  answer_low (query.Books id) a e = made _ (find_loan id (world h).loans) a (λ l found. books_low l l.account.today (account id l found)) e
  answer_low (query.At id d) a e = made _ (find_loan id (world h).loans) a (λ l found. books_low l d (account id l found)) e
  answer_low (query.Payoff id d) a e = made _ (find_loan id (world h).loans) a (λ l found. omega (arith, ints, clamps)) e
  answer_low (query.Escrow id) a e = made _ (find_loan id (world h).loans) a (λ l found. figures_low (length h) (world h).today l (held id l found)) e
  answer_low (query.Report p) a e = made _ (report_for p (world h).seals.reports) a (λ r found. report_low p (world h).seals.reports r found (reports_are_unsigned h is)) e
  answer_low (query.Trial p) a e = made _ (report_for p (world h).seals.reports) a (λ r found. report_low p (world h).seals.reports r found (reports_are_unsigned h is)) e
  answer_low query.Custodial a e =
      let c = custody_is_unsigned h is in
      there (record { suspense = c.suspense; escrow_advance = c.escrow_advance; held = c.held; pi_advance = c.pi_advance }) e
  answer_low (query.Rows number) a e = there tt e
  answer_low (query.Loan id) a e = made _ (find_loan id (world h).loans) a (λ l found. terms_low (length h) (world h).today l (held id l found)) e
  answer_low (query.History id) a e = made _ (find_loan id (world h).loans) a (λ l found. history_low l.account (account id l found)) e
  answer_low (query.Quote id d) a e = made _ (find_loan id (world h).loans) a (λ l found. (omega (arith, ints, clamps), day_interest_low (books_on l d).upb l.account.terms.rate 1)) e
  answer_low (query.Arrears id) a e = made _ (find_loan id (world h).loans) a (λ l found. arrears_low l (world h).today (account id l found)) e
  answer_low query.Aging a e = there (late_low (world h).today (world h).loans (λ k l lt. ((is_world h is).held k l lt).limited.account)) e
  answer_low query.Status a e = there tt e
  answer_low (query.Command number) a e = made _ _ a (λ p found. tt) e
  answer_low (query.Key key) a e = made _ _ a (λ p found. tt) e
