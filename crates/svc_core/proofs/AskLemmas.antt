-- What the answers to queries stand on.
use Rattle.std.proofs.Common.{◌≡◌, ℕ, suc, ◌+◌, ◌-◌, ◌≤◌, ◌<◌, true, false, cond, List, [], ◌∷◌, length, get_or, arith, refl, sym, ap, subst, ◌∙◌}
use Rattle.std.specs.Prelude.{◌==◌, is_some, IfErr, Result, Ok, Err, Option, Some, None, IfSome, pos, int_lt, if◌then◌else◌}
use Rattle.std.specs.Option.{option_map}
use Rattle.std.proofs.lemmas.Int.{ints}
use Rattle.std.proofs.lemmas.Bool.Decides.{nat_tests}
use Rattle.std.proofs.Math.ListN.{get_or-map as get_mapped}
use Rattle.std.proofs.lemmas.List.{length-map}
use Rattle.svc_base.proofs.MoneyLemmas.{month_interest_low, month_interest_most}
use Rattle.svc_types.specs.declared.terms.Terms.{Terms}
use Rattle.svc_types.specs.Terms.{IsSound}
use Rattle.svc_types.specs.declared.books.Books.{Books}
use Rattle.svc_spec.specs.Books.{AreBooks}
use Rattle.svc_spec.specs.Installments.{installment, open_installment, due_month}
use Rattle.svc_spec.proofs.InstallmentLemmas.{IsBalance, principal_part_bounds, escrow_part_bounds}
use Rattle.period_adjust.specs.Sealed.{Sealed, State}
use Rattle.period_adjust.specs.Conditions.{first_month, last_month}
use Rattle.period_adjust.specs.Kept.{AreConsecutive, month_after}
use Rattle.period_adjust.proofs.KeptLemmas.{month_after-last}
use Rattle.svc_world.specs.declared.answer.Answer.{Answer}
use Rattle.svc_world.specs.Held.{Held, find_loan}
use Rattle.svc_world.proofs.LoanListLemmas.{found_id}
use Rattle.svc_world.specs.Judging.{report_for}
use Rattle.svc_world.specs.Worlds.{IsHeld}
use Rattle.svc_types.specs.declared.replies.Refusal.{Refusal}
use Rattle.svc_core.specs.declared.fault.CoreFault.{CoreFault}
use Rattle.svc_core.specs.declared.fault.CoreFault.TheVariants as fault
use Rattle.svc_core.specs.Core.{IsQueryFault}
use Rattle.svc_loan.specs.Kept.{KeptLoan}
use Rattle.svc_loan.specs.Loans.{KeptLoans, find_kept, held_in}
use Rattle.svc_core.specs.Asking.{AreOnDay, IsPayable}
use Rattle.svc_core.specs.State.{IsState}
use Rattle.svc_rules.proofs.RuleLemmas.{find-held}

-- ---- the whole of an installment

installment_is_payable : (t : Terms) (b : Books) → IsSound t → AreBooks t b → IsPayable (installment t b)
installment_is_payable t b s h =
    let signs = h.signs in
    let balance : IsBalance t b.upb = record { low = signs.upb_low; high = signs.upb_high } in
    let interest = month_interest_low b.upb t.rate in
    let principal = principal_part_bounds t b.upb b.next s balance in
    let escrow = escrow_part_bounds b.plan b.earlier (due_month t b.next) signs.plan signs.earlier in
    let upb_high = signs.upb_high in
    let t_high = s.principal_high in
    let low = signs.upb_low in
    let most = month_interest_most b.upb t.rate (low, omega (arith, ints)) s.rate_high in
    record { interest_low = interest; interest_high = omega (arith, ints); principal_low = principal.0; principal_high = omega (arith, ints); escrow_low = escrow.0; escrow_high = escrow.1 }

-- what an open installment asks is small
pub open_is_payable : (t : Terms) (b : Books) → IsSound t → AreBooks t b → IfSome (open_installment t b) IsPayable
open_is_payable t b s h =
    elim (int_lt (pos 0) b.upb) as (λ v. IfSome (if v then Some (installment t b) else None) IsPayable) [
      | true ↦ installment_is_payable t b s h
      | false ↦ _
    ]

-- ---- the business day

-- all loans of a sound world are on its business day
pub on_day : (n today : ℕ) (loans : KeptLoans) (seals : State) → IsState n today loans seals → AreOnDay today loans.loans
on_day n today loans seals h = λ i d lt.
    let same = get_mapped (λ (k : KeptLoan). k.held) loans.loans i d in
    let few = length-map loans.loans (λ (k : KeptLoan). k.held) in
    let held : IsHeld n today (get_or (held_in loans.loans) i d.held) = h.world.held i d.held (omega (arith, few, lt)) in
    subst (λ (l : Held). l.account.today ≡ today) same held.today

-- a loan that is found is on that day
pub found_on_day : (today id : ℕ) (ks : List KeptLoan) (k : KeptLoan) → AreOnDay today ks → find_kept id ks ≡ Some k → k.held.account.today ≡ today
found_on_day today id [] k all found = absurd (cc)
found_on_day today id (j ∷ js) k all found =
    elim (j.held.id == id) as (λ v. cond v (Some j) (find_kept id js) ≡ Some k → k.held.account.today ≡ today) [
      | true ↦ λ is. let same : j ≡ k = cc in subst (λ (x : KeptLoan). x.held.account.today ≡ today) same (all 0 j (omega arith))
      | false ↦ λ is. found_on_day today id js k (λ i d lt. all (suc i) d (omega (arith, lt))) is
    ] found

-- ---- the report of a closed month

at_first : (rs : List Sealed) (r : Sealed) (m : ℕ) (d : Sealed) → (r.month == m) ≡ true → Some r ≡ Some (get_or (r ∷ rs) (m - r.month) d)
at_first rs r m d e =
    let is : r.month ≡ m = grind (arith, nat_tests) in
    let at : m - r.month ≡ 0 = omega arith in
    sym (ap (λ i. Some (get_or (r ∷ rs) i d)) at)

-- of reports of consecutive months that of a month between the first and the last stands as far from the first
-- as the month
report_at : (rs : List Sealed) (r : Sealed) (m last : ℕ) (d : Sealed) → AreConsecutive (r ∷ rs) → last_month (r ∷ rs) ≡ Some last → r.month ≤ m → m ≤ last → report_for m (r ∷ rs) ≡ Some (get_or (r ∷ rs) (m - r.month) d)
report_at [] r m last d h end low high =
    elim (r.month == m) as (λ v. (r.month == m) ≡ v → cond v (Some r) None ≡ Some (get_or (r ∷ []) (m - r.month) d)) [
      | true ↦ λ e. at_first [] r m d e
      | false ↦ λ e.
          let not : r.month < m = grind (arith, nat_tests) in
          let same : r.month ≡ last = cc in
          absurd (omega (arith, same, not, high))
    ] refl
report_at (s ∷ ss) r m last d h end low high =
    elim (r.month == m) as (λ v. (r.month == m) ≡ v → cond v (Some r) (report_for m (s ∷ ss)) ≡ Some (get_or (r ∷ s ∷ ss) (m - r.month) d)) [
      | true ↦ λ e. at_first (s ∷ ss) r m d e
      | false ↦ λ e.
          let not : r.month < m = grind (arith, nat_tests) in
          let next : s.month ≡ r.month + 1 = h.0 in
          let at : m - r.month ≡ suc (m - s.month) = omega (arith, next, not) in
          report_at ss s m last d h.1 end (omega (arith, next, not)) high ∙ sym (ap (λ i. Some (get_or (r ∷ s ∷ ss) i d)) at)
    ] refl

-- a report of a month from the first closed one to the last
pub report_stands : (rs : List Sealed) (r : Sealed) (m : ℕ) (d : Sealed) → AreConsecutive rs → is_some (last_month rs) ≡ true → IfSome (last_month rs) (λ last. m ≤ last) → IfSome (first_month rs) (λ first. first ≤ m) → r ≡ get_or rs 0 r → (report_for m rs ≡ Some (get_or rs (m - r.month) d)) × (m - r.month < length rs)
report_stands [] r m d h some last first is = absurd (cc)
report_stands (q ∷ rs) r m d h some last first is =
    let same : q ≡ r = sym is in
    subst (λ x. (report_for m (q ∷ rs) ≡ Some (get_or (q ∷ rs) (m - x.month) d)) × (m - x.month < length (q ∷ rs))) same
    (by_last (last_month (q ∷ rs)) refl some last)
  where
    by_last : (o : Option ℕ) → last_month (q ∷ rs) ≡ o → is_some o ≡ true → IfSome o (λ last. m ≤ last) → (report_for m (q ∷ rs) ≡ Some (get_or (q ∷ rs) (m - q.month) d)) × (m - q.month < length (q ∷ rs))
    by_last None e some high = absurd (cc)
    by_last (Some last) e some high =
        let end = month_after-last q rs h in
        let at : month_after (last_month (q ∷ rs)) ≡ last + 1 = ap month_after e in
        (report_at rs q m last d h e first high, omega (arith, end, at, high))

-- ---- the loan that a query names

pub held_found : (id : ℕ) (ks : List KeptLoan) (k : KeptLoan) → find_kept id ks ≡ Some k → find_loan id (held_in ks) ≡ Some k.held
held_found id ks k found = find-held ks id ∙ ap (option_map (λ (j : KeptLoan). j.held)) found

pub held_missing : (id : ℕ) (ks : List KeptLoan) → find_kept id ks ≡ None → find_loan id (held_in ks) ≡ None
held_missing id ks none = find-held ks id ∙ ap (option_map (λ (j : KeptLoan). j.held)) none

-- what is told of the loan that is found, under the number that was asked for
pub told : (id : ℕ) (loans : List Held) (k : Held) (f : ℕ → Held → Answer) (a : Answer) → find_loan id loans ≡ Some k → a ≡ f k.id k → option_map (f id) (find_loan id loans) ≡ Some a
told id loans k f a found is = ap (option_map (f id)) found ∙ ap Some (ap (λ i. f i k) (sym (found_id id loans k found)) ∙ sym is)

-- a fault of a query is the refusal, or want of memory
pub query_fault : (o : Option Refusal) (r : Result Answer CoreFault) → IfErr r (λ f. (cause : Refusal) → f ≡ fault.Refused cause → o ≡ Some cause) → IfErr r (IsQueryFault o)
query_fault o (Ok a) h = tt
query_fault o (Err (fault.Refused why)) h = h why refl
query_fault o (Err fault.OutOfMemory) h = tt
