-- What custody holds for a loan is what the definitions name, and lies within the limits.
use Rattle.std.proofs.Common.{◌≡◌, ℕ, zero, suc, ◌≤◌, ◌<◌, true, false, List, [], ◌∷◌, length, get_or, arith, refl, sym, ap, subst, ◌∙◌, cond}
use Rattle.std.specs.Prelude.{ℤ, ◌==◌, ◌&&◌, Option, Some, None, IfSome}
use Rattle.std.specs.Ordering.{int_eq}
use Rattle.std.specs.List.{All}
use Rattle.std.proofs.lemmas.Int.{ints, clamps}
use Rattle.std.proofs.lemmas.List.Elements.{All-cons, All-head, All-tail, All-map}
use Rattle.svc_spec.proofs.FloorLemmas.{account_parts}
use Rattle.period_adjust.specs.Conditions.{first_month}
use Rattle.advance_book.specs.Positions.{IsSum, pi_held, pi_advanced}
use Rattle.custodial_book.specs.declared.part.Account.TheVariants.{P}
use Rattle.custodial_book.specs.declared.row.Totals.{Totals}
use Rattle.svc_world.specs.Held.{Held, books_now, boarded_month}
use Rattle.svc_world.specs.World.{World}
use Rattle.svc_world.specs.Worlds.{IsLimited, AreReports}
use Rattle.svc_world.specs.Custody.{collected, remitted_for, is_remitted_by, is_settled, held_for, advanced_for, totals_of}
use Rattle.svc_world.proofs.HoldingLemmas.{account_holdings}
use Rattle.svc_world.proofs.RemittedLemmas.{remitted_within, held_within, totals_within}
use Rattle.svc_loan.specs.Kept.{KeptLoan}
use Rattle.svc_loan.specs.Loans.{find_kept, held_in}
use Rattle.svc_custody.specs.declared.position.Position.{Position}
use Rattle.svc_custody.specs.Cash.{IsKeptIn, dues_kept, is_settled_at, held_at}
use Rattle.svc_custody.specs.Positions.{position_of, kept_position, IsHolding, IsPosition, CanRead}
use Rattle.svc_custody.proofs.CashLemmas.{dues_are, totals_are}

abbrev positioned : Totals → ℤ → ℤ → ℤ → Position
positioned t s e h = record { totals = t; suspense = s; escrow = e; held = h }

pub same_position : {t t' : Totals} {s s' e e' h h' : ℤ} → t ≡ t' → s ≡ s' → e ≡ e' → h ≡ h' → positioned t s e h ≡ positioned t' s' e' h'
same_position p q r s = rw (p, q, r, s) refl

-- ---- one loan as it is kept

-- a loan whose position can be read off
pub record IsReadIn (w : World) (k : KeptLoan) : Type 0 where
  pub reports : AreReports w
  pub limited : IsLimited k.held.account
  pub kept : IsKeptIn w k
  pub since : IfSome (first_month w.seals.reports) (λ first. first ≤ boarded_month k.held)

held_are : (w : World) (k : KeptLoan) → IsReadIn w k → held_at w.remitted k ≡ held_for w k.held
unfolding is_settled
held_are w k h =
    let dues = dues_are w k h.reports.sealed.consecutive h.since h.kept in
    let settled : is_settled_at w.remitted k ≡ is_settled w k.held =
    ap (λ z. is_remitted_by (books_now k.held).satisfied w.remitted && int_eq z (dues_kept k)) h.kept.remitted
    ∙ ap (λ z. is_remitted_by (books_now k.held).satisfied w.remitted && int_eq (remitted_for w k.held.id) z) dues in
    let c = collected (books_now k.held) in
    ap (λ z. pi_held c z (is_settled_at w.remitted k)) h.kept.remitted ∙ ap (pi_held c (remitted_for w k.held.id)) settled

pub position_are : (w : World) (k : KeptLoan) → IsReadIn w k → kept_position w.remitted k ≡ position_of w k.held
position_are w k h = same_position (totals_are w k h.reports.sealed.consecutive h.since h.kept) refl refl (held_are w k h)

pub remitted_sum : (w : World) (k : KeptLoan) → IsReadIn w k → IsSum k.remitted
remitted_sum w k h =
    let within = remitted_within w k.held.id h.reports in
    let l = within.low in let m = within.high in
    let is = h.kept.remitted in
    record { low = omega (arith, ints, l, is); high = omega (arith, ints, m, is) }

advanced_holding : (w : World) (l : Held) → IsLimited l.account → AreReports w → IsHolding (advanced_for w l)
advanced_holding w l h r =
    let holdings = account_holdings l.account h in
    let principal = holdings.principal.low in
    let fee = (account_parts l.account l.account.today h.account).fee in
    let sent = (remitted_within w l.id r).high in
    elim (is_settled w l) as (λ b. IsHolding (pi_advanced (collected (books_now l)) (remitted_for w l.id) b)) [
      | true ↦ record { low = omega (arith, ints); high = omega (arith, ints) }
      | false ↦ record { low = omega (arith, ints, clamps); high = omega (arith, ints, clamps, principal, fee, sent) }
    ]

pub position_within : (w : World) (l : Held) → IsLimited l.account → AreReports w → IsPosition (position_of w l)
unfolding totals_of
position_within w l h r =
    let x = account_holdings l.account h in
    let s1 = x.suspense.low in let s2 = x.suspense.high in
    let e1 = x.escrow_low in let e2 = x.escrow_high in
    let held = held_within P w l h r in
    let h1 = held.low in let h2 = held.high in
    record {
      totals = totals_within w l h r;
      suspense = record { low = omega (arith, ints, s1); high = omega (arith, ints, s2) };
      escrow = record { low = omega (arith, ints, e1); high = omega (arith, ints, e2) };
      escrow_advance = record { low = omega (arith, ints, clamps); high = omega (arith, ints, clamps, e1) };
      held = record { low = omega (arith, ints, h1); high = omega (arith, ints, h2) };
      pi_advance = advanced_holding w l h r;
    }

-- ---- the loan with a number, and the one at a place

pub found_kept : (Q : KeptLoan → Type 0) (id : ℕ) (ks : List KeptLoan) (k : KeptLoan) → find_kept id ks ≡ Some k → All Q ks → Q k
found_kept Q id [] k e h = absurd (cc)
found_kept Q id (j ∷ js) k e h =
    elim (j.held.id == id) as (λ b. cond b (Some j) (find_kept id js) ≡ Some k → Q k) [
      | true ↦ λ is. let jk : j ≡ k = cc in subst Q jk (All-head Q j js h)
      | false ↦ λ is. found_kept Q id js k is (All-tail Q j js h)
    ] e

-- what holds of each loan holds of each that is kept
pub all_held : (Q : Held → Type 0) (ks : List KeptLoan) → All Q (held_in ks) → All (λ (k : KeptLoan). Q k.held) ks
all_held Q [] h = λ i d lt. absurd (omega arith)
all_held Q (k ∷ ks) h = All-cons (λ (j : KeptLoan). Q j.held) k ks (All-head Q k.held (held_in ks) h) (all_held Q ks (All-tail Q k.held (held_in ks) h))

read_by : (w : World) (ks : List KeptLoan) (k : KeptLoan) → CanRead w ks → w.loans ≡ held_in ks → ((Q : KeptLoan → Type 0) → All Q ks → Q k) → IsReadIn w k
read_by w ks k h same there = record {
  reports = h.reports;
  limited = there (λ (j : KeptLoan). IsLimited j.held.account) h.limited;
  kept = there (IsKeptIn w) h.kept;
  since = since (first_month w.seals.reports) h.reports.from_first;
}
  where
    since : (o : Option ℕ) → IfSome o (λ first. All (λ (x : Held). first ≤ boarded_month x) w.loans) → IfSome o (λ first. first ≤ boarded_month k.held)
    since None all = tt
    since (Some first) all = there (λ (j : KeptLoan). first ≤ boarded_month j.held) (all_held (λ (x : Held). first ≤ boarded_month x) ks (subst (All (λ (x : Held). first ≤ boarded_month x)) same all))

pub found_read : (w : World) (ks : List KeptLoan) (id : ℕ) (k : KeptLoan) → CanRead w ks → w.loans ≡ held_in ks → find_kept id ks ≡ Some k → IsReadIn w k
found_read w ks id k h same e = read_by w ks k h same (λ Q all. found_kept Q id ks k e all)

pub place_read : (w : World) (ks : List KeptLoan) (i : ℕ) (d k : KeptLoan) → CanRead w ks → w.loans ≡ held_in ks → i < length ks → k ≡ get_or ks i d → IsReadIn w k
place_read w ks i d k h same lt e = read_by w ks k h same (λ Q all. subst Q (sym e) (all i d lt))

-- ---- all loans in turn

-- what stands at a place, whatever stands for one past the end
pub at_place : {X : Type 0} (ls : List X) (i : ℕ) → i < length ls → (l : X) × ((d : X) → get_or ls i d ≡ l)
at_place [] i lt = absurd (omega arith)
at_place (l ∷ ls) zero lt = (l, λ d. refl)
at_place (l ∷ ls) (suc i) lt = at_place ls i (omega arith)

pub held_limited : (ks : List KeptLoan) → All (λ (k : KeptLoan). IsLimited k.held.account) ks → All (λ (l : Held). IsLimited l.account) (held_in ks)
held_limited ks h = All-map (λ (l : Held). IsLimited l.account) (λ (k : KeptLoan). k.held) ks h
