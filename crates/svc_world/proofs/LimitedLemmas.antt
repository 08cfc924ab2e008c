-- An account stays within the limits with one more entry, reversal or business day.
use Rattle.std.proofs.Common.{◌≡◌, ℕ, ◌≤◌, ◌<◌, true, false, length, arith, ap}
use Rattle.std.specs.Prelude.{ℤ, pos, ◌+ℤ◌, ◌≤ℤ◌, int_lt, not, ◌==◌, is_some, if◌then◌else◌}
use Rattle.std.specs.Int.{int_max}
use Rattle.std.specs.List.{All}
use Rattle.std.proofs.lemmas.Int.{ints, clamps}
use Rattle.std.proofs.lemmas.List.Elements.{All-push}
use Rattle.svc_base.specs.Calendar.{IsDay}
use Rattle.svc_base.proofs.SumLemmas.{total_by-push}
use Rattle.svc_types.specs.declared.terms.Terms.{Terms}
use Rattle.svc_types.specs.declared.books.Books.{Books}
use Rattle.svc_types.specs.Live.{live_entries}
use Rattle.svc_types.specs.declared.account.Entry.{Entry}
use Rattle.svc_types.proofs.OrderLemmas.{live_all}
use Rattle.svc_spec.specs.Step.{brought}
use Rattle.svc_spec.specs.Payoff.{available}
use Rattle.svc_spec.specs.Accounts.{Account, IsAccount, MayBegin, MayPost, live_of, books_of, entry_of, begun, posted, reversed_in, advanced_to}
use Rattle.svc_spec.specs.Totals.{sum_over, refunded_by, received, refunded}
use Rattle.svc_spec.proofs.AccountLemmas.{account_books, begun_account, posted_account, reversed_account, advanced_account, live_after_post, live_after_reversal}
use Rattle.svc_spec.proofs.TotalLemmas.{account_total, sum_placed}
use Rattle.svc_world.specs.Worlds.{IsNamedAct, IsLimited}
use Rattle.svc_world.proofs.SumsWithin.{total_of_some}
use Rattle.svc_world.proofs.HoldingLemmas.{account_takings, refunded_named}

-- a loan that is taken on
pub begun_limited : (t : Terms) (d : ℕ) → MayBegin t d → IsLimited (begun t d)
unfolding live_entries
begun_limited t d h = record {
  account = begun_account t d h;
  named = λ k e lt. absurd (omega arith);
  covered = omega (arith, ints);
}

pub received_posted : (a : Account) (e : Entry) → received (posted e a) ≡ received a +ℤ brought e.act
received_posted a e = total_by-push (λ (x : Entry). brought x.act) a.entries e

pub refunded_posted : (a : Account) (e : Entry) → IsAccount a → MayPost a e → refunded (posted e a) ≡ refunded a +ℤ refunded_by e.act
refunded_posted a e h may =
    let moved = ap (sum_over refunded_by) (live_after_post a e h may) in
    omega (arith, ints, moved, sum_placed refunded_by e (live_of a))

-- an entry that refunds no more than what was received and not yet refunded
pub posted_limited : (a : Account) (e : Entry) → IsLimited a → MayPost a e → IsDay e.day → length a.entries < 4_096 → IsNamedAct e.act → (refunded a +ℤ refunded_by e.act) ≤ℤ (received a +ℤ brought e.act) → IsLimited (posted e a)
posted_limited a e h may day few named covered =
    let r = received_posted a e in
    let f = refunded_posted a e h.account may in
    record {
      account = posted_account a e h.account may day few;
      named = All-push (λ (x : Entry). IsNamedAct x.act) a.entries e h.named named;
      covered = omega (arith, ints, f, r, covered);
    }

available_low : (b : Books) → available b ≤ℤ int_max (pos 0) (int_max b.escrow (b.suspense +ℤ b.escrow))
unfolding available
available_low b = elim (int_lt (pos 0) b.upb) as (λ v. (if v then int_max (pos 0) b.escrow else int_max (pos 0) (b.suspense +ℤ b.escrow)) ≤ℤ int_max (pos 0) (int_max b.escrow (b.suspense +ℤ b.escrow))) [
  | true ↦ omega (arith, ints, clamps)
  | false ↦ omega (arith, ints, clamps)
]

-- what escrow, and suspense with it, hold was received and not yet refunded
pub escrow_covered : (a : Account) → IsLimited a → (refunded a +ℤ int_max (pos 0) (int_max (books_of a a.today).escrow ((books_of a a.today).suspense +ℤ (books_of a a.today).escrow))) ≤ℤ received a
escrow_covered a h =
    let signs = (account_books a a.today h.account).signs in
    let s1 = signs.suspense in let s2 = signs.interest in
    let s4 = signs.principal in let s6 = signs.late_paid in
    let whole = account_total a h.account in
    let taken = account_takings a h in
    let b1 = taken.returned.low in
    let d1 = taken.disbursed.low in
    let covered = h.covered in
    omega (arith, ints, clamps)

-- what is available to be refunded was received and not yet refunded
pub available_covered : (a : Account) (c : ℤ) → IsLimited a → c ≤ℤ available (books_of a a.today) → (refunded a +ℤ c) ≤ℤ received a
available_covered a c h le = omega (arith, ints, le, available_low (books_of a a.today), escrow_covered a h)

pub reversed_limited : (a : Account) (number by : ℕ) → IsLimited a → is_some (entry_of a number) ≡ true → IsLimited (reversed_in number by a)
reversed_limited a number by h there =
    let live = live_after_reversal a number by in
    let each : All (λ (e : Entry). pos 0 ≤ℤ refunded_by e.act) (live_of a) = live_all (λ e. pos 0 ≤ℤ refunded_by e.act) a.entries a.reversals (λ k d lt. refunded_named _ (h.named k d lt)) in
    let less = total_of_some (λ (e : Entry). refunded_by e.act) (λ (e : Entry). not (number == e.number)) (live_of a) each in
    let is = ap (sum_over refunded_by) live in
    let covered = h.covered in
    record {
      account = reversed_account a number by h.account there;
      named = h.named;
      covered = omega (arith, ints, less, is, covered);
    }

pub advanced_limited : (a : Account) (d : ℕ) → IsLimited a → a.today ≤ d → IsLimited (advanced_to d a)
advanced_limited a d h le = record {
  account = advanced_account a d h.account le;
  named = h.named;
  covered = h.covered;
}
