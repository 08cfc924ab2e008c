-- What the books of an account hold and have collected was received: the limits of every number that custody
-- and reports are made of.
use Rattle.std.proofs.Common.{ℕ, ◌*◌, ◌≤◌, length, arith}
use Rattle.std.specs.Prelude.{ℤ, pos, ◌+ℤ◌, ◌≤ℤ◌}
use Rattle.std.specs.List.{All}
use Rattle.std.proofs.lemmas.Int.{ints}
use Rattle.std.proofs.lemmas.List.Elements.{All-filter}
use Rattle.svc_types.specs.declared.books.Books.{Books}
use Rattle.svc_types.specs.declared.account.Act.{Act}
use Rattle.svc_types.specs.declared.account.Act.TheVariants.{Pay, Curtail, Payoff, Deposit, Disburse, Refund, Waive, Analyse}
use Rattle.svc_types.specs.declared.account.Entry.{Entry}
use Rattle.svc_types.specs.Live.{is_reversed}
use Rattle.svc_types.proofs.OrderLemmas.{live_all}
use Rattle.svc_spec.specs.Step.{brought}
use Rattle.svc_spec.specs.Accounts.{Account, live_of, books_of}
use Rattle.svc_spec.specs.Totals.{refunded_by, disbursed_by, reversed_of, received, returned, refunded, disbursed}
use Rattle.svc_spec.proofs.AccountLemmas.{account_books, live_few, filter_length}
use Rattle.svc_spec.proofs.TotalLemmas.{account_total}
use Rattle.svc_spec.proofs.FloorLemmas.{escrow_floor, account_parts}
use Rattle.svc_world.specs.Worlds.{IsNamedAct, IsLimited}
use Rattle.svc_world.proofs.SumsWithin.{IsUpTo, total_up_to, total_low}

nothing_named : IsUpTo 10_000_000_000 (pos 0)
nothing_named = record { low = omega (arith, ints); high = omega (arith, ints) }

brought_named : (x : Act) → IsNamedAct x → IsUpTo 10_000_000_000 (brought x)
brought_named (Pay c to) h = record { low = h.low; high = h.high }
brought_named (Curtail c) h = record { low = h.low; high = h.high }
brought_named (Payoff c) h = record { low = h.low; high = h.high }
brought_named (Deposit c) h = record { low = h.low; high = h.high }
brought_named (Disburse c line) h = nothing_named
brought_named (Refund c) h = nothing_named
brought_named (Waive c) h = nothing_named
brought_named (Analyse s) h = nothing_named

disbursed_named : (x : Act) → IsNamedAct x → IsUpTo 10_000_000_000 (disbursed_by x)
disbursed_named (Pay c to) h = nothing_named
disbursed_named (Curtail c) h = nothing_named
disbursed_named (Payoff c) h = nothing_named
disbursed_named (Deposit c) h = nothing_named
disbursed_named (Disburse c line) h = record { low = h.low; high = h.high }
disbursed_named (Refund c) h = nothing_named
disbursed_named (Waive c) h = nothing_named
disbursed_named (Analyse s) h = nothing_named

pub refunded_named : (x : Act) → IsNamedAct x → pos 0 ≤ℤ refunded_by x
refunded_named (Pay c to) h = omega (arith, ints)
refunded_named (Curtail c) h = omega (arith, ints)
refunded_named (Payoff c) h = omega (arith, ints)
refunded_named (Deposit c) h = omega (arith, ints)
refunded_named (Disburse c line) h = omega (arith, ints)
refunded_named (Refund c) h = h.low
refunded_named (Waive c) h = omega (arith, ints)
refunded_named (Analyse s) h = h.low

-- what was refunded is not below 0
pub refunded_low : (a : Account) → All (λ (e : Entry). IsNamedAct e.act) a.entries → pos 0 ≤ℤ refunded a
refunded_low a h = total_low (λ (e : Entry). refunded_by e.act) (live_of a) (live_all (λ e. pos 0 ≤ℤ refunded_by e.act) a.entries a.reversals (λ k d lt. refunded_named _ (h k d lt)))

-- 4,096 entries bring in and pay out at most 40,960,000,000,000 cents
pub record AreTakings (a : Account) : Type 0 where
  pub received : IsUpTo 40_960_000_000_000 (received a)
  pub returned : IsUpTo 40_960_000_000_000 (returned a)
  pub disbursed : IsUpTo 40_960_000_000_000 (disbursed a)

up_to_4096 : (n : ℕ) (z : ℤ) → n ≤ 4_096 → IsUpTo (10_000_000_000 * n) z → IsUpTo 40_960_000_000_000 z
up_to_4096 n z few h = let high = h.high in record { low = h.low; high = omega (arith, ints, high) }

pub account_takings : (a : Account) → IsLimited a → AreTakings a
account_takings a h =
    let few = h.account.few in
    let live : length (live_of a) ≤ 4_096 = omega (arith, live_few a) in
    let back : length (reversed_of a) ≤ 4_096 = omega (arith, filter_length (λ (e : Entry). is_reversed a.reversals e.number) a.entries) in
    let in' : All (λ (e : Entry). IsUpTo 10_000_000_000 (brought e.act)) a.entries = λ k d lt. brought_named _ (h.named k d lt) in
    record {
      received = up_to_4096 (length a.entries) (received a) few (total_up_to 10_000_000_000 (λ (e : Entry). brought e.act) a.entries in');
      returned = up_to_4096 (length (reversed_of a)) (returned a) back (total_up_to 10_000_000_000 (λ (e : Entry). brought e.act) (reversed_of a) (All-filter (λ (e : Entry). is_reversed a.reversals e.number) (λ (e : Entry). IsUpTo 10_000_000_000 (brought e.act)) a.entries in'));
      disbursed = up_to_4096 (length (live_of a)) (disbursed a) live (total_up_to 10_000_000_000 (λ (e : Entry). disbursed_by e.act) (live_of a) (live_all (λ e. IsUpTo 10_000_000_000 (disbursed_by e.act)) a.entries a.reversals (λ k d lt. disbursed_named _ (h.named k d lt))));
    }

-- so no sum of the books exceeds what was received, and escrow is no further below 0 than what was paid out
pub record AreHoldings (b : Books) : Type 0 where
  pub escrow_low : pos 0 ≤ℤ (b.escrow +ℤ pos 81_920_000_000_000)
  pub escrow_high : b.escrow ≤ℤ pos 40_960_000_000_000
  pub suspense : IsUpTo 40_960_000_000_000 b.suspense
  pub interest : IsUpTo 40_960_000_000_000 b.interest
  pub fee : IsUpTo 40_960_000_000_000 b.fee
  pub principal : IsUpTo 40_960_000_000_000 b.principal
  pub curtailed : IsUpTo 40_960_000_000_000 b.curtailed
  pub late_paid : IsUpTo 40_960_000_000_000 b.late_paid
  pub all : IsUpTo 40_960_000_000_000 (b.suspense +ℤ b.interest +ℤ b.principal +ℤ b.late_paid)
  pub with_escrow : (b.suspense +ℤ b.escrow) ≤ℤ pos 40_960_000_000_000

pub account_holdings : (a : Account) → IsLimited a → AreHoldings (books_of a a.today)
account_holdings a h =
    let signs = (account_books a a.today h.account).signs in
    let s1 = signs.suspense in let s2 = signs.interest in let s3 = signs.fee in
    let s4 = signs.principal in let s5 = signs.curtailed in let s6 = signs.late_paid in
    let parts = account_parts a a.today h.account in
    let p1 = parts.fee in let p2 = parts.curtailed in
    let floor = escrow_floor a h.account in
    let whole = account_total a h.account in
    let taken = account_takings a h in
    let r1 = taken.received.low in let r2 = taken.received.high in
    let b1 = taken.returned.low in
    let d1 = taken.disbursed.low in let d2 = taken.disbursed.high in
    let f1 = refunded_low a h.named in let f2 = h.covered in
    record {
      escrow_low = omega (arith, ints);
      escrow_high = omega (arith, ints);
      suspense = record { low = s1; high = omega (arith, ints) };
      interest = record { low = s2; high = omega (arith, ints) };
      fee = record { low = s3; high = omega (arith, ints) };
      principal = record { low = s4; high = omega (arith, ints) };
      curtailed = record { low = s5; high = omega (arith, ints) };
      late_paid = record { low = s6; high = omega (arith, ints) };
      all = record { low = omega (arith, ints); high = omega (arith, ints) };
      with_escrow = omega (arith, ints);
    }
