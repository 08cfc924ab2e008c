-- No total of the custodial line is further from 0 than 10^18 cents.
use Rattle.std.proofs.Common.{ℕ, ◌*◌, ◌≤◌, true, false, List, length, get_or, arith}
use Rattle.std.specs.Prelude.{ℤ}
use Rattle.std.specs.List.{All}
use Rattle.std.proofs.lemmas.Int.{ints, clamps}
use Rattle.svc_spec.proofs.FloorLemmas.{account_parts}
use Rattle.advance_book.specs.Positions.{IsSum, pi_advanced, escrow_advanced}
use Rattle.custodial_book.specs.declared.part.Account.TheVariants.{T, P}
use Rattle.custodial_book.specs.Rows.{IsBalance}
use Rattle.svc_world.specs.Held.{Held, books_now}
use Rattle.svc_world.specs.World.{World, Accepted, world}
use Rattle.svc_world.specs.Judging.{IsHistory}
use Rattle.svc_world.specs.Custody.{collected, remitted_for, is_settled, advanced_for, custody_of}
use Rattle.svc_world.specs.Worlds.{IsLimited, AreReports}
use Rattle.svc_world.specs.Laws.{IsInRange}
use Rattle.svc_world.proofs.SumsWithin.{IsUpTo, total_up_to, IsAround, total_around}
use Rattle.svc_world.proofs.HoldingLemmas.{account_holdings}
use Rattle.svc_world.proofs.RemittedLemmas.{remitted_within, balance_within}
use Rattle.svc_world.proofs.HistoryLemmas.{is_world}

balance_sum : (z : ℤ) → IsBalance z → IsSum z
balance_sum z h = record { low = h.0; high = h.1 }

-- sums over at most 12,000 loans, of amounts up to 81,920,000,000,000
sum_up_to : (n : ℕ) (z : ℤ) → n ≤ 12_000 → IsUpTo (81_920_000_000_000 * n) z → IsSum z
sum_up_to n z few h = let low = h.low in let high = h.high in record { low = omega (arith, ints, low); high = omega (arith, ints, high) }

sum_around : (n : ℕ) (z : ℤ) → n ≤ 12_000 → IsAround (81_920_000_000_000 * n) z → IsSum z
sum_around n z few h = let low = h.low in let high = h.high in record { low = omega (arith, ints, low); high = omega (arith, ints, high) }

suspense_around : (l : Held) → IsLimited l.account → IsUpTo 81_920_000_000_000 (books_now l).suspense
suspense_around l h = let x = account_holdings l.account h in let low = x.suspense.low in let high = x.suspense.high in record { low = low; high = omega (arith, ints, high) }

escrow_around : (l : Held) → IsLimited l.account → IsAround 81_920_000_000_000 (books_now l).escrow
escrow_around l h = let x = account_holdings l.account h in let low = x.escrow_low in let high = x.escrow_high in record { low = low; high = omega (arith, ints, high) }

escrow_advanced_around : (l : Held) → IsLimited l.account → IsUpTo 81_920_000_000_000 (escrow_advanced (books_now l).escrow)
escrow_advanced_around l h = let low = (account_holdings l.account h).escrow_low in record { low = omega (arith, ints, clamps); high = omega (arith, ints, clamps, low) }

advanced_around : (w : World) (l : Held) → IsLimited l.account → AreReports w → IsUpTo 81_920_000_000_000 (advanced_for w l)
advanced_around w l h r =
    let principal = (account_holdings l.account h).principal.low in
    let fee = (account_parts l.account l.account.today h.account).fee in
    let sent = (remitted_within w l.id r).high in
    elim (is_settled w l) as (λ v. IsUpTo 81_920_000_000_000 (pi_advanced (collected (books_now l)) (remitted_for w l.id) v)) [
      | true ↦ record { low = omega (arith, ints); high = omega (arith, ints) }
      | false ↦ record { low = omega (arith, ints, clamps); high = omega (arith, ints, clamps, principal, fee, sent) }
    ]

pub custody_in_range : (h : List Accepted) → IsHistory h → IsInRange (custody_of (world h))
unfolding custody_of
custody_in_range h is =
    let w = world h in
    let sound = is_world h is in
    let few = sound.few in
    let limited : All (λ (l : Held). IsLimited l.account) w.loans = λ k l lt. (sound.held k l lt).limited in
    let p = balance_sum _ (balance_within P w limited sound.reports few) in
    record {
      t = balance_sum _ (balance_within T w limited sound.reports few);
      p = p;
      suspense = sum_up_to (length w.loans) _ few (total_up_to 81_920_000_000_000 (λ (l : Held). (books_now l).suspense) w.loans (λ k d lt. suspense_around (get_or w.loans k d) (limited k d lt)));
      escrow = sum_around (length w.loans) _ few (total_around 81_920_000_000_000 (λ (l : Held). (books_now l).escrow) w.loans (λ k d lt. escrow_around (get_or w.loans k d) (limited k d lt)));
      escrow_advance = sum_up_to (length w.loans) _ few (total_up_to 81_920_000_000_000 (λ (l : Held). escrow_advanced (books_now l).escrow) w.loans (λ k d lt. escrow_advanced_around (get_or w.loans k d) (limited k d lt)));
      held = p;
      pi_advance = sum_up_to (length w.loans) _ few (total_up_to 81_920_000_000_000 (advanced_for w) w.loans (λ k d lt. advanced_around w (get_or w.loans k d) (limited k d lt) sound.reports));
    }
