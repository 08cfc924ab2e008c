-- What the custodial line and the lines of reports say without a sign is not below 0.
use Rattle.std.proofs.Common.{ℕ, ◌+◌, ◌<◌, Bool, true, false, List, [], ◌∷◌, get_or, arith, sym, subst, inl, inr}
use Rattle.std.specs.Prelude.{ℤ, pos, ◌+ℤ◌, ◌≤ℤ◌}
use Rattle.std.specs.List.{All}
use Rattle.std.proofs.lemmas.Int.{ints, clamps}
use Rattle.std.proofs.lemmas.List.Elements.{All-push, All-map, All-nil}
use Rattle.svc_base.specs.Text.{IsReadMonth}
use Rattle.svc_types.specs.declared.requests.Command.{Command}
use Rattle.svc_types.specs.Requests.{IsCommand}
use Rattle.period_adjust.specs.Sums.{line_with, report_of}
use Rattle.svc_spec.specs.Accounts.{IsAccount}
use Rattle.svc_spec.proofs.AccountLemmas.{account_books}
use Rattle.advance_book.specs.Positions.{pi_held, pi_advanced, escrow_advanced}
use Rattle.svc_world.specs.Held.{Held, books_now}
use Rattle.svc_world.specs.Reports.{line_of, lines_of}
use Rattle.svc_world.specs.World.{World, Accepted, first_world, after, world_from, world}
use Rattle.svc_world.specs.Judging.{IsHistory}
use Rattle.svc_world.specs.Custody.{collected, remitted_for, is_settled, held_for, advanced_for, borrower_cash, custody_of}
use Rattle.svc_world.specs.Worlds.{IsLimited, IsWorld}
use Rattle.svc_world.specs.Laws.{IsUnsigned, IsUnsignedLine, IsUnsignedReport}
use Rattle.svc_world.proofs.SumsWithin.{total_low}
use Rattle.svc_world.proofs.CarryLemmas.{carry_at_within}
use Rattle.svc_world.proofs.CloseLemmas.{lines_all}
use Rattle.svc_world.proofs.HistoryLemmas.{accepted_keeps, first_is_world, AreAccepted, history_accepted, is_world}
use Rattle.svc_world.proofs.LawLemmas.{reports_after}

held_low : (c r : ℤ) (settled : Bool) → pos 0 ≤ℤ pi_held c r settled
held_low c r true = omega (arith, ints)
held_low c r false = omega (arith, ints, clamps)

advanced_low : (c r : ℤ) (settled : Bool) → pos 0 ≤ℤ pi_advanced c r settled
advanced_low c r true = omega (arith, ints)
advanced_low c r false = omega (arith, ints, clamps)

suspense_low : (l : Held) → IsAccount l.account → pos 0 ≤ℤ (books_now l).suspense
suspense_low l h = (account_books l.account l.account.today h).signs.suspense

escrow_low : (e : ℤ) → pos 0 ≤ℤ escrow_advanced e
escrow_low e = omega (arith, ints, clamps)

cash_low : (e s : ℤ) → pos 0 ≤ℤ s → pos 0 ≤ℤ (s +ℤ e +ℤ escrow_advanced e)
cash_low e s h = omega (arith, ints, clamps)

pub custody_is_unsigned : (h : List Accepted) → IsHistory h → IsUnsigned (custody_of (world h))
unfolding custody_of
custody_is_unsigned h is =
    let w = world h in
    let account : All (λ (l : Held). IsAccount l.account) w.loans = λ k l lt. ((is_world h is).held k l lt).limited.account in
    record {
      t = total_low borrower_cash w.loans (λ k d lt. cash_low (books_now (get_or w.loans k d)).escrow (books_now (get_or w.loans k d)).suspense (suspense_low (get_or w.loans k d) (account k d lt)));
      p = total_low (held_for w) w.loans (λ k d lt. held_low (collected (books_now (get_or w.loans k d))) (remitted_for w (get_or w.loans k d).id) (is_settled w (get_or w.loans k d)));
      suspense = total_low (λ (l : Held). (books_now l).suspense) w.loans (λ k d lt. suspense_low (get_or w.loans k d) (account k d lt));
      escrow_advance = total_low (λ (l : Held). escrow_advanced (books_now l).escrow) w.loans (λ k d lt. escrow_low (books_now (get_or w.loans k d)).escrow);
      held = total_low (held_for w) w.loans (λ k d lt. held_low (collected (books_now (get_or w.loans k d))) (remitted_for w (get_or w.loans k d).id) (is_settled w (get_or w.loans k d)));
      pi_advance = total_low (advanced_for w) w.loans (λ k d lt. advanced_low (collected (books_now (get_or w.loans k d))) (remitted_for w (get_or w.loans k d).id) (is_settled w (get_or w.loans k d)));
    }

-- ---- the lines of reports

line_low : (p : ℕ) (l : Held) → p < 25_692 → IsLimited l.account → IsUnsignedLine (line_of p l)
line_low p l lt h = let carry = (carry_at_within l.account l.types p lt h).within in (carry.upb_low, carry.balance_low)

report_low : (n p : ℕ) (w : World) → IsWorld n w → IsReadMonth p → IsUnsignedReport (report_of p (lines_of w.seals.pending p w.loans) w.seals.pending)
report_low n p w h read =
    let to = read.last in
    let lines = lines_all IsUnsignedLine w.seals.pending p w.loans (λ k d lt by. line_low p (get_or w.loans k d) (omega (arith, to)) (h.held k d lt).limited) in
    All-map IsUnsignedLine (line_with w.seals.pending) (lines_of w.seals.pending p w.loans) lines

low_after : (n : ℕ) (w : World) (c : Command) → IsWorld n w → IsCommand c → All IsUnsignedReport w.seals.reports → All IsUnsignedReport (after (n + 1) w c).seals.reports
low_after n w c h formed low =
    elim (reports_after (n + 1) w c) as (λ _. All IsUnsignedReport (after (n + 1) w c).seals.reports) [
      | inl same ↦ subst (λ rs. All IsUnsignedReport rs) (sym same) low
      | inr it ↦
          let read : IsReadMonth it.month = subst IsCommand it.asked formed in
          subst (λ rs. All IsUnsignedReport rs) (sym it.grown)
          (All-push IsUnsignedReport w.seals.reports (report_of it.month (lines_of w.seals.pending it.month w.loans) w.seals.pending) low (report_low n it.month w h read))
    ]

low_from : (n : ℕ) (w : World) (h : List Accepted) → IsWorld n w → AreAccepted n w h → All IsUnsignedReport w.seals.reports → All IsUnsignedReport (world_from n w h).seals.reports
unfolding world_from
low_from n w [] is all low = low
low_from n w (a ∷ more) is all low = low_from (n + 1) (after (n + 1) w a.command) more (accepted_keeps n w a.command is all.0.0 all.0.1) all.1 (low_after n w a.command is all.0.0 low)

pub reports_are_unsigned : (h : List Accepted) → IsHistory h → All IsUnsignedReport (world h).seals.reports
reports_are_unsigned h is = low_from 0 first_world h first_is_world (history_accepted h is) (All-nil IsUnsignedReport)
