use Rattle.std.proofs.Common.{◌≤ℤ◌, ◌+ℤ◌, pos, neg_ℤ, get_or, w64, to_z, of_z, ◌∙◌}
use Rattle.svc_loan.specs.Kept.{KeptLoan}
use Rattle.svc_loan.specs.Loans.{OfLoan, find_kept}
use Rattle.svc_core.proofs.RemittingLemmas.{IsWithinLimits, no_line, sent_same, may_send, all_sent, of_weaker}
use Rattle.svc_core.proofs.sent.remit_lines.Given.{Over}
use Rattle.svc_core.proofs.sent.remit_lines.Goals as goal

limits : (g : Over) (c : goal.After-sent_of_line g) → OfLoan (get_or c.args.lines.now c.loop-line.line-index no_line).loan c.loop-line.loans.loans (IsWithinLimits (to_z w64 (of_z w64 c.sent_of_line.result)))
limits g c =
    let ls = c.args.lines.now in
    let i = c.loop-line.line-index in
    let lt = c.loop-line-test.true in
    let inv = c.loop-line.invariant in
    let small = c.requires.lines.small i no_line lt in
    may_send ls i (get_or ls i no_line) (to_z w64 (of_z w64 c.sent_of_line.result)) c.args.loans.now.loans c.loop-line.loans.loans c.requires.lines small (sent_same c.sent_of_line.result (get_or ls i no_line) small c.sent_of_line.ensures) c.requires.small (c.requires.there i no_line lt) inv.held inv.remitted

pub remit-requires-clause-low : goal.remit-requires-clause-low
remit-requires-clause-low g c =
    let cents = to_z w64 (of_z w64 c.sent_of_line.result) in
    of_weaker (IsWithinLimits cents) (λ (k : KeptLoan). neg_ℤ (pos 1_000_000_000_000_000_000) ≤ℤ (k.remitted +ℤ cents)) (find_kept (get_or c.args.lines.now c.loop-line.line-index no_line).loan c.loop-line.loans.loans) (λ k h. h.low) (limits g c)

pub remit-requires-clause-high : goal.remit-requires-clause-high
remit-requires-clause-high g c =
    let cents = to_z w64 (of_z w64 c.sent_of_line.result) in
    of_weaker (IsWithinLimits cents) (λ (k : KeptLoan). (k.remitted +ℤ cents) ≤ℤ pos 1_000_000_000_000_000_000) (find_kept (get_or c.args.lines.now c.loop-line.line-index no_line).loan c.loop-line.loans.loans) (λ k h. h.high) (limits g c)

pub loop-line-preserved : goal.loop-line-preserved
loop-line-preserved g c =
    let ls = c.args.lines.now in
    let i = c.loop-line.line-index in
    let lt = c.loop-line-test.true in
    let inv = c.loop-line.invariant in
    let e = c.remit.ensures in
    let small = c.requires.lines.small i no_line lt in
    let cents = sent_same c.sent_of_line.result (get_or ls i no_line) small c.sent_of_line.ensures in
    record {
      held = e.held ∙ inv.held;
      closed = e.closed ∙ inv.closed;
      remitted = e.remitted ∙ all_sent ls i no_line (to_z w64 (of_z w64 c.sent_of_line.result)) c.args.loans.now.loans c.loop-line.loans.loans lt cents inv.held inv.remitted;
    }
