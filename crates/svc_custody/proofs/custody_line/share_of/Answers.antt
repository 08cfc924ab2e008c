use Rattle.svc_custody.proofs.LineLemmas.{share_passed, cash_passed}
use Rattle.svc_custody.proofs.custody_line.share_of.Goals as goal

pub returns-clause-limits : goal.returns-clause-limits
returns-clause-limits c =
    let x = c.args.position.now in
    let h = c.requires in
    record {
      t = cash_passed c.borrower_cash.result x.suspense x.escrow x.totals.escrow_advance c.borrower_cash.ensures h.suspense h.escrow h.escrow_advance;
      p = share_passed x.held h.held;
      suspense = share_passed x.suspense h.suspense;
      escrow = share_passed x.escrow h.escrow;
      escrow_advance = share_passed x.totals.escrow_advance h.escrow_advance;
      held = share_passed x.held h.held;
      pi_advance = share_passed x.totals.pi_advance h.pi_advance;
    }
