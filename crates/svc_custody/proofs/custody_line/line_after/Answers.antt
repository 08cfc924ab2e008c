use Rattle.std.proofs.Common.{ap}
use Rattle.svc_world.specs.declared.custody.Custody.{Custody}
use Rattle.svc_custody.proofs.LineLemmas.{same_line, sum_passed}
use Rattle.svc_custody.proofs.custody_line.line_after.Goals as goal

pub returns : goal.returns
returns c =
    let h = c.requires.line in
    let was = c.share_of-was.ensures in
    let is = c.share_of-is.ensures in
    let b = c.share_of-was.result in
    let a = c.share_of-is.result in
    let s = c.args.line.now in
    same_line
    (sum_passed c.sum_after.result s.t b.t a.t _ _ c.sum_after.ensures h.t was.limits.t is.limits.t (ap (λ (x : Custody). x.t) was.value) (ap (λ (x : Custody). x.t) is.value))
    (sum_passed c.sum_after-2.result s.p b.p a.p _ _ c.sum_after-2.ensures h.p was.limits.p is.limits.p (ap (λ (x : Custody). x.p) was.value) (ap (λ (x : Custody). x.p) is.value))
    (sum_passed c.sum_after-3.result s.suspense b.suspense a.suspense _ _ c.sum_after-3.ensures h.suspense was.limits.suspense is.limits.suspense (ap (λ (x : Custody). x.suspense) was.value) (ap (λ (x : Custody). x.suspense) is.value))
    (sum_passed c.sum_after-4.result s.escrow b.escrow a.escrow _ _ c.sum_after-4.ensures h.escrow was.limits.escrow is.limits.escrow (ap (λ (x : Custody). x.escrow) was.value) (ap (λ (x : Custody). x.escrow) is.value))
    (sum_passed c.sum_after-5.result s.escrow_advance b.escrow_advance a.escrow_advance _ _ c.sum_after-5.ensures h.escrow_advance was.limits.escrow_advance is.limits.escrow_advance (ap (λ (x : Custody). x.escrow_advance) was.value) (ap (λ (x : Custody). x.escrow_advance) is.value))
    (sum_passed c.sum_after-6.result s.held b.held a.held _ _ c.sum_after-6.ensures h.held was.limits.held is.limits.held (ap (λ (x : Custody). x.held) was.value) (ap (λ (x : Custody). x.held) is.value))
    (sum_passed c.sum_after-7.result s.pi_advance b.pi_advance a.pi_advance _ _ c.sum_after-7.ensures h.pi_advance was.limits.pi_advance is.limits.pi_advance (ap (λ (x : Custody). x.pi_advance) was.value) (ap (λ (x : Custody). x.pi_advance) is.value))
