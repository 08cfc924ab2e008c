use Rattle.std.proofs.Common.{length, refl, sym, ap, ◌∙◌}
use Rattle.std.proofs.lemmas.List.{length-map}
use Rattle.svc_loan.specs.Kept.{KeptLoan}
use Rattle.svc_core.proofs.PostingLemmas.{count_in, same_status}
use Rattle.svc_core.proofs.desk.status.Goals as goal

pub returns : goal.returns
returns g c =
    let s = c.args.state.now in
    let p = c.args.posted.now in
    same_status _ _ _ _ _ _ _ _ _ _ _
    (c.len.ensures ∙ sym (length-map s.loans.loans (λ (k : KeptLoan). k.held)))
    (c.count.ensures ∙ sym (count_in p.history p.replies c.is_replied.ensures))
    c.closed.ensures c.remitted.ensures.value c.next_to_close.ensures c.remit_next.ensures (ap length c.pending.ensures) c.held.ensures refl
