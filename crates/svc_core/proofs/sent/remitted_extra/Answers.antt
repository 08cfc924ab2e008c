use Rattle.std.proofs.Common.{ap, ◌∙◌}
use Rattle.svc_base.specs.Sums.{total_by}
use Rattle.svc_types.specs.declared.replies.Extra.TheVariants as extra
use Rattle.svc_world.specs.Custody.{sent_of_line}
use Rattle.svc_core.proofs.SentLemmas.{net_is}
use Rattle.svc_core.proofs.sent.remitted_extra.Goals as goal

pub returns : goal.returns
returns c =
    let s = c.sums_of-sums in
    let e = s.ensures in
    ap extra.Remitted (net_is c.lines.result.now s.result.interest s.result.principal e.interest e.principal e.interest_low e.interest_high e.principal_low e.principal_high ∙ ap (total_by sent_of_line) c.lines.ensures)
