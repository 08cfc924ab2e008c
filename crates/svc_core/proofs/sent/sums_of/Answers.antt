use Rattle.svc_core.specs.Reported.{interest_of, principal_of}
use Rattle.svc_core.proofs.SentLemmas.{sum_step}
use Rattle.svc_core.proofs.sent.sums_of.Goals as goal

pub loop-line-preserved : goal.loop-line-preserved
loop-line-preserved c =
    let i = c.interest_of-interest in
    let p = c.principal_of-principal in
    let inv = c.loop-line.invariant in
    record {
      interest = sum_step interest_of c.args.lines.now c.loop-line.line-index _ _ i.result c.requires.few c.loop-line-test.true inv.interest i.ensures.value i.ensures.small;
      principal = sum_step principal_of c.args.lines.now c.loop-line.line-index _ _ p.result c.requires.few c.loop-line-test.true inv.principal p.ensures.value p.ensures.small;
    }
