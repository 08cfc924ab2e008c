use Rattle.std.proofs.Common.{arith}
use Rattle.svc_spec.proofs.StepsLemmas.{late_by}
use Rattle.svc_replay.proofs.cursor.lates_by.Goals as goal

pub loop-late-init : goal.loop-late-init
loop-late-init c = record {
  few = omega arith;
  over = λ some. late_by c.args.terms.now c.min-late.result c.args.day c.requires.terms (omega arith);
}
