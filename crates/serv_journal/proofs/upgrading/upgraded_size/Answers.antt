use Rattle.std.proofs.Common.{◌<◌, ◌+◌, length, arith, ap}
use Rattle.serv_journal.specs.Reading.{lines_in}
use Rattle.serv_journal.proofs.ScanLemmas.{length_lines_in}
use Rattle.serv_journal.proofs.UpgradeLemmas.{total_more, too_long}
use Rattle.serv_journal.proofs.upgrading.upgraded_size.Goals as goal

pub returns-then-limit-next : goal.returns-then-limit-next
returns-then-limit-next c =
    let less : c.loop-i.i < length (lines_in c.args.frames.now) = omega (arith, length_lines_in c.args.frames.now) in
    too_long (lines_in c.args.frames.now) c.loop-i.i c.loop-i.total (c.args.size + 9) _ c.args.limit less c.loop-i.invariant.total
    (ap (λ n. c.loop-i.total + n) c.record_size.ensures.size) c.if-limit-next.true

pub loop-i-preserved : goal.loop-i-preserved
loop-i-preserved c =
    let less : c.loop-i.i < length (lines_in c.args.frames.now) = omega (arith, length_lines_in c.args.frames.now) in
    record {
      total = total_more (lines_in c.args.frames.now) c.loop-i.i c.loop-i.total (c.args.size + 9) _ less c.loop-i.invariant.total
          (ap (λ n. c.loop-i.total + n) c.record_size.ensures.size);
      within = c.if-limit-next.false;
    }
