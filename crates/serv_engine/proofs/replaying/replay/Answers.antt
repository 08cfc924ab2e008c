use Rattle.std.proofs.Common.{◌<◌, length, arith}
use Rattle.serv_journal.specs.Reading.{lines_in}
use Rattle.serv_engine.proofs.ReplayLemmas.{on_any_err, next_lines, replay_fault, none_within, lines_within}
use Rattle.serv_engine.proofs.replaying.replay.Goals as goal

pub returns-in-Err-clause-fault : goal.returns-in-Err-clause-fault
returns-in-Err-clause-fault g c =
    let less : c.loop-i.i < length c.args.frames.now = omega (arith, c.len-count.ensures, c.loop-i-test.true) in
    replay_fault c.args.frames.now c.loop-i.i c.place-place.result c.line.result.now c.loop-i.core.history c.in-Err.fault
    c.history_holds.ensures.history c.loop-i.invariant.lines less c.place-place.ensures c.line.ensures c.in-Err.ensures.fault

pub loop-i-preserved : goal.loop-i-preserved
loop-i-preserved g c =
    let less : c.loop-i.i < length c.args.frames.now = omega (arith, c.len-count.ensures, c.loop-i-test.true) in
    record {
      lines = next_lines c.args.frames.now c.loop-i.i c.line.result.now c.loop-i.core.history c.replay_line.new.core.history c.loop-i.invariant.lines less c.line.ensures c.in-Ok.ensures.next;
      bound = λ is free.
          let before = c.loop-i.invariant.bound is free in
          let more = c.in-Ok.ensures.bound is free in
          omega (arith, before, more);
    }

pub returns-in_err-core-clause-bound_err : goal.returns-in_err-core-clause-bound_err
returns-in_err-core-clause-bound_err g c = λ is free. on_any_err c.from_residual.result _ (none_within (lines_in c.args.frames.now) c.args.steps.now)

pub returns-in-Err-clause-bound_err : goal.returns-in-Err-clause-bound_err
returns-in-Err-clause-bound_err g c = λ is free.
    let less : c.loop-i.i < length c.args.frames.now = omega (arith, c.len-count.ensures, c.loop-i-test.true) in
    lines_within c.args.frames.now c.loop-i.i c.line.result.now c.loop-i.core.history c.args.steps.now c.loop-i.steps c.replay_line.new.steps c.loop-i.invariant.lines less c.line.ensures
    (c.loop-i.invariant.bound is free) (c.in-Err.ensures.bound_err is free)
