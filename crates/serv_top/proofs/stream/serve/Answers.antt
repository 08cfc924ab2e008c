use Rattle.std.proofs.Common.{◌≡◌, ◌+◌, ◌<◌, ◌≤◌, ◌++◌, [], length, take, refl, arith}
use Rattle.std.proofs.KnownBytes.{Consumes-trans}
use Rattle.serv_machine.proofs.OnDiskLemmas.{disk_none, disk_more}
use Rattle.serv_texts.specs.Input.{input_limit}
use Rattle.serv_machine.specs.Sayings.{SaidFirst}
use Rattle.serv_top.specs.Lines.{Says}
use Rattle.serv_machine.proofs.AnsweringLemmas.{upheld_call}
use Rattle.serv_top.proofs.GoingLemmas.{going_more, upheld_taken, upheld_end, acknowledged}
use Rattle.serv_machine.proofs.UpheldLemmas.{upheld_none}
use Rattle.serv_top.proofs.Running.{end_took, course_none, ends_at_bytes, ends_done, ends_at_end, ends_unread, ends_full}
use Rattle.serv_top.proofs.stream.serve.Goals as goal

pub loop-taken-init : goal.loop-taken-init
loop-taken-init g c =
    let settled = g.met.M.Machine.settled c.args.machine.now c.args.disk.now c.requires in
    record {
      going = record {
        run = course_none _ _ _ _ _ _ _ c.new-serving.ensures.line c.new-serving.ensures.replies refl settled.1 (omega arith);
        upheld = upheld_none _ _ _ _ _;
      };
      disk = disk_none g.D.Disk.view c.args.disk.now _ _ settled.1
          (g.met.M.Machine.keeps c.args.machine.now c.args.disk.now c.requires) (g.met.D.Disk.only_now c.args.disk.now);
      ready = c.requires;
      waiting = c.new-serving.ensures.waiting;
      empty = c.new-serving.ensures.replies;
      within = omega arith;
      read_later = omega arith;
      write_later = omega arith;
      disk_later = omega arith;
    }

pub returns-in-Ok-finish-clause-ends : goal.returns-in-Ok-finish-clause-ends
returns-in-Ok-finish-clause-ends g c =
    let run = c.loop-taken.invariant.going.run in
    let below : c.loop-taken.taken < input_limit = c.loop-taken-test.true in
    let none : c.in-Ok-eq0.field-0 ≡ 0 = omega (arith, c.in-Ok-eq0.field-0-test) in
    let served = rw c.loop-taken.invariant.waiting at c.in-Ok-finish.ensures.served in
    ends_done g.D.Disk.view c.args.disk.now c.loop-taken.disk c.finish.new.disk run _ _ _ below
    (rw none at c.in-Ok-eq0.ensures.taken) (c.in-Ok-eq0.ensures.end none) c.loop-taken.invariant.disk c.in-Ok-finish.ensures.disk (served run.taken _ _ run.served)

pub returns-in-Err-finish-clause-ends : goal.returns-in-Err-finish-clause-ends
returns-in-Err-finish-clause-ends g c =
    let run = c.loop-taken.invariant.going.run in
    let below : c.loop-taken.taken < input_limit = c.loop-taken-test.true in
    let none : c.in-Ok-eq0.field-0 ≡ 0 = omega (arith, c.in-Ok-eq0.field-0-test) in
    let stopped = rw c.loop-taken.invariant.waiting at c.in-Err-finish.ensures.stopped in
    rw c.from.ensures
    (ends_at_end g.D.Disk.view c.args.disk.now c.loop-taken.disk c.finish.new.disk run _ _ _ below
    (rw none at c.in-Ok-eq0.ensures.taken) (c.in-Ok-eq0.ensures.end none) c.loop-taken.invariant.disk c.in-Err-finish.stop (stopped run.taken _ _ run.served))

pub returns-in-Err-feed_all-clause-ends : goal.returns-in-Err-feed_all-clause-ends
returns-in-Err-feed_all-clause-ends g c =
    let run = c.loop-taken.invariant.going.run in
    let n = c.in-Ok.n in
    let within : c.loop-taken.taken + n ≤ input_limit = omega (arith, c.loop-taken-test.true, c.in-Ok.ensures.bound, c.min-most.ensures) in
    let long : length (take n c.read_some.new.room) ≡ n = c.in-Ok.ensures.count in
    let stopped = rw c.loop-taken.invariant.waiting at c.in-Err-feed_all.ensures.stopped in
    rw c.from-in-Err-feed_all.ensures
    (ends_at_bytes g.D.Disk.view c.args.disk.now c.loop-taken.disk c.feed_all.new.disk run _ _ _
    (take n c.read_some.new.room) n long within c.in-Ok.ensures.taken c.loop-taken.invariant.disk c.in-Err-feed_all.stop (stopped run.taken _ _ run.served))

pub returns-in-Err-clause-ends : goal.returns-in-Err-clause-ends
returns-in-Err-clause-ends g c =
    let inv = c.loop-taken.invariant in
    ends_unread g.D.Disk.view c.args.disk.now c.loop-taken.disk inv.going.run inv.empty (g.met.M.Machine.settled c.loop-taken.machine c.loop-taken.disk inv.ready).1 inv.disk _
    c.loop-taken-test.true c.in-Err.ensures.kept

pub returns-clause-ends : goal.returns-clause-ends
returns-clause-ends g c =
    let inv = c.loop-taken.invariant in
    ends_full g.D.Disk.view c.args.disk.now c.loop-taken.disk inv.going.run inv.empty (g.met.M.Machine.settled c.loop-taken.machine c.loop-taken.disk inv.ready).1 inv.disk
    inv.within (omega (arith, c.loop-taken-test.false))

pub loop-taken-preserved : goal.loop-taken-preserved
loop-taken-preserved g c =
    let n = c.in-Ok.n in
    let within : c.loop-taken.taken + n ≤ input_limit = omega (arith, c.loop-taken-test.true, c.in-Ok.ensures.bound, c.min-most.ensures) in
    let long : length (take n c.read_some.new.room) ≡ n = c.in-Ok.ensures.count in
    let fed = rw c.loop-taken.invariant.waiting at c.in-Ok-feed_all.ensures.fed in
    let going = c.loop-taken.invariant.going in
    let bytes = take n c.read_some.new.room in
    let upheld = rw c.loop-taken.invariant.waiting at c.feed_all.ensures.upheld in
    record {
      going = going_more going bytes n _ _ _ _ _ _ _ long c.in-Ok.ensures.taken (fed going.run.taken _ _ going.run.served)
          (upheld_call g.D.Disk.view c.loop-taken.disk c.feed_all.new.disk _ _ [] c.in-Ok-feed_all.ensures.disk _ (SaidFirst Says _) _ _ _ _ _ (λ done is. is)
          (upheld_taken _ _ _ _ _ _ going.run.taken bytes going.upheld) (upheld going.run.taken _ _ going.run.served));
      disk = disk_more g.D.Disk.view _ _ _ _ _ _ _ c.loop-taken.invariant.disk c.in-Ok-feed_all.ensures.disk;
      ready = c.in-Ok-feed_all.ensures.ready;
      waiting = rw c.feed_all.ensures.waiting c.loop-taken.invariant.waiting;
      empty = c.in-Ok-feed_all.ensures.empty;
      within = within;
      read_later = omega (arith, c.loop-taken.invariant.read_later, c.read_some.ensures.cause.later);
      write_later = omega (arith, c.loop-taken.invariant.write_later, c.feed_all.ensures.later);
      disk_later = omega (arith, c.loop-taken.invariant.disk_later, c.feed_all.ensures.disk_later);
    }

pub returns-in-Ok-finish-clause-acknowledged : goal.returns-in-Ok-finish-clause-acknowledged
returns-in-Ok-finish-clause-acknowledged g c =
    let going = c.loop-taken.invariant.going in
    let none : c.in-Ok-eq0.field-0 ≡ 0 = omega (arith, c.in-Ok-eq0.field-0-test) in
    let upheld = rw c.loop-taken.invariant.waiting at c.finish.ensures.upheld in
    acknowledged _ _ _ _ _ _ _ _ going.run.taken (end_took going.run _ (rw none at c.in-Ok-eq0.ensures.taken))
    (upheld_call g.D.Disk.view c.loop-taken.disk c.finish.new.disk _ _ [] c.in-Ok-finish.ensures.disk _ (SaidFirst Says _) _ _ _ _ _ (λ done is. is)
    (upheld_end _ _ _ _ _ _ going.run.taken going.upheld) (upheld going.run.taken _ _ going.run.served))

pub returns-in-Err-finish-clause-acknowledged : goal.returns-in-Err-finish-clause-acknowledged
returns-in-Err-finish-clause-acknowledged g c =
    let going = c.loop-taken.invariant.going in
    let none : c.in-Ok-eq0.field-0 ≡ 0 = omega (arith, c.in-Ok-eq0.field-0-test) in
    let upheld = rw c.loop-taken.invariant.waiting at c.finish.ensures.upheld in
    let stops = (rw c.loop-taken.invariant.waiting at c.in-Err-finish.ensures.stopped) going.run.taken _ _ going.run.served in
    acknowledged _ _ _ _ _ _ _ _ going.run.taken (end_took going.run _ (rw none at c.in-Ok-eq0.ensures.taken))
    (upheld_call g.D.Disk.view c.loop-taken.disk c.finish.new.disk _ _ stops.pending stops.disk _ (SaidFirst Says _) _ _ _ _ _ (λ done is. is)
    (upheld_end _ _ _ _ _ _ going.run.taken going.upheld) (upheld going.run.taken _ _ going.run.served))

pub returns-in-Err-feed_all-clause-acknowledged : goal.returns-in-Err-feed_all-clause-acknowledged
returns-in-Err-feed_all-clause-acknowledged g c =
    let going = c.loop-taken.invariant.going in
    let bytes = take c.in-Ok.n c.read_some.new.room in
    let upheld = rw c.loop-taken.invariant.waiting at c.feed_all.ensures.upheld in
    let stops = (rw c.loop-taken.invariant.waiting at c.in-Err-feed_all.ensures.stopped) going.run.taken _ _ going.run.served in
    acknowledged _ _ _ _ _ _ _ _ (going.run.taken ++ bytes) (Consumes-trans _ _ _ going.run.taken bytes going.run.took c.in-Ok.ensures.taken)
    (upheld_end _ _ _ _ _ _ (going.run.taken ++ bytes)
    (upheld_call g.D.Disk.view c.loop-taken.disk c.feed_all.new.disk _ _ stops.pending stops.disk _ (SaidFirst Says _) _ _ _ _ _ (λ done is. is)
    (upheld_taken _ _ _ _ _ _ going.run.taken bytes going.upheld) (upheld going.run.taken _ _ going.run.served)))

pub returns-in-Err-clause-acknowledged : goal.returns-in-Err-clause-acknowledged
returns-in-Err-clause-acknowledged g c =
    let going = c.loop-taken.invariant.going in
    acknowledged _ _ _ _ _ _ _ _ going.run.taken (rw c.in-Err.ensures.kept going.run.took) (upheld_end _ _ _ _ _ _ going.run.taken going.upheld)

pub returns-clause-acknowledged : goal.returns-clause-acknowledged
returns-clause-acknowledged g c =
    let going = c.loop-taken.invariant.going in
    acknowledged _ _ _ _ _ _ _ _ going.run.taken going.run.took (upheld_end _ _ _ _ _ _ going.run.taken going.upheld)
