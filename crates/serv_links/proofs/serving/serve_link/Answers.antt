use Rattle.std.proofs.Common.{◌≡◌, ◌+◌, ◌≤◌, take, refl, sym, ◌∙◌, arith}
use Rattle.std.proofs.lemmas.Bool.{both_ways}
use Rattle.serv_disk.specs.Faults.{HasRisen}
use Rattle.serv_machine.specs.declared.faults.Stop.TheVariants as stop
use Rattle.serv_machine.specs.OnDisk.{Upholds}
use Rattle.serv_machine.proofs.OnDiskLemmas.{disk_none}
use Rattle.serv_links.specs.Links.{link_limit}
use Rattle.serv_machine.specs.History.{stand}
use Rattle.serv_links.proofs.GoingLemmas.{stopped_as, same_left, same_reads, same_held, same_writes, same_log, starved_at_once, going_none, run_ends, run_breaks, run_broken, run_disk, run_memory, run_passes, run_cut, run_over, run_goes}
use Rattle.serv_links.proofs.RoundLemmas.{risen_last}
use Rattle.serv_links.proofs.serving.serve_link.Goals as goal

pub returns-in_default-clause-served : goal.returns-in_default-clause-served
returns-in_default-clause-served g c =
    let kept : g.C.Source.left c.write_last.new.link ≡ g.C.Source.left c.args.link.now =
    same_left (g.C.Sink.beside c.args.link.now) (g.C.Sink.beside c.write_last.new.link) _ _ _ _ (g.met.C.Link.reading c.args.link.now) (g.met.C.Link.reading c.write_last.new.link) c.write_last.ensures.beside in
    starved_at_once g.D.Disk.view c.args.disk.now (g.met.D.Disk.only_now c.args.disk.now)
    (HasRisen (g.C.Source.faults c.args.link.now) (g.C.Source.faults c.write_last.new.link)) (HasRisen (g.C.Sink.faults c.args.link.now) (g.C.Sink.faults c.write_last.new.link)) _ _ _ _ _ _ (stand (g.M.Machine.kept c.args.machine.now) c.args.steps.now)
    kept c.write_last.ensures.front c.write_last.ensures.noted
    (disk_none g.D.Disk.view c.args.disk.now _ _ refl (g.met.M.Machine.keeps_running c.args.machine.now c.args.disk.now (g.met.M.Machine.settled c.args.machine.now c.args.disk.now c.requires).0) (g.met.D.Disk.only_now c.args.disk.now))

pub pieces-init : goal.pieces-init
pieces-init g c = record {
  run = going_none g.D.Disk.view c.args.disk.now _ _ _ c.in-Ok.conn (stand (g.M.Machine.kept c.args.machine.now) c.args.steps.now) c.in-Ok.ensures
      (disk_none g.D.Disk.view c.args.disk.now _ _ refl (g.met.M.Machine.keeps_running c.args.machine.now c.args.disk.now (g.met.M.Machine.settled c.args.machine.now c.args.disk.now c.requires).0) (g.met.D.Disk.only_now c.args.disk.now));
  below = omega arith;
  few = omega arith;
  ready = c.requires;
  faults = omega arith;
  read_later = omega arith;
  write_later = omega arith;
}

pub returns-in-Ok-eq0-clause-served : goal.returns-in-Ok-eq0-clause-served
returns-in-Ok-eq0-clause-served g c =
    let kept : g.C.Sink.held c.read_some.new.src ≡ g.C.Sink.held c.pieces.link =
    same_held (g.C.Source.beside c.pieces.link) (g.C.Source.beside c.read_some.new.src) _ _ _ _ _ _ _ _ (g.met.C.Link.writing c.pieces.link) (g.met.C.Link.writing c.read_some.new.src) c.read_some.ensures.beside in
    let unnoted : g.C.Sink.log c.read_some.new.src ≡ g.C.Sink.log c.pieces.link =
    same_log (g.C.Source.beside c.pieces.link) (g.C.Source.beside c.read_some.new.src) _ _ _ _ _ _ _ _ (g.met.C.Link.writing c.pieces.link) (g.met.C.Link.writing c.read_some.new.src) c.read_some.ensures.beside in
    let none : c.in-Ok-eq0.field-0 ≡ 0 = omega (arith, c.in-Ok-eq0.field-0-test) in
    run_ends g.D.Disk.view c.args.disk.now c.pieces.disk
    (λ log covers. Upholds covers (g.D.Disk.view c.pieces.disk) (g.M.Machine.kept c.pieces.machine) (g.C.Sink.held c.args.link.now) (g.C.Sink.log c.args.link.now) log) _ _ unnoted _ _ _ _ c.pieces.conn c.pieces.answered c.pieces.taken
    (stand (g.M.Machine.kept c.args.machine.now) c.args.steps.now) (stand (g.M.Machine.kept c.pieces.machine) c.pieces.steps) c.pieces.invariant.run _ _ kept c.pieces.invariant.below _ _
    (rw none at c.in-Ok-eq0.ensures.taken) (c.in-Ok-eq0.ensures.end none)

pub returns-in-Err-clause-served : goal.returns-in-Err-clause-served
returns-in-Err-clause-served g c =
    let kept : g.C.Sink.held c.read_some.new.src ≡ g.C.Sink.held c.pieces.link =
    same_held (g.C.Source.beside c.pieces.link) (g.C.Source.beside c.read_some.new.src) _ _ _ _ _ _ _ _ (g.met.C.Link.writing c.pieces.link) (g.met.C.Link.writing c.read_some.new.src) c.read_some.ensures.beside in
    let unnoted : g.C.Sink.log c.read_some.new.src ≡ g.C.Sink.log c.pieces.link =
    same_log (g.C.Source.beside c.pieces.link) (g.C.Source.beside c.read_some.new.src) _ _ _ _ _ _ _ _ (g.met.C.Link.writing c.pieces.link) (g.met.C.Link.writing c.read_some.new.src) c.read_some.ensures.beside in
    run_breaks g.D.Disk.view c.args.disk.now c.pieces.disk
    (λ log covers. Upholds covers (g.D.Disk.view c.pieces.disk) (g.M.Machine.kept c.pieces.machine) (g.C.Sink.held c.args.link.now) (g.C.Sink.log c.args.link.now) log) _ _ unnoted _ _ _ _ c.pieces.conn c.pieces.answered c.pieces.taken
    (stand (g.M.Machine.kept c.args.machine.now) c.args.steps.now) (stand (g.M.Machine.kept c.pieces.machine) c.pieces.steps) c.pieces.invariant.run _ _ kept c.pieces.invariant.below _ _
    c.in-Err.ensures.kept (risen_last _ _ _ c.pieces.invariant.read_later c.read_some.ensures.cause.later c.in-Err.ensures.cause.failed)

pub returns-in-Err-WriteFault-clause-served : goal.returns-in-Err-WriteFault-clause-served
returns-in-Err-WriteFault-clause-served g c =
    let kept : g.C.Sink.held c.read_some.new.src ≡ g.C.Sink.held c.pieces.link =
    same_held (g.C.Source.beside c.pieces.link) (g.C.Source.beside c.read_some.new.src) _ _ _ _ _ _ _ _ (g.met.C.Link.writing c.pieces.link) (g.met.C.Link.writing c.read_some.new.src) c.read_some.ensures.beside in
    let unnoted : g.C.Sink.log c.read_some.new.src ≡ g.C.Sink.log c.pieces.link =
    same_log (g.C.Source.beside c.pieces.link) (g.C.Source.beside c.read_some.new.src) _ _ _ _ _ _ _ _ (g.met.C.Link.writing c.pieces.link) (g.met.C.Link.writing c.read_some.new.src) c.read_some.ensures.beside in
    let stays : g.C.Source.left c.serve_piece-round.new.link ≡ g.C.Source.left c.read_some.new.src =
    same_left (g.C.Sink.beside c.read_some.new.src) (g.C.Sink.beside c.serve_piece-round.new.link) _ _ _ _ (g.met.C.Link.reading c.read_some.new.src) (g.met.C.Link.reading c.serve_piece-round.new.link) c.serve_piece-round.ensures.beside in
    let same : g.C.Sink.faults c.read_some.new.src ≡ g.C.Sink.faults c.pieces.link =
    same_writes (g.C.Source.beside c.pieces.link) (g.C.Source.beside c.read_some.new.src) _ _ _ _ _ _ _ _ (g.met.C.Link.writing c.pieces.link) (g.met.C.Link.writing c.read_some.new.src) c.read_some.ensures.beside in
    let within : c.pieces.taken + c.in-Ok-read_some.count ≤ link_limit = omega (arith, c.in-Ok-read_some.ensures.bound, c.min-most.ensures, c.pieces.invariant.below) in
    run_broken g.D.Disk.view c.args.disk.now c.pieces.disk c.serve_piece-round.new.disk _ _ _ _ _ _ _ _ c.pieces.conn c.serve_piece-round.new.conn c.pieces.answered c.pieces.taken
    (stand (g.M.Machine.kept c.args.machine.now) c.args.steps.now) (stand (g.M.Machine.kept c.pieces.machine) c.pieces.steps) (stand (g.M.Machine.kept c.serve_piece-round.new.machine) c.serve_piece-round.new.steps)
    (g.C.Sink.log c.args.link.now) (g.C.Sink.log c.pieces.link) (g.C.Sink.log c.read_some.new.src) (g.C.Sink.log c.serve_piece-round.new.link) unnoted c.pieces.invariant.run kept (take c.in-Ok-read_some.count c.read_some.new.room) c.in-Ok-read_some.count c.in-Ok-read_some.ensures.count (omega (arith, c.in-Ok-read_some.ensures.bound, c.min-most.ensures)) c.in-Ok-read_some.ensures.taken stays
    _ c.serve_piece-round.result.outcome c.serve_piece-round.result.answered c.serve_piece-round.ensures.piece c.serve_piece-round.ensures.upheld within _ _
    (risen_last (g.C.Sink.faults c.args.link.now) (g.C.Sink.faults c.read_some.new.src) (g.C.Sink.faults c.serve_piece-round.new.link) (omega (arith, c.pieces.invariant.write_later, same)) c.serve_piece-round.ensures.later) (stopped_as _ c.in-Err-WriteFault.field-0 stop.WriteFault c.in-Err-WriteFault.is (rw c.in-Err-WriteFault.is at c.in-Err-WriteFault.field-0-is))
    (risen_last (g.C.Sink.faults c.args.link.now) (g.C.Sink.faults c.read_some.new.src) (g.C.Sink.faults c.serve_piece-round.new.link) (omega (arith, c.pieces.invariant.write_later, same)) c.serve_piece-round.ensures.later
    (c.serve_piece-round.ensures.broken (stopped_as _ c.in-Err-WriteFault.field-0 stop.WriteFault c.in-Err-WriteFault.is (rw c.in-Err-WriteFault.is at c.in-Err-WriteFault.field-0-is))))

pub returns-in-Err-DiskFault-clause-served : goal.returns-in-Err-DiskFault-clause-served
returns-in-Err-DiskFault-clause-served g c =
    let kept : g.C.Sink.held c.read_some.new.src ≡ g.C.Sink.held c.pieces.link =
    same_held (g.C.Source.beside c.pieces.link) (g.C.Source.beside c.read_some.new.src) _ _ _ _ _ _ _ _ (g.met.C.Link.writing c.pieces.link) (g.met.C.Link.writing c.read_some.new.src) c.read_some.ensures.beside in
    let unnoted : g.C.Sink.log c.read_some.new.src ≡ g.C.Sink.log c.pieces.link =
    same_log (g.C.Source.beside c.pieces.link) (g.C.Source.beside c.read_some.new.src) _ _ _ _ _ _ _ _ (g.met.C.Link.writing c.pieces.link) (g.met.C.Link.writing c.read_some.new.src) c.read_some.ensures.beside in
    let stays : g.C.Source.left c.serve_piece-round.new.link ≡ g.C.Source.left c.read_some.new.src =
    same_left (g.C.Sink.beside c.read_some.new.src) (g.C.Sink.beside c.serve_piece-round.new.link) _ _ _ _ (g.met.C.Link.reading c.read_some.new.src) (g.met.C.Link.reading c.serve_piece-round.new.link) c.serve_piece-round.ensures.beside in
    let same : g.C.Sink.faults c.read_some.new.src ≡ g.C.Sink.faults c.pieces.link =
    same_writes (g.C.Source.beside c.pieces.link) (g.C.Source.beside c.read_some.new.src) _ _ _ _ _ _ _ _ (g.met.C.Link.writing c.pieces.link) (g.met.C.Link.writing c.read_some.new.src) c.read_some.ensures.beside in
    let within : c.pieces.taken + c.in-Ok-read_some.count ≤ link_limit = omega (arith, c.in-Ok-read_some.ensures.bound, c.min-most.ensures, c.pieces.invariant.below) in
    run_disk g.D.Disk.view c.args.disk.now c.pieces.disk c.serve_piece-round.new.disk _ _ _ _ _ _ _ _ c.pieces.conn c.serve_piece-round.new.conn c.pieces.answered c.pieces.taken
    (stand (g.M.Machine.kept c.args.machine.now) c.args.steps.now) (stand (g.M.Machine.kept c.pieces.machine) c.pieces.steps) (stand (g.M.Machine.kept c.serve_piece-round.new.machine) c.serve_piece-round.new.steps)
    (g.C.Sink.log c.args.link.now) (g.C.Sink.log c.pieces.link) (g.C.Sink.log c.read_some.new.src) (g.C.Sink.log c.serve_piece-round.new.link) unnoted c.pieces.invariant.run kept (take c.in-Ok-read_some.count c.read_some.new.room) c.in-Ok-read_some.count c.in-Ok-read_some.ensures.count (omega (arith, c.in-Ok-read_some.ensures.bound, c.min-most.ensures)) c.in-Ok-read_some.ensures.taken stays
    _ c.serve_piece-round.result.outcome c.serve_piece-round.result.answered c.serve_piece-round.ensures.piece c.serve_piece-round.ensures.upheld within _ _
    (risen_last (g.C.Sink.faults c.args.link.now) (g.C.Sink.faults c.read_some.new.src) (g.C.Sink.faults c.serve_piece-round.new.link) (omega (arith, c.pieces.invariant.write_later, same)) c.serve_piece-round.ensures.later) (stopped_as _ c.in-Err-DiskFault.field-0 stop.DiskFault c.in-Err-DiskFault.is (rw c.in-Err-DiskFault.is at c.in-Err-DiskFault.field-0-is))

pub returns-in-Err-OutOfMemory-clause-served : goal.returns-in-Err-OutOfMemory-clause-served
returns-in-Err-OutOfMemory-clause-served g c =
    let kept : g.C.Sink.held c.read_some.new.src ≡ g.C.Sink.held c.pieces.link =
    same_held (g.C.Source.beside c.pieces.link) (g.C.Source.beside c.read_some.new.src) _ _ _ _ _ _ _ _ (g.met.C.Link.writing c.pieces.link) (g.met.C.Link.writing c.read_some.new.src) c.read_some.ensures.beside in
    let unnoted : g.C.Sink.log c.read_some.new.src ≡ g.C.Sink.log c.pieces.link =
    same_log (g.C.Source.beside c.pieces.link) (g.C.Source.beside c.read_some.new.src) _ _ _ _ _ _ _ _ (g.met.C.Link.writing c.pieces.link) (g.met.C.Link.writing c.read_some.new.src) c.read_some.ensures.beside in
    let stays : g.C.Source.left c.serve_piece-round.new.link ≡ g.C.Source.left c.read_some.new.src =
    same_left (g.C.Sink.beside c.read_some.new.src) (g.C.Sink.beside c.serve_piece-round.new.link) _ _ _ _ (g.met.C.Link.reading c.read_some.new.src) (g.met.C.Link.reading c.serve_piece-round.new.link) c.serve_piece-round.ensures.beside in
    let same : g.C.Sink.faults c.read_some.new.src ≡ g.C.Sink.faults c.pieces.link =
    same_writes (g.C.Source.beside c.pieces.link) (g.C.Source.beside c.read_some.new.src) _ _ _ _ _ _ _ _ (g.met.C.Link.writing c.pieces.link) (g.met.C.Link.writing c.read_some.new.src) c.read_some.ensures.beside in
    let within : c.pieces.taken + c.in-Ok-read_some.count ≤ link_limit = omega (arith, c.in-Ok-read_some.ensures.bound, c.min-most.ensures, c.pieces.invariant.below) in
    run_memory g.D.Disk.view c.args.disk.now c.pieces.disk c.serve_piece-round.new.disk _ _ _ _ _ _ _ _ c.pieces.conn c.serve_piece-round.new.conn c.pieces.answered c.pieces.taken
    (stand (g.M.Machine.kept c.args.machine.now) c.args.steps.now) (stand (g.M.Machine.kept c.pieces.machine) c.pieces.steps) (stand (g.M.Machine.kept c.serve_piece-round.new.machine) c.serve_piece-round.new.steps)
    (g.C.Sink.log c.args.link.now) (g.C.Sink.log c.pieces.link) (g.C.Sink.log c.read_some.new.src) (g.C.Sink.log c.serve_piece-round.new.link) unnoted c.pieces.invariant.run kept (take c.in-Ok-read_some.count c.read_some.new.room) c.in-Ok-read_some.count c.in-Ok-read_some.ensures.count (omega (arith, c.in-Ok-read_some.ensures.bound, c.min-most.ensures)) c.in-Ok-read_some.ensures.taken stays
    _ c.serve_piece-round.result.outcome c.serve_piece-round.result.answered c.serve_piece-round.ensures.piece c.serve_piece-round.ensures.upheld within _ _
    (risen_last (g.C.Sink.faults c.args.link.now) (g.C.Sink.faults c.read_some.new.src) (g.C.Sink.faults c.serve_piece-round.new.link) (omega (arith, c.pieces.invariant.write_later, same)) c.serve_piece-round.ensures.later) (stopped_as _ c.in-Err-OutOfMemory.field-0 stop.OutOfMemory c.in-Err-OutOfMemory.is (rw c.in-Err-OutOfMemory.is at c.in-Err-OutOfMemory.field-0-is))

pub returns-then-taken-eq-LINK_LIMIT-clause-served : goal.returns-then-taken-eq-LINK_LIMIT-clause-served
returns-then-taken-eq-LINK_LIMIT-clause-served g c =
    let kept : g.C.Sink.held c.read_some.new.src ≡ g.C.Sink.held c.pieces.link =
    same_held (g.C.Source.beside c.pieces.link) (g.C.Source.beside c.read_some.new.src) _ _ _ _ _ _ _ _ (g.met.C.Link.writing c.pieces.link) (g.met.C.Link.writing c.read_some.new.src) c.read_some.ensures.beside in
    let unnoted : g.C.Sink.log c.read_some.new.src ≡ g.C.Sink.log c.pieces.link =
    same_log (g.C.Source.beside c.pieces.link) (g.C.Source.beside c.read_some.new.src) _ _ _ _ _ _ _ _ (g.met.C.Link.writing c.pieces.link) (g.met.C.Link.writing c.read_some.new.src) c.read_some.ensures.beside in
    let stays : g.C.Source.left c.serve_piece-round.new.link ≡ g.C.Source.left c.read_some.new.src =
    same_left (g.C.Sink.beside c.read_some.new.src) (g.C.Sink.beside c.serve_piece-round.new.link) _ _ _ _ (g.met.C.Link.reading c.read_some.new.src) (g.met.C.Link.reading c.serve_piece-round.new.link) c.serve_piece-round.ensures.beside in
    let passed =
    run_passes g.D.Disk.view c.args.disk.now c.pieces.disk c.serve_piece-round.new.disk _ _ _ _ _ _ _ _ c.pieces.conn c.serve_piece-round.new.conn c.pieces.answered c.pieces.taken
    (stand (g.M.Machine.kept c.args.machine.now) c.args.steps.now) (stand (g.M.Machine.kept c.pieces.machine) c.pieces.steps) (stand (g.M.Machine.kept c.serve_piece-round.new.machine) c.serve_piece-round.new.steps)
    (g.C.Sink.log c.args.link.now) (g.C.Sink.log c.pieces.link) (g.C.Sink.log c.read_some.new.src) (g.C.Sink.log c.serve_piece-round.new.link) unnoted c.pieces.invariant.run kept (take c.in-Ok-read_some.count c.read_some.new.room) c.in-Ok-read_some.count c.in-Ok-read_some.ensures.count (omega (arith, c.in-Ok-read_some.ensures.bound, c.min-most.ensures)) c.in-Ok-read_some.ensures.taken stays
    _ c.serve_piece-round.result.outcome c.serve_piece-round.result.answered c.serve_piece-round.ensures.piece c.serve_piece-round.ensures.upheld c.in-Ok-outcome.is in
    run_cut g.D.Disk.view c.args.disk.now c.serve_piece-round.new.disk _ _ _ _ _ _ _ _ _ _ passed _ _ (omega (arith, c.if-taken-eq-LINK_LIMIT.true))

pub returns-then-is_over-clause-served : goal.returns-then-is_over-clause-served
returns-then-is_over-clause-served g c =
    let kept : g.C.Sink.held c.read_some.new.src ≡ g.C.Sink.held c.pieces.link =
    same_held (g.C.Source.beside c.pieces.link) (g.C.Source.beside c.read_some.new.src) _ _ _ _ _ _ _ _ (g.met.C.Link.writing c.pieces.link) (g.met.C.Link.writing c.read_some.new.src) c.read_some.ensures.beside in
    let unnoted : g.C.Sink.log c.read_some.new.src ≡ g.C.Sink.log c.pieces.link =
    same_log (g.C.Source.beside c.pieces.link) (g.C.Source.beside c.read_some.new.src) _ _ _ _ _ _ _ _ (g.met.C.Link.writing c.pieces.link) (g.met.C.Link.writing c.read_some.new.src) c.read_some.ensures.beside in
    let stays : g.C.Source.left c.serve_piece-round.new.link ≡ g.C.Source.left c.read_some.new.src =
    same_left (g.C.Sink.beside c.read_some.new.src) (g.C.Sink.beside c.serve_piece-round.new.link) _ _ _ _ (g.met.C.Link.reading c.read_some.new.src) (g.met.C.Link.reading c.serve_piece-round.new.link) c.serve_piece-round.ensures.beside in
    let within : c.pieces.taken + c.in-Ok-read_some.count ≤ link_limit = omega (arith, c.in-Ok-read_some.ensures.bound, c.min-most.ensures, c.pieces.invariant.below) in
    let passed =
    run_passes g.D.Disk.view c.args.disk.now c.pieces.disk c.serve_piece-round.new.disk _ _ _ _ _ _ _ _ c.pieces.conn c.serve_piece-round.new.conn c.pieces.answered c.pieces.taken
    (stand (g.M.Machine.kept c.args.machine.now) c.args.steps.now) (stand (g.M.Machine.kept c.pieces.machine) c.pieces.steps) (stand (g.M.Machine.kept c.serve_piece-round.new.machine) c.serve_piece-round.new.steps)
    (g.C.Sink.log c.args.link.now) (g.C.Sink.log c.pieces.link) (g.C.Sink.log c.read_some.new.src) (g.C.Sink.log c.serve_piece-round.new.link) unnoted c.pieces.invariant.run kept (take c.in-Ok-read_some.count c.read_some.new.room) c.in-Ok-read_some.count c.in-Ok-read_some.ensures.count (omega (arith, c.in-Ok-read_some.ensures.bound, c.min-most.ensures)) c.in-Ok-read_some.ensures.taken stays
    _ c.serve_piece-round.result.outcome c.serve_piece-round.result.answered c.serve_piece-round.ensures.piece c.serve_piece-round.ensures.upheld c.in-Ok-outcome.is in
    run_over g.D.Disk.view c.args.disk.now c.serve_piece-round.new.disk _ _ _ _ _ _ _ _ _ _ passed _ _ (omega (arith, within, c.if-taken-eq-LINK_LIMIT.false))
    (λ r stands. both_ways c.is_over.result (c.is_over.ensures.stands r stands) c.if-is_over.true)

pub pieces-preserved : goal.pieces-preserved
pieces-preserved g c =
    let kept : g.C.Sink.held c.read_some.new.src ≡ g.C.Sink.held c.pieces.link =
    same_held (g.C.Source.beside c.pieces.link) (g.C.Source.beside c.read_some.new.src) _ _ _ _ _ _ _ _ (g.met.C.Link.writing c.pieces.link) (g.met.C.Link.writing c.read_some.new.src) c.read_some.ensures.beside in
    let unnoted : g.C.Sink.log c.read_some.new.src ≡ g.C.Sink.log c.pieces.link =
    same_log (g.C.Source.beside c.pieces.link) (g.C.Source.beside c.read_some.new.src) _ _ _ _ _ _ _ _ (g.met.C.Link.writing c.pieces.link) (g.met.C.Link.writing c.read_some.new.src) c.read_some.ensures.beside in
    let stays : g.C.Source.left c.serve_piece-round.new.link ≡ g.C.Source.left c.read_some.new.src =
    same_left (g.C.Sink.beside c.read_some.new.src) (g.C.Sink.beside c.serve_piece-round.new.link) _ _ _ _ (g.met.C.Link.reading c.read_some.new.src) (g.met.C.Link.reading c.serve_piece-round.new.link) c.serve_piece-round.ensures.beside in
    let same : g.C.Sink.faults c.read_some.new.src ≡ g.C.Sink.faults c.pieces.link =
    same_writes (g.C.Source.beside c.pieces.link) (g.C.Source.beside c.read_some.new.src) _ _ _ _ _ _ _ _ (g.met.C.Link.writing c.pieces.link) (g.met.C.Link.writing c.read_some.new.src) c.read_some.ensures.beside in
    let unread : g.C.Source.faults c.serve_piece-round.new.link ≡ g.C.Source.faults c.read_some.new.src =
    same_reads (g.C.Sink.beside c.read_some.new.src) (g.C.Sink.beside c.serve_piece-round.new.link) _ _ _ _ (g.met.C.Link.reading c.read_some.new.src) (g.met.C.Link.reading c.serve_piece-round.new.link) c.serve_piece-round.ensures.beside in
    let within : c.pieces.taken + c.in-Ok-read_some.count ≤ link_limit = omega (arith, c.in-Ok-read_some.ensures.bound, c.min-most.ensures, c.pieces.invariant.below) in
    let passed =
    run_passes g.D.Disk.view c.args.disk.now c.pieces.disk c.serve_piece-round.new.disk _ _ _ _ _ _ _ _ c.pieces.conn c.serve_piece-round.new.conn c.pieces.answered c.pieces.taken
    (stand (g.M.Machine.kept c.args.machine.now) c.args.steps.now) (stand (g.M.Machine.kept c.pieces.machine) c.pieces.steps) (stand (g.M.Machine.kept c.serve_piece-round.new.machine) c.serve_piece-round.new.steps)
    (g.C.Sink.log c.args.link.now) (g.C.Sink.log c.pieces.link) (g.C.Sink.log c.read_some.new.src) (g.C.Sink.log c.serve_piece-round.new.link) unnoted c.pieces.invariant.run kept (take c.in-Ok-read_some.count c.read_some.new.room) c.in-Ok-read_some.count c.in-Ok-read_some.ensures.count (omega (arith, c.in-Ok-read_some.ensures.bound, c.min-most.ensures)) c.in-Ok-read_some.ensures.taken stays
    _ c.serve_piece-round.result.outcome c.serve_piece-round.result.answered c.serve_piece-round.ensures.piece c.serve_piece-round.ensures.upheld c.in-Ok-outcome.is in
    record {
      run = run_goes g.D.Disk.view c.args.disk.now c.serve_piece-round.new.disk _ _ _ _ _ _ _ _ _ _ passed (sym c.is_over.ensures.value ∙ c.if-is_over.false);
      below = omega (arith, within, c.if-taken-eq-LINK_LIMIT.false);
      few = omega (arith, c.pieces.invariant.few, c.serve_piece-round.ensures.few, c.in-Ok-read_some.ensures.count);
      ready = c.serve_piece-round.ensures.ready (λ is. let answered = c.in-Ok-outcome.is in cc);
      faults = omega (arith, c.pieces.invariant.faults, c.serve_piece-round.ensures.faults);
      read_later = omega (arith, c.pieces.invariant.read_later, c.read_some.ensures.cause.later, unread);
      write_later = omega (arith, c.pieces.invariant.write_later, same, c.serve_piece-round.ensures.later);
    }
