use Rattle.std.proofs.Common.{refl, sym, subst, ◌∙◌, arith}
use Rattle.std.proofs.lemmas.Bool.{false_from_ne_true}
use Rattle.serv_machine.specs.History.{History, history_of, kept_history, stand}
use Rattle.serv_machine.specs.EngineLaws.{durable_kept, durable_whole}
use Rattle.serv_machine.proofs.OnDiskLemmas.{disk_none}
use Rattle.serv_links.proofs.DoorsLemmas.{Along, along_none, along_more, along_stops, at_most_one, calm_end, counted_more, disk_end}
use Rattle.serv_links.proofs.doors.serve_doors.Goals as goal

pub loop-init : goal.loop-init
loop-init g c = record {
  along = subst
      (λ (h : History). Along g.D.Disk.view g.G.Conn.Source.left g.G.Conn.Sink.held g.G.Conn.Sink.log g.G.Conn.Source.faults g.G.Conn.Sink.faults c.args.disk.now c.args.disk.now c.new-summary.result 0
      (g.G.Doors.coming c.args.doors.now) (g.G.Doors.coming c.args.doors.now) (g.G.Doors.backed c.args.doors.now) (g.G.Doors.backed c.args.doors.now) (stand (history_of c.args.engine.now) c.args.steps.now) (stand h c.args.steps.now))
      (sym (durable_kept (g.D.Disk.view c.args.disk.now).images c.args.engine.now c.requires.durable))
      (along_none g.D.Disk.view g.G.Conn.Source.left g.G.Conn.Sink.held g.G.Conn.Sink.log g.G.Conn.Source.faults g.G.Conn.Sink.faults c.args.disk.now c.new-summary.result _ _ (stand (history_of c.args.engine.now) c.args.steps.now) c.new-summary.ensures
      (disk_none g.D.Disk.view c.args.disk.now _ _ refl (durable_whole (g.D.Disk.view c.args.disk.now).images c.args.engine.now c.version_holds.ensures.version c.requires.durable) (g.met.D.Disk.only_now c.args.disk.now)));
  out = c.requires.out;
  unspent = c.requires.unspent;
  durable = c.requires.durable;
  served = c.new-summary.ensures.served;
  requests = omega (arith, c.new-summary.ensures.requests);
  broken = omega (arith, c.new-summary.ensures.broken);
  cut = omega (arith, c.new-summary.ensures.cut);
  memory = omega (arith, c.new-summary.ensures.memory);
  faults = omega arith;
  net_later = omega arith;
}

pub returns-in-Disk-clause-served : goal.returns-in-Disk-clause-served
returns-in-Disk-clause-served g c =
    let counted = counted_more c.loop.invariant.along.ends c.serve_one-end.result c.loop.summary c.count.new.self c.loop.invariant.along.counted
    c.count.ensures.served c.count.ensures.requests c.count.ensures.broken c.count.ensures.cut c.count.ensures.memory in
    along_stops g.D.Disk.view g.G.Conn.Source.left g.G.Conn.Sink.held g.G.Conn.Sink.log g.G.Conn.Source.faults g.G.Conn.Sink.faults
    c.args.disk.now c.loop.disk c.loop.summary c.loop.counter _ _ _ _ (stand (history_of c.args.engine.now) c.args.steps.now) (stand (kept_history c.loop.engine) c.loop.steps) c.loop.invariant.along
    c.serve_one-end.new.disk c.count.new.self (g.G.Doors.coming c.next.new.self) (g.G.Doors.coming c.back.new.self) (g.G.Doors.backed c.next.new.self) (g.G.Doors.backed c.back.new.self)
    c.serve_one-end.result c.in-Ok-Some.link c.serve_one-end.new.link (stand (kept_history c.serve_one-end.new.engine) c.serve_one-end.new.steps)
    (rw c.in-Ok-Some.field-0-is at c.in-Ok-Some.ensures.given) c.back.ensures.coming c.next.ensures.backed c.back.ensures.backed (rw (sym (durable_kept (g.D.Disk.view c.loop.disk).images c.loop.engine c.loop.invariant.durable)) at c.serve_one-end.ensures.served) counted
    c.args.most c.loop-test.true (disk_end c.serve_one-end.result c.in-Disk.field-0 c.in-Disk.is)

pub loop-preserved : goal.loop-preserved
loop-preserved g c =
    let counted = counted_more c.loop.invariant.along.ends c.serve_one-end.result c.loop.summary c.count.new.self c.loop.invariant.along.counted
    c.count.ensures.served c.count.ensures.requests c.count.ensures.broken c.count.ensures.cut c.count.ensures.memory in
    let calm = calm_end c.serve_one-end.result c.in_default.not-Disk in
    let one = at_most_one c.serve_one-end.result in
    record {
      along = along_more g.D.Disk.view g.G.Conn.Source.left g.G.Conn.Sink.held g.G.Conn.Sink.log g.G.Conn.Source.faults g.G.Conn.Sink.faults
          c.args.disk.now c.loop.disk c.loop.summary c.loop.counter _ _ _ _ (stand (history_of c.args.engine.now) c.args.steps.now) (stand (kept_history c.loop.engine) c.loop.steps) c.loop.invariant.along
          c.serve_one-end.new.disk c.count.new.self (g.G.Doors.coming c.next.new.self) (g.G.Doors.coming c.back.new.self) (g.G.Doors.backed c.next.new.self) (g.G.Doors.backed c.back.new.self)
          c.serve_one-end.result c.in-Ok-Some.link c.serve_one-end.new.link (stand (kept_history c.serve_one-end.new.engine) c.serve_one-end.new.steps)
          (rw c.in-Ok-Some.field-0-is at c.in-Ok-Some.ensures.given) c.back.ensures.coming c.next.ensures.backed c.back.ensures.backed (rw (sym (durable_kept (g.D.Disk.view c.loop.disk).images c.loop.engine c.loop.invariant.durable)) at c.serve_one-end.ensures.served) counted calm;
      out = c.back.ensures.out;
      unspent = false_from_ne_true c.serve_one-end.new.engine.journal.spent (λ spent. calm (c.serve_one-end.ensures.spent.1 spent));
      durable = c.serve_one-end.ensures.durable calm;
      served = c.count.ensures.served ∙ omega (arith, c.loop.invariant.served);
      requests = omega (arith, c.count.ensures.requests, c.count.ensures.served, c.loop.invariant.requests, c.serve_one-end.ensures.few);
      broken = omega (arith, c.count.ensures.broken, c.count.ensures.served, c.loop.invariant.broken, one.0);
      cut = omega (arith, c.count.ensures.cut, c.count.ensures.served, c.loop.invariant.cut, one.1);
      memory = omega (arith, c.count.ensures.memory, c.count.ensures.served, c.loop.invariant.memory, one.2);
      faults = omega (arith, c.loop.invariant.faults, c.serve_one-end.ensures.disk_later);
      net_later = omega (arith, c.loop.invariant.net_later, c.next.ensures.cause.later, c.back.ensures.faults);
    }
