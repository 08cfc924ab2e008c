use Rattle.std.proofs.Common.{[], refl}
use Rattle.std.proofs.KnownBytes.{Appends-nil}
use Rattle.serv_machine.specs.History.{history_of, kept_history, stand}
use Rattle.serv_top.proofs.LinksLemmas.{ended, counts_written}
use Rattle.serv_top.proofs.over_doors.serve_by.Goals as goal

pub returns-in-Done-clause-ends : goal.returns-in-Done-clause-ends
returns-in-Done-clause-ends g c =
    ended g.G.Conn.Source.left g.G.Conn.Sink.held g.G.Conn.Sink.log g.G.Conn.Source.faults g.G.Conn.Sink.faults (g.D.Disk.view c.serve_doors-service.new.disk) c.write_counts.result c.args.most _ _ _ _ _ _
    (stand (history_of c.args.engine.now) c.args.steps.now) (stand (kept_history c.serve_doors-service.new.engine) c.serve_doors-service.new.steps)
    g.D.Disk.view c.args.disk.now c.serve_doors-service.new.disk _ c.serve_doors-service.result.summary c.serve_doors-service.ensures.served
    (rw c.in-Done.is (counts_written c.write_counts.result c.args.most _ _ _ c.serve_doors-service.result.summary c.write_counts.ensures.writes))

pub returns-in-DiskFault-clause-ends : goal.returns-in-DiskFault-clause-ends
returns-in-DiskFault-clause-ends g c =
    ended g.G.Conn.Source.left g.G.Conn.Sink.held g.G.Conn.Sink.log g.G.Conn.Source.faults g.G.Conn.Sink.faults (g.D.Disk.view c.serve_doors-service.new.disk) _ c.args.most _ _ _ _ _ _
    (stand (history_of c.args.engine.now) c.args.steps.now) (stand (kept_history c.serve_doors-service.new.engine) c.serve_doors-service.new.steps)
    g.D.Disk.view c.args.disk.now c.serve_doors-service.new.disk _ c.serve_doors-service.result.summary c.serve_doors-service.ensures.served
    (rw c.in-DiskFault.is (λ ends end counts. ([], Appends-nil (g.K.Sink.held c.args.snk.now), (end, refl))))

pub returns-in-NetFault-clause-ends : goal.returns-in-NetFault-clause-ends
returns-in-NetFault-clause-ends g c =
    ended g.G.Conn.Source.left g.G.Conn.Sink.held g.G.Conn.Sink.log g.G.Conn.Source.faults g.G.Conn.Sink.faults (g.D.Disk.view c.serve_doors-service.new.disk) _ c.args.most _ _ _ _ _ _
    (stand (history_of c.args.engine.now) c.args.steps.now) (stand (kept_history c.serve_doors-service.new.engine) c.serve_doors-service.new.steps)
    g.D.Disk.view c.args.disk.now c.serve_doors-service.new.disk _ c.serve_doors-service.result.summary c.serve_doors-service.ensures.served
    (rw c.in-NetFault.is (λ ends end counts. ([], Appends-nil (g.K.Sink.held c.args.snk.now), (end, refl))))
