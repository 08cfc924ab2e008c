use Rattle.std.proofs.Common.{refl, inl, inr}
use Rattle.serv_journal.proofs.ReadingLemmas.{risen_from}
use Rattle.serv_machine.specs.History.{kept_history}
use Rattle.serv_top.proofs.LinksLemmas.{over_engine}
use Rattle.serv_top.proofs.over_doors.serve_over.Goals as goal

pub returns-in-Ok-clause-served : goal.returns-in-Ok-clause-served
returns-in-Ok-clause-served g c =
    inr (over_engine g.G.Conn.Source.left g.G.Conn.Sink.held g.G.Conn.Sink.log g.G.Conn.Source.faults g.G.Conn.Sink.faults (g.D.Disk.view c.serve_by.new.disk) c.serve_by.result c.args.most _ _ _ _ _ _ _ _
    g.D.Disk.view c.args.disk.now c.open_journal.new.disk c.serve_by.new.disk c.in-Ok.engine (kept_history c.serve_by.new.engine)
    c.args.steps.now c.open_journal.new.steps c.serve_by.new.steps refl refl c.in-Ok.ensures.opened c.in-Ok.ensures.limit c.serve_by.ensures.ends)

pub returns-in-Ok-clause-file : goal.returns-in-Ok-clause-file
returns-in-Ok-clause-file g c = c.in-Ok.ensures.faultless c.serve_by.result

pub returns-in-Ok-clause-disk : goal.returns-in-Ok-clause-disk
returns-in-Ok-clause-disk g c = λ is.
    risen_from (g.D.Disk.faults c.args.disk.now) (g.D.Disk.faults c.open_journal.new.disk) (g.D.Disk.faults c.serve_by.new.disk) c.open_journal.ensures.disk_later c.serve_by.ensures.disk_later (c.serve_by.ensures.disk is)

pub returns-in-Err-clause-served : goal.returns-in-Err-clause-served
returns-in-Err-clause-served g c = inl (c.in-Err.ensures.unopened, refl, refl)
