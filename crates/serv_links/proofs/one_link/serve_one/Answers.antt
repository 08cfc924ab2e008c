use Rattle.serv_disk.specs.Faults.{HasRisen}
use Rattle.serv_machine.specs.History.{History, kept_history, stand}
use Rattle.serv_machine.specs.EngineLaws.{durable_kept}
use Rattle.serv_machine.specs.OnDisk.{Upholds}
use Rattle.serv_machine.specs.Answering.{Writes}
use Rattle.serv_links.specs.Links.{Serves}
use Rattle.std.proofs.Common.{subst}
use Rattle.serv_links.proofs.LinkLemmas.{complete_link}
use Rattle.serv_links.proofs.one_link.serve_one.Goals as goal

pub returns-clause-served : goal.returns-clause-served
returns-clause-served g c =
    subst
    (λ (h : History). Writes g.D.Disk.view c.args.disk.now c.serve_link.new.disk
    (Serves c.serve_link.result (HasRisen (g.C.Source.faults c.args.link.now) (g.C.Source.faults c.serve_link.new.link)) (HasRisen (g.C.Sink.faults c.args.link.now) (g.C.Sink.faults c.serve_link.new.link))
    (λ covers. Upholds covers (g.D.Disk.view c.serve_link.new.disk) (kept_history c.serve_link.new.machine) (g.C.Sink.held c.args.link.now) (g.C.Sink.log c.args.link.now) (g.C.Sink.log c.serve_link.new.link))
    (g.C.Source.left c.args.link.now) (g.C.Source.left c.serve_link.new.link) (stand h c.args.steps.now) (stand (kept_history c.serve_link.new.machine) c.serve_link.new.steps))
    h (kept_history c.serve_link.new.machine) (g.C.Sink.held c.args.link.now) (g.C.Sink.held c.serve_link.new.link))
    (durable_kept (g.D.Disk.view c.args.disk.now).images c.args.engine.now c.requires.durable) c.serve_link.ensures.served

pub returns-clause-complete : goal.returns-clause-complete
returns-clause-complete g c = λ input is short reads writes disks.
    complete_link c.serve_link.result _ _ _ _ _ _ _ c.serve_link.ensures.served.pending c.serve_link.ensures.served.written input is short reads writes (λ failed. disks (c.serve_link.ensures.stopped failed)) c.serve_link.ensures.served.says_so
