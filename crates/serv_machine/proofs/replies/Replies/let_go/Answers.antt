use Rattle.std.proofs.Common.{[], ◌∙◌, refl, subst}
use Rattle.serv_machine.specs.History.{History}
use Rattle.serv_disk.specs.Disks.{Each}
use Rattle.serv_machine.specs.OnDisk.{HasHistory}
use Rattle.serv_machine.proofs.UpheldLemmas.{upheld_none}
use Rattle.serv_machine.proofs.OnDiskLemmas.{disk_none}
use Rattle.serv_machine.proofs.AnsweringLemmas.{writes_all}
use Rattle.serv_machine.proofs.GatheredLemmas.{cut_stops, gone, torn_stops}
use Rattle.serv_machine.proofs.replies.Replies.let_go.Goals as goal

pub returns-in-Ok-write_over-clause-gathered : goal.returns-in-Ok-write_over-clause-gathered
returns-in-Ok-write_over-clause-gathered g c = λ said s steps held gathers.
    gone _ said s gathers _ _ _ c.commit.ensures.history (g.met.M.Machine.settled c.commit.new.self c.commit.new.disk c.in-Ok.ensures.ready).1 refl c.in-Ok-write_over.ensures.written

pub returns-in-Ok-write_over-clause-upheld : goal.returns-in-Ok-write_over-clause-upheld
returns-in-Ok-write_over-clause-upheld g c = λ said s steps held gathers.
    let settled = g.met.M.Machine.settled c.commit.new.self c.commit.new.disk c.in-Ok.ensures.ready in
    let same = settled.1 ∙ c.commit.ensures.history in
    let has = subst (λ (h : History). Each (g.D.Disk.view c.commit.new.disk).images (HasHistory h)) same (g.met.M.Machine.keeps_running c.commit.new.self c.commit.new.disk settled.0) in
    writes_all g.D.Disk.view gathers c.commit.new.disk c.commit.new.disk (g.met.D.Disk.only_now c.commit.new.disk) _ []
    (disk_none g.D.Disk.view c.commit.new.disk _ _ same has (g.met.D.Disk.only_now c.commit.new.disk)) c.write_over.ensures.noted

pub returns-in-Ok-write_over-clause-disk : goal.returns-in-Ok-write_over-clause-disk
returns-in-Ok-write_over-clause-disk g c =
    rw ((g.met.M.Machine.settled c.commit.new.self c.commit.new.disk c.in-Ok.ensures.ready).1 ∙ c.commit.ensures.history) c.in-Ok.ensures.disk

pub returns-in-Err-write_over-clause-stopped : goal.returns-in-Err-write_over-clause-stopped
returns-in-Err-write_over-clause-stopped g c = λ said s steps held gathers.
    let same = (g.met.M.Machine.settled c.commit.new.self c.commit.new.disk c.in-Ok.ensures.ready).1 ∙ c.commit.ensures.history in
    cut_stops _ said s gathers g.D.Disk.view c.args.disk.now c.commit.new.disk _ _ same c.in-Err-write_over.ensures.part c.in-Ok.ensures.disk

pub returns-in-Err-write_over-clause-upheld : goal.returns-in-Err-write_over-clause-upheld
returns-in-Err-write_over-clause-upheld g c = λ said s steps held gathers.
    let settled = g.met.M.Machine.settled c.commit.new.self c.commit.new.disk c.in-Ok.ensures.ready in
    let same = settled.1 ∙ c.commit.ensures.history in
    let has = subst (λ (h : History). Each (g.D.Disk.view c.commit.new.disk).images (HasHistory h)) same (g.met.M.Machine.keeps_running c.commit.new.self c.commit.new.disk settled.0) in
    writes_all g.D.Disk.view gathers c.commit.new.disk c.commit.new.disk (g.met.D.Disk.only_now c.commit.new.disk) _ []
    (disk_none g.D.Disk.view c.commit.new.disk _ _ same has (g.met.D.Disk.only_now c.commit.new.disk)) c.write_over.ensures.noted

pub returns-in-Err-clause-stopped : goal.returns-in-Err-clause-stopped
returns-in-Err-clause-stopped g c = λ said s steps held gathers.
    torn_stops _ said s gathers g.D.Disk.view c.args.disk.now c.commit.new.disk _ c.in-Err.ensures.same c.in-Err.ensures.torn

pub returns-in-Err-clause-upheld : goal.returns-in-Err-clause-upheld
returns-in-Err-clause-upheld g c = λ said s steps held gathers. upheld_none _ _ _ _ _
