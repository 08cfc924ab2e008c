use Rattle.std.proofs.Common.{◌≡◌, [], false, true, refl, sym, ap, subst, ◌∙◌, append-nil}
use Rattle.std.specs.Prelude.{IsOk}
use Rattle.svc_world.specs.Judging.{IsHistory}
use Rattle.serv_disk.specs.Disks.{Each}
use Rattle.serv_journal.specs.Disks.{gate_of}
use Rattle.serv_engine.specs.Histories.{lines_of_history}
use Rattle.serv_engine.specs.Engines.{kept_of, begun_of}
use Rattle.serv_machine.specs.History.{history_of}
use Rattle.serv_machine.specs.OnDisk.{HasHistory}
use Rattle.serv_machine.specs.EngineLaws.{durable_whole}
use Rattle.serv_machine.proofs.EngineLemmas.{behind_disk, torn_disk, same_history}
use Rattle.serv_machine.proofs.over_journal.EngineMachine.commit.Goals as goal

pub returns-in-Ok-clause-disk : goal.returns-in-Ok-clause-disk
returns-in-Ok-clause-disk g c =
    let e = c.args.self.now in
    let same = same_history e c.commit.new.self c.commit.ensures.history c.commit.ensures.size c.commit.ensures.limit in
    behind_disk g.D.Disk.view c.args.disk.now c.commit.new.disk e c.commit.new.self
    (g.met.D.Disk.only_now c.args.disk.now) c.requires.running.1 c.requires.running.2 c.commit.ensures.moments (history_of e) refl refl
    (subst IsHistory c.core.ensures c.history_holds.ensures.history)
    (subst (λ h. Each (g.D.Disk.view c.commit.new.disk).images (HasHistory h)) same (durable_whole (g.D.Disk.view c.commit.new.disk).images c.commit.new.self c.commit.ensures.version c.in-Ok.ensures.durable))

is_no : false ≡ true → ⊥
is_no is = cc

pub returns-in-Err-clause-torn : goal.returns-in-Err-clause-torn
returns-in-Err-clause-torn g c =
    let e = c.args.self.now in
    let runs = c.requires.running.2 in
    torn_disk g.D.Disk.view c.args.disk.now c.commit.new.disk e c.commit.new.self
    (g.met.D.Disk.only_now c.args.disk.now) c.requires.running.1 runs c.commit.ensures.moments [] (history_of e) (sym (append-nil e.history))
    (λ none. absurd (is_no (subst IsOk c.in-Err.is (c.commit.ensures.idle (runs.kept.gate ∙ ap (λ h. gate_of runs.form (lines_of_history (kept_of e)) (lines_of_history h)) (sym (append-nil (begun_of e)) ∙ none))).0)))
    (subst IsHistory c.core.ensures c.history_holds.ensures.history) c.commit.ensures.good
