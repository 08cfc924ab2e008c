use Rattle.std.proofs.Common.{[], refl, arith}
use Rattle.serv_machine.proofs.OnDiskLemmas.{disk_none}
use Rattle.serv_machine.specs.Sayings.{AreFirst, SaidFirst}
use Rattle.serv_top.specs.Lines.{Says}
use Rattle.serv_machine.proofs.UpheldLemmas.{upheld_none}
use Rattle.serv_machine.proofs.AnsweringLemmas.{first_exact, replies_wider}
use Rattle.serv_top.proofs.Cutting.{ended_lines-append}
use Rattle.serv_machine.proofs.GatheredLemmas.{starved, stops_wider}
use Rattle.serv_top.proofs.ServedLemmas.{served_plain, first_here, first_plain}
use Rattle.serv_top.proofs.serving.Serving.feed_piece.Goals as goal

pub returns-in-Ok-clause-fed : goal.returns-in-Ok-clause-fed
returns-in-Ok-clause-fed g c = λ before s steps held run.
    rw c.keep_all.ensures.replies (served_plain _ before run c.args.piece.now _ c.requires.plain c.in-Ok.ensures.line)

pub returns-in-Ok-clause-upheld : goal.returns-in-Ok-clause-upheld
returns-in-Ok-clause-upheld g c = λ before s steps held run. upheld_none _ _ _ _ _

pub returns-in-Ok-clause-disk : goal.returns-in-Ok-clause-disk
returns-in-Ok-clause-disk g c =
    disk_none g.D.Disk.view c.args.disk.now _ _ refl
    (g.met.M.Machine.keeps_running c.args.machine.now c.args.disk.now c.requires.running) (g.met.D.Disk.only_now c.args.disk.now)

pub returns-in-Ok-let_go-clause-stopped : goal.returns-in-Ok-let_go-clause-stopped
returns-in-Ok-let_go-clause-stopped g c = λ before s steps held run.
    let gone = (rw c.keep_all.ensures.replies at c.in-Ok-let_go.ensures.gathered) run.said s steps held run.gathers in
    record {
      pending = [];
      written = gone.written;
      wrote = gone.wrote;
      says_so = starved _ run.said s gone (AreFirst (SaidFirst Says _)) (first_plain _ before run c.args.piece.now c.requires.plain) (g.met.M.Machine.settled c.let_go.new.machine c.let_go.new.disk c.in-Ok-let_go.ensures.settled).1
          (omega (arith, c.in-Ok-let_go.ensures.few));
      disk = c.in-Ok-let_go.ensures.disk;
    }

pub returns-in-Ok-let_go-clause-upheld : goal.returns-in-Ok-let_go-clause-upheld
returns-in-Ok-let_go-clause-upheld g c = λ before s steps held run.
    replies_wider _ (SaidFirst Says _) (g.D.Disk.view c.let_go.new.disk) (g.M.Machine.kept c.let_go.new.machine) s.history held _ _
    (λ done first. first_here _ before run _ _ (ended_lines-append before c.args.piece.now) done [] first) ((rw c.keep_all.ensures.replies at c.let_go.ensures.upheld) run.said s steps held run.gathers)

pub returns-in-Err-let_go-clause-stopped : goal.returns-in-Err-let_go-clause-stopped
returns-in-Err-let_go-clause-stopped g c = λ before s steps held run.
    let stops = (rw c.keep_all.ensures.replies at c.in-Err-let_go.ensures.stopped) run.said s steps held run.gathers in
    stops_wider _ _ (λ done ahead is. first_here _ before run _ _ (ended_lines-append before c.args.piece.now) done ahead (first_exact run.said done ahead is)) _ s _
    g.D.Disk.view c.args.disk.now c.let_go.new.disk c.in-Err-let_go.stop _ _ held _ stops

pub returns-in-Err-let_go-clause-upheld : goal.returns-in-Err-let_go-clause-upheld
returns-in-Err-let_go-clause-upheld g c = λ before s steps held run.
    replies_wider _ (SaidFirst Says _) (g.D.Disk.view c.let_go.new.disk) (g.M.Machine.kept c.let_go.new.machine) s.history held _ _
    (λ done first. first_here _ before run _ _ (ended_lines-append before c.args.piece.now) done [] first) ((rw c.keep_all.ensures.replies at c.let_go.ensures.upheld) run.said s steps held run.gathers)
