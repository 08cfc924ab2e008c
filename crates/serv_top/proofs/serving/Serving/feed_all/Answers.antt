use Rattle.std.proofs.Common.{◌≡◌, ◌++◌, [], take, refl, sym, arith, append-nil, length-drop}
use Rattle.std.proofs.lemmas.List.{take_all, take_rest}
use Rattle.std.proofs.lemmas.Result.{on_ok_weaker, IfErr-weaker}
use Rattle.serv_machine.proofs.OnDiskLemmas.{disk_none, disk_more}
use Rattle.serv_machine.specs.Sayings.{AreFirst, SaidFirst}
use Rattle.serv_top.specs.Lines.{Says}
use Rattle.serv_machine.proofs.UpheldLemmas.{upheld_none}
use Rattle.serv_machine.proofs.AnsweringLemmas.{first_exact, upheld_call, upheld_result}
use Rattle.serv_machine.proofs.GatheredLemmas.{stops_after}
use Rattle.serv_top.proofs.PlainLemmas.{part_more, part_rest}
use Rattle.serv_top.proofs.ServedLemmas.{first_here, none_more, served_gone}
use Rattle.serv_top.proofs.serving.Serving.feed_all.Goals as goal

pub loop-at-init : goal.loop-at-init
loop-at-init g c =
    let running = (g.met.M.Machine.settled c.args.machine.now c.args.disk.now c.requires.ready).0 in
    record {
      within = omega arith;
      served = λ before s held run. rw (append-nil before) run;
      upheld = λ before s held run. upheld_none _ _ _ _ _;
      disk = disk_none g.D.Disk.view c.args.disk.now _ _ refl (g.met.M.Machine.keeps_running c.args.machine.now c.args.disk.now running) (g.met.D.Disk.only_now c.args.disk.now);
      running = running;
      waiting = refl;
      later = omega arith;
      disk_later = omega arith;
    }

pub loop-at-preserved : goal.loop-at-preserved
loop-at-preserved g c =
    let bytes = c.args.bytes.now in
    let at = c.loop-at.at in
    let n = c.in-Ok.taken in
    let inv = c.loop-at.invariant in
    let said = rw take_rest at c.in-Ok.ensures in
    record {
      within = omega (arith, said.some, length-drop at bytes);
      served = λ before s held run.
          let fed = rw inv.waiting at said.fed in
          rw (sym (part_more before bytes at n)) (fed (before ++ take at bytes) s held (inv.served before s held run));
      upheld = λ before s held run.
          let next = rw inv.waiting at (rw take_rest at c.feed_some.ensures.upheld) in
          upheld_call g.D.Disk.view c.loop-at.disk c.feed_some.new.disk _ _ [] said.disk _ (SaidFirst Says _) s.history held _ _ _ (λ done is. is)
          (inv.upheld before s held run) (rw (part_rest before bytes at) at (next (before ++ take at bytes) s held (inv.served before s held run)));
      disk = disk_more g.D.Disk.view _ _ _ _ _ _ _ inv.disk said.disk;
      running = said.running;
      waiting = rw c.feed_some.ensures.waiting inv.waiting;
      later = omega (arith, inv.later, c.feed_some.ensures.later);
      disk_later = omega (arith, inv.disk_later, c.feed_some.ensures.disk_later);
    }

pub returns-in-Err-clause-stopped : goal.returns-in-Err-clause-stopped
returns-in-Err-clause-stopped g c = λ before s held run.
    let bytes = c.args.bytes.now in
    let at = c.loop-at.at in
    let inv = c.loop-at.invariant in
    let said = (rw inv.waiting at (rw take_rest at c.in-Err.ensures.stopped)) (before ++ take at bytes) s held (inv.served before s held run) in
    rw (sym (part_rest before bytes at))
    (stops_after _ (AreFirst (SaidFirst Says _)) (λ done ahead is. is) _ s _ g.D.Disk.view c.args.disk.now c.loop-at.disk c.feed_some.new.disk c.in-Err.stop _ _ _ held _ inv.disk said)

pub returns-in-Err-clause-upheld : goal.returns-in-Err-clause-upheld
returns-in-Err-clause-upheld g c = λ before s held run.
    let bytes = c.args.bytes.now in
    let at = c.loop-at.at in
    let inv = c.loop-at.invariant in
    let stops = (rw inv.waiting at (rw take_rest at c.in-Err.ensures.stopped)) (before ++ take at bytes) s held (inv.served before s held run) in
    let next = rw inv.waiting at (rw take_rest at c.feed_some.ensures.upheld) in
    upheld_call g.D.Disk.view c.loop-at.disk c.feed_some.new.disk _ _ stops.pending stops.disk _ (SaidFirst Says _) s.history held _ _ _ (λ done is. is)
    (inv.upheld before s held run) (rw (part_rest before bytes at) at (next (before ++ take at bytes) s held (inv.served before s held run)))

pub returns-clause-fed : goal.returns-clause-fed
returns-clause-fed g c = λ before s held run.
    let bytes = c.args.bytes.now in
    let i = c.loop-at.at in
    let inv = c.loop-at.invariant in
    let all : take i bytes ≡ bytes = take_all i bytes (omega (arith, c.loop-at-test.false)) in
    let so_far = rw all at (inv.served before s held run) in
    on_ok_weaker c.let_go.result (λ gathers. served_gone _ (before ++ bytes) so_far _ _ _ gathers) ((rw inv.waiting at c.let_go.ensures.gathered) so_far.said s _ held so_far.gathers)

pub returns-clause-stopped : goal.returns-clause-stopped
returns-clause-stopped g c = λ before s held run.
    let bytes = c.args.bytes.now in
    let i = c.loop-at.at in
    let inv = c.loop-at.invariant in
    let all : take i bytes ≡ bytes = take_all i bytes (omega (arith, c.loop-at-test.false)) in
    let so_far = rw all at (inv.served before s held run) in
    IfErr-weaker c.let_go.result _ _
    (λ why stops. stops_after _ (AreFirst (SaidFirst Says _)) (λ done ahead is. first_here _ (before ++ bytes) so_far _ [] (sym (append-nil _)) done ahead (first_exact so_far.said done ahead is)) _ s _ g.D.Disk.view
    c.args.disk.now c.loop-at.disk c.let_go.new.disk why _ _ _ held _ inv.disk stops)
    ((rw inv.waiting at c.let_go.ensures.stopped) so_far.said s _ held so_far.gathers)

pub returns-clause-upheld : goal.returns-clause-upheld
returns-clause-upheld g c = λ before s held run.
    let bytes = c.args.bytes.now in
    let i = c.loop-at.at in
    let inv = c.loop-at.invariant in
    let all : take i bytes ≡ bytes = take_all i bytes (omega (arith, c.loop-at-test.false)) in
    let so_far = rw all at (inv.served before s held run) in
    let let_go = rw inv.waiting at c.let_go.ensures in
    upheld_result g.D.Disk.view c.loop-at.disk c.let_go.new.disk c.let_go.result _ _ _ _ s _ _ (SaidFirst Says _) held _ _ _ _ c.let_go.ensures.disk
    (let_go.stopped so_far.said s _ held so_far.gathers) (λ done first. first_here _ (before ++ bytes) so_far _ [] (sym (append-nil _)) done [] first) (inv.upheld before s held run) (let_go.upheld so_far.said s _ held so_far.gathers)

pub returns-clause-empty : goal.returns-clause-empty
returns-clause-empty g c = on_ok_weaker c.let_go.result (λ few. none_more _ few) c.let_go.ensures.few

pub returns-clause-disk : goal.returns-clause-disk
returns-clause-disk g c = on_ok_weaker c.let_go.result (λ second. disk_more g.D.Disk.view _ _ _ _ _ _ _ c.loop-at.invariant.disk second) c.let_go.ensures.disk
