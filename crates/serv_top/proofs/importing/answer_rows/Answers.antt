use Rattle.std.proofs.Common.{◌≡◌, take, drop, map, refl, arith, suc, []}
use Rattle.std.proofs.lemmas.List.{take_all}
use Rattle.serv_machine.proofs.OnDiskLemmas.{disk_none, disk_more}
use Rattle.serv_machine.proofs.UpheldLemmas.{upheld_none}
use Rattle.serv_top.specs.Imported.{said_of}
use Rattle.serv_machine.specs.History.{running}
use Rattle.serv_machine.proofs.AnsweringLemmas.{first_exact, upheld_call}
use Rattle.serv_machine.proofs.GatheredLemmas.{gathered_none}
use Rattle.serv_top.proofs.ImportLemmas.{first_rows, rows_settled, rows_stopped, next_item, item_at, is_row}
use Rattle.serv_top.proofs.importing.answer_rows.Goals as goal

pub loop-row-init : goal.loop-row-init
loop-row-init g c =
    let settled = g.met.M.Machine.settled c.args.machine.now c.args.disk.now c.requires.ready in
    record {
      gathers = gathered_none 0 _ _ _ _ c.new-replies.ensures.text refl settled.1 (omega arith);
      upheld = upheld_none _ _ _ _ _;
      disk = disk_none g.D.Disk.view c.args.disk.now _ _ settled.1
          (g.met.M.Machine.keeps c.args.machine.now c.args.disk.now c.requires.ready) (g.met.D.Disk.only_now c.args.disk.now);
      running = settled.0;
      waiting = c.new-replies.ensures.waiting;
      write_later = omega arith;
      disk_later = omega arith;
    }

pub said_of-requires : goal.said_of-requires
said_of-requires g c = is_row c.args.rows.now c.loop-row.row-index c.row-item.result c.row-item.is c.requires.rows c.loop-row-test.true

pub loop-row-preserved : goal.loop-row-preserved
loop-row-preserved g c =
    let list = c.args.rows.now in
    let i = c.loop-row.row-index in
    let item = c.row-item.result in
    let inv = c.loop-row.invariant in
    let said = rw (inv.waiting, c.said_of.ensures.said) at c.act.ensures in
    let next = rw (inv.waiting, c.said_of.ensures.said) at c.in-Ok.ensures in
    record {
      gathers = rw (next_item list i item c.row-item.is c.loop-row-test.true) (next.gathered (map said_of (take i list)) _ _ inv.gathers);
      upheld = upheld_call g.D.Disk.view c.loop-row.disk c.act.new.disk _ _ [] c.in-Ok.ensures.disk _ (λ saids. saids ≡ map said_of list) _ _ _ _ _
          (λ done first. first_rows (map said_of list) (map said_of (take i list)) (map said_of (drop (suc i) list)) (said_of item) (item_at list i item c.row-item.is c.loop-row-test.true) done [] first) inv.upheld
          (said.upheld (map said_of (take i list)) _ _ inv.gathers);
      disk = disk_more g.D.Disk.view _ _ _ _ _ _ _ inv.disk c.in-Ok.ensures.disk;
      running = c.in-Ok.ensures.running;
      waiting = rw c.act.ensures.waiting inv.waiting;
      write_later = omega (arith, inv.write_later, c.act.ensures.later);
      disk_later = omega (arith, inv.disk_later, c.act.ensures.disk_later);
    }

pub returns-in-Err-clause-ends : goal.returns-in-Err-clause-ends
returns-in-Err-clause-ends g c =
    let list = c.args.rows.now in
    let i = c.loop-row.row-index in
    let item = c.row-item.result in
    let inv = c.loop-row.invariant in
    let stops = (rw (inv.waiting, c.said_of.ensures.said) at c.in-Err.ensures.stopped) (map said_of (take i list)) _ _ inv.gathers in
    rw c.from.ensures
    (rows_stopped g.D.Disk.view c.args.disk.now c.loop-row.disk c.act.new.disk (map said_of list) _ _ _ _ _ inv.disk c.in-Err.stop _
    (first_rows (map said_of list) (map said_of (take i list)) (map said_of (drop (suc i) list)) (said_of item) (item_at list i item c.row-item.is c.loop-row-test.true)) stops)

pub returns-in-Err-clause-upheld : goal.returns-in-Err-clause-upheld
returns-in-Err-clause-upheld g c =
    let list = c.args.rows.now in
    let i = c.loop-row.row-index in
    let item = c.row-item.result in
    let inv = c.loop-row.invariant in
    let said = rw (inv.waiting, c.said_of.ensures.said) at c.act.ensures in
    let stops = (rw (inv.waiting, c.said_of.ensures.said) at c.in-Err.ensures.stopped) (map said_of (take i list)) _ _ inv.gathers in
    upheld_call g.D.Disk.view c.loop-row.disk c.act.new.disk _ _ stops.pending stops.disk _ (λ saids. saids ≡ map said_of list) _ _ _ _ _
    (λ done first. first_rows (map said_of list) (map said_of (take i list)) (map said_of (drop (suc i) list)) (said_of item) (item_at list i item c.row-item.is c.loop-row-test.true) done [] first) inv.upheld
    (said.upheld (map said_of (take i list)) _ _ inv.gathers)

pub returns-in-Ok-let_go-clause-ends : goal.returns-in-Ok-let_go-clause-ends
returns-in-Ok-let_go-clause-ends g c =
    let list = c.args.rows.now in
    let inv = c.loop-row.invariant in
    let all = rw (take_all c.loop-row.row-index list (omega (arith, c.loop-row-test.false))) at inv.gathers in
    rows_settled g.D.Disk.view c.args.disk.now c.loop-row.disk c.let_go.new.disk (map said_of list) _ _ (g.M.Machine.kept c.loop-row.machine) _ _ inv.disk
    (running (g.M.Machine.history c.let_go.new.machine) (g.M.Machine.kept c.let_go.new.machine) c.loop-row.steps) _ refl
    (g.met.M.Machine.settled c.let_go.new.machine c.let_go.new.disk c.in-Ok-let_go.ensures.settled).1 c.in-Ok-let_go.ensures.few
    ((rw inv.waiting at c.in-Ok-let_go.ensures.gathered) (map said_of list) _ _ _ all) c.in-Ok-let_go.ensures.disk

pub returns-in-Ok-let_go-clause-upheld : goal.returns-in-Ok-let_go-clause-upheld
returns-in-Ok-let_go-clause-upheld g c =
    let list = c.args.rows.now in
    let inv = c.loop-row.invariant in
    let all = rw (take_all c.loop-row.row-index list (omega (arith, c.loop-row-test.false))) at inv.gathers in
    upheld_call g.D.Disk.view c.loop-row.disk c.let_go.new.disk _ _ [] c.in-Ok-let_go.ensures.disk _ (λ saids. saids ≡ map said_of list) _ _ _ _ _
    (λ done is. is) inv.upheld ((rw inv.waiting at c.let_go.ensures.upheld) (map said_of list) _ _ _ all)

pub returns-clause-ends : goal.returns-clause-ends
returns-clause-ends g c =
    let list = c.args.rows.now in
    let inv = c.loop-row.invariant in
    let all = rw (take_all c.loop-row.row-index list (omega (arith, c.loop-row-test.false))) at inv.gathers in
    rw c.from-in-Err-let_go.ensures
    (rows_stopped g.D.Disk.view c.args.disk.now c.loop-row.disk c.let_go.new.disk (map said_of list) _ _ _ _ _ inv.disk c.in-Err-let_go.stop _ (λ done ahead is. first_exact (map said_of list) done ahead is)
    ((rw inv.waiting at c.in-Err-let_go.ensures.stopped) (map said_of list) _ _ _ all))

pub returns-clause-upheld : goal.returns-clause-upheld
returns-clause-upheld g c =
    let list = c.args.rows.now in
    let inv = c.loop-row.invariant in
    let all = rw (take_all c.loop-row.row-index list (omega (arith, c.loop-row-test.false))) at inv.gathers in
    let stops = (rw inv.waiting at c.in-Err-let_go.ensures.stopped) (map said_of list) _ _ _ all in
    upheld_call g.D.Disk.view c.loop-row.disk c.let_go.new.disk _ _ stops.pending stops.disk _ (λ saids. saids ≡ map said_of list) _ _ _ _ _
    (λ done is. is) inv.upheld ((rw inv.waiting at c.let_go.ensures.upheld) (map said_of list) _ _ _ all)
