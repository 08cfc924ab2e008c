use Rattle.std.proofs.Common.{◌+◌, ◌++◌, take, drop, refl, sym, ◌∙◌}
use Rattle.serv_machine.proofs.OnDiskLemmas.{disk_none}
use Rattle.serv_top.proofs.PlainLemmas.{plain_before, plain_all, line_before, part_rest}
use Rattle.serv_machine.proofs.GatheredLemmas.{stops_after}
use Rattle.serv_top.proofs.ServedLemmas.{first_further}
use Rattle.serv_machine.specs.Sayings.{AreFirst, SaidFirst}
use Rattle.serv_top.specs.Lines.{Says, ended_lines}
use Rattle.serv_top.proofs.GoingLemmas.{upheld_taken}
use Rattle.serv_top.proofs.serving.Serving.feed_some.Goals as goal

pub feed_line-requires-clause-plain : goal.feed_line-requires-clause-plain
feed_line-requires-clause-plain g c = plain_before c.args.bytes.now c.in-Some.at (sym c.line_feed_in.ensures ∙ c.in-Some.is)

pub feed_piece-requires : goal.feed_piece-requires
feed_piece-requires g c = record { plain = plain_all c.args.bytes.now (sym c.line_feed_in.ensures ∙ c.in-None.is); running = c.requires.running }

pub returns-in-Ok-clause-fed : goal.returns-in-Ok-clause-fed
returns-in-Ok-clause-fed g c = λ before s held run.
    rw (line_before c.args.bytes.now c.in-Some.at (sym c.line_feed_in.ensures ∙ c.in-Some.is)) (c.in-Ok.ensures.fed before s held run)

pub returns-in-Err-clause-stopped : goal.returns-in-Err-clause-stopped
returns-in-Err-clause-stopped g c = λ before s held run.
    let bytes = c.args.bytes.now in
    let n = c.in-Some.at + 1 in
    let front = line_before bytes c.in-Some.at (sym c.line_feed_in.ensures ∙ c.in-Some.is) in
    let stops = rw (sym front) at (c.in-Err.ensures.stopped before s held run) in
    let none = disk_none g.D.Disk.view c.args.disk.now _ _ refl
    (g.met.M.Machine.keeps_running c.args.machine.now c.args.disk.now c.requires.running) (g.met.D.Disk.only_now c.args.disk.now) in
    rw (sym (part_rest before bytes n))
    (stops_after (AreFirst (SaidFirst Says (ended_lines (before ++ take n bytes)))) _ (λ done ahead is. first_further (before ++ take n bytes) (drop n bytes) done ahead is) _ s _ g.D.Disk.view
    c.args.disk.now c.args.disk.now c.feed_line.new.disk c.in-Err.stop _ _ _ held _ none stops)

pub returns-in-Err-feed_piece-clause-stopped : goal.returns-in-Err-feed_piece-clause-stopped
returns-in-Err-feed_piece-clause-stopped g c = λ before s held run. c.in-Err-feed_piece.ensures.stopped before s _ held run

pub returns-in-Ok-clause-upheld : goal.returns-in-Ok-clause-upheld
returns-in-Ok-clause-upheld g c = λ before s held run.
    let bytes = c.args.bytes.now in
    let n = c.in-Some.at + 1 in
    let front = line_before bytes c.in-Some.at (sym c.line_feed_in.ensures ∙ c.in-Some.is) in
    rw (part_rest before bytes n) at
    (upheld_taken (g.D.Disk.view c.feed_line.new.disk) (g.M.Machine.kept c.feed_line.new.machine) s.history held _ _ (before ++ take n bytes) (drop n bytes)
    (rw (sym front) at (c.feed_line.ensures.upheld before s held run)))

pub returns-in-Err-clause-upheld : goal.returns-in-Err-clause-upheld
returns-in-Err-clause-upheld g c = λ before s held run.
    let bytes = c.args.bytes.now in
    let n = c.in-Some.at + 1 in
    let front = line_before bytes c.in-Some.at (sym c.line_feed_in.ensures ∙ c.in-Some.is) in
    rw (part_rest before bytes n) at
    (upheld_taken (g.D.Disk.view c.feed_line.new.disk) (g.M.Machine.kept c.feed_line.new.machine) s.history held _ _ (before ++ take n bytes) (drop n bytes)
    (rw (sym front) at (c.feed_line.ensures.upheld before s held run)))

pub returns-in-Ok-feed_piece-clause-upheld : goal.returns-in-Ok-feed_piece-clause-upheld
returns-in-Ok-feed_piece-clause-upheld g c = λ before s held run. c.feed_piece.ensures.upheld before s _ held run

pub returns-in-Err-feed_piece-clause-upheld : goal.returns-in-Err-feed_piece-clause-upheld
returns-in-Err-feed_piece-clause-upheld g c = λ before s held run. c.feed_piece.ensures.upheld before s _ held run
