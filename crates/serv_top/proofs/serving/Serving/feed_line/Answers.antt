use Rattle.std.proofs.Common.{◌++◌, ◌∷◌, [], append_assoc}
use Rattle.serv_machine.specs.Sayings.{AreFirst, SaidFirst}
use Rattle.serv_top.specs.Lines.{Says, ended_lines}
use Rattle.serv_machine.proofs.GatheredLemmas.{stops_wider}
use Rattle.serv_top.proofs.GoingLemmas.{upheld_taken}
use Rattle.serv_top.proofs.ServedLemmas.{first_further}
use Rattle.serv_top.proofs.serving.Serving.feed_line.Goals as goal

pub returns-in-Ok-clause-fed : goal.returns-in-Ok-clause-fed
returns-in-Ok-clause-fed g c = λ before s held run.
    let piece = c.args.piece.now in
    let fed = rw c.feed_piece.ensures.waiting at c.end_line.ensures.fed in
    rw (append_assoc before piece (10 ∷ [])) at (fed (before ++ piece) s held (c.in-Ok.ensures.fed before s _ held run))

pub returns-in-Ok-clause-stopped : goal.returns-in-Ok-clause-stopped
returns-in-Ok-clause-stopped g c = λ before s held run.
    let piece = c.args.piece.now in
    let stopped = rw c.feed_piece.ensures.waiting at c.end_line.ensures.stopped in
    rw (c.in-Ok.ensures.same.0, c.in-Ok.ensures.same.1) at (rw (append_assoc before piece (10 ∷ [])) at (stopped (before ++ piece) s held (c.in-Ok.ensures.fed before s _ held run)))

pub returns-in-Ok-clause-upheld : goal.returns-in-Ok-clause-upheld
returns-in-Ok-clause-upheld g c = λ before s held run.
    let piece = c.args.piece.now in
    let upheld = rw c.feed_piece.ensures.waiting at c.end_line.ensures.upheld in
    rw c.in-Ok.ensures.same.2 at (rw (append_assoc before piece (10 ∷ [])) at (upheld (before ++ piece) s held (c.in-Ok.ensures.fed before s _ held run)))

pub returns-in-Ok-clause-disk : goal.returns-in-Ok-clause-disk
returns-in-Ok-clause-disk g c = rw (c.in-Ok.ensures.same.0, c.in-Ok.ensures.same.1) at c.end_line.ensures.disk

pub returns-in-Err-clause-stopped : goal.returns-in-Err-clause-stopped
returns-in-Err-clause-stopped g c = λ before s held run.
    let piece = c.args.piece.now in
    rw (append_assoc before piece (10 ∷ [])) at
    (stops_wider (AreFirst (SaidFirst Says (ended_lines (before ++ piece)))) _ (λ done ahead is. first_further (before ++ piece) (10 ∷ []) done ahead is) _ s _
    g.D.Disk.view c.args.disk.now c.feed_piece.new.disk c.in-Err.stop _ _ held _ (c.in-Err.ensures.stopped before s _ held run))

pub returns-in-Err-clause-upheld : goal.returns-in-Err-clause-upheld
returns-in-Err-clause-upheld g c = λ before s held run.
    let piece = c.args.piece.now in
    rw (append_assoc before piece (10 ∷ [])) at
    (upheld_taken (g.D.Disk.view c.feed_piece.new.disk) (g.M.Machine.kept c.feed_piece.new.machine) s.history held _ _ (before ++ piece) (10 ∷ [])
    (c.feed_piece.ensures.upheld before s _ held run))
