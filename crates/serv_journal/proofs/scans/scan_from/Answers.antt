use Rattle.std.proofs.Common.{◌≡◌, ℕ, ◌+◌, List, ◌∷◌, length, drop, arith, sym, ap, subst, ◌∙◌}
use Rattle.std.proofs.lemmas.List.{length_push}
use Rattle.serv_journal.specs.Format.{IsLine, body, head_size}
use Rattle.serv_journal.specs.Bytes.{Starts, piece}
use Rattle.serv_journal.specs.Scans.{IsPlaced, IsScanned}
use Rattle.serv_journal.proofs.ReadingLemmas.{reading_on, line_shown}
use Rattle.serv_journal.proofs.StepLemmas.{head_least}
use Rattle.serv_journal.proofs.ScanLemmas.{placed_more, scanned_push}
use Rattle.serv_journal.proofs.scans.scan_from.Goals as goal

pub loop-frames-preserved : goal.loop-frames-preserved
loop-frames-preserved g c =
    let was = c.loop-frames.invariant in
    let place : ℕ = c.loop-frames.place in
    let line : List ℕ = c.part.result.now in
    let start : ℕ = place + 1 + c.head_of.result in
    let next : ℕ = start + c.in-Record.size in
    let fits = rw c.in-Record.is at c.in_ok-size.ensures.fits in
    let has = rw c.in-Record.is at c.in_ok-size.ensures.has in
    let long : length line ≡ c.in-Record.size = c.part.ensures.count in
    let is_line : IsLine line = record { some = omega (arith, long, fits.0.0); fits = omega (arith, long, fits.0.1) } in
    let next_is : next ≡ place + 1 + head_size c.args.version + length line = omega (arith, c.head_of.ensures, long) in
    let added = c.in_ok-push-in-Record.ensures.added in
    record {
      reading = reading_on _ _ _ _ _ _ _ _ was.reading c.step_at.ensures.reading;
      placed = subst (λ (f : List (ℕ × List ℕ)). IsPlaced c.args.version c.args.from f next) (sym added)
          (placed_more c.args.version c.args.from place next c.loop-frames.frames line was.placed is_line next_is);
      within = omega (arith, next_is, fits.1, long, was.reading.size);
      few = omega (arith, ap length added, length_push c.loop-frames.frames (place, line), was.few, next_is, head_least c.args.version, is_line.some);
      scanned = λ s is.
          let told = c.step_at.ensures.reading.stays.told ∙ (was.reading.stays.told ∙ is) in
          let shown = c.step_at.ensures.reading.shows s told in
          let same : line ≡ piece (1 + head_size c.args.version) c.in-Record.size (drop place s) = line_shown c.step_at.new.window s place start (head_size c.args.version) c.in-Record.size line shown (omega (arith, c.head_of.ensures)) has.0 has.1 (c.part.ensures.bytes) in
          subst (λ (f : List (ℕ × List ℕ)). IsScanned c.args.version c.args.from f next s) (sym added)
          (scanned_push c.args.version c.args.from place next (c.len.result + 1) c.loop-frames.frames line s (was.scanned s is) (omega (arith, c.len.ensures))
          (subst (λ (t : List ℕ). Starts (1 ∷ body c.args.version (c.len.result + 1) t) (drop place s)) (sym same) (rw c.in-Record.is at (c.in_ok-size.ensures.step s (was.reading.stays.told ∙ is)))) next_is);
    }
