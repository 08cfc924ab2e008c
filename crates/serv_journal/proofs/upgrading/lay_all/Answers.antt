use Rattle.std.proofs.Common.{◌≡◌, ℕ, ◌+◌, ◌<◌, List, [], ◌∷◌, ◌++◌, length, arith, sym, ap, subst, ◌∙◌, length-append}
use Rattle.serv_disk.proofs.Moments.{joined}
use Rattle.serv_journal.specs.declared.format.Version.TheVariants.{Two}
use Rattle.serv_journal.specs.Format.{body, laid, commit_at}
use Rattle.serv_journal.specs.Reading.{lines_in}
use Rattle.serv_journal.proofs.FormatLemmas.{length_of_body}
use Rattle.serv_journal.proofs.ScanLemmas.{length_lines_in, records_least}
use Rattle.serv_journal.proofs.UpgradeLemmas.{IsLaying, laying_first, laying_more, laid_first, laid_more, laid_long, total_more, records_part}
use Rattle.serv_journal.proofs.upgrading.lay_all.Goals as goal

pub loop-i-init : goal.loop-i-init
loop-i-init g c =
    let lines : List (List ℕ) = lines_in c.args.frames.now in
    let same : c.first_piece.result ≡ laid lines 0 =
    c.first_piece.ensures ∙ laid_first lines c.commit_after.result c.len-count.result c.commit_after.ensures (c.len-count.ensures ∙ sym (length_lines_in c.args.frames.now)) in
    record {
      place = omega arith;
      laying = subst (λ (w : List ℕ). IsLaying g.D.Disk.view g.D.Disk.faults c.args.size c.args.disk.now c.lay.new.disk (c.args.size + 9) w) same
          (laying_first _ _ c.args.size (c.args.size + 9) _ _ c.first_piece.result c.requires.reaches c.in_ok-lay.ensures.told c.lay.ensures.crash c.lay.ensures.moments c.lay.ensures.cause.later
          (omega (arith, ap length same, laid_long lines 0)));
    }

pub overflow_cast-i : goal.overflow_cast-i
overflow_cast-i g c =
    let least = records_least Two 1 (lines_in c.args.frames.now) c.requires.lines in
    omega (arith, least, length_lines_in c.args.frames.now, c.requires.small, c.len-count.ensures, c.loop-i-test.true)

pub returns-in_err-lay_record-clause-crash : goal.returns-in_err-lay_record-clause-crash
returns-in_err-lay_record-clause-crash g c = λ front long each.
    c.lay_record.ensures.crash front (omega (arith, long, c.loop-i.invariant.place)) (c.loop-i.invariant.laying.crash front long each)

pub returns-in_err-lay_record-clause-moments : goal.returns-in_err-lay_record-clause-moments
returns-in_err-lay_record-clause-moments g c = λ front long each.
    joined _ _ _ _ _ (c.loop-i.invariant.laying.moments front long each)
    (c.lay_record.ensures.moments front (omega (arith, long, c.loop-i.invariant.place)) (c.loop-i.invariant.laying.crash front long each))

pub overflow_add-at-in-loop-i-2 : goal.overflow_add-at-in-loop-i-2
overflow_add-at-in-loop-i-2 g c =
    let lines : List (List ℕ) = lines_in c.args.frames.now in
    let part = records_part lines 1 c.loop-i.i in
    omega (arith, part, c.loop-i.invariant.place, c.requires.small, c.line_of-line.ensures.is_line.fits)

pub loop-i-preserved : goal.loop-i-preserved
loop-i-preserved g c =
    let lines : List (List ℕ) = lines_in c.args.frames.now in
    let i : ℕ = c.loop-i.i in
    let line : List ℕ = c.line_of-line.result.now in
    let next : ℕ = c.commit_after-in-loop-i.result in
    let count_is : c.len-count.result ≡ length lines = c.len-count.ensures ∙ sym (length_lines_in c.args.frames.now) in
    let less : i < length lines = omega (arith, count_is, c.loop-i-test.true) in
    let bytes : List ℕ = body Two (i + 1) line ++ next ∷ [] in
    let written : laid lines i ++ bytes ≡ laid lines (i + 1) =
    laid_more lines line i (i + 1) next less c.line_of-line.ensures.line (omega arith) (c.commit_after-in-loop-i.ensures ∙ ap (commit_at (i + 1)) count_is) in
    let long : length bytes ≡ 7 + length line = omega (arith, length-append (body Two (i + 1) line) (next ∷ []), length_of_body Two (i + 1) line) in
    record {
      place = total_more lines i c.loop-i.at (c.args.size + 9) _ less c.loop-i.invariant.place (ap (λ (x : List ℕ). c.loop-i.at + (7 + length x)) c.line_of-line.ensures.line);
      laying = subst (λ (w : List ℕ). IsLaying g.D.Disk.view g.D.Disk.faults c.args.size c.args.disk.now c.lay_record.new.disk (c.loop-i.at + (7 + length line)) w) written
          (laying_more _ _ c.args.size c.loop-i.at (c.loop-i.at + (7 + length line)) _ _ _ (laid lines i) bytes c.loop-i.invariant.laying
          (omega (arith, c.loop-i.invariant.place, laid_long lines i)) c.in_ok-lay_record.ensures.told c.lay_record.ensures.crash c.lay_record.ensures.moments c.lay_record.ensures.cause.later
          (omega (arith, long)));
    }
