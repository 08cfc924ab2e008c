use Rattle.std.proofs.Common.{◌-◌, refl, sym, ap, ◌∙◌}
use Rattle.std.specs.Prelude.{length, Ok}
use Rattle.serv_line.specs.LineFaults.{too_long}
use Rattle.serv_line.proofs.WordLemmas.{split_joined}
use Rattle.serv_line.proofs.FaultLemmas.{line_misfit, left_short, one_fault}
use Rattle.serv_line.proofs.LineLemmas.{no_fault, same_line, line_is}
use Rattle.serv_line.proofs.reading.read_line.Goals as goal

pub returns-then-line-gt-LONGEST_LINE-clause-fault : goal.returns-then-line-gt-LONGEST_LINE-clause-fault
returns-then-line-gt-LONGEST_LINE-clause-fault c = too_long c.if-line-gt-LONGEST_LINE.true

pub returns-then-line-gt-LONGEST_LINE-clause-only : goal.returns-then-line-gt-LONGEST_LINE-clause-only
returns-then-line-gt-LONGEST_LINE-clause-only c = λ r h e. absurd (no_fault r c.args.line.now 512 h e (too_long c.if-line-gt-LONGEST_LINE.true))

pub overflow_sub-result : goal.overflow_sub-result
overflow_sub-result c = left_short c.args.line.now c.in-Err.left c.in-Err.ensures.fault

pub returns-in-Ok-clause-read : goal.returns-in-Ok-clause-read
returns-in-Ok-clause-read c = line_is c.args.line.now c.in-Ok.request (split_joined c.args.line.now) c.in-Ok.ensures.read

pub returns-in-Ok-clause-only : goal.returns-in-Ok-clause-only
returns-in-Ok-clause-only c = λ r h e.
    let read = line_is c.args.line.now c.in-Ok.request (split_joined c.args.line.now) c.in-Ok.ensures.read in
    ap Ok (same_line c.in-Ok.request r c.in-Ok.ensures.well h (sym read ∙ e))

pub returns-in-Err-clause-fault : goal.returns-in-Err-clause-fault
returns-in-Err-clause-fault c =
    line_misfit c.args.line.now c.in-Err.left (length c.args.line.now - c.in-Err.left) c.if-line-gt-LONGEST_LINE.false c.in-Err.ensures.fault refl

pub returns-in-Err-clause-only : goal.returns-in-Err-clause-only
returns-in-Err-clause-only c = λ r h e.
    absurd (no_fault r c.args.line.now (length c.args.line.now - c.in-Err.left) h e
    (line_misfit c.args.line.now c.in-Err.left (length c.args.line.now - c.in-Err.left) c.if-line-gt-LONGEST_LINE.false c.in-Err.ensures.fault refl))

pub returns-then-line-gt-LONGEST_LINE-clause-faulty : goal.returns-then-line-gt-LONGEST_LINE-clause-faulty
returns-then-line-gt-LONGEST_LINE-clause-faulty c = λ place h. one_fault c.args.line.now 512 place (too_long c.if-line-gt-LONGEST_LINE.true) h

pub returns-in-Ok-clause-faulty : goal.returns-in-Ok-clause-faulty
returns-in-Ok-clause-faulty c = λ place h.
    let read = line_is c.args.line.now c.in-Ok.request (split_joined c.args.line.now) c.in-Ok.ensures.read in
    absurd (no_fault c.in-Ok.request c.args.line.now place c.in-Ok.ensures.well read h)

pub returns-in-Err-clause-faulty : goal.returns-in-Err-clause-faulty
returns-in-Err-clause-faulty c = λ place h.
    one_fault c.args.line.now (length c.args.line.now - c.in-Err.left) place
    (line_misfit c.args.line.now c.in-Err.left (length c.args.line.now - c.in-Err.left) c.if-line-gt-LONGEST_LINE.false c.in-Err.ensures.fault refl) h
