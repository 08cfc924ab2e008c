use Rattle.std.proofs.Common.{arith}
use Rattle.pmi_track.proofs.WholeLemmas.{rows_told, no_header_told, steps_told}
use Rattle.pmi_track.proofs.files.file_text.Goals as goal
use Rattle.pmi_track.proofs.files.file_text.Goals.{in-Ok+in_ok-push_rows-in-Ok, in-Err-Header+in_ok-push_bad-in-Err-Header}

pub returns-in_err-push_rows-in-Ok-clause-steps : goal.returns-in_err-push_rows-in-Ok-clause-steps
returns-in_err-push_rows-in-Ok-clause-steps g c =
    steps_told g.B.LoanBooks.cost c.args.core.now.history c.args.bytes.now c.in-Ok.rows.items c.deref.result.now c.args.steps.now c.push_rows.new.steps
    c.in-Ok.ensures.rows c.deref.ensures.value c.push_rows.ensures.steps

pub returns-clause-text : goal.returns-clause-text
returns-clause-text g c = elim c.match-insured.branch [
  | in-Ok+in_ok-push_rows-in-Ok w ↦
      rw w.out-is (rows_told c.args.output c.args.core.now.history c.args.bytes.now w.in-Ok.rows.items w.deref.result.now c.new-out.result.items w.push_rows.new.out.items
      w.in-Ok.ensures.rows w.deref.ensures.value c.new-out.ensures.items w.in_ok-push_rows-in-Ok.ensures.pushed)
  | in-Err-Header+in_ok-push_bad-in-Err-Header w ↦
      rw w.out-is (no_header_told c.args.output c.args.core.now.history c.args.bytes.now c.new-out.result.items w.push_bad.new.out.items (w.in-Err-Header.ensures.header w.in-Err-Header.field-0-is)
      c.new-out.ensures.items w.in_ok-push_bad-in-Err-Header.ensures)
]

pub returns-clause-steps : goal.returns-clause-steps
returns-clause-steps g c = elim c.match-insured.branch [
  | in-Ok+in_ok-push_rows-in-Ok w ↦
      rw w.steps-is (steps_told g.B.LoanBooks.cost c.args.core.now.history c.args.bytes.now w.in-Ok.rows.items w.deref.result.now c.args.steps.now w.push_rows.new.steps
      w.in-Ok.ensures.rows w.deref.ensures.value w.push_rows.ensures.steps)
  | in-Err-Header+in_ok-push_bad-in-Err-Header w ↦ rw w.steps-is (omega arith)
]
