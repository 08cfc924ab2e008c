use Rattle.svc_world.specs.World.{world}
use Rattle.pmi_track.specs.Texts.{row_text, row_cost}
use Rattle.pmi_track.proofs.WholeLemmas.{text_more, steps_more, steps_within}
use Rattle.pmi_track.proofs.files.push_rows.Goals as goal

pub returns-in_err-push_row-clause-steps : goal.returns-in_err-push_row-clause-steps
returns-in_err-push_row-clause-steps g c =
    let w = world c.args.core.now.history in
    let inv = c.loop-row.invariant in
    steps_within (row_cost g.B.LoanBooks.cost w) c.args.rows.now c.loop-row.row-index c.row-item.result c.args.steps.now c.loop-row.steps c.push_row.new.steps c.loop-row-test.true
    c.row-item.is inv.steps c.push_row.ensures.steps

pub loop-row-preserved : goal.loop-row-preserved
loop-row-preserved g c =
    let w = world c.args.core.now.history in
    let inv = c.loop-row.invariant in
    record {
      text = text_more (row_text c.args.output w) c.args.rows.now c.loop-row.row-index c.row-item.result c.args.out.now.items c.loop-row.out.items c.push_row.new.out.items c.loop-row-test.true c.row-item.is
          inv.text c.in_ok-push_row.ensures.pushed;
      steps = steps_more (row_cost g.B.LoanBooks.cost w) c.args.rows.now c.loop-row.row-index c.row-item.result c.args.steps.now c.loop-row.steps c.push_row.new.steps c.loop-row-test.true
          c.row-item.is inv.steps c.push_row.ensures.steps;
    }
