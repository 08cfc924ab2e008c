use Rattle.std.proofs.Common.{arith, length, ap, ◌∙◌, get_or}
use Rattle.svc_world.specs.World.{world}
use Rattle.servicing_transfer.specs.StatementTexts.{line_for}
use Rattle.servicing_transfer.proofs.CoreLines.{next_line, is_there, as_many, all_of}
use Rattle.servicing_transfer.proofs.stating.lines_of.Goals as goal

pub line_of-requires : goal.line_of-requires
line_of-requires g c =
    let h = c.args.core.now.history in
    let within = c.loop-loan-test.true in
    let same = ap length c.requires.loans in
    let many = as_many h in
    is_there h c.loop-loan.loan-index (get_or c.args.loans.now c.loop-loan.loan-index 0) c.history_holds.ensures.history (omega (arith, within, same, many)) (ap (λ ns. get_or ns c.loop-loan.loan-index 0) c.requires.loans)

pub loop-loan-preserved : goal.loop-loan-preserved
loop-loan-preserved g c =
    let h = c.args.core.now.history in
    let within = c.loop-loan-test.true in
    let same = ap length c.requires.loans in
    let many = as_many h in
    let loan = get_or c.args.loans.now c.loop-loan.loan-index 0 in
    let asked = c.in_ok-line.ensures.steps in
    let was = c.loop-loan.invariant.steps in
    record {
      lines = c.in_ok-push.ensures.items ∙ next_line h c.loop-loan.loan-index loan c.sums_of.result c.in_ok-line.line c.loop-loan.lines.items c.history_holds.ensures.history (omega (arith, within, same, many)) (ap (λ ns. get_or ns c.loop-loan.loan-index 0) c.requires.loans) (c.sums_of.ensures ∙ c.requires.sums loan) c.in_ok-line.ensures.line c.loop-loan.invariant.lines;
      steps = omega (arith, asked, was);
    }

pub returns-clause-lines : goal.returns-clause-lines
returns-clause-lines g c =
    let h = c.args.core.now.history in
    let done = c.loop-loan-test.false in
    let end = c.loop-loan.auto.loan-index-end in
    let same = ap length c.requires.loans in
    let many = as_many h in
    c.loop-loan.invariant.lines ∙ all_of (line_for (world h)) (world h).loans c.loop-loan.loan-index (omega (arith, done, end, same, many))
