use Rattle.std.proofs.Common.{arith, ◌∙◌}
use Rattle.servicing_transfer.proofs.FieldLemmas.{all_pushed, pushed_one}
use Rattle.servicing_transfer.proofs.statement_line.push_fields.Goals as goal

pub loop-i-preserved : goal.loop-i-preserved
loop-i-preserved c =
    pushed_one c.args.fields.now _ _ _ c.args.values.now c.loop-i.i _ _ (omega (arith, c.told-fields, c.loop-i-test.true)) (omega (arith, c.type_inv.values, c.loop-i-test.true)) c.in_ok-push_field.ensures ∙ c.loop-i.invariant

pub returns : goal.returns
returns c =
    all_pushed c.args.fields.now c.args.values.now c.args.out.now.items c.loop-i.out.items _ c.loop-i.i (omega (arith, c.told-fields, c.loop-i-test.false)) c.loop-i.invariant
