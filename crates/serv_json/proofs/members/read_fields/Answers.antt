use Rattle.std.proofs.Common.{◌+◌, List, take, subst, sym, arith}
use Rattle.serde_json.specs.View.{view}
use Rattle.svc_forms.specs.declared.value.Value.{Value}
use Rattle.serv_json.specs.FieldsRead.{AreRead}
use Rattle.serv_json.proofs.FieldLemmas.{on_none, read_at, read_next}
use Rattle.serv_json.proofs.members.read_fields.Goals as goal

pub returns-in_err-read_field-clause-none : goal.returns-in_err-read_field-clause-none
returns-in_err-read_field-clause-none c =
    on_none c.from_residual.result _ (λ values h.
    let found = read_at (view c.args.body.now) c.args.fields.now values c.loop-field.field-index _ h c.loop-field-test.true in
    c.in_err-read_field.ensures.none found.0 found.1)

pub loop-field-preserved : goal.loop-field-preserved
loop-field-preserved c =
    let P : List Value → Type 0 = λ values. AreRead (view c.args.body.now) (take (c.loop-field.field-index + 1) c.args.fields.now) values in
    let more = read_next (view c.args.body.now) c.args.fields.now c.loop-field.values.items c.loop-field.field-index _ c.in_ok-read_field.field-0
    c.loop-field.invariant.read c.loop-field-test.true c.in_ok-read_field.ensures.is in
    record { count = omega (arith, c.push.ensures.len); read = subst P (sym c.push.ensures.items) more }
