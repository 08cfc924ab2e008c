use Rattle.std.proofs.Common.{rules}
use Rattle.svc_types.specs.Keys.{IsKey}
use Rattle.svc_forms.specs.Values.{Spells}
use Rattle.svc_forms.specs.declared.field.FieldKind.TheVariants as kind
use Rattle.serv_import.specs.Columns.{FitsLine, NamesForm}
use Rattle.serv_import.proofs.ColumnLemmas.{bad_day, bad_amount, bad_line}
use Rattle.serv_import.proofs.commands.read_fields.Goals as goal

pub returns-in_default-spelled_day-clause-bad : goal.returns-in_default-spelled_day-clause-bad
returns-in_default-spelled_day-clause-bad c =
    let k : IsKey c.args.fields.now.key.now = search rules in
    let w : NamesForm c.args.fields.now.word.now =
    record { form = c.in-Some-read_form.form; rows = c.in-Some-read_form.ensures.rows; named = c.in-Some-read_form.ensures.named }
    in
    let not : Spells kind.Day c.args.fields.now.day.now → ⊥ = search rules in
    bad_day _ _ _ _ _ _ k w c.in-Some-spelled_number.ensures.fits not

pub returns-in_default-spelled_amount-clause-bad : goal.returns-in_default-spelled_amount-clause-bad
returns-in_default-spelled_amount-clause-bad c =
    let k : IsKey c.args.fields.now.key.now = search rules in
    let w : NamesForm c.args.fields.now.word.now =
    record { form = c.in-Some-read_form.form; rows = c.in-Some-read_form.ensures.rows; named = c.in-Some-read_form.ensures.named }
    in
    let not : Spells kind.Amount c.args.fields.now.amount.now → ⊥ = search rules in
    bad_amount _ _ _ _ _ _ k w c.in-Some-spelled_number.ensures.fits c.in-Some-spelled_day.ensures.fits not

pub returns-in_default-read_command-clause-bad : goal.returns-in_default-read_command-clause-bad
returns-in_default-read_command-clause-bad c =
    let k : IsKey c.args.fields.now.key.now = search rules in
    let not : FitsLine c.in-Some-read_form.form c.args.fields.now.line.now → ⊥ = search rules in
    bad_line _ _ _ _ _ _ c.in-Some-read_form.form k c.in-Some-read_form.ensures.named c.in-Some-read_form.ensures.rows
    c.in-Some-spelled_number.ensures.fits c.in-Some-spelled_day.ensures.fits c.in-Some-spelled_amount.ensures.fits not
