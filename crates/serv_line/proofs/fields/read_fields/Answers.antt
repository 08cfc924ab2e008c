use Rattle.std.proofs.Common.{◌+◌, ℕ, List, Option, subst, sym, ◌∙◌}
use Rattle.std.specs.Borrow.{Bor}
use Rattle.std.proofs.lemmas.Option.{slice_get-get_or}
use Rattle.svc_forms.specs.declared.value.Value.{Value}
use Rattle.serv_line.specs.Lines.{words_left}
use Rattle.serv_line.proofs.FieldLemmas.{Reading, read_one, left_out, misread, missing, too_many, are_read}
use Rattle.serv_line.proofs.fields.read_fields.Goals as goal

pub returns-then-not-is_optional-clause-fault : goal.returns-then-not-is_optional-clause-fault
returns-then-not-is_optional-clause-fault c =
    let P : Option (Bor (List ℕ)) → Type 0 = λ r. Reading c.args.fields.now (words_left c.args.words) c.loop-field.field-index c.loop-field.values.items r in
    missing c.args.fields.now (words_left c.args.words) c.loop-field.field-index c.loop-field.values.items _ (subst P c.in_default.is c.loop-field.invariant)
    (slice_get-get_or c.args.fields.now c.loop-field.field-index _ c.loop-field-test.true) (sym c.is_optional.ensures ∙ c.if-not-is_optional.true)

pub loop-field-preserved-in_default : goal.loop-field-preserved-in_default
loop-field-preserved-in_default c =
    let P : Option (Bor (List ℕ)) → Type 0 = λ r. Reading c.args.fields.now (words_left c.args.words) c.loop-field.field-index c.loop-field.values.items r in
    let Q : Option (Bor (List ℕ)) → Type 0 = λ r. Reading c.args.fields.now (words_left c.args.words) (c.loop-field.field-index + 1) c.loop-field.values.items r in
    subst Q (sym c.in_default.is) (left_out c.args.fields.now (words_left c.args.words) c.loop-field.field-index c.loop-field.values.items _ (subst P c.in_default.is c.loop-field.invariant)
    (slice_get-get_or c.args.fields.now c.loop-field.field-index _ c.loop-field-test.true) (sym c.is_optional.ensures ∙ c.if-not-is_optional.false))

pub returns-in_default-first_value-clause-fault : goal.returns-in_default-first_value-clause-fault
returns-in_default-first_value-clause-fault c =
    let P : Option (Bor (List ℕ)) → Type 0 = λ r. Reading c.args.fields.now (words_left c.args.words) c.loop-field.field-index c.loop-field.values.items r in
    misread c.args.fields.now (words_left c.args.words) c.loop-field.field-index c.loop-field.values.items c.in-Some.text _ (subst P c.in-Some.is c.loop-field.invariant)
    (slice_get-get_or c.args.fields.now c.loop-field.field-index _ c.loop-field-test.true) c.in_default-first_value.ensures.none

pub loop-field-preserved : goal.loop-field-preserved
loop-field-preserved c =
    let P : Option (Bor (List ℕ)) → Type 0 = λ r. Reading c.args.fields.now (words_left c.args.words) c.loop-field.field-index c.loop-field.values.items r in
    let Q : List Value → Type 0 = λ vs. Reading c.args.fields.now (words_left c.args.words) (c.loop-field.field-index + 1) vs c.in-Some-first_value.after in
    subst Q (sym c.push.ensures.items) (read_one c.args.fields.now (words_left c.args.words) c.loop-field.field-index c.loop-field.values.items c.in-Some.text _
    c.in-Some-first_value.value c.in-Some-first_value.after (subst P c.in-Some.is c.loop-field.invariant)
    (slice_get-get_or c.args.fields.now c.loop-field.field-index _ c.loop-field-test.true) c.in-Some-first_value.ensures.kind c.in-Some-first_value.ensures.read)

pub returns-in-Some-rest-clause-fault : goal.returns-in-Some-rest-clause-fault
returns-in-Some-rest-clause-fault c =
    let P : Option (Bor (List ℕ)) → Type 0 = λ r. Reading c.args.fields.now (words_left c.args.words) c.loop-field.field-index c.loop-field.values.items r in
    too_many c.args.fields.now (words_left c.args.words) c.loop-field.field-index c.loop-field.values.items c.in-Some-rest.text (subst P c.in-Some-rest.is c.loop-field.invariant) c.loop-field-test.false

pub returns-in-None-clause-values : goal.returns-in-None-clause-values
returns-in-None-clause-values c =
    let P : Option (Bor (List ℕ)) → Type 0 = λ r. Reading c.args.fields.now (words_left c.args.words) c.loop-field.field-index c.loop-field.values.items r in
    (are_read c.args.fields.now (words_left c.args.words) c.loop-field.field-index c.loop-field.values.items (subst P c.in-None.is c.loop-field.invariant) c.loop-field-test.false).0

pub returns-in-None-clause-read : goal.returns-in-None-clause-read
returns-in-None-clause-read c =
    let P : Option (Bor (List ℕ)) → Type 0 = λ r. Reading c.args.fields.now (words_left c.args.words) c.loop-field.field-index c.loop-field.values.items r in
    (are_read c.args.fields.now (words_left c.args.words) c.loop-field.field-index c.loop-field.values.items (subst P c.in-None.is c.loop-field.invariant) c.loop-field-test.false).1
