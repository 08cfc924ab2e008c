use Rattle.std.proofs.Common.{◌∷◌, ℕ, List, Option, subst, sym, ap, ◌∙◌}
use Rattle.std.specs.Borrow.{Bor}
use Rattle.std.specs.Prelude.{length, slice_get}
use Rattle.std.proofs.lemmas.Result.{err_from_is_err_and}
use Rattle.svc_forms.specs.declared.field.Field.{Field}
use Rattle.serv_line.specs.Lines.{words_left}
use Rattle.serv_line.specs.LineFaults.{Fits, FitsWord, IsLeftAt}
use Rattle.serv_line.proofs.FaultLemmas.{command_name_misfit, command_fields_misfit}
use Rattle.serv_line.proofs.reading.read_command.Goals as goal

pub returns-in_default-form_named-clause-fault : goal.returns-in_default-form_named-clause-fault
returns-in_default-form_named-clause-fault c = λ key k.
    let P : Option (Bor (List ℕ)) → Type 0 = λ w. IsLeftAt (Fits (key ∷ words_left w)) (key ∷ words_left w) (length c.in-Some.text.now) in
    subst P (sym c.in-Some.is) (command_name_misfit key c.in-Some.text c.next_word.result.0.now c.next_word.result.1 k c.next_word.ensures c.in_default-form_named.ensures.none)

pub returns-in_err-read_fields-clause-fault : goal.returns-in_err-read_fields-clause-fault
returns-in_err-read_fields-clause-fault c =
    let p = err_from_is_err_and c.from_residual.result c.from_residual.ensures.1 in
    let Q : List Field → Type 0 = λ fs. IsLeftAt (λ i. FitsWord (slice_get fs i) (slice_get (words_left c.next_word.result.1) i)) (words_left c.next_word.result.1) c.in_err-read_fields.field-0.0 in
    rw (p.1, p.2) (λ key k.
    command_fields_misfit key (words_left c.args.words) c.next_word.result.0.now c.next_word.result.1 c.in-Some-form_named.form c.in_err-read_fields.field-0.0 k
    (ap words_left c.in-Some.is ∙ c.next_word.ensures) c.in-Some-form_named.ensures.named (subst Q c.fields.ensures.value c.in_err-read_fields.ensures.fault))
