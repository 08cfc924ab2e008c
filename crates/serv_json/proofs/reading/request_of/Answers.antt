use Rattle.std.proofs.Common.{◌≡◌, ℕ, List, Some, ap, subst, ◌∙◌}
use Rattle.std.specs.Prelude.{codes}
use Rattle.serde_json.specs.Data.{string}
use Rattle.serde_json.specs.Find.{get}
use Rattle.serde_json.specs.View.{view}
use Rattle.svc_forms.specs.declared.field.Field.{Field}
use Rattle.svc_forms.specs.declared.value.Value.{Value}
use Rattle.svc_forms.specs.Values.{AreValuesOf}
use Rattle.svc_forms.specs.Forms.{word_of}
use Rattle.serv_json.specs.FieldsRead.{HasFields}
use Rattle.serv_json.proofs.FieldLemmas.{on_none}
use Rattle.serv_json.proofs.RequestLemmas.{no_request}
use Rattle.serv_json.proofs.reading.request_of.Goals as goal

pub returns-in_err-values-clause-none : goal.returns-in_err-values-clause-none
returns-in_err-values-clause-none c =
    let word : get (codes "do") (view c.args.body.now) ≡ Some (string (word_of c.in_ok-form.form)) = c.in_ok-text_at-2.ensures.there ∙ ap (λ (t : List ℕ). Some (string t)) c.in_ok-form.ensures.named in
    let P : List Field → Type 0 = λ fields. (values : List Value) → AreValuesOf fields values → HasFields (view c.args.body.now) fields values → ⊥ in
    on_none c.from_residual-in_err-values.result _
    (no_request (view c.args.body.now) c.in_ok-form.form word (subst P c.fields.ensures.value c.in_err-values.ensures.none))
