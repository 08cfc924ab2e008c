-- Requests and the JSON values that ask for them: each JSON value asks for one request at most.
use Rattle.std.proofs.Common.{◌≡◌, ℕ, suc, ◌+◌, List, [], ◌∷◌, length, Option, Some, refl, sym, ap, subst, ◌∙◌, arith}
use Rattle.std.specs.Prelude.{codes, slice_get}
use Rattle.serde_json.specs.Data.{Data, null, boolean, number, string, array, object, unsigned, negative, float}
use Rattle.serde_json.specs.Find.{get}
use Rattle.svc_base.specs.Text.{text_of_number}
use Rattle.svc_types.specs.Requests.{IsRequest}
use Rattle.svc_types.specs.declared.requests.Command.{Command}
use Rattle.svc_types.specs.declared.requests.Request.{Request}
use Rattle.svc_types.specs.declared.requests.Request.TheVariants as request
use Rattle.svc_forms.specs.declared.field.Field.{Field}
use Rattle.svc_forms.specs.declared.field.FieldKind.{FieldKind}
use Rattle.svc_forms.specs.declared.form.Form.{Form}
use Rattle.svc_forms.specs.declared.value.Value.{Value}
use Rattle.svc_forms.specs.declared.value.Value.TheVariants as value
use Rattle.svc_forms.specs.Fields.{kind_of_field}
use Rattle.svc_forms.specs.Values.{text_of_value, IsValueOf, FitsField, AreValuesOf}
use Rattle.svc_forms.specs.Forms.{word_of, fields_of, form_of, values_of}
use Rattle.svc_forms.proofs.RequestLemmas.{command_fits, same_command, same_value, same_form}
use Rattle.serv_json.specs.Bodies.{json_of, field_members, members_of}
use Rattle.serv_json.specs.FieldsRead.{member_count, HasEach, HasExactly, HasBody, HasFields}
use Rattle.serv_json.proofs.FieldLemmas.{members_length}

-- ---- a value is told by its JSON

json_text : Data → List ℕ
json_text null = []
json_text (boolean b) = []
json_text (number (unsigned n)) = text_of_number n
json_text (number (negative z)) = []
json_text (number (float x)) = []
json_text (string text) = text
json_text (array items) = []
json_text (object ms) = []

text_back : (v : Value) → json_text (json_of v) ≡ text_of_value v
unfolding json_text
text_back (value.Number n) = refl
text_back (value.Amount z) = refl
text_back (value.Day d) = refl
text_back (value.Month m) = refl
text_back (value.Type t) = refl
text_back (value.Kind k) = refl
text_back (value.Surplus s) = refl
text_back (value.Part p) = refl
text_back (value.Designation over) = refl
text_back (value.Key key) = refl

same_json : (k : FieldKind) (v w : Value) → IsValueOf k v → IsValueOf k w → json_of v ≡ json_of w → v ≡ w
same_json k v w a b e = same_value k v w a b (sym (text_back v) ∙ ap json_text e ∙ text_back w)

same_values : (d : Data) (fields : List Field) (vs ws : List Value) → ((i : ℕ) → FitsField (slice_get fields i) (slice_get vs i)) → ((i : ℕ) → FitsField (slice_get fields i) (slice_get ws i))
    → HasEach d (field_members fields vs) → HasEach d (field_members fields ws) → length vs ≡ length ws → vs ≡ ws
same_values d fields [] [] a b p q long = refl
same_values d fields [] (w ∷ ws) a b p q long = absurd (omega arith)
same_values d fields (v ∷ vs) [] a b p q long = absurd (omega arith)
same_values d [] (v ∷ vs) (w ∷ ws) a b p q long = absurd (a 0)
same_values d (f ∷ fields) (v ∷ vs) (w ∷ ws) a b p q long =
    let there : Some (json_of v) ≡ Some (json_of w) = sym p.0 ∙ q.0 in
    let json : json_of v ≡ json_of w = cc in
    let first : v ≡ w = same_json (kind_of_field f) v w (a 0) (b 0) json in
    let rest : vs ≡ ws = same_values d fields vs ws (λ i. a (suc i)) (λ i. b (suc i)) p.1 q.1 (omega arith) in
    cc

-- ---- the parts of a JSON value that asks for a command

same_string : (d : Data) (name a b : List ℕ) → get name d ≡ Some (string a) → get name d ≡ Some (string b) → a ≡ b
same_string d name a b p q = let e : Some (string a) ≡ Some (string b) = sym p ∙ q in cc

pub word_asks : (d : Data) (key : List ℕ) (c : Command) (f : Form) → HasExactly d (members_of key c) → get (codes "do") d ≡ Some (string (word_of f)) → f ≡ form_of c
word_asks d key c f h e = same_form f (form_of c) (same_string d (codes "do") (word_of f) (word_of (form_of c)) e h.each.1.0)

pub fields_asked : (d : Data) (key : List ℕ) (c : Command) → HasExactly d (members_of key c) → HasFields d (fields_of (form_of c)) (values_of c)
fields_asked d key c h = record { count = h.count ∙ ap (λ (n : ℕ). Some n) (omega arith); each = h.each.1.1 }

-- where no values of the form's fields are there, nothing is asked
pub no_request : (d : Data) (f : Form) → get (codes "do") d ≡ Some (string (word_of f))
    → ((values : List Value) → AreValuesOf (fields_of f) values → HasFields d (fields_of f) values → ⊥)
    → (r : Request) → IsRequest r → HasBody d r → ⊥
no_request d f e not (request.Ask q) well h = h
no_request d f e not (request.Do key c) well h =
    let same : form_of c ≡ f = sym (word_asks d key c f h e) in
    not (values_of c) (subst (λ (g : Form). AreValuesOf (fields_of g) (values_of c)) same (command_fits c well.1))
    (subst (λ (g : Form). HasFields d (fields_of g) (values_of c)) same (fields_asked d key c h))

same_length : (m n : ℕ) (o : Option ℕ) → o ≡ Some (m + 2) → o ≡ Some (n + 2) → m ≡ n
same_length m n o p q = let e : m + 2 ≡ n + 2 = cc in omega arith

-- a JSON value asks for one request at most
pub asks_once : (d : Data) (r s : Request) → IsRequest r → IsRequest s → HasBody d r → HasBody d s → s ≡ r
asks_once d (request.Ask q) s a b p q' = absurd p
asks_once d (request.Do key c) (request.Ask q) a b p q' = absurd q'
asks_once d (request.Do key c) (request.Do other e) a b p q' =
    let keys : other ≡ key = same_string d (codes "key") other key q'.each.0 p.each.0 in
    let forms : form_of e ≡ form_of c = word_asks d key c (form_of e) p q'.each.1.0 in
    let mine : HasFields d (fields_of (form_of c)) (values_of c) = fields_asked d key c p in
    let fit = command_fits c a.1 in
    let other_fit : AreValuesOf (fields_of (form_of c)) (values_of e) = subst (λ (g : Form). AreValuesOf (fields_of g) (values_of e)) forms (command_fits e b.1) in
    let other_has : HasFields d (fields_of (form_of c)) (values_of e) = subst (λ (g : Form). HasFields d (fields_of g) (values_of e)) forms (fields_asked d other e q') in
    let many : length (field_members (fields_of (form_of c)) (values_of e)) ≡ length (field_members (fields_of (form_of c)) (values_of c)) =
    same_length _ _ (member_count d) other_has.count mine.count in
    let long : length (values_of e) ≡ length (values_of c) =
    sym (members_length (fields_of (form_of c)) (values_of e) other_fit.each) ∙ many ∙ members_length (fields_of (form_of c)) (values_of c) fit.each in
    let values : values_of e ≡ values_of c = same_values d (fields_of (form_of c)) (values_of e) (values_of c) other_fit.each fit.each other_has.each mine.each long in
    let commands : e ≡ c = same_command e c forms values in
    cc
