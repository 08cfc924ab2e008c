use Rattle.std.proofs.Common.{◌≡◌, ◌+◌, ◌++◌, ◌<◌, ℕ, List, Some, true, length, take, drop, subst, sym, ap, ◌∙◌, arith}
use Rattle.std.proofs.lemmas.List.{take-append-drop}
use Rattle.std.proofs.lemmas.Option.{IfSome_then}
use Rattle.std.specs.List.{list_all}
use Rattle.serde_json.specs.View.{view}
use Rattle.svc_forms.specs.declared.field.Field.{Field}
use Rattle.svc_forms.specs.Fields.{is_optional}
use Rattle.svc_forms.specs.Values.{AreValuesOf}
use Rattle.serv_json.specs.FieldsRead.{member_count, AreRead, HasFields}
use Rattle.serv_json.proofs.FieldLemmas.{on_none, none_then, all_fit, all_there, enough, then_read, then_left}
use Rattle.serv_json.proofs.members.read_values.Goals as goal

pub returns-in_err-asked-clause-none : goal.returns-in_err-asked-clause-none
returns-in_err-asked-clause-none c =
    on_none c.from_residual-in_err-asked.result _ (λ values fit h.
    let within = enough (view c.args.body.now) c.args.fields.now values c.in_ok-given.given fit h c.in_ok-given.ensures.count in
    let short : length c.args.fields.now < c.in_ok-given.given = c.in_err-asked.ensures.cases in
    absurd (omega arith))

pub returns-then-not-are_optional-clause-none : goal.returns-then-not-are_optional-clause-none
returns-then-not-are_optional-clause-none c = λ values fit h.
    let left = then_left (view c.args.body.now) c.args.fields.now values c.in_ok-given.given fit h c.in_ok-given.ensures.count in
    let is : c.in_ok-asked.left_out.now ≡ drop c.in_ok-given.given c.args.fields.now = c.in_ok-asked.ensures.cases.2 in
    let all : c.are_optional.result ≡ true = c.are_optional.ensures ∙ ap (list_all is_optional) is ∙ left in
    absurd cc

pub returns-clause-fit : goal.returns-clause-fit
returns-clause-fit c =
    let all : list_all is_optional c.in_ok-asked.left_out.now ≡ true = sym c.are_optional.ensures ∙ c.if-not-are_optional.false in
    let whole : take c.in_ok-given.given c.args.fields.now ++ drop c.in_ok-given.given c.args.fields.now ≡ c.args.fields.now = take-append-drop c.in_ok-given.given c.args.fields.now in
    let joined : c.in_ok-asked.asked.now ++ c.in_ok-asked.left_out.now ≡ c.args.fields.now = cc (whole, c.in_ok-asked.ensures.cases.1, c.in_ok-asked.ensures.cases.2) in
    IfSome_then c.read_fields.result c.read_fields.ensures.read (λ values h.
    subst (λ (fields : List Field). AreValuesOf fields values.items) joined (all_fit (view c.args.body.now) c.in_ok-asked.asked.now c.in_ok-asked.left_out.now values.items h all))

pub returns-clause-read : goal.returns-clause-read
returns-clause-read c =
    let all : list_all is_optional c.in_ok-asked.left_out.now ≡ true = sym c.are_optional.ensures ∙ c.if-not-are_optional.false in
    let whole : take c.in_ok-given.given c.args.fields.now ++ drop c.in_ok-given.given c.args.fields.now ≡ c.args.fields.now = take-append-drop c.in_ok-given.given c.args.fields.now in
    let joined : c.in_ok-asked.asked.now ++ c.in_ok-asked.left_out.now ≡ c.args.fields.now = cc (whole, c.in_ok-asked.ensures.cases.1, c.in_ok-asked.ensures.cases.2) in
    let many : length c.in_ok-asked.asked.now ≡ c.in_ok-given.given = c.in_ok-asked.ensures.cases.3 in
    let count : member_count (view c.args.body.now) ≡ Some (length c.in_ok-asked.asked.now + 2) = c.in_ok-given.ensures.count ∙ ap (λ (n : ℕ). Some (n + 2)) (sym many) in
    IfSome_then c.read_fields.result c.read_fields.ensures.read (λ values h.
    subst (λ (fields : List Field). HasFields (view c.args.body.now) fields values.items) joined
    (all_there (view c.args.body.now) c.in_ok-asked.asked.now c.in_ok-asked.left_out.now values.items h all count))

pub returns-clause-none : goal.returns-clause-none
returns-clause-none c =
    none_then c.read_fields.result _ _ c.read_fields.ensures.none (λ not values fit h.
    let is : take c.in_ok-given.given c.args.fields.now ≡ c.in_ok-asked.asked.now = sym c.in_ok-asked.ensures.cases.1 in
    not values (subst (λ (fields : List Field). AreRead (view c.args.body.now) fields values) is
    (then_read (view c.args.body.now) c.args.fields.now values c.in_ok-given.given fit h c.in_ok-given.ensures.count)))
