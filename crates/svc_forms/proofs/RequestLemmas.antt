-- A request is told by its form and the values of its fields, and a value by its text.
use Rattle.std.proofs.Common.{◌≡◌, ℕ, zero, suc, ◌+◌, ◌*◌, get_or, List, [], ◌∷◌, Option, Some, ℤ, pos, refl, sym, ap, ◌∙◌, arith, IsTrue}
use Rattle.std.specs.Prelude.{slice_get, ◌==◌}
use Rattle.std.specs.List.{find}
use Rattle.svc_base.specs.Text.{text_of_number, text_of_day, text_of_month, IsReadMonth}
use Rattle.svc_base.specs.Calendar.{IsReadDay}
use Rattle.svc_base.proofs.TextLemmas.{number_injective, amount_injective, day_injective, month_injective}
use Rattle.svc_types.specs.declared.account.Designation.{Designation}
use Rattle.svc_types.specs.declared.account.Designation.TheVariants as over
use Rattle.svc_types.specs.declared.terms.RemitType.{RemitType}
use Rattle.svc_types.specs.declared.terms.RemitType.TheVariants.{AA, SA, SS}
use Rattle.svc_types.specs.declared.escrow.LineKind.{LineKind}
use Rattle.svc_types.specs.declared.escrow.LineKind.TheVariants.{Tax, Hazard, Flood, Other}
use Rattle.svc_types.specs.declared.escrow.SurplusPlan.{SurplusPlan}
use Rattle.svc_types.specs.declared.escrow.SurplusPlan.TheVariants as surplus
use Rattle.svc_types.specs.declared.escrow.PartPlan.{PartPlan}
use Rattle.svc_types.specs.declared.escrow.PartPlan.TheVariants as part
use Rattle.svc_types.specs.declared.requests.Command.{Command}
use Rattle.svc_types.specs.declared.requests.Command.TheVariants as command
use Rattle.svc_types.specs.declared.requests.Query.{Query}
use Rattle.svc_types.specs.declared.requests.Query.TheVariants as query
use Rattle.svc_types.specs.Requests.{IsCommand, IsQuery}
use Rattle.svc_types.specs.Words.{text_of_type, text_of_kind, text_of_surplus, text_of_part, text_of_designation, IsReadPart, IsNamed}
use Rattle.svc_forms.specs.declared.field.Field.{Field}
use Rattle.svc_forms.specs.declared.field.FieldKind.{FieldKind}
use Rattle.svc_forms.specs.declared.form.Form.{Form}
use Rattle.svc_forms.specs.declared.form.Form.TheVariants as form
use Rattle.svc_forms.specs.declared.form.Question.{Question}
use Rattle.svc_forms.specs.declared.form.Question.TheVariants as question
use Rattle.svc_forms.specs.declared.value.Value.{Value}
use Rattle.svc_forms.specs.declared.value.Value.TheVariants as value
use Rattle.svc_forms.specs.Fields.{kind_of_field, is_optional}
use Rattle.svc_forms.specs.Values.{kind_of, text_of_value, IsReadValue, IsValueOf, FitsField, AreValuesOf}
use Rattle.svc_forms.specs.Forms.{word_of, fields_of, form_of, values_of, word_of_question, fields_of_question, question_of, values_of_query}

-- ---- the values of a well-formed request are those of its form

-- each value fits, one after the other
all_fit : List Field → List Value → Type 0
all_fit [] [] = Unit {0}
all_fit [] (v ∷ values) = ⊥
all_fit (f ∷ fields) [] = IsTrue (is_optional f) × all_fit fields []
all_fit (f ∷ fields) (v ∷ values) = IsValueOf (kind_of_field f) v × all_fit fields values

fit_at : (fields : List Field) (values : List Value) (i : ℕ) → all_fit fields values → FitsField (slice_get fields i) (slice_get values i)
unfolding all_fit
fit_at [] [] i h = tt
fit_at [] (v ∷ values) i h = absurd h
fit_at (f ∷ fields) [] zero h = h.0
fit_at (f ∷ fields) [] (suc i) h = fit_at fields [] i h.1
fit_at (f ∷ fields) (v ∷ values) zero h = h.0
fit_at (f ∷ fields) (v ∷ values) (suc i) h = fit_at fields values i h.1

fit : (fields : List Field) (values : List Value) → all_fit fields values → AreValuesOf fields values
fit fields values h = record { each = λ i. fit_at fields values i h }

is : (v : Value) → IsReadValue v → IsValueOf (kind_of v) v
is v h = record { kind = refl; range = h }

pub command_fits : (c : Command) → IsCommand c → AreValuesOf (fields_of (form_of c)) (values_of c)
unfolding all_fit
command_fits (command.Day d) h = fit _ _ (is (value.Day d) h, tt)
command_fits (command.Board l t) h =
    let r = h.1 in
    fit (fields_of form.Board) (values_of (command.Board l t)) (
      is (value.Number l) h.0,
      (
        is (value.Day t.boarded) r.boarded,
        (
          is (value.Amount t.principal) r.principal,
          (
            is (value.Number t.rate) r.rate,
            (
              is (value.Number t.fee) r.fee,
              (
                is (value.Amount t.pi) r.pi,
                (
                  is (value.Number t.term) r.term,
                  (
                    is (value.Month t.first) r.first,
                    (
                      is (value.Number t.grace) r.grace,
                      (
                        is (value.Number t.late) r.late,
                        (
                          is (value.Number t.cushion) r.cushion,
                          (is (value.Amount t.escrow) r.escrow, (is (value.Type t.kind) tt, tt)),
                        ),
                      ),
                    ),
                  ),
                ),
              ),
            ),
          ),
        ),
      ),
    )
command_fits (command.Pay l d c over.Regular) h =
    fit (fields_of form.Pay) (values_of (command.Pay l d c over.Regular)) (is (value.Number l) h.0, (is (value.Day d) h.1, (is (value.Amount c) h.2, (refl, tt))))
command_fits (command.Pay l d c over.Principal) h =
    fit (fields_of form.Pay) (values_of (command.Pay l d c over.Principal)) (
      is (value.Number l) h.0,
      (
        is (value.Day d) h.1,
        (
          is (value.Amount c) h.2,
          (is (value.Designation over.Principal) tt, tt),
        ),
      ),
    )
command_fits (command.Pay l d c over.Escrow) h =
    fit (fields_of form.Pay) (values_of (command.Pay l d c over.Escrow)) (
      is (value.Number l) h.0,
      (
        is (value.Day d) h.1,
        (
          is (value.Amount c) h.2,
          (is (value.Designation over.Escrow) tt, tt),
        ),
      ),
    )
command_fits (command.Curtail l d c) h = fit (fields_of form.Curtail) (values_of (command.Curtail l d c)) (is (value.Number l) h.0, (is (value.Day d) h.1, (is (value.Amount c) h.2, tt)))
command_fits (command.Payoff l d c) h = fit (fields_of form.Payoff) (values_of (command.Payoff l d c)) (is (value.Number l) h.0, (is (value.Day d) h.1, (is (value.Amount c) h.2, tt)))
command_fits (command.Deposit l d c) h = fit (fields_of form.Deposit) (values_of (command.Deposit l d c)) (is (value.Number l) h.0, (is (value.Day d) h.1, (is (value.Amount c) h.2, tt)))
command_fits (command.Disburse l d c line) h =
    fit (fields_of form.Disburse) (values_of (command.Disburse l d c line)) (is (value.Number l) h.0, (is (value.Day d) h.1, (is (value.Amount c) h.2, (is (value.Number line) h.3, tt))))
command_fits (command.Refund l c) h = fit (fields_of form.Refund) (values_of (command.Refund l c)) (is (value.Number l) h.0, (is (value.Amount c) h.1, tt))
command_fits (command.Waive l c) h = fit (fields_of form.Waive) (values_of (command.Waive l c)) (is (value.Number l) h.0, (is (value.Amount c) h.1, tt))
command_fits (command.Reverse l n) h = fit (fields_of form.Reverse) (values_of (command.Reverse l n)) (is (value.Number l) h.0, (is (value.Number n) h.1, tt))
command_fits (command.Line l line kind month every c) h =
    fit (fields_of form.Line) (values_of (command.Line l line kind month every c)) (
      is (value.Number l) h.0,
      (
        is (value.Number line) h.1,
        (
          is (value.Kind kind) tt,
          (is (value.Number month) h.2, (is (value.Number every) h.3, (is (value.Amount c) h.4, tt))),
        ),
      ),
    )
command_fits (command.Drop l line) h = fit (fields_of form.Drop) (values_of (command.Drop l line)) (is (value.Number l) h.0, (is (value.Number line) h.1, tt))
command_fits (command.Analyse l p) h =
    fit (fields_of form.Analyse) (values_of (command.Analyse l p)) (
      is (value.Number l) h.0,
      (
        is (value.Surplus p.surplus) tt,
        (
          is (value.Part p.short) h.1.short,
          (is (value.Part p.deficient) h.1.deficient, tt),
        ),
      ),
    )
command_fits (command.Close m) h = fit (fields_of form.Close) (values_of (command.Close m)) (is (value.Month m) h, tt)
command_fits (command.Remit m) h = fit (fields_of form.Remit) (values_of (command.Remit m)) (is (value.Month m) h, tt)
command_fits (command.Retype l m kind) h = fit (fields_of form.Retype) (values_of (command.Retype l m kind)) (is (value.Number l) h.0, (is (value.Month m) h.1, (is (value.Type kind) tt, tt)))

pub query_fits : (q : Query) → IsQuery q → AreValuesOf (fields_of_question (question_of q)) (values_of_query q)
unfolding all_fit
query_fits (query.Books l) h = fit (fields_of_question question.Books) (values_of_query (query.Books l)) (is (value.Number l) h, tt)
query_fits (query.At l d) h = fit (fields_of_question question.At) (values_of_query (query.At l d)) (is (value.Number l) h.0, (is (value.Day d) h.1, tt))
query_fits (query.Payoff l d) h = fit (fields_of_question question.Payoff) (values_of_query (query.Payoff l d)) (is (value.Number l) h.0, (is (value.Day d) h.1, tt))
query_fits (query.Escrow l) h = fit (fields_of_question question.Escrow) (values_of_query (query.Escrow l)) (is (value.Number l) h, tt)
query_fits (query.Report m) h = fit (fields_of_question question.Report) (values_of_query (query.Report m)) (is (value.Month m) h, tt)
query_fits (query.Trial m) h = fit (fields_of_question question.Trial) (values_of_query (query.Trial m)) (is (value.Month m) h, tt)
query_fits query.Custodial h = fit [] [] tt
query_fits (query.Rows n) h = fit (fields_of_question question.Rows) (values_of_query (query.Rows n)) (is (value.Number n) h, tt)
query_fits (query.Loan l) h = fit (fields_of_question question.Loan) (values_of_query (query.Loan l)) (is (value.Number l) h, tt)
query_fits (query.History l) h = fit (fields_of_question question.History) (values_of_query (query.History l)) (is (value.Number l) h, tt)
query_fits (query.Quote l d) h = fit (fields_of_question question.Quote) (values_of_query (query.Quote l d)) (is (value.Number l) h.0, (is (value.Day d) h.1, tt))
query_fits (query.Arrears l) h = fit (fields_of_question question.Arrears) (values_of_query (query.Arrears l)) (is (value.Number l) h, tt)
query_fits query.Aging h = fit [] [] tt
query_fits query.Status h = fit [] [] tt
query_fits (query.Command n) h = fit (fields_of_question question.Command) (values_of_query (query.Command n)) (is (value.Number n) h, tt)
query_fits (query.Key key) h = fit (fields_of_question question.Key) (values_of_query (query.Key key)) (is (value.Key key) h, tt)

-- ---- requests of one form with the same values are the same

number_of : Option Value → ℕ
number_of (Some (value.Number n)) = n
number_of other = 0

amount_of : Option Value → ℤ
amount_of (Some (value.Amount z)) = z
amount_of other = pos 0

day_of : Option Value → ℕ
day_of (Some (value.Day d)) = d
day_of other = 0

month_of : Option Value → ℕ
month_of (Some (value.Month m)) = m
month_of other = 0

type_of : Option Value → RemitType
type_of (Some (value.Type t)) = t
type_of other = AA

kind_from : Option Value → LineKind
kind_from (Some (value.Kind k)) = k
kind_from other = Other

surplus_of : Option Value → SurplusPlan
surplus_of (Some (value.Surplus s)) = s
surplus_of other = surplus.Unsaid

part_of : Option Value → PartPlan
part_of (Some (value.Part p)) = p
part_of other = part.Unsaid

over_of : Option Value → Designation
over_of (Some (value.Designation d)) = d
over_of other = over.Regular

key_from : Option Value → List ℕ
key_from (Some (value.Key key)) = key
key_from other = []

-- the command that values make
made : Form → List Value → Command
made form.Day v = command.Day (day_of (slice_get v 0))
made form.Board v = command.Board (number_of (slice_get v 0)) (record {
  boarded = day_of (slice_get v 1);
  principal = amount_of (slice_get v 2);
  rate = number_of (slice_get v 3);
  fee = number_of (slice_get v 4);
  pi = amount_of (slice_get v 5);
  term = number_of (slice_get v 6);
  first = month_of (slice_get v 7);
  grace = number_of (slice_get v 8);
  late = number_of (slice_get v 9);
  cushion = number_of (slice_get v 10);
  escrow = amount_of (slice_get v 11);
  kind = type_of (slice_get v 12);
})
made form.Pay v = command.Pay (number_of (slice_get v 0)) (day_of (slice_get v 1)) (amount_of (slice_get v 2)) (over_of (slice_get v 3))
made form.Curtail v = command.Curtail (number_of (slice_get v 0)) (day_of (slice_get v 1)) (amount_of (slice_get v 2))
made form.Payoff v = command.Payoff (number_of (slice_get v 0)) (day_of (slice_get v 1)) (amount_of (slice_get v 2))
made form.Deposit v = command.Deposit (number_of (slice_get v 0)) (day_of (slice_get v 1)) (amount_of (slice_get v 2))
made form.Disburse v = command.Disburse (number_of (slice_get v 0)) (day_of (slice_get v 1)) (amount_of (slice_get v 2)) (number_of (slice_get v 3))
made form.Refund v = command.Refund (number_of (slice_get v 0)) (amount_of (slice_get v 1))
made form.Waive v = command.Waive (number_of (slice_get v 0)) (amount_of (slice_get v 1))
made form.Reverse v = command.Reverse (number_of (slice_get v 0)) (number_of (slice_get v 1))
made form.Line v = command.Line (number_of (slice_get v 0)) (number_of (slice_get v 1)) (kind_from (slice_get v 2)) (number_of (slice_get v 3)) (number_of (slice_get v 4)) (amount_of (slice_get v 5))
made form.Drop v = command.Drop (number_of (slice_get v 0)) (number_of (slice_get v 1))
made form.Analyse v = command.Analyse (number_of (slice_get v 0)) (record { surplus = surplus_of (slice_get v 1); short = part_of (slice_get v 2); deficient = part_of (slice_get v 3) })
made form.Close v = command.Close (month_of (slice_get v 0))
made form.Remit v = command.Remit (month_of (slice_get v 0))
made form.Retype v = command.Retype (number_of (slice_get v 0)) (month_of (slice_get v 1)) (type_of (slice_get v 2))

made_of : (c : Command) → made (form_of c) (values_of c) ≡ c
unfolding made number_of amount_of day_of month_of type_of kind_from surplus_of part_of over_of
made_of (command.Day d) = refl
made_of (command.Board l t) = refl
made_of (command.Pay l d c over.Regular) = refl
made_of (command.Pay l d c over.Principal) = refl
made_of (command.Pay l d c over.Escrow) = refl
made_of (command.Curtail l d c) = refl
made_of (command.Payoff l d c) = refl
made_of (command.Deposit l d c) = refl
made_of (command.Disburse l d c line) = refl
made_of (command.Refund l c) = refl
made_of (command.Waive l c) = refl
made_of (command.Reverse l n) = refl
made_of (command.Line l line kind month every c) = refl
made_of (command.Drop l line) = refl
made_of (command.Analyse l p) = refl
made_of (command.Close m) = refl
made_of (command.Remit m) = refl
made_of (command.Retype l m kind) = refl

pub same_command : (c d : Command) → form_of c ≡ form_of d → values_of c ≡ values_of d → c ≡ d
same_command c d e h =
    sym (made_of c) ∙ ap (λ (f : Form). made f (values_of c)) e ∙ ap (made (form_of d)) h ∙ made_of d

-- the query that values make
asked : Question → List Value → Query
asked question.Books v = query.Books (number_of (slice_get v 0))
asked question.At v = query.At (number_of (slice_get v 0)) (day_of (slice_get v 1))
asked question.Payoff v = query.Payoff (number_of (slice_get v 0)) (day_of (slice_get v 1))
asked question.Escrow v = query.Escrow (number_of (slice_get v 0))
asked question.Report v = query.Report (month_of (slice_get v 0))
asked question.Trial v = query.Trial (month_of (slice_get v 0))
asked question.Custodial v = query.Custodial
asked question.Rows v = query.Rows (number_of (slice_get v 0))
asked question.Loan v = query.Loan (number_of (slice_get v 0))
asked question.History v = query.History (number_of (slice_get v 0))
asked question.Quote v = query.Quote (number_of (slice_get v 0)) (day_of (slice_get v 1))
asked question.Arrears v = query.Arrears (number_of (slice_get v 0))
asked question.Aging v = query.Aging
asked question.Status v = query.Status
asked question.Command v = query.Command (number_of (slice_get v 0))
asked question.Key v = query.Key (key_from (slice_get v 0))

asked_of : (q : Query) → asked (question_of q) (values_of_query q) ≡ q
unfolding asked number_of day_of month_of key_from
asked_of (query.Books l) = refl
asked_of (query.At l d) = refl
asked_of (query.Payoff l d) = refl
asked_of (query.Escrow l) = refl
asked_of (query.Report m) = refl
asked_of (query.Trial m) = refl
asked_of query.Custodial = refl
asked_of (query.Rows n) = refl
asked_of (query.Loan l) = refl
asked_of (query.History l) = refl
asked_of (query.Quote l d) = refl
asked_of (query.Arrears l) = refl
asked_of query.Aging = refl
asked_of query.Status = refl
asked_of (query.Command n) = refl
asked_of (query.Key key) = refl

pub same_query : (p q : Query) → question_of p ≡ question_of q → values_of_query p ≡ values_of_query q → p ≡ q
same_query p q e h =
    sym (asked_of p) ∙ ap (λ (f : Question). asked f (values_of_query p)) e ∙ ap (asked (question_of q)) h ∙ asked_of q

-- ---- values of a kind have one text each

-- what tells words from one another: their first four bytes
code : List ℕ → ℕ
code text = get_or text 0 0 + 256 * get_or text 1 0 + 65_536 * get_or text 2 0 + 16_777_216 * get_or text 3 0

type_told : (s t : RemitType) → text_of_type s ≡ text_of_type t → s ≡ t
unfolding code
type_told AA AA e = refl
type_told SA SA e = refl
type_told SS SS e = refl
type_told s t e = absurd (let n : code (text_of_type s) ≡ code (text_of_type t) = ap code e in omega arith)

kind_told : (s t : LineKind) → text_of_kind s ≡ text_of_kind t → s ≡ t
unfolding code
kind_told Tax Tax e = refl
kind_told Hazard Hazard e = refl
kind_told Flood Flood e = refl
kind_told Other Other e = refl
kind_told s t e = absurd (let n : code (text_of_kind s) ≡ code (text_of_kind t) = ap code e in omega arith)

surplus_told : (s t : SurplusPlan) → text_of_surplus s ≡ text_of_surplus t → s ≡ t
unfolding code
surplus_told surplus.Unsaid surplus.Unsaid e = refl
surplus_told surplus.Refund surplus.Refund e = refl
surplus_told surplus.Credit surplus.Credit e = refl
surplus_told surplus.Retain surplus.Retain e = refl
surplus_told s t e = absurd (let n : code (text_of_surplus s) ≡ code (text_of_surplus t) = ap code e in omega arith)

part_told : (s t : PartPlan) → IsReadPart s → IsReadPart t → text_of_part s ≡ text_of_part t → s ≡ t
unfolding code
part_told part.Unsaid part.Unsaid p q e = refl
part_told part.Leave part.Leave p q e = refl
part_told part.Within30 part.Within30 p q e = refl
part_told (part.Spread m) (part.Spread n) p q e =
    let months : text_of_number m ≡ text_of_number n = cc in
    ap part.Spread (number_injective m n (omega arith) (omega arith) months)
part_told s t p q e = absurd (let n : code (text_of_part s) ≡ code (text_of_part t) = ap code e in omega arith)

over_told : (s t : Designation) → IsNamed s → IsNamed t → text_of_designation s ≡ text_of_designation t → s ≡ t
unfolding code
over_told over.Principal over.Principal p q e = refl
over_told over.Escrow over.Escrow p q e = refl
over_told over.Regular t p q e = absurd p
over_told s over.Regular p q e = absurd q
over_told s t p q e = absurd (let n : code (text_of_designation s) ≡ code (text_of_designation t) = ap code e in omega arith)

day_told : (c d : ℕ) → IsReadDay c → IsReadDay d → text_of_day c ≡ text_of_day d → c ≡ d
day_told c d p q e =
    day_injective c d (record { exists = p.exists; year = omega arith }) (record { exists = q.exists; year = omega arith }) e

month_told : (m n : ℕ) → IsReadMonth m → IsReadMonth n → text_of_month m ≡ text_of_month n → m ≡ n
month_told m n p q e = month_injective m n (omega arith) (omega arith) e

told : (v w : Value) → kind_of v ≡ kind_of w → IsReadValue v → IsReadValue w → text_of_value v ≡ text_of_value w → v ≡ w
told (value.Number m) (value.Number n) k p q e = ap value.Number (number_injective m n (omega arith) (omega arith) e)
told (value.Amount y) (value.Amount z) k p q e = ap value.Amount (amount_injective y z p q e)
told (value.Day c) (value.Day d) k p q e = ap value.Day (day_told c d p q e)
told (value.Month m) (value.Month n) k p q e = ap value.Month (month_told m n p q e)
told (value.Type s) (value.Type t) k p q e = ap value.Type (type_told s t e)
told (value.Kind s) (value.Kind t) k p q e = ap value.Kind (kind_told s t e)
told (value.Surplus s) (value.Surplus t) k p q e = ap value.Surplus (surplus_told s t e)
told (value.Part s) (value.Part t) k p q e = ap value.Part (part_told s t p q e)
told (value.Designation s) (value.Designation t) k p q e = ap value.Designation (over_told s t p q e)
told (value.Key s) (value.Key t) k p q e = ap value.Key e
told v w k p q e = absurd cc

pub same_value : (k : FieldKind) (v w : Value) → IsValueOf k v → IsValueOf k w → text_of_value v ≡ text_of_value w → v ≡ w
same_value k v w p q e = told v w (p.kind ∙ sym q.kind) p.range q.range e

-- ---- forms have one word each

forms : List Form
forms =
    form.Day ∷ form.Board ∷ form.Pay ∷ form.Curtail ∷ form.Payoff ∷ form.Deposit ∷ form.Disburse
    ∷ form.Refund ∷ form.Waive ∷ form.Reverse ∷ form.Line ∷ form.Drop ∷ form.Analyse ∷ form.Close
    ∷ form.Remit ∷ form.Retype ∷ []

named : List ℕ → Option Form
named text = find (λ f. code (word_of f) == code text) forms

named_word : (f : Form) → named (word_of f) ≡ Some f
unfolding named code forms
named_word form.Day = refl
named_word form.Board = refl
named_word form.Pay = refl
named_word form.Curtail = refl
named_word form.Payoff = refl
named_word form.Deposit = refl
named_word form.Disburse = refl
named_word form.Refund = refl
named_word form.Waive = refl
named_word form.Reverse = refl
named_word form.Line = refl
named_word form.Drop = refl
named_word form.Analyse = refl
named_word form.Close = refl
named_word form.Remit = refl
named_word form.Retype = refl

pub same_form : (f g : Form) → word_of f ≡ word_of g → f ≡ g
same_form f g e = let both : Some f ≡ Some g = sym (named_word f) ∙ ap named e ∙ named_word g in cc

questions : List Question
questions =
    question.Books ∷ question.At ∷ question.Payoff ∷ question.Escrow ∷ question.Report ∷ question.Trial
    ∷ question.Custodial ∷ question.Rows ∷ question.Loan ∷ question.History ∷ question.Quote ∷ question.Arrears
    ∷ question.Aging ∷ question.Status ∷ question.Command ∷ question.Key ∷ []

named_question : List ℕ → Option Question
named_question text = find (λ q. code (word_of_question q) == code text) questions

named_question_word : (q : Question) → named_question (word_of_question q) ≡ Some q
unfolding named_question code questions
named_question_word question.Books = refl
named_question_word question.At = refl
named_question_word question.Payoff = refl
named_question_word question.Escrow = refl
named_question_word question.Report = refl
named_question_word question.Trial = refl
named_question_word question.Custodial = refl
named_question_word question.Rows = refl
named_question_word question.Loan = refl
named_question_word question.History = refl
named_question_word question.Quote = refl
named_question_word question.Arrears = refl
named_question_word question.Aging = refl
named_question_word question.Status = refl
named_question_word question.Command = refl
named_question_word question.Key = refl

pub same_question : (p q : Question) → word_of_question p ≡ word_of_question q → p ≡ q
same_question p q e =
    let both : Some p ≡ Some q = sym (named_question_word p) ∙ ap named_question e ∙ named_question_word q in cc
