-- Values in the places of their fields.
use Rattle.std.proofs.Common.{◌≡◌, ℕ, suc, List, [], ◌∷◌, Option, Some, None, true, false, ◌∙◌, refl, ap, subst}
use Rattle.std.specs.Prelude.{slice_get, if◌then◌else◌}
use Rattle.svc_types.specs.declared.account.Designation.{Designation}
use Rattle.svc_types.specs.declared.account.Designation.TheVariants as over
use Rattle.svc_forms.specs.declared.field.Field.{Field}
use Rattle.svc_forms.specs.declared.form.Form.TheVariants as form
use Rattle.svc_forms.specs.declared.value.Value.TheVariants as value
use Rattle.svc_forms.specs.declared.field.FieldKind.{FieldKind}
use Rattle.svc_forms.specs.declared.value.Value.{Value}
use Rattle.svc_forms.specs.Fields.{kind_of_field, is_optional}
use Rattle.svc_forms.specs.Values.{IsValueOf, FitsField, AreValuesOf, StandsAt, IsOver}
use Rattle.svc_forms.specs.Forms.{fields_of, values_of_designation}

-- the kind that a field asks for where it may not be left out
abbrev pub required_kind : Option Field → Option FieldKind
required_kind None = None
required_kind (Some f) = if is_optional f then None else Some (kind_of_field f)

stands_in : (f : Option Field) (v : Option Value) (k : FieldKind) → FitsField f v → required_kind f ≡ Some k → (x : Value) × (v ≡ Some x) × IsValueOf k x
stands_in None v k h e = absurd cc
stands_in (Some f) None k h e = absurd (let o : is_optional f ≡ true = h in let n : required_kind (Some f) ≡ None = rw o refl in cc)
stands_in (Some f) (Some x) k h e =
    elim (is_optional f) as (λ b. (if b then None else Some (kind_of_field f)) ≡ Some k → (y : Value) × (Some x ≡ Some y) × IsValueOf k y) [
      | true ↦ λ w. absurd cc
      | false ↦ λ w. let is : kind_of_field f ≡ k = cc in (x, refl, subst (λ (q : FieldKind). IsValueOf q x) is h)
    ] e

-- a value stands in the place of each field that may not be left out
pub stands : (fields : List Field) (values : List Value) (i : ℕ) (k : FieldKind) → AreValuesOf fields values → required_kind (slice_get fields i) ≡ Some k → StandsAt k values i
stands fields values i k h e =
    let s = stands_in (slice_get fields i) (slice_get values i) k (h.each i) e in
    record { value = s.0; there = s.1; fits = s.2 }

-- ---- a list whose places are known is known

-- what stands in the places from one on, to the end
all_at : List Value → List Value → ℕ → Type 0
all_at values [] i = slice_get values i ≡ None
all_at values (w ∷ ws) i = (slice_get values i ≡ Some w) × all_at values ws (suc i)

all_at_tail : (v : Value) (values ws : List Value) (i : ℕ) → all_at (v ∷ values) ws (suc i) → all_at values ws i
unfolding all_at
all_at_tail v values [] i h = h
all_at_tail v values (w ∷ ws) i h = (h.0, all_at_tail v values ws (suc i) h.1)

whole : (values ws : List Value) → all_at values ws 0 → ws ≡ values
unfolding all_at
whole [] [] h = refl
whole (v ∷ values) [] h = absurd (let e : Some v ≡ None = h in cc)
whole [] (w ∷ ws) h = absurd (let e : None ≡ Some w = h.0 in cc)
whole (v ∷ values) (w ∷ ws) h =
    let first : Some v ≡ Some w = h.0 in
    let rest : ws ≡ values = whole values ws (all_at_tail v values ws 0 h.1) in
    cc

ends_in : (v : Option Value) → FitsField None v → v ≡ None
ends_in None h = refl
ends_in (Some v) h = absurd h

-- no value stands after the last field
ends : (fields : List Field) (values : List Value) (i : ℕ) → AreValuesOf fields values → slice_get fields i ≡ None → slice_get values i ≡ None
ends fields values i h e =
    let P : Option Field → Type 0 = λ f. FitsField f (slice_get values i) in
    ends_in (slice_get values i) (subst P e (h.each i))

-- the values of so many fields, by their places
pub one : (fields : List Field) (values : List Value) (a : Value) → AreValuesOf fields values → slice_get fields 1 ≡ None
    → slice_get values 0 ≡ Some a → a ∷ [] ≡ values
unfolding all_at
one fields values a h e p0 = whole values (a ∷ []) (p0, ends fields values 1 h e)

pub two : (fields : List Field) (values : List Value) (a b : Value) → AreValuesOf fields values → slice_get fields 2 ≡ None
    → slice_get values 0 ≡ Some a → slice_get values 1 ≡ Some b → a ∷ b ∷ [] ≡ values
unfolding all_at
two fields values a b h e p0 p1 = whole values (a ∷ b ∷ []) (p0, (p1, ends fields values 2 h e))

pub three : (fields : List Field) (values : List Value) (a b c : Value) → AreValuesOf fields values → slice_get fields 3 ≡ None
    → slice_get values 0 ≡ Some a → slice_get values 1 ≡ Some b → slice_get values 2 ≡ Some c → a ∷ b ∷ c ∷ [] ≡ values
unfolding all_at
three fields values a b c h e p0 p1 p2 = whole values (a ∷ b ∷ c ∷ []) (p0, (p1, (p2, ends fields values 3 h e)))

pub four : (fields : List Field) (values : List Value) (a b c d : Value) → AreValuesOf fields values → slice_get fields 4 ≡ None
    → slice_get values 0 ≡ Some a → slice_get values 1 ≡ Some b → slice_get values 2 ≡ Some c → slice_get values 3 ≡ Some d
    → a ∷ b ∷ c ∷ d ∷ [] ≡ values
unfolding all_at
four fields values a b c d h e p0 p1 p2 p3 =
    whole values (a ∷ b ∷ c ∷ d ∷ []) (p0, (p1, (p2, (p3, ends fields values 4 h e))))

pub six : (fields : List Field) (values : List Value) (a b c d f g : Value) → AreValuesOf fields values → slice_get fields 6 ≡ None
    → slice_get values 0 ≡ Some a → slice_get values 1 ≡ Some b → slice_get values 2 ≡ Some c → slice_get values 3 ≡ Some d
    → slice_get values 4 ≡ Some f → slice_get values 5 ≡ Some g → a ∷ b ∷ c ∷ d ∷ f ∷ g ∷ [] ≡ values
unfolding all_at
six fields values a b c d f g h e p0 p1 p2 p3 p4 p5 =
    whole values (a ∷ b ∷ c ∷ d ∷ f ∷ g ∷ []) (p0, (p1, (p2, (p3, (p4, (p5, ends fields values 6 h e))))))

pub thirteen : (fields : List Field) (values : List Value) (a b c d f g i j k l m n o : Value) → AreValuesOf fields values → slice_get fields 13 ≡ None
    → slice_get values 0 ≡ Some a → slice_get values 1 ≡ Some b → slice_get values 2 ≡ Some c → slice_get values 3 ≡ Some d
    → slice_get values 4 ≡ Some f → slice_get values 5 ≡ Some g → slice_get values 6 ≡ Some i → slice_get values 7 ≡ Some j
    → slice_get values 8 ≡ Some k → slice_get values 9 ≡ Some l → slice_get values 10 ≡ Some m → slice_get values 11 ≡ Some n
    → slice_get values 12 ≡ Some o → a ∷ b ∷ c ∷ d ∷ f ∷ g ∷ i ∷ j ∷ k ∷ l ∷ m ∷ n ∷ o ∷ [] ≡ values
unfolding all_at
thirteen fields values a b c d f g i j k l m n o h e p0 p1 p2 p3 p4 p5 p6 p7 p8 p9 p10 p11 p12 =
    whole values (a ∷ b ∷ c ∷ d ∷ f ∷ g ∷ i ∷ j ∷ k ∷ l ∷ m ∷ n ∷ o ∷ [])
    (p0, (p1, (p2, (p3, (p4, (p5, (p6, (p7, (p8, (p9, (p10, (p11, (p12, ends fields values 13 h e)))))))))))))

pub none : (fields : List Field) (values : List Value) → AreValuesOf fields values → slice_get fields 0 ≡ None → [] ≡ values
unfolding all_at
none fields values h e = whole values [] (ends fields values 0 h e)

-- the values of a payment, by what its last one says
payment_ends : (values : List Value) (a b c : Value) (v : Option Value) (d : Designation) → AreValuesOf (fields_of form.Pay) values
    → slice_get values 0 ≡ Some a → slice_get values 1 ≡ Some b → slice_get values 2 ≡ Some c → slice_get values 3 ≡ v → IsOver v d
    → a ∷ b ∷ c ∷ values_of_designation d ≡ values
unfolding all_at
payment_ends values a b c None over.Regular h p0 p1 p2 e o = whole values (a ∷ b ∷ c ∷ []) (p0, (p1, (p2, e)))
payment_ends values a b c None over.Principal h p0 p1 p2 e o = absurd o
payment_ends values a b c None over.Escrow h p0 p1 p2 e o = absurd o
payment_ends values a b c (Some v) over.Regular h p0 p1 p2 e o = absurd o.1
payment_ends values a b c (Some v) over.Principal h p0 p1 p2 e o =
    let is : slice_get values 3 ≡ Some (value.Designation over.Principal) = e ∙ ap Some o.0 in
    whole values (a ∷ b ∷ c ∷ value.Designation over.Principal ∷ []) (p0, (p1, (p2, (is, ends (fields_of form.Pay) values 4 h refl))))
payment_ends values a b c (Some v) over.Escrow h p0 p1 p2 e o =
    let is : slice_get values 3 ≡ Some (value.Designation over.Escrow) = e ∙ ap Some o.0 in
    whole values (a ∷ b ∷ c ∷ value.Designation over.Escrow ∷ []) (p0, (p1, (p2, (is, ends (fields_of form.Pay) values 4 h refl))))

pub payment : (values : List Value) (a b c : Value) (d : Designation) → AreValuesOf (fields_of form.Pay) values → slice_get values 0 ≡ Some a
    → slice_get values 1 ≡ Some b → slice_get values 2 ≡ Some c → IsOver (slice_get values 3) d → a ∷ b ∷ c ∷ values_of_designation d ≡ values
payment values a b c d h p0 p1 p2 o = payment_ends values a b c (slice_get values 3) d h p0 p1 p2 refl o
