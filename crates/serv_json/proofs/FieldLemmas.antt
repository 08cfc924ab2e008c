-- The fields that a body has, and their values.
use Rattle.std.proofs.Common.{◌≡◌, ℕ, zero, suc, ◌+◌, ◌<◌, ◌≤◌, List, [], ◌∷◌, ◌++◌, length, get_or, take, drop, Option, Some, None, Bool, true, false, refl, sym, ap, subst, ◌∙◌, arith}
use Rattle.std.proofs.lemmas.List.{take_more}
use Rattle.std.specs.Prelude.{slice_get, ◌&&◌, IfNone}
use Rattle.std.specs.List.{list_all}
use Rattle.serde_json.specs.Data.{Data}
use Rattle.serde_json.proofs.Views.{members_len-members_view}
use Rattle.svc_forms.specs.declared.field.Field.{Field}
use Rattle.svc_forms.specs.declared.value.Value.{Value}
use Rattle.svc_forms.specs.Fields.{is_optional}
use Rattle.svc_forms.specs.Values.{FitsField, AreValuesOf}
use Rattle.serv_json.specs.Bodies.{field_members}
use Rattle.serv_json.specs.FieldsRead.{member_count, HasEach, IsRead, AreRead, HasFields}

pub ruleset counted = members_len-members_view

-- what a clause says where there is no value
pub on_none : {A : Type 0} (o : Option A) (P : Type 0) → P → IfNone o P
on_none None P h = h
on_none (Some a) P h = tt

pub none_then : {A : Type 0} (o : Option A) (P Q : Type 0) → IfNone o P → (P → Q) → IfNone o Q
none_then None P Q h then = then h
none_then (Some a) P Q h then = tt

-- ---- fields that are read one after the other

read_more : (d : Data) (fields : List Field) (values : List Value) (f : Field) (v : Value) → AreRead d fields values → IsRead d f v → AreRead d (fields ++ f ∷ []) (values ++ v ∷ [])
read_more d [] [] f v h is = (is, tt)
read_more d [] (w ∷ values) f v h is = absurd h
read_more d (g ∷ fields) [] f v h is = absurd h
read_more d (g ∷ fields) (w ∷ values) f v h is = (h.0, read_more d fields values f v h.1 is)

pub read_next : (d : Data) (fields : List Field) (values : List Value) (i : ℕ) (f : Field) (v : Value) → AreRead d (take i fields) values → i < length fields → IsRead d (get_or fields i f) v → AreRead d (take (i + 1) fields) (values ++ v ∷ [])
read_next d fields values i f v h lt is =
    let P : List Field → Type 0 = λ fs. AreRead d fs (values ++ v ∷ []) in
    subst P (sym (take_more fields i f lt)) (read_more d (take i fields) values (get_or fields i f) v h is)

pub read_at : (d : Data) (fields : List Field) (values : List Value) (i : ℕ) (f : Field) → AreRead d fields values → i < length fields → (v : Value) × IsRead d (get_or fields i f) v
read_at d [] values i f h lt = absurd (omega arith)
read_at d (g ∷ fields) [] i f h lt = absurd h
read_at d (g ∷ fields) (v ∷ values) zero f h lt = (v, h.0)
read_at d (g ∷ fields) (v ∷ values) (suc i) f h lt = read_at d fields values i f h.1 (omega arith)

pub read_length : (d : Data) (fields : List Field) (values : List Value) → AreRead d fields values → length values ≡ length fields
read_length d [] [] h = refl
read_length d [] (v ∷ values) h = absurd h
read_length d (f ∷ fields) [] h = absurd h
read_length d (f ∷ fields) (v ∷ values) h = ap suc (read_length d fields values h.1)

-- ---- the fields after them are left out

both : (a b : Bool) → a && b ≡ true → (a ≡ true) × (b ≡ true)
both true b h = (refl, h)
both false b h = absurd cc

left_at : (left : List Field) → list_all is_optional left ≡ true → (i : ℕ) → FitsField (slice_get left i) None
left_at [] o i = tt
left_at (f ∷ left) o zero = (both (is_optional f) (list_all is_optional left) o).0
left_at (f ∷ left) o (suc i) = left_at left (both (is_optional f) (list_all is_optional left) o).1 i

fit_at : (d : Data) (asked left : List Field) (values : List Value) → AreRead d asked values → list_all is_optional left ≡ true → (i : ℕ) → FitsField (slice_get (asked ++ left) i) (slice_get values i)
fit_at d [] left [] h o i = left_at left o i
fit_at d [] left (v ∷ values) h o i = absurd h
fit_at d (f ∷ asked) left [] h o i = absurd h
fit_at d (f ∷ asked) left (v ∷ values) h o zero = h.0.fits
fit_at d (f ∷ asked) left (v ∷ values) h o (suc i) = fit_at d asked left values h.1 o i

none_named : (left : List Field) → field_members left [] ≡ []
none_named [] = refl
none_named (f ∷ left) = refl

each_at : (d : Data) (asked left : List Field) (values : List Value) → AreRead d asked values → HasEach d (field_members (asked ++ left) values)
each_at d [] left [] h = rw (none_named left) tt
each_at d [] left (v ∷ values) h = absurd h
each_at d (f ∷ asked) left [] h = absurd h
each_at d (f ∷ asked) left (v ∷ values) h = (h.0.there, each_at d asked left values h.1)

pub members_length : (fields : List Field) (values : List Value) → ((i : ℕ) → FitsField (slice_get fields i) (slice_get values i)) → length (field_members fields values) ≡ length values
members_length [] [] h = refl
members_length [] (v ∷ values) h = absurd (h 0)
members_length (f ∷ fields) [] h = refl
members_length (f ∷ fields) (v ∷ values) h = ap suc (members_length fields values (λ i. h (suc i)))

-- so many fields are read, and the others may be left out
pub all_fit : (d : Data) (asked left : List Field) (values : List Value) → AreRead d asked values → list_all is_optional left ≡ true → AreValuesOf (asked ++ left) values
all_fit d asked left values h o = record { each = fit_at d asked left values h o }

pub all_there : (d : Data) (asked left : List Field) (values : List Value) → AreRead d asked values → list_all is_optional left ≡ true → member_count d ≡ Some (length asked + 2) → HasFields d (asked ++ left) values
all_there d asked left values h o count =
    let same : length (field_members (asked ++ left) values) ≡ length asked =
    members_length (asked ++ left) values (fit_at d asked left values h o) ∙ read_length d asked values h in
    record { count = count ∙ ap (λ (n : ℕ). Some (n + 2)) (sym same); each = each_at d asked left values h }

-- ---- the other way: what values of the fields say of what is read

all_left : (left : List Field) → ((i : ℕ) → FitsField (slice_get left i) None) → list_all is_optional left ≡ true
all_left [] h = refl
all_left (f ∷ left) h =
    let first : is_optional f ≡ true = h 0 in
    let rest : list_all is_optional left ≡ true = all_left left (λ i. h (suc i)) in
    rw (first, rest)

cut : (d : Data) (fields : List Field) (values : List Value) → ((i : ℕ) → FitsField (slice_get fields i) (slice_get values i)) → HasEach d (field_members fields values)
    → AreRead d (take (length values) fields) values × (list_all is_optional (drop (length values) fields) ≡ true)
cut d [] [] h e = (tt, refl)
cut d [] (v ∷ values) h e = absurd (h 0)
cut d (f ∷ fields) [] h e = (tt, all_left (f ∷ fields) h)
cut d (f ∷ fields) (v ∷ values) h e =
    let rest = cut d fields values (λ i. h (suc i)) e.1 in
    ((record { fits = h 0; there = e.0 }, rest.0), rest.1)

no_longer : (fields : List Field) (values : List Value) → ((i : ℕ) → FitsField (slice_get fields i) (slice_get values i)) → length values ≤ length fields
no_longer fields [] h = omega arith
no_longer [] (v ∷ values) h = absurd (h 0)
no_longer (f ∷ fields) (v ∷ values) h = let rest = no_longer fields values (λ i. h (suc i)) in omega arith

same_count : (m n : ℕ) (o : Option ℕ) → o ≡ Some (m + 2) → o ≡ Some (n + 2) → m ≡ n
same_count m n o p q = let e : m + 2 ≡ n + 2 = cc in omega arith

-- the values are as many as the members beside the key and the word
as_many : (d : Data) (fields : List Field) (values : List Value) (given : ℕ) → AreValuesOf fields values → HasFields d fields values → member_count d ≡ Some (given + 2) → length values ≡ given
as_many d fields values given fit h count =
    sym (members_length fields values fit.each) ∙ same_count (length (field_members fields values)) given (member_count d) h.count count

pub enough : (d : Data) (fields : List Field) (values : List Value) (given : ℕ) → AreValuesOf fields values → HasFields d fields values → member_count d ≡ Some (given + 2) → given ≤ length fields
enough d fields values given fit h count = subst (λ (n : ℕ). n ≤ length fields) (as_many d fields values given fit h count) (no_longer fields values fit.each)

pub then_read : (d : Data) (fields : List Field) (values : List Value) (given : ℕ) → AreValuesOf fields values → HasFields d fields values → member_count d ≡ Some (given + 2) → AreRead d (take given fields) values
then_read d fields values given fit h count =
    subst (λ (n : ℕ). AreRead d (take n fields) values) (as_many d fields values given fit h count) (cut d fields values fit.each h.each).0

pub then_left : (d : Data) (fields : List Field) (values : List Value) (given : ℕ) → AreValuesOf fields values → HasFields d fields values → member_count d ≡ Some (given + 2) → list_all is_optional (drop given fields) ≡ true
then_left d fields values given fit h count =
    subst (λ (n : ℕ). list_all is_optional (drop n fields) ≡ true) (as_many d fields values given fit h count) (cut d fields values fit.each h.each).1
