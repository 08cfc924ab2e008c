-- The fields of a command that a body has: what is read of it, field by field.
use Rattle.std.specs.Prelude.{◌≡◌, ℕ, ◌+◌, List, [], ◌∷◌, Option, Some, length, option_map}
use Rattle.serde_json.specs.Data.{Data}
use Rattle.serde_json.specs.Events.{members_len}
use Rattle.serde_json.specs.Find.{as_object, get}
use Rattle.svc_types.specs.declared.requests.Request.{Request}
use Rattle.svc_types.specs.declared.requests.Request.TheVariants as request
use Rattle.svc_forms.specs.declared.field.Field.{Field}
use Rattle.svc_forms.specs.declared.value.Value.{Value}
use Rattle.svc_forms.specs.Fields.{name_of, kind_of_field}
use Rattle.svc_forms.specs.Values.{IsValueOf}
use Rattle.serv_json.specs.Bodies.{Member, json_of, field_members, members_of}

-- how many members an object has
abbrev pub member_count : Data → Option ℕ
member_count d = option_map members_len (as_object d)

-- each of these members is there
abbrev pub HasEach : Data → List Member → Type 0
HasEach d [] = Unit {0}
HasEach d (m ∷ members) = (get m.0 d ≡ Some m.1) × HasEach d members

-- an object has these members and no more
pub record HasExactly (d : Data) (members : List Member) : Type 0 where
  pub count : member_count d ≡ Some (length members)
  pub each : HasEach d members

-- an object has exactly the members of a command's body
abbrev pub HasBody : Data → Request → Type 0
HasBody d (request.Do key c) = HasExactly d (members_of key c)
HasBody d (request.Ask q) = ⊥

-- a field is there, with this value
pub record IsRead (d : Data) (f : Field) (v : Value) : Type 0 where
  pub fits : IsValueOf (kind_of_field f) v
  pub there : get (name_of f) d ≡ Some (json_of v)

-- each of these fields is there, with its value
abbrev pub AreRead : Data → List Field → List Value → Type 0
AreRead d [] [] = Unit {0}
AreRead d [] (v ∷ values) = ⊥
AreRead d (f ∷ fields) [] = ⊥
AreRead d (f ∷ fields) (v ∷ values) = IsRead d f v × AreRead d fields values

-- beside its key and its word, an object has exactly the members of fields with these values
pub record HasFields (d : Data) (fields : List Field) (values : List Value) : Type 0 where
  pub count : member_count d ≡ Some (length (field_members fields values) + 2)
  pub each : HasEach d (field_members fields values)
