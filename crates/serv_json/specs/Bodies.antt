-- The JSON bodies that ask for commands.
use Rattle.std.specs.Prelude.{◌≡◌, ℕ, List, [], ◌∷◌, Some, map, codes}
use Rattle.std.specs.Str.{IsUtf8}
use Rattle.std.specs.List.{zip}
use Rattle.serde_json.specs.Data.{Data, Members, number, unsigned, string, object, no_members, put}
use Rattle.serde_json.specs.Read.{read}
use Rattle.svc_types.specs.declared.requests.Command.{Command}
use Rattle.svc_types.specs.declared.requests.Request.{Request}
use Rattle.svc_types.specs.declared.requests.Request.TheVariants as request
use Rattle.svc_forms.specs.declared.field.Field.{Field}
use Rattle.svc_forms.specs.declared.value.Value.{Value}
use Rattle.svc_forms.specs.declared.value.Value.TheVariants as value
use Rattle.svc_forms.specs.Fields.{name_of}
use Rattle.svc_forms.specs.Values.{text_of_value}
use Rattle.svc_forms.specs.Forms.{word_of, fields_of, form_of, values_of}

-- a field's value as JSON: a number is an integer, each other value is a string, spelled as in lines
abbrev pub json_of : Value → Data
json_of (value.Number n) = number (unsigned n)
json_of other = string (text_of_value other)

-- a member of an object: its name and its value
abbrev pub Member : Type 0
Member = List ℕ × Data

-- the members of fields, each with its value; fields that are left out have none
abbrev pub field_members : List Field → List Value → List Member
field_members fields values = zip (map name_of fields) (map json_of values)

-- the members of a command's body: its key, its word, and one for each of its fields
abbrev pub members_of : List ℕ → Command → List Member
members_of key c =
    (codes "key", string key) ∷ (codes "do", string (word_of (form_of c)))
    ∷ field_members (fields_of (form_of c)) (values_of c)

-- an object with these members, in any order; each has a name of its own
abbrev pub put_all : List Member → Members
put_all [] = no_members
put_all (m ∷ members) = put m.0 m.1 (put_all members)

-- a JSON value asks for a command where it is the object with the command's members; queries have no bodies
abbrev pub Asks : Data → Request → Type 0
Asks d (request.Do key c) = d ≡ object (put_all (members_of key c))
Asks d (request.Ask q) = ⊥

-- a body that asks for a request: UTF-8 that reads as such a JSON value
pub record IsBodyOf (r : Request) (body : List ℕ) : Type 0 where
  pub utf8 : IsUtf8 body
  pub json : Data
  pub is_read : read body ≡ Some json
  pub asks : Asks json r
