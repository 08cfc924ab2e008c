-- The line of a request: its words with single spaces between them.
use Rattle.std.specs.Prelude.{ℕ, ◌==◌, List, [], ◌∷◌, Option, Some, None, map, codes}
use Rattle.std.specs.Borrow.{Bor}
use Rattle.std.specs.List.{slice_split, join_with_byte, flat_map}
use Rattle.svc_types.specs.declared.requests.Request.{Request}
use Rattle.svc_types.specs.declared.requests.Request.TheVariants as request
use Rattle.svc_forms.specs.declared.value.Value.{Value}
use Rattle.svc_forms.specs.Values.{text_of_value}
use Rattle.svc_forms.specs.Forms.{word_of, form_of, values_of, word_of_question, question_of, values_of_query}

-- words with a space between each two
abbrev pub joined : List (List ℕ) → List ℕ
joined words = join_with_byte 32 words

-- the words of a line: the pieces between its spaces
abbrev pub words_of : List ℕ → List (List ℕ)
words_of line = slice_split (λ b. b == 32) line

-- the words of a request: a command's key or `?`, the word of its form and the texts of its values
abbrev pub words_of_request : Request → List (List ℕ)
words_of_request (request.Do key c) = key ∷ word_of (form_of c) ∷ map text_of_value (values_of c)
words_of_request (request.Ask q) = codes "?" ∷ word_of_question (question_of q) ∷ map text_of_value (values_of_query q)

-- the line of a request
unfoldable pub line_of : Request → List ℕ
line_of r = joined (words_of_request r)

-- values in a line, a space before each
abbrev pub text_of_values : List Value → List ℕ
text_of_values values = flat_map (λ v. 32 ∷ text_of_value v) values

-- the words of what is left of a line; none are left after its last word
abbrev pub words_left : Option (Bor (List ℕ)) → List (List ℕ)
words_left None = []
words_left (Some rest) = words_of rest.now
