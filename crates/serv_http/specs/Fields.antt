-- The header lines of a head, as names and values without the spaces and tabs around them.
use Rattle.std.specs.Prelude.{ℕ, ◌-◌, List, [], ◌∷◌, length, take, drop, map, Bool, ◌&&◌, ◌==◌, nat_lt, nat_le, if◌then◌else◌}
use Rattle.std.specs.List.{list_any, list_all, filter, prefix_len, suffix_len, slice_split}
use Rattle.std.specs.Char.{is_ascii_digit, is_ascii_whitespace}
use Rattle.std.specs.Str.{str_eq_ignore_ascii_case}
use Rattle.std.specs.Str.Parse.{digits_value}
use Rattle.serv_http.specs.declared.route.ContentLength.{ContentLength}
use Rattle.serv_http.specs.declared.route.ContentLength.TheVariants.{Missing, Given, Bad}

-- a name and a value
abbrev pub Line : Type 0
Line = List ℕ × List ℕ

-- the line has this name, in any ASCII case
abbrev pub is_named : List ℕ → Line → Bool
is_named name line = str_eq_ignore_ascii_case line.0 name

-- a text without the blanks around it
abbrev pub after_blanks : List ℕ → List ℕ
after_blanks text = drop (prefix_len is_ascii_whitespace text) text

abbrev pub before_blanks : List ℕ → List ℕ
before_blanks text = take (length text - suffix_len is_ascii_whitespace text) text

abbrev pub trimmed : List ℕ → List ℕ
trimmed text = before_blanks (after_blanks text)

-- a text is this word, in any ASCII case
abbrev pub is_word : List ℕ → List ℕ → Bool
is_word word text = str_eq_ignore_ascii_case (trimmed text) word

-- what stands between the commas of a value
abbrev pub parts_of : List ℕ → List (List ℕ)
parts_of value = slice_split (λ b. b == 44) value

-- the line has this name, and this word is one of those between the commas of its value
abbrev pub is_saying : List ℕ → List ℕ → Line → Bool
is_saying name word line = is_named name line && list_any (is_word word) (parts_of line.1)

-- a line of this name is there
abbrev pub has_line : List ℕ → List Line → Bool
has_line name lines = list_any (is_named name) lines

-- the values of the lines of this name
abbrev pub values_of : List ℕ → List Line → List (List ℕ)
values_of name lines = map (λ (l : Line). l.1) (filter (is_named name) lines)

-- 1 to 9 digits
abbrev pub is_length : List ℕ → Bool
is_length value = nat_lt 0 (length value) && (nat_le (length value) 9 && list_all is_ascii_digit value)

-- what one value says, and what several say
abbrev pub length_of_value : List ℕ → ContentLength
length_of_value value = if is_length value then Given (digits_value 10 value) else Bad

abbrev pub content_length : List (List ℕ) → ContentLength
content_length [] = Missing
content_length (value ∷ []) = length_of_value value
content_length (value ∷ other ∷ more) = Bad

-- what was said so far, with a value more
abbrev pub with_value : ContentLength → List ℕ → ContentLength
with_value Missing value = length_of_value value
with_value (Given n) value = Bad
with_value Bad value = Bad
