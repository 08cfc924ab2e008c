-- The bodies of replies.
use Rattle.std.specs.Prelude.{ℕ, List, [], ◌++◌, Option, Some, None, codes}
use Rattle.json.specs.Print.{quoted}
use Rattle.serde_json.specs.Data.{Data, number, unsigned, string, object, member, no_members}
use Rattle.svc_base.specs.Text.{text_of_number}

-- the member that names the accepted command's number, where there is one
abbrev pub number_member : Option ℕ → List ℕ
number_member None = []
number_member (Some n) = codes ",\"number\":" ++ text_of_number n

-- a body without spaces: its members are the code, the number where there is one, and the text as a
-- JSON string
abbrev pub reply_text : ℕ → Option ℕ → List ℕ → List ℕ
reply_text code n text =
    codes "{\"code\":" ++ text_of_number code ++ number_member n
    ++ codes ",\"text\":" ++ quoted text ++ codes "}"

-- the same as a JSON value
abbrev pub reply_value : ℕ → Option ℕ → List ℕ → Data
reply_value code None text =
    object (member (codes "code") (number (unsigned code)) (member (codes "text") (string text) no_members))
reply_value code (Some n) text =
    object (member (codes "code") (number (unsigned code)) (member (codes "number") (number (unsigned n))
    (member (codes "text") (string text) no_members)))
