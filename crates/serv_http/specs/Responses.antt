-- The bytes of a response.
use Rattle.std.specs.Prelude.{ℕ, List, [], ◌∷◌, ◌++◌, length, Bool, ◌==◌, ◌||◌, if◌then◌else◌, Option, Some, None, unwrap_or, codes, decimal, IsTrue}
use Rattle.std.specs.List.{list_any}
use Rattle.http.specs.StatusCode.{reason_phrase, code_digits}
use Rattle.serv_http.specs.declared.ask.Allow.{Allow}
use Rattle.serv_http.specs.declared.ask.Allow.TheVariants.{Get, Post}

-- each line ends with CR LF
abbrev pub line_end : List ℕ
line_end = 13 ∷ 10 ∷ []

-- the statuses that are sent
abbrev pub IsSent : ℕ → Type 0
IsSent status = IsTrue (list_any (λ s. s == status) (200 ∷ 400 ∷ 404 ∷ 405 ∷ 409 ∷ 411 ∷ 413 ∷ 431 ∷ 500 ∷ 503 ∷ []))

-- a response of this status has a body
abbrev pub has_body : ℕ → Bool
has_body status = (status == 200) || (status == 409)

abbrev pub phrase_of : ℕ → List ℕ
phrase_of status = unwrap_or (reason_phrase status) []

abbrev pub status_line : ℕ → List ℕ
status_line status = codes "HTTP/1.1 " ++ (code_digits status ++ (codes " " ++ (phrase_of status ++ line_end)))

-- the method of the route, with 405
abbrev pub allow_line : Option Allow → List ℕ
allow_line None = []
allow_line (Some Get) = codes "Allow: GET" ++ line_end
allow_line (Some Post) = codes "Allow: POST" ++ line_end

abbrev pub close_line : Bool → List ℕ
close_line ends = if ends then codes "Connection: close" ++ line_end else []

abbrev pub type_line : List ℕ → List ℕ
type_line body = if length body == 0 then [] else codes "Content-Type: application/json" ++ line_end

abbrev pub body_lines : List ℕ → List ℕ
body_lines body =
    codes "Content-Length: " ++ (decimal (length body) ++ (line_end ++ (type_line body ++ (line_end ++ body))))

abbrev pub response : ℕ → List ℕ → Bool → Option Allow → List ℕ
response status body ends allow = status_line status ++ (allow_line allow ++ (close_line ends ++ body_lines body))
