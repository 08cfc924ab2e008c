-- What a head asks for: the first of its steps that holds, or the question of its path.
use Rattle.std.specs.Prelude.{◌≡◌, ℕ, ◌⊎◌, List, [], ◌∷◌, map, Bool, true, false, ◌==◌, ◌||◌, ◌&&◌, not, nat_lt, Option, Some, None, MatchBool, codes, ◌≤◌, if◌then◌else◌}
use Rattle.std.specs.List.{list_any}
use Rattle.std.specs.Str.{bytes_eq}
use Rattle.httparse.specs.Grammar.{RequestHead}
use Rattle.httparse.specs.Spans.{name_and_value, span_bytes}
use Rattle.httparse.specs.declared.spans.RequestSpans.{RequestSpans}
use Rattle.svc_types.specs.declared.requests.Query.{Query}
use Rattle.serv_http.specs.declared.ask.Allow.{Allow}
use Rattle.serv_http.specs.declared.ask.Allow.TheVariants as allow
use Rattle.serv_http.specs.declared.ask.Due.TheVariants.{Get, Fault}
use Rattle.serv_http.specs.declared.ask.Plan.{Plan}
use Rattle.serv_http.specs.declared.ask.Plan.TheVariants.{Now, Pass, Keep}
use Rattle.serv_http.specs.declared.route.ContentLength.{ContentLength}
use Rattle.serv_http.specs.declared.route.ContentLength.TheVariants.{Missing, Given, Bad}
use Rattle.serv_http.specs.declared.route.Route.{Route}
use Rattle.serv_http.specs.declared.route.Route.TheVariants as route
use Rattle.serv_http.specs.Fields.{Line, has_line, is_saying, values_of, content_length}
use Rattle.serv_http.specs.Routes.{route_of, Spells}

-- the most bytes of a body
abbrev pub body_limit : ℕ
body_limit = 2048

-- the connection ends after a request of HTTP/1.0, and after one that says so
abbrev pub is_last : ℕ → List Line → Bool
is_last minor lines = minor == 0 || list_any (is_saying (codes "connection") (codes "close")) lines

-- what a length is
abbrev pub is_missing : ContentLength → Bool
is_missing Missing = true
is_missing (Given n) = false
is_missing Bad = false

abbrev pub is_bad : ContentLength → Bool
is_bad Missing = false
is_bad (Given n) = false
is_bad Bad = true

abbrev pub is_above : ℕ → ContentLength → Bool
is_above most Missing = false
is_above most (Given n) = nat_lt most n
is_above most Bad = false

-- the bytes of the body
abbrev pub body_length : ContentLength → ℕ
body_length Missing = 0
body_length (Given n) = n
body_length Bad = 0

-- the method of a route, and its name
abbrev pub method_of : Route → Allow
method_of route.Commands = allow.Post
method_of route.Books = allow.Get
method_of route.BooksAt = allow.Get
method_of route.Payoff = allow.Get
method_of route.Escrow = allow.Get
method_of route.Report = allow.Get
method_of route.Trial = allow.Get
method_of route.Custodial = allow.Get
method_of route.Rows = allow.Get
method_of route.Loan = allow.Get
method_of route.History = allow.Get
method_of route.Quote = allow.Get
method_of route.Arrears = allow.Get
method_of route.Aging = allow.Get
method_of route.Status = allow.Get
method_of route.Command = allow.Get
method_of route.Key = allow.Get

abbrev pub method_name : Allow → List ℕ
method_name allow.Get = codes "GET"
method_name allow.Post = codes "POST"

-- the route has another method
abbrev pub has_other_method : Route → List ℕ → Bool
has_other_method r method = not (bytes_eq method (method_name (method_of r)))

-- the route takes a command
abbrev pub is_command : Route → Bool
is_command route.Commands = true
is_command route.Books = false
is_command route.BooksAt = false
is_command route.Payoff = false
is_command route.Escrow = false
is_command route.Report = false
is_command route.Trial = false
is_command route.Custodial = false
is_command route.Rows = false
is_command route.Loan = false
is_command route.History = false
is_command route.Quote = false
is_command route.Arrears = false
is_command route.Aging = false
is_command route.Status = false
is_command route.Command = false
is_command route.Key = false

-- a test, and the plan of a head where it is the first that holds
abbrev pub Step : Type 0
Step = Bool × Plan

abbrev pub FirstOf : List Step → (Plan → Type 0) → Plan → Type 0
FirstOf [] otherwise plan = otherwise plan
FirstOf ((holds, answer) ∷ more) otherwise plan =
    MatchBool holds (plan ≡ answer) (FirstOf more otherwise plan)

-- the tests of the lengths that a head says, of a `Transfer-Encoding` first
abbrev pub length_steps : Bool → ContentLength → List Step
length_steps encoded length =
    (encoded, Now (Fault 411 true None))
    ∷ (is_bad length, Now (Fault 400 true None))
    ∷ (is_above body_limit length, Now (Fault 413 true None))
    ∷ []

-- the tests of a route: its method, and the length of a command's body
abbrev pub route_steps : Route → ContentLength → List ℕ → Bool → List Step
route_steps r length method last =
    (has_other_method r method, Pass (body_length length) (Fault 405 last (Some (method_of r))))
    ∷ (is_command r && is_missing length, Now (Fault 411 true None))
    ∷ (is_command r, Keep (body_length length) last)
    ∷ []

-- the question of the path, or 400 where it spells none
abbrev pub IsQuestion : Route → List ℕ → ℕ → Bool → Plan → Type 0
IsQuestion r path size last plan =
    ((q : Query) × Spells r path q × (plan ≡ Pass size (Get q last)))
    ⊎ (((q : Query) → ¬ (Spells r path q)) × (plan ≡ Pass size (Fault 400 last None)))

-- the plan of a route, or 404 where there is none
abbrev pub IsRouted : Option Route → ContentLength → List ℕ → List ℕ → Bool → Plan → Type 0
IsRouted None length method path last plan = plan ≡ Pass (body_length length) (Fault 404 last None)
IsRouted (Some r) length method path last plan =
    FirstOf (route_steps r length method last) (IsQuestion r path (body_length length) last) plan

-- the plan of a head's parts
abbrev pub IsPlanOf : List Line → ℕ → List ℕ → List ℕ → Plan → Type 0
IsPlanOf lines minor method target plan =
    FirstOf (length_steps (has_line (codes "transfer-encoding") lines) (content_length (values_of (codes "content-length") lines)))
    (IsRouted (route_of target) (content_length (values_of (codes "content-length") lines)) method target (is_last minor lines))
    plan

-- the plan of a head
abbrev pub IsPlan : RequestHead → Plan → Type 0
IsPlan h plan = IsPlanOf (map name_and_value h.fields) h.minor h.method h.target plan

-- a body that is kept, or passed over, is within the limit
abbrev pub PlanFits : Plan → Type 0
PlanFits (Now d) = 0 ≤ body_limit
PlanFits (Pass n d) = n ≤ body_limit
PlanFits (Keep n last) = n ≤ body_limit

-- the first fault of the lengths: its status, where there is one
abbrev pub length_fault : Bool → ContentLength → Option ℕ
length_fault encoded length =
    if encoded then Some 411 else (if is_bad length then Some 400 else (if is_above body_limit length then Some 413 else None))

-- the method and the target that spans cover
abbrev pub method_at : List ℕ → RequestSpans → List ℕ
method_at buf spans = span_bytes buf spans.method

abbrev pub target_at : List ℕ → RequestSpans → List ℕ
target_at buf spans = span_bytes buf spans.path
