-- The paths of the routes.
use Rattle.std.specs.Prelude.{◌≡◌, ◌≢◌, ℕ, ◌<◌, List, ◌++◌, length, All, codes}
use Rattle.serv_http.specs.declared.route.Route.{Route}
use Rattle.serv_http.specs.declared.route.Route.TheVariants as route

-- a part in braces: one or more bytes other than '/'
pub record IsPart (part : List ℕ) : Type 0 where
  pub some : 0 < length part
  pub one : All (λ b. b ≢ 47) part

-- a part between two texts
abbrev pub HasPart : List ℕ → List ℕ → List ℕ → Type 0
HasPart before after path = (part : List ℕ) × IsPart part × (path ≡ before ++ (part ++ after))

-- a part between two texts, and one after them
abbrev pub HasParts : List ℕ → List ℕ → List ℕ → Type 0
HasParts before middle path =
    (part last : List ℕ) × IsPart part × IsPart last × (path ≡ before ++ (part ++ (middle ++ last)))

-- the path is one of a route
abbrev pub IsPathOf : Route → List ℕ → Type 0
IsPathOf route.Commands path = path ≡ codes "/v1/commands"
IsPathOf route.Books path = HasPart (codes "/v1/loans/") (codes "/books") path
IsPathOf route.BooksAt path = HasParts (codes "/v1/loans/") (codes "/books/") path
IsPathOf route.Payoff path = HasParts (codes "/v1/loans/") (codes "/payoff/") path
IsPathOf route.Escrow path = HasPart (codes "/v1/loans/") (codes "/escrow") path
IsPathOf route.Report path = HasPart (codes "/v1/months/") (codes "/report") path
IsPathOf route.Trial path = HasPart (codes "/v1/months/") (codes "/trial") path
IsPathOf route.Custodial path = path ≡ codes "/v1/custodial"
IsPathOf route.Rows path = HasPart (codes "/v1/rows/") (codes "") path
IsPathOf route.Loan path = HasPart (codes "/v1/loans/") (codes "") path
IsPathOf route.History path = HasPart (codes "/v1/loans/") (codes "/history") path
IsPathOf route.Quote path = HasParts (codes "/v1/loans/") (codes "/quote/") path
IsPathOf route.Arrears path = HasPart (codes "/v1/loans/") (codes "/arrears") path
IsPathOf route.Aging path = path ≡ codes "/v1/aging"
IsPathOf route.Status path = path ≡ codes "/v1/status"
IsPathOf route.Command path = HasPart (codes "/v1/commands/") (codes "") path
IsPathOf route.Key path = HasPart (codes "/v1/keys/") (codes "") path
