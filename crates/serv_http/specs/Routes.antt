-- The routes, and the questions that their paths spell.
use Rattle.std.specs.Prelude.{◌≡◌, ℕ, List, [], ◌∷◌, ◌++◌, ◌==◌, if◌then◌else◌, Option, None, option_map, Result, Ok, Err, codes}
use Rattle.std.specs.List.{list_any}
use Rattle.matchit.specs.Rows.{RowsOf}
use Rattle.matchit.specs.Seek.{first}
use Rattle.matchit.specs.Order.{placed}
use Rattle.matchit.specs.Route.{Scan, parse_route}
use Rattle.matchit.specs.Router.{RouteOf, route_from}
use Rattle.matchit.specs.declared.error.InsertError.{InsertError}
use Rattle.svc_base.specs.Text.{text_of_number, text_of_day, text_of_month}
use Rattle.svc_types.specs.Requests.{IsQuery}
use Rattle.svc_types.specs.declared.requests.Query.{Query}
use Rattle.svc_types.specs.declared.requests.Query.TheVariants as query
use Rattle.serv_http.specs.declared.route.Route.{Route}
use Rattle.serv_http.specs.declared.route.Route.TheVariants as route

-- the rows of a router
abbrev pub RouteRows : Type 0
RouteRows = RowsOf (RouteOf Route)

-- the routes, as the router reads them: a part in braces is one or more bytes other than '/'
abbrev pub routes : List (List ℕ × Route)
routes =
    (codes "/v1/commands", route.Commands)
    ∷ (codes "/v1/loans/{loan}/books", route.Books)
    ∷ (codes "/v1/loans/{loan}/books/{day}", route.BooksAt)
    ∷ (codes "/v1/loans/{loan}/payoff/{day}", route.Payoff)
    ∷ (codes "/v1/loans/{loan}/escrow", route.Escrow)
    ∷ (codes "/v1/months/{period}/report", route.Report)
    ∷ (codes "/v1/months/{period}/trial", route.Trial)
    ∷ (codes "/v1/custodial", route.Custodial)
    ∷ (codes "/v1/rows/{number}", route.Rows)
    ∷ (codes "/v1/loans/{loan}", route.Loan)
    ∷ (codes "/v1/loans/{loan}/history", route.History)
    ∷ (codes "/v1/loans/{loan}/quote/{day}", route.Quote)
    ∷ (codes "/v1/loans/{loan}/arrears", route.Arrears)
    ∷ (codes "/v1/aging", route.Aging)
    ∷ (codes "/v1/status", route.Status)
    ∷ (codes "/v1/commands/{number}", route.Command)
    ∷ (codes "/v1/keys/{key}", route.Key)
    ∷ []

-- the rows with a route more
abbrev pub with_route : Result Scan InsertError → Route → RouteRows → RouteRows
with_route (Ok s) r rows = placed (s.pattern, route_from s r) rows
with_route (Err e) r rows = rows

-- the rows with these routes more, one after another
abbrev pub with_routes : List (List ℕ × Route) → RouteRows → RouteRows
with_routes [] rows = rows
with_routes ((text, r) ∷ more) rows = with_routes more (with_route (parse_route text) r rows)

-- the rows of all routes
unfoldable pub table : RouteRows
table = with_routes routes []

-- the route that a path matches
abbrev pub route_of_path : List ℕ → Option Route
route_of_path path = option_map (λ (r : RouteOf Route). r.value) (first table path)

-- the route that a request target matches: a target with '?' matches none
abbrev pub route_of : List ℕ → Option Route
route_of target = if list_any (λ b. b == 63) target then None else route_of_path target

-- the route of a question
abbrev pub route_of_query : Query → Route
route_of_query (query.Books l) = route.Books
route_of_query (query.At l d) = route.BooksAt
route_of_query (query.Payoff l d) = route.Payoff
route_of_query (query.Escrow l) = route.Escrow
route_of_query (query.Report m) = route.Report
route_of_query (query.Trial m) = route.Trial
route_of_query query.Custodial = route.Custodial
route_of_query (query.Rows n) = route.Rows
route_of_query (query.Loan l) = route.Loan
route_of_query (query.History l) = route.History
route_of_query (query.Quote l d) = route.Quote
route_of_query (query.Arrears l) = route.Arrears
route_of_query query.Aging = route.Aging
route_of_query query.Status = route.Status
route_of_query (query.Command n) = route.Command
route_of_query (query.Key key) = route.Key

-- the path that asks it
unfoldable pub path_of_query : Query → List ℕ
path_of_query (query.Books l) = codes "/v1/loans/" ++ (text_of_number l ++ codes "/books")
path_of_query (query.At l d) = codes "/v1/loans/" ++ (text_of_number l ++ (codes "/books/" ++ text_of_day d))
path_of_query (query.Payoff l d) =
    codes "/v1/loans/" ++ (text_of_number l ++ (codes "/payoff/" ++ text_of_day d))
path_of_query (query.Escrow l) = codes "/v1/loans/" ++ (text_of_number l ++ codes "/escrow")
path_of_query (query.Report m) = codes "/v1/months/" ++ (text_of_month m ++ codes "/report")
path_of_query (query.Trial m) = codes "/v1/months/" ++ (text_of_month m ++ codes "/trial")
path_of_query query.Custodial = codes "/v1/custodial"
path_of_query (query.Rows n) = codes "/v1/rows/" ++ text_of_number n
path_of_query (query.Loan l) = codes "/v1/loans/" ++ text_of_number l
path_of_query (query.History l) = codes "/v1/loans/" ++ (text_of_number l ++ codes "/history")
path_of_query (query.Quote l d) =
    codes "/v1/loans/" ++ (text_of_number l ++ (codes "/quote/" ++ text_of_day d))
path_of_query (query.Arrears l) = codes "/v1/loans/" ++ (text_of_number l ++ codes "/arrears")
path_of_query query.Aging = codes "/v1/aging"
path_of_query query.Status = codes "/v1/status"
path_of_query (query.Command n) = codes "/v1/commands/" ++ text_of_number n
path_of_query (query.Key key) = codes "/v1/keys/" ++ key

-- a path of this route asks the question
pub record Spells (r : Route) (path : List ℕ) (q : Query) : Type 0 where
  pub formed : IsQuery q
  pub routed : r ≡ route_of_query q
  pub spelled : path ≡ path_of_query q
