-- Which requests are well formed: those whose values have a spelling.
use Rattle.std.specs.Prelude.{ℕ, ◌<◌, ◌^◌}
use Rattle.svc_base.specs.Calendar.{IsReadDay}
use Rattle.svc_base.specs.Text.{IsReadAmount, IsReadMonth}
use Rattle.svc_types.specs.declared.terms.Terms.{Terms}
use Rattle.svc_types.specs.declared.escrow.Plan.{Plan}
use Rattle.svc_types.specs.declared.requests.Command.{Command}
use Rattle.svc_types.specs.declared.requests.Command.TheVariants as command
use Rattle.svc_types.specs.declared.requests.Query.{Query}
use Rattle.svc_types.specs.declared.requests.Query.TheVariants as query
use Rattle.svc_types.specs.declared.requests.Request.{Request}
use Rattle.svc_types.specs.declared.requests.Request.TheVariants as request
use Rattle.svc_types.specs.Keys.{IsKey}
use Rattle.svc_types.specs.Words.{IsReadPart}

-- numbers that requests may name
abbrev pub IsReadNumber : ℕ → Type 0
IsReadNumber n = n < 2 ^ 32

-- terms that a request can name; whether they are sound is another question
pub record IsReadTerms (t : Terms) : Type 0 where
  pub boarded : IsReadDay t.boarded
  pub principal : IsReadAmount t.principal
  pub rate : IsReadNumber t.rate
  pub fee : IsReadNumber t.fee
  pub pi : IsReadAmount t.pi
  pub term : IsReadNumber t.term
  pub first : IsReadMonth t.first
  pub grace : IsReadNumber t.grace
  pub late : IsReadNumber t.late
  pub cushion : IsReadNumber t.cushion
  pub escrow : IsReadAmount t.escrow

-- the choices of an analysis
pub record IsReadPlan (p : Plan) : Type 0 where
  pub short : IsReadPart p.short
  pub deficient : IsReadPart p.deficient

-- a command whose numbers, amounts, days and months have a spelling
abbrev pub IsCommand : Command → Type 0
IsCommand (command.Day d) = IsReadDay d
IsCommand (command.Board l t) = IsReadNumber l × IsReadTerms t
IsCommand (command.Pay l d c over) = IsReadNumber l × IsReadDay d × IsReadAmount c
IsCommand (command.Curtail l d c) = IsReadNumber l × IsReadDay d × IsReadAmount c
IsCommand (command.Payoff l d c) = IsReadNumber l × IsReadDay d × IsReadAmount c
IsCommand (command.Deposit l d c) = IsReadNumber l × IsReadDay d × IsReadAmount c
IsCommand (command.Disburse l d c line) = IsReadNumber l × IsReadDay d × IsReadAmount c × IsReadNumber line
IsCommand (command.Refund l c) = IsReadNumber l × IsReadAmount c
IsCommand (command.Waive l c) = IsReadNumber l × IsReadAmount c
IsCommand (command.Reverse l number) = IsReadNumber l × IsReadNumber number
IsCommand (command.Line l line kind month every c) =
    IsReadNumber l × IsReadNumber line × IsReadNumber month × IsReadNumber every × IsReadAmount c
IsCommand (command.Drop l line) = IsReadNumber l × IsReadNumber line
IsCommand (command.Analyse l p) = IsReadNumber l × IsReadPlan p
IsCommand (command.Close m) = IsReadMonth m
IsCommand (command.Remit m) = IsReadMonth m
IsCommand (command.Retype l m kind) = IsReadNumber l × IsReadMonth m

-- a query whose numbers, days and months have a spelling
abbrev pub IsQuery : Query → Type 0
IsQuery (query.Books l) = IsReadNumber l
IsQuery (query.At l d) = IsReadNumber l × IsReadDay d
IsQuery (query.Payoff l d) = IsReadNumber l × IsReadDay d
IsQuery (query.Escrow l) = IsReadNumber l
IsQuery (query.Report m) = IsReadMonth m
IsQuery (query.Trial m) = IsReadMonth m
IsQuery query.Custodial = Unit {0}
IsQuery (query.Rows number) = IsReadNumber number
IsQuery (query.Loan l) = IsReadNumber l
IsQuery (query.History l) = IsReadNumber l
IsQuery (query.Quote l d) = IsReadNumber l × IsReadDay d
IsQuery (query.Arrears l) = IsReadNumber l
IsQuery query.Aging = Unit {0}
IsQuery query.Status = Unit {0}
IsQuery (query.Command number) = IsReadNumber number
IsQuery (query.Key key) = IsKey key

-- a request that has a spelling
abbrev pub IsRequest : Request → Type 0
IsRequest (request.Do key c) = IsKey key × IsCommand c
IsRequest (request.Ask q) = IsQuery q
