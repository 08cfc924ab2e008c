-- The table of forms: each one's word and its fields; and which form a request has, with which values.
use Rattle.std.specs.Prelude.{ℕ, List, [], ◌∷◌, codes}
use Rattle.svc_types.specs.declared.account.Designation.{Designation}
use Rattle.svc_types.specs.declared.account.Designation.TheVariants as over
use Rattle.svc_types.specs.declared.requests.Command.{Command}
use Rattle.svc_types.specs.declared.requests.Command.TheVariants as command
use Rattle.svc_types.specs.declared.requests.Query.{Query}
use Rattle.svc_types.specs.declared.requests.Query.TheVariants as query
use Rattle.svc_types.specs.declared.terms.Terms.{Terms}
use Rattle.svc_forms.specs.declared.field.Field.{Field}
use Rattle.svc_forms.specs.declared.field.Field.TheVariants as field
use Rattle.svc_forms.specs.declared.form.Form.{Form}
use Rattle.svc_forms.specs.declared.form.Form.TheVariants as form
use Rattle.svc_forms.specs.declared.form.Question.{Question}
use Rattle.svc_forms.specs.declared.form.Question.TheVariants as question
use Rattle.svc_forms.specs.declared.value.Value.{Value}
use Rattle.svc_forms.specs.declared.value.Value.TheVariants as value

-- ---- commands

-- the word of a form of commands
abbrev pub word_of : Form → List ℕ
word_of form.Day = codes "day"
word_of form.Board = codes "board"
word_of form.Pay = codes "pay"
word_of form.Curtail = codes "curtail"
word_of form.Payoff = codes "payoff"
word_of form.Deposit = codes "deposit"
word_of form.Disburse = codes "disburse"
word_of form.Refund = codes "refund"
word_of form.Waive = codes "waive"
word_of form.Reverse = codes "reverse"
word_of form.Line = codes "line"
word_of form.Drop = codes "drop"
word_of form.Analyse = codes "analyse"
word_of form.Close = codes "close"
word_of form.Remit = codes "remit"
word_of form.Retype = codes "retype"

-- its fields, in their order
abbrev pub fields_of : Form → List Field
fields_of form.Day = field.Day ∷ []
fields_of form.Board =
    field.Loan ∷ field.Day ∷ field.Principal ∷ field.Rate ∷ field.Fee ∷ field.Pi ∷ field.Term ∷ field.First
    ∷ field.Grace ∷ field.Late ∷ field.Cushion ∷ field.Escrow ∷ field.Type ∷ []
fields_of form.Pay = field.Loan ∷ field.Day ∷ field.Amount ∷ field.Designation ∷ []
fields_of form.Curtail = field.Loan ∷ field.Day ∷ field.Amount ∷ []
fields_of form.Payoff = field.Loan ∷ field.Day ∷ field.Amount ∷ []
fields_of form.Deposit = field.Loan ∷ field.Day ∷ field.Amount ∷ []
fields_of form.Disburse = field.Loan ∷ field.Day ∷ field.Amount ∷ field.Line ∷ []
fields_of form.Refund = field.Loan ∷ field.Amount ∷ []
fields_of form.Waive = field.Loan ∷ field.Amount ∷ []
fields_of form.Reverse = field.Loan ∷ field.Number ∷ []
fields_of form.Line = field.Loan ∷ field.Line ∷ field.Kind ∷ field.Month ∷ field.Every ∷ field.Amount ∷ []
fields_of form.Drop = field.Loan ∷ field.Line ∷ []
fields_of form.Analyse = field.Loan ∷ field.Surplus ∷ field.Short ∷ field.Deficient ∷ []
fields_of form.Close = field.Period ∷ []
fields_of form.Remit = field.Period ∷ []
fields_of form.Retype = field.Loan ∷ field.Period ∷ field.Type ∷ []

-- the form of a command
abbrev pub form_of : Command → Form
form_of (command.Day d) = form.Day
form_of (command.Board l t) = form.Board
form_of (command.Pay l d c over) = form.Pay
form_of (command.Curtail l d c) = form.Curtail
form_of (command.Payoff l d c) = form.Payoff
form_of (command.Deposit l d c) = form.Deposit
form_of (command.Disburse l d c line) = form.Disburse
form_of (command.Refund l c) = form.Refund
form_of (command.Waive l c) = form.Waive
form_of (command.Reverse l number) = form.Reverse
form_of (command.Line l line kind month every c) = form.Line
form_of (command.Drop l line) = form.Drop
form_of (command.Analyse l p) = form.Analyse
form_of (command.Close m) = form.Close
form_of (command.Remit m) = form.Remit
form_of (command.Retype l m kind) = form.Retype

-- the values of a loan's terms
abbrev pub values_of_terms : Terms → List Value
values_of_terms t =
    value.Day t.boarded ∷ value.Amount t.principal ∷ value.Number t.rate ∷ value.Number t.fee
    ∷ value.Amount t.pi ∷ value.Number t.term ∷ value.Month t.first ∷ value.Number t.grace ∷ value.Number t.late
    ∷ value.Number t.cushion ∷ value.Amount t.escrow ∷ value.Type t.kind ∷ []

-- the values of a payment; a regular one says nothing of what is over
abbrev pub values_of_designation : Designation → List Value
values_of_designation over.Regular = []
values_of_designation over.Principal = value.Designation over.Principal ∷ []
values_of_designation over.Escrow = value.Designation over.Escrow ∷ []

-- the values of a command's fields, in their order
abbrev pub values_of : Command → List Value
values_of (command.Day d) = value.Day d ∷ []
values_of (command.Board l t) = value.Number l ∷ values_of_terms t
values_of (command.Pay l d c over) =
    value.Number l ∷ value.Day d ∷ value.Amount c ∷ values_of_designation over
values_of (command.Curtail l d c) = value.Number l ∷ value.Day d ∷ value.Amount c ∷ []
values_of (command.Payoff l d c) = value.Number l ∷ value.Day d ∷ value.Amount c ∷ []
values_of (command.Deposit l d c) = value.Number l ∷ value.Day d ∷ value.Amount c ∷ []
values_of (command.Disburse l d c line) =
    value.Number l ∷ value.Day d ∷ value.Amount c ∷ value.Number line ∷ []
values_of (command.Refund l c) = value.Number l ∷ value.Amount c ∷ []
values_of (command.Waive l c) = value.Number l ∷ value.Amount c ∷ []
values_of (command.Reverse l number) = value.Number l ∷ value.Number number ∷ []
values_of (command.Line l line kind month every c) =
    value.Number l ∷ value.Number line ∷ value.Kind kind ∷ value.Number month ∷ value.Number every
    ∷ value.Amount c ∷ []
values_of (command.Drop l line) = value.Number l ∷ value.Number line ∷ []
values_of (command.Analyse l p) = value.Number l ∷ value.Surplus p.surplus ∷ value.Part p.short ∷ value.Part p.deficient ∷ []
values_of (command.Close m) = value.Month m ∷ []
values_of (command.Remit m) = value.Month m ∷ []
values_of (command.Retype l m kind) = value.Number l ∷ value.Month m ∷ value.Type kind ∷ []

-- ---- queries

-- the word of a form of queries
abbrev pub word_of_question : Question → List ℕ
word_of_question question.Books = codes "books"
word_of_question question.At = codes "at"
word_of_question question.Payoff = codes "payoff"
word_of_question question.Escrow = codes "escrow"
word_of_question question.Report = codes "report"
word_of_question question.Trial = codes "trial"
word_of_question question.Custodial = codes "custodial"
word_of_question question.Rows = codes "rows"
word_of_question question.Loan = codes "loan"
word_of_question question.History = codes "history"
word_of_question question.Quote = codes "quote"
word_of_question question.Arrears = codes "arrears"
word_of_question question.Aging = codes "aging"
word_of_question question.Status = codes "status"
word_of_question question.Command = codes "command"
word_of_question question.Key = codes "key"

-- its fields, in their order
abbrev pub fields_of_question : Question → List Field
fields_of_question question.Books = field.Loan ∷ []
fields_of_question question.At = field.Loan ∷ field.Day ∷ []
fields_of_question question.Payoff = field.Loan ∷ field.Day ∷ []
fields_of_question question.Escrow = field.Loan ∷ []
fields_of_question question.Report = field.Period ∷ []
fields_of_question question.Trial = field.Period ∷ []
fields_of_question question.Custodial = []
fields_of_question question.Rows = field.Number ∷ []
fields_of_question question.Loan = field.Loan ∷ []
fields_of_question question.History = field.Loan ∷ []
fields_of_question question.Quote = field.Loan ∷ field.Day ∷ []
fields_of_question question.Arrears = field.Loan ∷ []
fields_of_question question.Aging = []
fields_of_question question.Status = []
fields_of_question question.Command = field.Number ∷ []
fields_of_question question.Key = field.Key ∷ []

-- the form of a query
abbrev pub question_of : Query → Question
question_of (query.Books l) = question.Books
question_of (query.At l d) = question.At
question_of (query.Payoff l d) = question.Payoff
question_of (query.Escrow l) = question.Escrow
question_of (query.Report m) = question.Report
question_of (query.Trial m) = question.Trial
question_of query.Custodial = question.Custodial
question_of (query.Rows number) = question.Rows
question_of (query.Loan l) = question.Loan
question_of (query.History l) = question.History
question_of (query.Quote l d) = question.Quote
question_of (query.Arrears l) = question.Arrears
question_of query.Aging = question.Aging
question_of query.Status = question.Status
question_of (query.Command number) = question.Command
question_of (query.Key key) = question.Key

-- the values of a query's fields, in their order
abbrev pub values_of_query : Query → List Value
values_of_query (query.Books l) = value.Number l ∷ []
values_of_query (query.At l d) = value.Number l ∷ value.Day d ∷ []
values_of_query (query.Payoff l d) = value.Number l ∷ value.Day d ∷ []
values_of_query (query.Escrow l) = value.Number l ∷ []
values_of_query (query.Report m) = value.Month m ∷ []
values_of_query (query.Trial m) = value.Month m ∷ []
values_of_query query.Custodial = []
values_of_query (query.Rows number) = value.Number number ∷ []
values_of_query (query.Loan l) = value.Number l ∷ []
values_of_query (query.History l) = value.Number l ∷ []
values_of_query (query.Quote l d) = value.Number l ∷ value.Day d ∷ []
values_of_query (query.Arrears l) = value.Number l ∷ []
values_of_query query.Aging = []
values_of_query query.Status = []
values_of_query (query.Command number) = value.Number number ∷ []
values_of_query (query.Key key) = value.Key key ∷ []
