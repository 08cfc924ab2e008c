-- The words of the command line that the program knows.
use Rattle.std.specs.Prelude.{◌≡◌, ◌≢◌, ℕ, ◌≤◌, ◌+◌, ◌-◌, ◌*◌, ◌==◌, nat_le, Bool, ◌&&◌, List, [], ◌∷◌, length, drop, codes, Option, Some, None, if◌then◌else◌}
use Rattle.std.specs.Str.{bytes_eq}
use Rattle.std.specs.Str.Parse.{digits_value}
use Rattle.svc_base.specs.Calendar.{year_of_month}
use Rattle.svc_base.specs.Text.{text_of_month, text_of_number}
use Rattle.svc_types.specs.declared.requests.Query.{Query}
use Rattle.svc_types.specs.declared.requests.Query.TheVariants as query
use Rattle.svc_types.specs.declared.requests.Request.TheVariants as request
use Rattle.svc_types.specs.Requests.{IsQuery}
use Rattle.serv_line.specs.Lines.{words_of_request}
use Rattle.serv_words.specs.declared.extracts.Extract.TheVariants as extract
use Rattle.serv_words.specs.declared.texts.Text.TheVariants.{Show, Ask, Make}
use Rattle.serv_words.specs.Asked.{IsText}
use Rattle.serv_words.specs.declared.words.Task.{Task}
use Rattle.serv_words.specs.declared.words.Task.TheVariants.{Init, Apply, Session, Import, Write, Drill, Serve}

-- two digits as a number
abbrev pub number_of_pair : ℕ → ℕ → ℕ
number_of_pair a b = 10 * (a - 48) + (b - 48)

-- the only month that a text may spell
abbrev pub month_by_digits : List ℕ → ℕ
month_by_digits (a ∷ b ∷ c ∷ d ∷ dash ∷ e ∷ f ∷ []) =
    12 * (100 * number_of_pair a b + number_of_pair c d) + (number_of_pair e f - 1)
month_by_digits text = 0

-- a month of the years 1990 to 2099
abbrev pub is_read_month : ℕ → Bool
is_read_month m = nat_le 1990 (year_of_month m) && nat_le (year_of_month m) 2099

-- the month of the years 1990 to 2099 that a text spells
unfoldable pub month_in : List ℕ → Option ℕ
month_in text =
    if is_read_month (month_by_digits text) && bytes_eq text (text_of_month (month_by_digits text)) then
    Some (month_by_digits text) else None

-- the number up to the first one that a text spells
unfoldable pub number_in : ℕ → List ℕ → Option ℕ
number_in most text =
    if nat_le (digits_value 10 text) most && bytes_eq text (text_of_number (digits_value 10 text)) then
    Some (digits_value 10 text) else None

-- the texts that a word asks for
abbrev pub text_of_word : List ℕ → Option Task
text_of_word word =
    if bytes_eq word (codes "statement") then Some (Write (Make extract.Statement))
    else (if bytes_eq word (codes "confirm") then Some (Write (Make extract.Confirm))
    else (if bytes_eq word (codes "pmi") then Some (Write (Make extract.Pmi))
    else (if bytes_eq word (codes "pmi-drops") then Some (Write (Make extract.PmiDrops)) else None)))

abbrev pub task_of_word : List ℕ → Option Task
task_of_word word =
    if bytes_eq word (codes "init") then Some Init
    else (if bytes_eq word (codes "apply") then Some Apply
    else (if bytes_eq word (codes "session") then Some Session
    else (if bytes_eq word (codes "import") then Some Import
    else (if bytes_eq word (codes "custodial") then Some (Write (Show query.Custodial)) else text_of_word word))))

-- what a word asks for about a month
abbrev pub task_about : List ℕ → Option ℕ → Option Task
task_about word None = None
task_about word (Some month) =
    if bytes_eq word (codes "report") then Some (Write (Show (query.Report month)))
    else (if bytes_eq word (codes "trial") then Some (Write (Show (query.Trial month))) else None)

-- the generated year of 1 to 500 loans
abbrev pub year_of : Option ℕ → Option ℕ → Option Task
year_of None number = None
year_of (Some loans) None = None
year_of (Some loans) (Some number) = if nat_le 1 loans && nat_le loans 500 then Some (Drill loans number) else None

-- 1 to 1,000,000 connections to a port from 1 to 65,535
abbrev pub served_at : Option ℕ → Option ℕ → Option Task
served_at None links = None
served_at (Some port) None = None
served_at (Some port) (Some links) = if nat_le 1 port && nat_le 1 links then Some (Serve port links) else None

-- two numbers up to 4,294,967,295 of which the second is not below the first
abbrev pub range_of : Option ℕ → Option ℕ → Option (ℕ × ℕ)
range_of None to = None
range_of (Some from) None = None
range_of (Some from) (Some to) = if nat_le from to then Some (from, to) else None

abbrev pub range_in : List ℕ → List ℕ → Option (ℕ × ℕ)
range_in from to = range_of (number_in 4294967295 from) (number_in 4294967295 to)

-- a span of commands begins at 1 or behind it
abbrev pub span : ℕ → ℕ → Option Task
span first last = if nat_le 1 first then Some (Write (Make (extract.Reconcile first last))) else None

-- what a word asks for about a range of loans, or of commands
abbrev pub task_over : List ℕ → Option (ℕ × ℕ) → Option Task
task_over word None = None
task_over word (Some (from, to)) =
    if bytes_eq word (codes "transfer") then Some (Write (Make (extract.Transfer from to)))
    else (if bytes_eq word (codes "remain") then Some (Write (Make (extract.Remain from to)))
    else (if bytes_eq word (codes "reconcile") then span from to else None))

-- what a word asks for about two numbers
abbrev pub task_with : List ℕ → List ℕ → List ℕ → Option Task
task_with word first second =
    if bytes_eq word (codes "drill") then year_of (number_in 999999 first) (number_in 999999 second)
    else (if bytes_eq word (codes "serve") then served_at (number_in 65535 first) (number_in 1000000 second)
    else task_over word (range_in first second))

-- words ask for no other text, no year of more loans, and no further port or connections
abbrev pub IsTask : Task → Type 0
IsTask Init = Unit {0}
IsTask Apply = Unit {0}
IsTask Session = Unit {0}
IsTask Import = Unit {0}
IsTask (Write text) = IsText text
IsTask (Drill loans number) = loans ≤ 500
IsTask (Serve port links) = (port ≤ 65535) × (links ≤ 1000000)

-- a journal's name, which is not empty, and what is to be done, for two of these a month, and for two of these two numbers
abbrev pub task_in : List (List ℕ) → Option Task
task_in (journal ∷ word ∷ []) = if length journal == 0 then None else task_of_word word
task_in (journal ∷ word ∷ month ∷ []) =
    if length journal == 0 then None else task_about word (month_in month)
task_in (journal ∷ word ∷ first ∷ second ∷ []) = if length journal == 0 then None else task_with word first second
task_in words = None

-- the port that links are served at, or 0
abbrev pub port_of_task : Option Task → ℕ
port_of_task (Some (Serve port links)) = port
port_of_task other = 0

-- ---- any query

-- the words of a query: those of its line after `?`
abbrev pub words_of_query : Query → List (List ℕ)
words_of_query q = drop 1 (words_of_request (request.Ask q))

-- words that ask a query: a journal's name, which is not empty, `ask`, and the words of the query
pub record IsAsking (words : List (List ℕ)) (q : Query) : Type 0 where
  pub well : IsQuery q
  pub journal : List ℕ
  pub named : journal ≢ []
  pub words_are : words ≡ journal ∷ codes "ask" ∷ words_of_query q

-- words that the program does not know: they are no task, and ask no query
abbrev pub IsUnknown : List (List ℕ) → Type 0
IsUnknown words = (task_in words ≡ None) × ((q : Query) → IsAsking words q → ⊥)

-- ---- any task

-- these words ask for it; any query is asked by its own words
abbrev pub IsGiven : List (List ℕ) → Task → Type 0
IsGiven words (Write (Ask q)) = IsAsking words q
IsGiven words other = task_in words ≡ Some other
