-- Which queries, extracts and texts words ask for, and which of these are about the input.
use Rattle.std.specs.Prelude.{◌≤◌, Bool, true, false}
use Rattle.svc_base.specs.Text.{IsReadMonth}
use Rattle.svc_types.specs.Requests.{IsQuery}
use Rattle.svc_types.specs.declared.requests.Query.{Query}
use Rattle.svc_types.specs.declared.requests.Query.TheVariants as query
use Rattle.serv_words.specs.declared.extracts.Extract.{Extract}
use Rattle.serv_words.specs.declared.extracts.Extract.TheVariants.{Transfer, Remain, Statement, Reconcile}
use Rattle.serv_words.specs.declared.texts.Text.{Text}
use Rattle.serv_words.specs.declared.texts.Text.TheVariants.{Show, Ask, Make}

-- the queries that words of their own ask
abbrev pub IsShowing : Query → Type 0
IsShowing (query.Report m) = IsReadMonth m
IsShowing (query.Trial m) = IsReadMonth m
IsShowing query.Custodial = Unit {0}
IsShowing other = ⊥

-- a range and a span go up, and commands are numbered from 1
abbrev pub IsAskedExtract : Extract → Type 0
IsAskedExtract (Transfer from to) = from ≤ to
IsAskedExtract (Remain from to) = from ≤ to
IsAskedExtract (Reconcile first last) = (1 ≤ first) × (first ≤ last)
IsAskedExtract other = Unit {0}

abbrev pub IsText : Text → Type 0
IsText (Show q) = IsShowing q
IsText (Ask q) = IsQuery q
IsText (Make x) = IsAskedExtract x

-- whether an extract is about the input
abbrev pub is_about_input : Extract → Bool
is_about_input (Transfer from to) = false
is_about_input (Remain from to) = false
is_about_input Statement = false
is_about_input other = true

-- whether the input is read for a text
abbrev pub reads_input : Text → Bool
reads_input (Make x) = is_about_input x
reads_input other = false
