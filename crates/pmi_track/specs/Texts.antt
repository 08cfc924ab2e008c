-- What is written of a file of insured loans.
use Rattle.std.specs.Prelude.{ℕ, List, [], ◌∷◌, ◌++◌, Option, Some, None, codes}
use Rattle.std.specs.List.{flat_map, sum_by}
use Rattle.std.specs.Option.{option_map_or}
use Rattle.svc_base.specs.Text.{text_of_number, text_of_day}
use Rattle.svc_types.specs.declared.replies.Refusal.{Refusal}
use Rattle.svc_types.specs.declared.requests.Command.TheVariants as command
use Rattle.svc_types.specs.declared.requests.Request.TheVariants as request
use Rattle.svc_spec.specs.Accounts.{Account}
use Rattle.svc_world.specs.World.{World, Accepted, world}
use Rattle.serv_line.specs.Lines.{line_of}
use Rattle.serv_line.specs.Refusals.{text_of_refusal}
use Rattle.serv_line.specs.Replies.{ended, amount_field, number_field}
use Rattle.serv_rows.specs.Texts.{text_of_bad_row}
use Rattle.pmi_track.specs.declared.insured_loan.InsuredLoan.{InsuredLoan}
use Rattle.pmi_track.specs.declared.insured_loan.InsuredRow.{InsuredRow}
use Rattle.pmi_track.specs.declared.insured_loan.InsuredRow.TheVariants.{Row, Bad}
use Rattle.pmi_track.specs.declared.output.Output.{Output}
use Rattle.pmi_track.specs.declared.output.Output.TheVariants.{Lines, Drops}
use Rattle.pmi_track.specs.declared.pmi_outcome.PmiOutcome.{PmiOutcome}
use Rattle.pmi_track.specs.declared.pmi_outcome.PmiOutcome.TheVariants.{Runs, Ends}
use Rattle.pmi_track.specs.declared.pmi_outcome.Cause.{Cause}
use Rattle.pmi_track.specs.declared.pmi_outcome.Cause.TheVariants.{PaidOff, Automatic, Asked}
use Rattle.pmi_track.specs.declared.pmi_outcome.Denial.{Denial}
use Rattle.pmi_track.specs.declared.pmi_outcome.Denial.TheVariants.{NotCurrent, Above}
use Rattle.pmi_track.specs.Insured.{insurance_refusal, outcome_in, outcome_cost}
use Rattle.pmi_track.specs.Rows.{insured_in}

-- ---- a line

abbrev pub text_of_cause : Cause → List ℕ
text_of_cause PaidOff = codes "PaidOff"
text_of_cause Automatic = codes "Automatic"
text_of_cause Asked = codes "Asked"

-- why a request was denied, with its code
unfoldable pub text_of_denial : Denial → List ℕ
text_of_denial (NotCurrent day) = codes " denied 1 NotCurrent " ++ text_of_day day
text_of_denial (Above balance) = amount_field (codes "denied 2 Above") balance

-- what has become of an insurance
unfoldable pub text_of_ending : PmiOutcome → List ℕ
text_of_ending (Ends day cause) = codes " ends " ++ (text_of_day day ++ (32 ∷ text_of_cause cause))
text_of_ending (Runs denial) = codes " runs" ++ option_map_or text_of_denial denial []

-- the line of a loan
unfoldable pub text_of_outcome : ℕ → PmiOutcome → List ℕ
text_of_outcome loan o = ended (codes "pmi " ++ (text_of_number loan ++ text_of_ending o))

-- ---- the command that drops the escrow line of an ended insurance

-- the key of such a command: both numbers, so that a file may come twice
abbrev pub drop_key : ℕ → ℕ → List ℕ
drop_key loan line = codes "pmi-" ++ (text_of_number loan ++ (codes "-" ++ text_of_number line))

-- what stands behind its key
abbrev pub drop_words : ℕ → ℕ → List ℕ
drop_words loan line = number_field (codes "drop") loan ++ (32 ∷ text_of_number line)

-- the line of the command that drops an escrow line of a loan
unfoldable pub text_of_drop : ℕ → ℕ → List ℕ
text_of_drop loan line = ended (line_of (request.Do (drop_key loan line) (command.Drop loan line)))

-- ---- what is written of a file: its insurances, or the commands that drop the lines of ended ones

-- of a loan that something has become of
abbrev pub outcome_text : Output → InsuredLoan → PmiOutcome → List ℕ
outcome_text Lines i o = text_of_outcome i.loan o
outcome_text Drops i (Ends day cause) = text_of_drop i.loan i.line
outcome_text Drops i (Runs denial) = []

-- of one that is refused
abbrev pub refusal_text : Output → Refusal → List ℕ
refusal_text Lines why = text_of_refusal why
refusal_text Drops why = []

-- of a row that is bad
abbrev pub bad_text : Output → ℕ → ℕ → List ℕ
bad_text Lines row column = text_of_bad_row row column
bad_text Drops row column = []

abbrev pub loan_text : Output → InsuredLoan → Option Refusal → Option PmiOutcome → List ℕ
loan_text out i (Some why) o = refusal_text out why
loan_text out i None o = option_map_or (outcome_text out i) o []

abbrev pub row_text : Output → World → InsuredRow → List ℕ
row_text out w (Row i) = loan_text out i (insurance_refusal w i) (outcome_in w i)
row_text out w (Bad row column) = bad_text out row column

-- of all rows; without the header the first column of row 1 is bad
abbrev pub rows_text : Output → World → Option (List InsuredRow) → List ℕ
rows_text out w None = bad_text out 1 1
rows_text out w (Some rows) = flat_map (row_text out w) rows

-- of a file, after the accepted commands
unfoldable pub file_text : Output → List Accepted → List ℕ → List ℕ
file_text out h bytes = rows_text out (world h) (insured_in bytes)

-- what is written of a file's insurances
abbrev pub insurance_text : List Accepted → List ℕ → List ℕ
insurance_text h bytes = file_text Lines h bytes

-- the commands of a file's rows whose insurance has ended
abbrev pub drop_text : List Accepted → List ℕ → List ℕ
drop_text h bytes = file_text Drops h bytes

-- ---- steps

abbrev pub row_cost : (Account → ℕ → ℕ) → World → InsuredRow → ℕ
row_cost cost w (Row i) = outcome_cost cost w i
row_cost cost w (Bad row column) = 0

abbrev pub rows_cost : (Account → ℕ → ℕ) → World → Option (List InsuredRow) → ℕ
rows_cost cost w None = 0
rows_cost cost w (Some rows) = sum_by (row_cost cost w) rows

-- the steps that a file takes at most
unfoldable pub insurance_cost : (Account → ℕ → ℕ) → List Accepted → List ℕ → ℕ
insurance_cost cost h bytes = rows_cost cost (world h) (insured_in bytes)
