-- Texts that are made of a journal's commands, and of the input where they are about it.
use Rattle.std.specs.Prelude.{◌≡◌, ℕ, List}
use Rattle.svc_spec.specs.Months.{cost_of_month}
use Rattle.svc_world.specs.World.{World, Accepted, world}
use Rattle.serv_line.specs.Replies.{text_of_bad, ended}
use Rattle.servicing_transfer.specs.Confirmations.{IsConfirmation}
use Rattle.servicing_transfer.specs.Parts.{in_range, out_of_range, part_of}
use Rattle.servicing_transfer.specs.Stated.{IsBadLine}
use Rattle.servicing_transfer.specs.StatementTexts.{text_of_statement}
use Rattle.pmi_track.specs.Texts.{insurance_text, insurance_cost, drop_text}
use Rattle.bank_recon.specs.Texts.{IsReconText}
use Rattle.serv_words.specs.declared.extracts.Extract.{Extract}
use Rattle.serv_words.specs.declared.extracts.Extract.TheVariants.{Transfer, Remain, Statement, Confirm, Pmi, PmiDrops, Reconcile}
use Rattle.std.specs.List.{flat_map}
use Rattle.serv_engine.specs.Histories.{line_of_command}

-- the lines of commands, each with a line feed: what `apply` is given to accept them again
abbrev pub lines_of_commands : List Accepted → List ℕ
lines_of_commands commands = flat_map (λ a. ended (line_of_command a)) commands

-- how a statement differs from the books; of an input that is no statement, its first line that does not fit
pub data IsConfirmed (w : World) (input text : List ℕ) : Type 0 where
  stated : IsConfirmation w input text → IsConfirmed w input text
  faulty : (line : ℕ) → IsBadLine input line → text ≡ text_of_bad line → IsConfirmed w input text

-- the text over these commands, and about this input: the lines of their part for the loans of a range, or for all other
-- loans; the statement of all loans; how a statement differs from the books; whether the insurance of a file's loans ends,
-- and the commands that drop it; how a bank's movements match the rows of a span of the commands
abbrev pub IsExtract : Extract → List Accepted → List ℕ → List ℕ → Type 0
IsExtract (Transfer from to) commands input text = text ≡ lines_of_commands (part_of (in_range from to) commands)
IsExtract (Remain from to) commands input text = text ≡ lines_of_commands (part_of (out_of_range from to) commands)
IsExtract Statement commands input text = text ≡ text_of_statement (world commands)
IsExtract Confirm commands input text = IsConfirmed (world commands) input text
IsExtract Pmi commands input text = text ≡ insurance_text commands input
IsExtract PmiDrops commands input text = text ≡ drop_text commands input
IsExtract (Reconcile first last) commands input text = IsReconText commands first last input text

-- the steps that it may take
abbrev pub extract_bound : Extract → List Accepted → List ℕ → ℕ
extract_bound Pmi commands input = insurance_cost cost_of_month commands input
extract_bound PmiDrops commands input = insurance_cost cost_of_month commands input
extract_bound other commands input = 0
