-- Texts that are written over a journal.
use Rattle.std.specs.Prelude.{◌≡◌, ◌⊎◌, ℕ, ◌+◌, ◌<◌, ◌≤◌, Bool, true, false, List, [], length, Option, Some, None, ⊤}
use Rattle.std.specs.Io.KnownBytes.{Appends, IsAtEnd}
use Rattle.svc_types.specs.declared.replies.Refusal.TheVariants as refusal
use Rattle.svc_types.specs.declared.requests.Query.{Query}
use Rattle.svc_types.specs.declared.requests.Request.TheVariants as request
use Rattle.svc_core.specs.Bound.{query_bound}
use Rattle.svc_world.specs.declared.answer.Answer.{Answer}
use Rattle.svc_world.specs.World.{Accepted, world}
use Rattle.svc_world.specs.Answers.{answer_to, query_refusal}
use Rattle.serv_machine.specs.History.{Memory, in_store}
use Rattle.serv_machine.specs.Verdicts.{reply_to_request}
use Rattle.serv_report.specs.AnswerTexts.{text_of_answer}
use Rattle.serv_texts.specs.declared.status.Status.{Status}
use Rattle.serv_texts.specs.declared.status.Status.TheVariants.{NoReport, OutOfMemory, Done, WriteFault}
use Rattle.serv_words.specs.declared.texts.Text.{Text}
use Rattle.serv_words.specs.declared.texts.Text.TheVariants.{Show, Ask, Make}
use Rattle.serv_words.specs.Asked.{reads_input}
use Rattle.serv_texts.specs.Extracts.{IsExtract, extract_bound}
use Rattle.serv_texts.specs.Input.{IsUnread, Exchanges, input_limit}
use Rattle.serv_texts.specs.Journal.{IsOpened}
use Rattle.serv_disk.specs.Faults.{IsProperPrefix}
use Rattle.serv_disk.specs.Disks.{View}

-- ---- what a run has written that makes one text

-- of such a text a part is written that does not reach its end
pub record IsCutOf (IsText : List ℕ → Type 0) (written : List ℕ) : Type 0 where
  pub text : List ℕ
  pub whole : IsText text
  pub cut : IsProperPrefix written text

-- what is written by the status: such a text, a part of one, or nothing. Other statuses do not come where a text is written
abbrev pub IsWrittenAs : Status → (List ℕ → Type 0) → List ℕ → Type 0
IsWrittenAs Done IsText written = IsText written
IsWrittenAs WriteFault IsText written = IsCutOf IsText written
IsWrittenAs OutOfMemory IsText written = written ≡ []
IsWrittenAs other IsText written = ⊥

pub record Writes (status : Status) (IsText : List ℕ → Type 0) (held held' : Option (List ℕ)) : Type 0 where
  pub written : List ℕ
  pub wrote : Appends held held' written
  pub says : IsWrittenAs status IsText written

-- ---- the text

-- a query is not refused over these commands, and this text is that of its answer
pub record IsAnswerText (q : Query) (commands : List Accepted) (text : List ℕ) : Type 0 where
  pub asked : query_refusal commands q ≡ None
  pub answer : Answer
  pub is : answer_to commands q ≡ Some answer
  pub spelled : text ≡ text_of_answer answer

-- over these commands and this input: the answer to a query; the reply that its line has, an answer or the rule that refuses
-- it; an extract
abbrev pub IsTextOf : Text → List Accepted → List ℕ → List ℕ → Type 0
IsTextOf (Show q) commands input text = IsAnswerText q commands text
IsTextOf (Ask q) commands input text = text ≡ reply_to_request (in_store Memory commands) (request.Ask q)
IsTextOf (Make x) commands input text = IsExtract x commands input text

-- the steps that it may take
abbrev pub text_bound : Text → List Accepted → List ℕ → ℕ
text_bound (Show q) commands input = query_bound (world commands) q
text_bound (Ask q) commands input = query_bound (world commands) q
text_bound (Make x) commands input = extract_bound x commands input

-- the month that it asks for has no report
abbrev pub HasNoReport : Text → List Accepted → Option ℕ → Type 0
HasNoReport (Show q) commands last = query_refusal commands q ≡ Some (refusal.NotClosed last)
HasNoReport other commands last = ⊥

-- why there is none: its month has no report, or memory is short
abbrev pub IsLacking : Text → List Accepted → Status → Type 0
IsLacking text commands (NoReport last) = HasNoReport text commands last
IsLacking text commands OutOfMemory = ⊤
IsLacking text commands other = ⊥

-- ---- the run

-- what is written by the status: nothing where its month has no report; else as of any text
abbrev pub IsSaidAs : Status → Text → List Accepted → List ℕ → List ℕ → Type 0
IsSaidAs (NoReport last) text commands input written = (written ≡ []) × HasNoReport text commands last
IsSaidAs other text commands input written = IsWrittenAs other (IsTextOf text commands input) written

-- what is taken of the input that is read whole, or of one that is not read
abbrev pub IsInput : Bool → List ℕ → Option (List ℕ) → Type 0
IsInput true taken left = IsAtEnd left × (length taken < input_limit)
IsInput false taken left = taken ≡ []

-- the input is read first where the text is about it; then the text is written, or the input is not read to its end and
-- nothing is written
abbrev pub WritesText : Status → Text → List Accepted → ℕ → ℕ → Option (List ℕ) → Option (List ℕ) → Option (List ℕ) → Option (List ℕ) → Type 0
WritesText status text commands steps steps' left left' held held' =
    Exchanges (λ taken written. (((reads_input text ≡ true) × IsUnread status taken × (written ≡ []))
    ⊎ (IsInput (reads_input text) taken left' × IsSaidAs status text commands taken written))
    × (steps' ≤ steps + text_bound text commands taken)) left left' held held'

-- a journal was opened, and the text is written over its commands. The disk is left as the opening left it
pub record IsTextOver {D : Type 0} (view : D → View) (old new : D) (status : Status) (text : Text) (steps steps' : ℕ) (left left' held held' : Option (List ℕ)) : Type 0 where
  pub commands : List Accepted
  pub base : ℕ
  pub begun : ℕ
  pub opening : IsOpened view old new steps begun base commands
  pub writes : WritesText status text commands begun steps' left left' held held'
