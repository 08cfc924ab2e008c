-- The rows of a file, one after another.
use Rattle.std.proofs.Common.{◌≡◌, ◌⊎◌, ℕ, ◌+◌, ◌-◌, ◌<◌, ◌≤◌, List, [], ◌∷◌, ◌++◌, length, take, drop, get_or, map, refl, sym, ap, subst, ◌∙◌, inl, inr, ⊎_elim, arith, append_assoc, zero, suc, add-one}
use Rattle.std.specs.Prelude.{Option, Some}
use Rattle.std.specs.Io.KnownBytes.{Consumes}
use Rattle.std.proofs.KnownBytes.{Appends-nil}
use Rattle.svc_world.specs.World.{Accepted}
use Rattle.svc_world.specs.Judging.{IsHistory}
use Rattle.serv_disk.specs.Faults.{HasRisen}
use Rattle.serv_disk.specs.Stamps.{Stamp}
use Rattle.serv_engine.specs.Histories.{IsGoodFound, lengths_of}
use Rattle.serv_engine.specs.Engines.{EngineState}
use Rattle.serv_machine.specs.History.{history_of, History, Stand, stand, Running, Stays}
use Rattle.serv_import.specs.declared.row.RowRequest.{RowRequest}
use Rattle.serv_import.specs.declared.row.RowRequest.TheVariants as row
use Rattle.serv_import.specs.Batches.{AreAnswers, IsBatch}
use Rattle.serv_import.proofs.UniqueLemmas.{one_batch}
use Rattle.serv_machine.specs.OnDisk.{OnDisk, IsAcknowledged}
use Rattle.serv_machine.proofs.OnDiskLemmas.{disk_more}
use Rattle.serv_machine.specs.declared.faults.Stop.{Stop}
use Rattle.serv_machine.specs.declared.faults.Stop.TheVariants as stop
use Rattle.serv_texts.specs.declared.status.Status.{Status}
use Rattle.serv_texts.specs.declared.status.Status.TheVariants as status
use Rattle.serv_machine.specs.Sayings.{Saying, AreFirst, MovesAll}
use Rattle.serv_texts.specs.Input.{input_limit, IsUnread}
use Rattle.serv_machine.specs.Answering.{Gathered, IsStopped, Leaves, Writes, AreReplies}
use Rattle.serv_machine.proofs.GatheredLemmas.{all_gathered, stops_after, store_stopped, writes_as}
use Rattle.serv_machine.proofs.SayingLemmas.{store_moves}
use Rattle.serv_texts.specs.Status.{status_of}
use Rattle.serv_top.specs.Ends.{Completes}
use Rattle.serv_top.specs.Imported.{FileSays, said_of, IsRow, AreRows, IsRowsOutput, IsFileOutput, rows, headless, Imports, IsImported}
use Rattle.serv_texts.specs.Journal.{IsOpened, IsUnopened, journal_limit}
use Rattle.serv_links.proofs.LinkLemmas.{few_taken}
use Rattle.serv_top.proofs.Applied.{run_over, unopened_ends}
use Rattle.serv_top.proofs.ServedLemmas.{none_more}
use Rattle.serv_disk.specs.Disks.{View}

-- ---- rows that ask commands

answers_are_rows : (number : ℕ) (records : List (List (List ℕ))) (answers : List RowRequest) → AreAnswers number records answers → AreRows answers
answers_are_rows number [] [] is = tt
answers_are_rows number [] (answer ∷ answers) is = absurd is
answers_are_rows number (r ∷ records) [] is = absurd is
answers_are_rows number (r ∷ records) (row.Row key c ∷ answers) is = ((is.0.names, is.0.well), answers_are_rows (suc number) records answers is.1)
answers_are_rows number (r ∷ records) (row.Bad n column ∷ answers) is = (tt, answers_are_rows (suc number) records answers is.1)

pub batch_rows : (bytes : List ℕ) (answers : List RowRequest) → IsBatch bytes answers → AreRows answers
batch_rows bytes answers batch = answers_are_rows 2 batch.rows answers batch.each

pub row_at : (list : List RowRequest) (i : ℕ) (d : RowRequest) → AreRows list → i < length list → IsRow (get_or list i d)
row_at [] i d are small = absurd (omega arith)
row_at (r ∷ list) zero d are small = are.0
row_at (r ∷ list) (suc i) d are small = row_at list i d are.1 (omega arith)

-- ---- one row after another

stopped_rows : (why : Stop) (all : List Saying) (s s' : Stand) (pending : List Accepted) (written : List ℕ) → IsStopped why (AreFirst (λ said. said ≡ all)) 0 s s' pending written → IsRowsOutput (status_of why) all s s' pending written
stopped_rows stop.WriteFault all s s' pending written is = is
stopped_rows stop.DiskFault all s s' pending written is = is
stopped_rows stop.OutOfMemory all s s' pending written is = is

module _ {D : Type 0} (view : D → View) (old mid new : D) (all : List Saying) (s s' : Stand) (kept : History) (held held' : Option (List ℕ))
    (first : OnDisk view old mid s.history kept []) where
  -- it stops at one of them
  pub rows_stopped : (why : Stop) (First : List Saying → List Saying → Type 0) → ((done ahead : List Saying) → First done ahead → AreFirst (λ said. said ≡ all) done ahead) → Writes view mid new (IsStopped why First 0 s s') kept s'.history held held'
      → Writes view old new (IsRowsOutput (status_of why) all s s') s.history s'.history held held'
  rows_stopped why First then stops =
      writes_as view old new _ (IsRowsOutput (status_of why) all s s') s.history s'.history held held' (stopped_rows why all s s')
      (stops_after First (AreFirst (λ said. said ≡ all)) then 0 s s' view old mid new why s.history kept s'.history held held' first stops)

  -- all are answered
  pub rows_settled : (t : Running) (text : List ℕ) → s' ≡ stand t.kept t.steps → t.kept ≡ t.held → length text ≤ 0 → Gathered 0 all s t held held' text → OnDisk view mid new kept s'.history []
      → Writes view old new (IsRowsOutput status.Done all s s') s.history s'.history held held'
  rows_settled t text is same few g second =
      let gathered = all_gathered 0 all s g same (none_more text few) in
      record {
        pending = [];
        written = g.written;
        wrote = g.wrote;
        says_so = (refl, record { said = all; whole = refl; text = gathered.0; moved = subst (MovesAll all s) (sym is) gathered.1 });
        disk = disk_more view old mid new s.history kept s'.history [] first second;
      }

-- the rows up to one are some first ones of all
pub first_rows : (all done others : List Saying) (said : Saying) → all ≡ done ++ said ∷ others → (first ahead : List Saying) → AreFirst (λ saids. saids ≡ done ++ said ∷ []) first ahead → AreFirst (λ saids. saids ≡ all) first ahead
first_rows all done others said is first ahead are = record {
  saids = all;
  whole = refl;
  others = are.others ++ others;
  saids_are = is ∙ sym (append_assoc done (said ∷ []) others) ∙ ap (λ ss. ss ++ others) (sym are.whole ∙ are.saids_are) ∙ append_assoc first (ahead ++ are.others) others ∙ ap (λ ss. first ++ ss) (append_assoc ahead are.others others);
}

-- rows up to a place, the row there, and the rows behind it
pub split_at : (list : List RowRequest) (i : ℕ) (d : RowRequest) → i < length list → map said_of list ≡ map said_of (take i list) ++ said_of (get_or list i d) ∷ map said_of (drop (suc i) list)
split_at [] i d small = absurd (omega arith)
split_at (r ∷ list) zero d small = refl
split_at (r ∷ list) (suc i) d small = ap (λ l. said_of r ∷ l) (split_at list i d (omega arith))

pub take_one : (list : List RowRequest) (i : ℕ) (d : RowRequest) → i < length list → map said_of (take (suc i) list) ≡ map said_of (take i list) ++ said_of (get_or list i d) ∷ []
take_one [] i d small = absurd (omega arith)
take_one (r ∷ list) zero d small = refl
take_one (r ∷ list) (suc i) d small = ap (λ l. said_of r ∷ l) (take_one list i d (omega arith))

pub take_next : (list : List RowRequest) (i : ℕ) (d : RowRequest) → i < length list → map said_of (take (i + 1) list) ≡ map said_of (take i list) ++ said_of (get_or list i d) ∷ []
take_next list i d small = rw add-one (take_one list i d small)

-- the same of an item that stands there
pub next_item : (list : List RowRequest) (i : ℕ) (item : RowRequest) → item ≡ get_or list i item → i < length list → map said_of (take (i + 1) list) ≡ map said_of (take i list) ++ said_of item ∷ []
next_item list i item is small = take_next list i item small ∙ ap (λ r. map said_of (take i list) ++ said_of r ∷ []) (sym is)

pub item_at : (list : List RowRequest) (i : ℕ) (item : RowRequest) → item ≡ get_or list i item → i < length list → map said_of list ≡ map said_of (take i list) ++ said_of item ∷ map said_of (drop (suc i) list)
item_at list i item is small = split_at list i item small ∙ ap (λ r. map said_of (take i list) ++ said_of r ∷ map said_of (drop (suc i) list)) (sym is)

pub is_row : (list : List RowRequest) (i : ℕ) (item : RowRequest) → item ≡ get_or list i item → AreRows list → i < length list → IsRow item
is_row list i item is are small = subst (λ (r : RowRequest). IsRow r) (sym is) (row_at list i item are small)

-- ---- the file

module _ {D : Type 0} (view : D → View) (old new : D) (st : Status) (bytes : List ℕ) (s s' : Stand) (held held' : Option (List ℕ)) where
  -- its rows are answered, or there is no memory for what they say
  abbrev pub FileOutput : List Accepted → List ℕ → Type 0
  FileOutput pending written = ((st ≡ status.OutOfMemory) × (pending ≡ []) × (written ≡ []) × Stays s s') ⊎ IsFileOutput st bytes s s' pending written

  pub file_says : (saids : List Saying) → FileSays bytes saids → Writes view old new (IsRowsOutput st saids s s') s.history s'.history held held' → Writes view old new FileOutput s.history s'.history held held'
  file_says saids file ends = writes_as view old new (IsRowsOutput st saids s s') FileOutput s.history s'.history held held' (λ pending written is. inr (record { saids = saids; file = file; rows = is })) ends

-- ---- the source and the file

pub import_unread : {D : Type 0} (view : D → View) (old new : D) (st : Status) (s s' : Stand)
    (left left' held : Option (List ℕ)) → (taken : List ℕ) × Consumes left left' taken × IsUnread st taken → s'.history ≡ s.history → s'.steps ≡ s.steps
    → OnDisk view old new s.history s'.history [] → Leaves view old new (λ pending. Imports st s s' pending left left' held held) s.history s'.history
import_unread view old new st s s' left left' held unread same steps disk = record {
  pending = [];
  says_so = record {
    taken = unread.0;
    written = [];
    took = unread.1;
    wrote = Appends-nil held;
    says = inl (unread.2, refl, refl, (same, omega (arith, steps)));
  };
  disk = disk;
}

-- a run that takes no whole file ends for no fault of the sink or the disk
pub quiet : (st : Status) (taken : List ℕ) → IsUnread st taken → (st ≡ status.WriteFault → ⊥) × (st ≡ status.DiskFault → ⊥)
quiet st taken is = (λ e. subst (λ (x : Status). IsUnread x taken) e is, λ e. subst (λ (x : Status). IsUnread x taken) e is)

-- ---- where commands are kept stays the same

store_rows : (st : Status) (saids : List Saying) (s s' : Stand) (pending : List Accepted) (written : List ℕ) → IsRowsOutput st saids s s' pending written → s'.history.store ≡ s.history.store
store_rows status.Done saids s s' pending written is = store_moves is.1.said s s' is.1.moved
store_rows status.WriteFault saids s s' pending written is = store_stopped stop.WriteFault _ 0 s s' pending written is
store_rows status.DiskFault saids s s' pending written is = store_stopped stop.DiskFault _ 0 s s' pending written is
store_rows status.OutOfMemory saids s s' pending written is = store_stopped stop.OutOfMemory _ 0 s s' pending written is
store_rows other saids s s' pending written is = absurd is

pub store_import : (st : Status) (s s' : Stand) (pending : List Accepted) (left left' held held' : Option (List ℕ)) → Imports st s s' pending left left' held held' → s'.history.store ≡ s.history.store
store_import st s s' pending left left' held held' is =
    ⊎_elim (λ unread. ap (λ (h : History). h.store) unread.3.0) (λ file. store_rows st file.2.saids s s' pending is.written file.2.rows) is.says

pub imported : {D : Type 0} (view : D → View) (old mid new : D) (st : Status) (e : EngineState) (h : History)
    (steps begun steps' : ℕ) (left left' held held' : Option (List ℕ)) (log log' : Option (List Stamp))
    → IsOpened view old mid steps begun (e.journal.size - lengths_of e.history) e.history → e.journal.limit ≡ journal_limit
    → Leaves view mid new (λ pending. Imports st (stand (history_of e) begun) (stand h steps') pending left left' held held') (history_of e) h
    → IsAcknowledged (λ taken. AreReplies (FileSays taken) (history_of e)) (view new) h left left' held log log'
    → IsImported view old new st steps steps' left left' held held' log log'
imported {D} view old mid new st e h steps begun steps' left left' held held' log log' opening limit ends acked =
    run_over (λ s s' pending. Imports st s s' pending left left' held held'
    × IsAcknowledged (λ taken. AreReplies (FileSays taken) s.history) (view new) s'.history left left' held log log') view old mid new e h steps begun steps' ends.pending opening limit
    (store_import st (stand (history_of e) begun) (stand h steps') ends.pending left left' held held' ends.says_so) (ends.says_so, acked) ends.disk

-- ---- completeness

rows_end : (st : Status) (saids : List Saying) (s s' : Stand) (pending : List Accepted) (written : List ℕ) → (st ≡ status.WriteFault → ⊥) → (st ≡ status.DiskFault → ⊥) → IsRowsOutput st saids s s' pending written → Completes st
rows_end status.Done saids s s' pending written writes disks is = inl refl
rows_end status.WriteFault saids s s' pending written writes disks is = absurd (writes refl)
rows_end status.DiskFault saids s s' pending written writes disks is = absurd (disks refl)
rows_end status.OutOfMemory saids s s' pending written writes disks is = inr (inl refl)
rows_end other saids s s' pending written writes disks is = absurd is

pub unread_ends : (st : Status) (taken input : List ℕ) → length taken ≤ length input → length input < input_limit → (st ≡ status.ReadFault → ⊥) → IsUnread st taken → Completes st
unread_ends status.ReadFault taken input few short reads is = absurd (reads refl)
unread_ends (status.TooMuch n) taken input few short reads is = absurd (omega (arith, few, short, is.0, is.1))
unread_ends status.OutOfMemory taken input few short reads is = inr (inl refl)
unread_ends other taken input few short reads is = absurd is

pub complete_import : {D A B : Type 0} (view : D → View) (faults : D → ℕ) (old new : D) (st : Status) (steps steps' : ℕ)
    (left left' held held' : Option (List ℕ)) (log log' : Option (List Stamp)) (input s : List ℕ) (h : List Accepted) (a : Accepted) → left ≡ Some input → length input < input_limit → (view old).seen ≡ Some s → IsHistory (h ++ a ∷ [])
    → IsGoodFound h a s → (st ≡ status.ReadFault → ⊥) → (st ≡ status.WriteFault → ⊥) → (st ≡ status.DiskFault → ⊥) → (HasRisen (faults old) (faults new) → ⊥)
    → (IsUnopened view faults old new st steps steps' × A × B) ⊎ IsImported view old new st steps steps' left left' held held' log log' → Completes st
complete_import {D} view faults old new st steps steps' left left' held held' log log' input s h a is short told is_history good reads writes disks calm which =
    ⊎_elim
    (λ closed. unopened_ends st s h a (faults old) (faults new) (view old).seen told is_history good closed.0.cause calm)
    (λ over. ⊎_elim
    (λ unread. unread_ends st over.ended.0.taken input (few_taken left left' input over.ended.0.taken is over.ended.0.took) short reads unread.0)
    (λ file. rows_end st file.2.saids _ _ over.pending over.ended.0.written writes disks file.2.rows)
    over.ended.0.says)
    which

-- ---- a file says one thing

pub file_one : (bytes : List ℕ) (s t : List Saying) → FileSays bytes s → FileSays bytes t → s ≡ t
file_one bytes s t (rows xs p) (rows ys q) = ap (map said_of) (one_batch bytes xs ys p q)
file_one bytes s t (rows xs p) (headless none) = absurd (none (record { rows = p.rows; begins = p.begins }))
file_one bytes s t (headless none) (rows ys q) = absurd (none (record { rows = q.rows; begins = q.begins }))
file_one bytes s t (headless p) (headless q) = refl
