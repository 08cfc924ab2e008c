-- A run over a journal that was opened.
use Rattle.std.proofs.Common.{◌≡◌, ◌⊎◌, ℕ, ◌-◌, ◌<◌, List, [], ◌∷◌, ◌++◌, length, refl, ap, subst, inl, inr, ⊎_elim, arith}
use Rattle.std.specs.Prelude.{Option, Some}
use Rattle.svc_world.specs.World.{Accepted}
use Rattle.svc_world.specs.Judging.{IsHistory}
use Rattle.serv_disk.specs.Faults.{HasRisen}
use Rattle.serv_disk.specs.Stamps.{Stamp}
use Rattle.serv_engine.specs.Histories.{lengths_of, IsGoodFound}
use Rattle.serv_engine.specs.Engines.{EngineState}
use Rattle.serv_engine.proofs.GoodLemmas.{good_journal, good_undamaged}
use Rattle.serv_machine.specs.History.{History, Store, in_journal, history_of, Stand, stand}
use Rattle.serv_machine.specs.OnDisk.{OnDisk, IsAcknowledged}
use Rattle.serv_links.proofs.LinkLemmas.{few_taken}
use Rattle.serv_texts.specs.declared.status.Status.{Status}
use Rattle.serv_texts.specs.declared.status.Status.TheVariants as status
use Rattle.serv_machine.specs.declared.faults.Stop.{Stop}
use Rattle.serv_machine.specs.declared.faults.Stop.TheVariants as stop
use Rattle.serv_machine.specs.Sayings.{SaidFirst}
use Rattle.serv_machine.specs.Answering.{Leaves, AreReplies}
use Rattle.serv_machine.proofs.SayingLemmas.{store_moves}
use Rattle.serv_machine.proofs.GatheredLemmas.{store_stopped}
use Rattle.serv_top.specs.Outcome.{AreStopped, Ended, IsOutput}
use Rattle.serv_texts.specs.Input.{input_limit}
use Rattle.serv_top.specs.Ends.{Completes}
use Rattle.serv_texts.specs.Journal.{IsCause, IsUnopened, IsOpened, journal_limit}
use Rattle.serv_top.specs.Journal.{IsRunOver, IsApplied}
use Rattle.serv_top.specs.Lines.{Says, lines_of}
use Rattle.serv_top.proofs.SoundLemmas.{stay_sound}
use Rattle.serv_disk.specs.Disks.{View}

-- ---- where commands are kept stays the same

store_lines : (why : Stop) (waiting : ℕ) (s s' : Stand) (pending : List Accepted) (taken : List ℕ) (left : Option (List ℕ)) (written : List ℕ) → AreStopped why waiting s s' pending taken left written → s'.history.store ≡ s.history.store
store_lines why waiting s s' pending taken left written is = ⊎_elim (λ ended. store_stopped why _ waiting s s' pending written ended) (λ all. store_stopped why _ waiting s s' pending written all.1) is.1

store_ended : (waiting : ℕ) (st : Status) (s s' : Stand) (pending : List Accepted) (taken : List ℕ) (left : Option (List ℕ)) (written : List ℕ) → IsOutput waiting st s s' pending taken left written
    → s'.history.store ≡ s.history.store
store_ended waiting status.Done s s' pending taken left written is = store_moves is.3.said s s' is.3.moved
store_ended waiting status.ReadFault s s' pending taken left written is = store_moves is.2.said s s' is.2.moved
store_ended waiting status.WriteFault s s' pending taken left written is = store_lines stop.WriteFault waiting s s' pending taken left written is
store_ended waiting status.DiskFault s s' pending taken left written is = store_lines stop.DiskFault waiting s s' pending taken left written is
store_ended waiting (status.TooMuch n) s s' pending taken left written is = store_moves is.3.said s s' is.3.moved
store_ended waiting status.OutOfMemory s s' pending taken left written is = store_lines stop.OutOfMemory waiting s s' pending taken left written is
store_ended waiting other s s' pending taken left written is = absurd is

-- ---- a journal was opened

-- kept where the engine's commands are
same_store : (e : EngineState) (h : History) → h.store ≡ (history_of e).store → h ≡ in_journal (e.journal.size - lengths_of e.history) e.journal.limit h.commands
same_store e h same = let make : Store → History = λ store. record { commands = h.commands; store = store } in ap make same

pub run_over : {D : Type 0} (E : Stand → Stand → List Accepted → Type 0) (view : D → View) (old mid new : D) (e : EngineState) (h : History) (steps begun steps' : ℕ) (pending : List Accepted)
    → IsOpened view old mid steps begun (e.journal.size - lengths_of e.history) e.history → e.journal.limit ≡ journal_limit
    → h.store ≡ (history_of e).store → E (stand (history_of e) begun) (stand h steps') pending
    → OnDisk view mid new (history_of e) h pending
    → IsRunOver E view old new steps steps'
run_over {D} E view old mid new e h steps begun steps' pending opening limit same ends disk =
    let place : ℕ = e.journal.size - lengths_of e.history in
    let kept = same_store e h same in
    let now : E (stand (in_journal place e.journal.limit e.history) begun) (stand (in_journal place e.journal.limit h.commands) steps') pending =
    subst (λ x. E (stand (in_journal place e.journal.limit e.history) begun) (stand x steps') pending) kept ends in
    let run : OnDisk view mid new (in_journal place e.journal.limit e.history) (in_journal place e.journal.limit h.commands) pending =
    subst (λ x. OnDisk view mid new (in_journal place e.journal.limit e.history) x pending) kept disk in
    record {
      commands = e.history;
      base = place;
      opened = mid;
      begun = begun;
      opening = opening;
      after = h.commands;
      pending = pending;
      ended = subst (λ n. E (stand (in_journal place n e.history) begun) (stand (in_journal place n h.commands) steps') pending) limit now;
      sound = stay_sound e.history h.commands disk.list pending disk.accepted (disk.fresh opening.is_history);
      disk = subst (λ n. OnDisk view mid new (in_journal place n e.history) (in_journal place n h.commands) pending) limit run;
    }

pub applied : {D : Type 0} (view : D → View) (old mid new : D) (st : Status) (e : EngineState) (h : History)
    (steps begun steps' : ℕ) (left left' held held' : Option (List ℕ)) (log log' : Option (List Stamp))
    → IsOpened view old mid steps begun (e.journal.size - lengths_of e.history) e.history → e.journal.limit ≡ journal_limit
    → Leaves view mid new (λ pending. Ended 0 st (stand (history_of e) begun) (stand h steps') pending left left' held held') (history_of e) h
    → IsAcknowledged (λ taken. AreReplies (SaidFirst Says (lines_of taken)) (history_of e)) (view new) h left left' held log log'
    → IsApplied view old new st steps steps' left left' held held' log log'
applied {D} view old mid new st e h steps begun steps' left left' held held' log log' opening limit ends acked =
    run_over (λ s s' pending. Ended 0 st s s' pending left left' held held'
    × IsAcknowledged (λ taken. AreReplies (SaidFirst Says (lines_of taken)) s.history) (view new) s'.history left left' held log log') view old mid new e h steps begun steps' ends.pending opening limit
    (store_ended 0 st (stand (history_of e) begun) (stand h steps') ends.pending ends.says_so.taken left' ends.says_so.written ends.says_so.says) (ends.says_so, acked) ends.disk

-- ---- completeness

pub unopened_ends : (st : Status) (s : List ℕ) (h : List Accepted) (a : Accepted) (faults faults' : ℕ) (told : Option (List ℕ)) → told ≡ Some s → IsHistory (h ++ a ∷ []) → IsGoodFound h a s → IsCause st told faults faults' → (HasRisen faults faults' → ⊥) → Completes st
unopened_ends status.NotJournal s h a faults faults' told is hist good cause calm = absurd (good_journal h a s hist good (cause s is))
unopened_ends (status.Damaged place) s h a faults faults' told is hist good cause calm = absurd (good_undamaged h a s place hist good (cause s is))
unopened_ends status.NetFault s h a faults faults' told is hist good cause calm = absurd cause
unopened_ends (status.JournalFull bytes) s h a faults faults' told is hist good cause calm = inr (inr (bytes, refl))
unopened_ends status.DiskFault s h a faults faults' told is hist good cause calm = absurd (calm cause)
unopened_ends status.OutOfMemory s h a faults faults' told is hist good cause calm = inr (inl refl)
unopened_ends other s h a faults faults' told is hist good cause calm = absurd cause

applied_ends : (waiting : ℕ) (st : Status) (s s' : Stand) (pending : List Accepted) (left left' held held' : Option (List ℕ)) (input : List ℕ) → left ≡ Some input → length input < input_limit
    → (st ≡ status.ReadFault → ⊥) → (st ≡ status.WriteFault → ⊥) → (st ≡ status.DiskFault → ⊥) → Ended waiting st s s' pending left left' held held' → Completes st
applied_ends waiting status.Done s s' pending left left' held held' input is short reads writes disks e = inl refl
applied_ends waiting status.ReadFault s s' pending left left' held held' input is short reads writes disks e = absurd (reads refl)
applied_ends waiting status.WriteFault s s' pending left left' held held' input is short reads writes disks e = absurd (writes refl)
applied_ends waiting status.DiskFault s s' pending left left' held held' input is short reads writes disks e = absurd (disks refl)
applied_ends waiting (status.TooMuch n) s s' pending left left' held held' input is short reads writes disks e =
    absurd (omega (arith, few_taken left left' input e.taken is e.took, short, e.says.1, e.says.2))
applied_ends waiting status.OutOfMemory s s' pending left left' held held' input is short reads writes disks e = inr (inl refl)
applied_ends waiting other s s' pending left left' held held' input is short reads writes disks e = absurd e.says

pub complete_run : {D A B : Type 0} (view : D → View) (faults : D → ℕ) (old new : D) (st : Status) (steps steps' : ℕ)
    (left left' held held' : Option (List ℕ)) (log log' : Option (List Stamp)) (input s : List ℕ) (h : List Accepted) (a : Accepted) → left ≡ Some input → length input < input_limit → (view old).seen ≡ Some s → IsHistory (h ++ a ∷ [])
    → IsGoodFound h a s → (st ≡ status.ReadFault → ⊥) → (st ≡ status.WriteFault → ⊥) → (st ≡ status.DiskFault → ⊥) → (HasRisen (faults old) (faults new) → ⊥)
    → (IsUnopened view faults old new st steps steps' × A × B) ⊎ IsApplied view old new st steps steps' left left' held held' log log' → Completes st
complete_run {D} view faults old new st steps steps' left left' held held' log log' input s h a is short told is_history good reads writes disks calm which =
    ⊎_elim
    (λ closed. unopened_ends st s h a (faults old) (faults new) (view old).seen told is_history good closed.0.cause calm)
    (λ open_. applied_ends 0 st _ _ open_.pending left left' held held' input is short reads writes disks open_.ended.0)
    which
