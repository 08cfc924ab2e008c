-- How runs that write a text end where nothing fails.
use Rattle.std.proofs.Common.{◌≡◌, ◌⊎◌, ℕ, true, List, [], ◌∷◌, ◌++◌, refl, inl, inr, ⊎_elim}
use Rattle.std.specs.Prelude.{Option, Some}
use Rattle.svc_world.specs.World.{Accepted}
use Rattle.svc_world.specs.Judging.{IsHistory}
use Rattle.serv_disk.specs.Faults.{HasRisen}
use Rattle.serv_engine.specs.Histories.{IsGoodFound}
use Rattle.serv_links.proofs.LinkLemmas.{few_taken}
use Rattle.serv_words.specs.declared.texts.Text.{Text}
use Rattle.serv_words.specs.declared.texts.Text.TheVariants.{Show, Ask, Make}
use Rattle.serv_words.specs.declared.words.Task.TheVariants.{Write}
use Rattle.serv_words.specs.Asked.{reads_input}
use Rattle.serv_texts.specs.declared.status.Status.{Status}
use Rattle.serv_texts.specs.declared.status.Status.TheVariants as status
use Rattle.serv_texts.specs.Journal.{IsUnopened}
use Rattle.serv_texts.specs.Texts.{IsWrittenAs, HasNoReport, IsSaidAs, IsTextOf, IsTextOver}
use Rattle.serv_top.specs.Ends.{Completes, IsShort, MayEnd}
use Rattle.serv_top.proofs.Applied.{unopened_ends}
use Rattle.serv_top.proofs.ImportLemmas.{unread_ends}
use Rattle.serv_disk.specs.Disks.{View}

pub written_finishes : (st : Status) (T : List ℕ → Type 0) (written : List ℕ) → (st ≡ status.WriteFault → ⊥) → IsWrittenAs st T written → (st ≡ status.Done) ⊎ (st ≡ status.OutOfMemory)
written_finishes status.Done T written calm says = inl refl
written_finishes status.WriteFault T written calm says = absurd (calm refl)
written_finishes status.OutOfMemory T written calm says = inr refl
written_finishes other T written calm says = absurd says

written_ends : (st : Status) (T : List ℕ → Type 0) (written : List ℕ) → (st ≡ status.WriteFault → ⊥) → IsWrittenAs st T written → Completes st
written_ends st T written calm says = ⊎_elim (λ done. inl done) (λ short. inr (inl short)) (written_finishes st T written calm says)

may_end : (text : Text) (st : Status) → Completes st → MayEnd (Write text) st
may_end (Show q) st is = inl is
may_end (Ask q) st is = is
may_end (Make x) st is = is

no_report_ends : (text : Text) (h : List Accepted) (last : Option ℕ) → HasNoReport text h last → MayEnd (Write text) (status.NoReport last)
no_report_ends (Show q) h last is = inr (last, refl)
no_report_ends (Ask q) h last is = absurd is
no_report_ends (Make x) h last is = absurd is

said_ends : (st : Status) (text : Text) (h : List Accepted) (input written : List ℕ) → (st ≡ status.WriteFault → ⊥) → IsSaidAs st text h input written → MayEnd (Write text) st
said_ends (status.NoReport last) text h input written calm is = no_report_ends text h last is.1
said_ends other text h input written calm is = may_end text other (written_ends other (IsTextOf text h input) written calm is)

pub complete_text : {D A B : Type 0} (view : D → View) (faults : D → ℕ) (old new : D) (st : Status) (text : Text)
    (steps steps' : ℕ) (left left' held held' : Option (List ℕ)) (s : List ℕ) (h : List Accepted) (a : Accepted) → (reads_input text ≡ true → IsShort left × (st ≡ status.ReadFault → ⊥)) → (view old).seen ≡ Some s → IsHistory (h ++ a ∷ [])
    → IsGoodFound h a s → (st ≡ status.WriteFault → ⊥) → (HasRisen (faults old) (faults new) → ⊥)
    → (IsUnopened view faults old new st steps steps' × A × B) ⊎ IsTextOver view old new st text steps steps' left left' held held' → MayEnd (Write text) st
complete_text {D} view faults old new st text steps steps' left left' held held' s h a reads told is_history good writes calm which =
    ⊎_elim
    (λ closed. may_end text st (unopened_ends st s h a (faults old) (faults new) (view old).seen told is_history good closed.0.cause calm))
    (λ over. let w = over.writes in
    ⊎_elim
    (λ unread. let short = reads unread.0 in
    may_end text st (unread_ends st w.taken short.0.input (few_taken left left' short.0.input w.taken short.0.told w.took) short.0.short short.1 unread.1))
    (λ read. said_ends st text over.commands w.taken w.written writes read.1)
    w.says.0)
    which
