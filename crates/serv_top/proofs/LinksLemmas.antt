-- Links that are served over a journal.
use Rattle.std.proofs.Common.{◌≡◌, ◌⊎◌, ℕ, ◌-◌, List, [], ◌∷◌, ◌++◌, refl, ap, subst, ◌∙◌, inl, inr, ⊎_elim}
use Rattle.std.specs.Prelude.{Option, Some}
use Rattle.std.specs.Io.KnownBytes.{Appends}
use Rattle.svc_world.specs.World.{Accepted}
use Rattle.svc_world.specs.Judging.{IsHistory}
use Rattle.serv_disk.specs.Faults.{HasRisen}
use Rattle.serv_disk.specs.Stamps.{Stamp}
use Rattle.serv_http.specs.declared.ask.Ask.{Ask}
use Rattle.serv_engine.specs.Histories.{lengths_of, IsGoodFound}
use Rattle.serv_engine.specs.Engines.{EngineState}
use Rattle.serv_machine.specs.History.{History, history_of, Stand, stand}
use Rattle.serv_links.specs.declared.doors.DoorsEnd.{DoorsEnd}
use Rattle.serv_links.specs.declared.doors.DoorsEnd.TheVariants as doors_end
use Rattle.serv_links.specs.declared.link_end.LinkEnd.{LinkEnd}
use Rattle.serv_links.specs.declared.link_end.LinkEnd.TheVariants as link_end
use Rattle.serv_machine.specs.declared.faults.Stop.{Stop}
use Rattle.serv_machine.specs.declared.faults.Stop.TheVariants as stop
use Rattle.serv_links.specs.declared.summary.Summary.{Summary}
use Rattle.serv_machine.proofs.SayingLemmas.{store_moves}
use Rattle.serv_machine.proofs.GatheredLemmas.{store_stopped}
use Rattle.serv_links.specs.Outcomes.{IsAnswered, IsCutOff}
use Rattle.serv_links.specs.Links.{IsServed}
use Rattle.serv_links.specs.Doors.{AreServed, IsDoorsEnd, IsSummary, OneServed, ServedLink, ServesDoors, text_of_summary}
use Rattle.serv_texts.specs.declared.status.Status.{Status}
use Rattle.serv_texts.specs.declared.status.Status.TheVariants as status
use Rattle.serv_texts.specs.Journal.{IsUnopened, IsOpened, journal_limit}
use Rattle.serv_machine.specs.Answering.{Leaves}
use Rattle.serv_top.specs.Served.{IsCountOf, IsServedAs, IsServedOver, ServesLinks}
use Rattle.serv_texts.specs.Texts.{IsWrittenAs, Writes}
use Rattle.serv_top.proofs.Applied.{run_over, unopened_ends}
use Rattle.serv_texts.proofs.WrittenLemmas.{written_of}
use Rattle.serv_top.specs.Ends.{Completes}
use Rattle.serv_disk.specs.Disks.{View}

-- ---- where commands are kept stays the same

store_answered : (n : ℕ) (asks : List Ask) (s s' : Stand) (wrote : List ℕ) → IsAnswered n asks s s' wrote → s'.history.store ≡ s.history.store
store_answered n asks s s' wrote is = store_moves is.answers.said s s' is.answers.moved

store_cut_off : (Known : List Ask → Type 0) (cut : Type 0) (why : Stop) (n : ℕ) (s s' : Stand) (pending : List Accepted) (wrote : List ℕ) → IsCutOff Known cut why n s s' pending wrote → s'.history.store ≡ s.history.store
store_cut_off Known cut why n s s' pending wrote is = store_stopped why _ 0 s s' pending is.ended.before is.ended.stopped

store_served : (end : LinkEnd) (reads writes at_end : Type 0) (taken : List ℕ) (s s' : Stand) (pending : List Accepted) (added : List ℕ)
    → IsServed end reads writes at_end taken s s' pending added → s'.history.store ≡ s.history.store
store_served (link_end.Ended n) reads writes at_end taken s s' pending added (none, below, (left, all, over)) =
    store_answered n all.asks s s' added all.answered
store_served (link_end.Cut n) reads writes at_end taken s s' pending added (none, below, (left, all)) =
    store_answered n all.asks s s' added all.answered
store_served (link_end.Broken n) reads writes at_end taken s s' pending added (inl (risen, none, below, (left, all))) =
    store_answered n all.asks s s' added all.answered
store_served (link_end.Broken n) reads writes at_end taken s s' pending added (inr (risen, cut)) =
    store_cut_off _ writes stop.WriteFault n s s' pending added cut
store_served (link_end.Disk n) reads writes at_end taken s s' pending added cut = store_cut_off _ writes stop.DiskFault n s s' pending added cut
store_served (link_end.NoMemory n) reads writes at_end taken s s' pending added cut = store_cut_off _ writes stop.OutOfMemory n s s' pending added cut

-- links came, and were served in their turn
module _ {C : Type 0} (left held : C → Option (List ℕ)) (log : C → Option (List Stamp)) (reads writes : C → ℕ) (at_exit : View) where
  abbrev P : Stand → OneServed C
  P exit = ServedLink left held log reads writes at_exit exit

  store_link : (exit : Stand) (end : LinkEnd) (x y : C) (s s' : Stand) (pending : List Accepted) → P exit end x y s s' pending → s'.history.store ≡ s.history.store
  store_link exit end x y s s' pending is = store_served end _ _ _ is.serves.taken s s' pending is.added is.serves.says

  store_links : (exit : Stand) (ends : List LinkEnd) (came back : List C) (s s' : Stand) (pending : List Accepted) → AreServed (P exit) ends came back s s' pending → s'.history.store ≡ s.history.store
  store_links exit [] [] [] s s' pending is = ap (λ (z : Stand). z.history.store) is.0
  store_links exit [] [] (y ∷ back) s s' pending is = absurd is
  store_links exit [] (x ∷ came) back s s' pending is = absurd is
  store_links exit (end ∷ ends) [] back s s' pending is = absurd is
  store_links exit (end ∷ ends) (x ∷ came) [] s s' pending is = absurd is
  store_links exit (end ∷ ends) (x ∷ came) (y ∷ back) s s' pending (t, (now, (later, first, rest, parts))) =
      store_links exit ends came back t s' later rest ∙ store_link exit end x y s t now first

  -- ---- what is written after them

  module _ (status_ : Status) (most : ℕ) (coming coming' backed backed' : Option (List C)) (held0 held' : Option (List ℕ)) (s s' : Stand) where
    -- over a machine: why no further link was served, and what is written then
    pub ended : {D : Type 0} (view : D → View) (old new : D) (end : DoorsEnd) (summary : Summary)
        → ServesDoors view old new P end summary most coming coming' backed backed' s s'
        → ((ends : List LinkEnd) → IsDoorsEnd end most coming' ends → IsSummary ends summary → (written : List ℕ) × Appends held0 held' written × IsServedAs status_ most coming' ends written)
        → Leaves view old new (λ pending. ServesLinks P status_ most coming coming' backed backed' held0 held' s s' pending) s.history s'.history
    ended view old new end summary all says =
        let wrote = says all.ends all.ended all.counted in
        record {
          pending = all.pending;
          says_so = record { ends = all.ends; served = all.has; written = wrote.0; wrote = wrote.1; says = wrote.2 };
          disk = all.disk;
        }

    pub over_engine : {D : Type 0} (view : D → View) (old mid new : D) (e : EngineState) (h : History) (steps begun steps' : ℕ)
        → s ≡ stand (history_of e) begun → s' ≡ stand h steps'
        → IsOpened view old mid steps begun (e.journal.size - lengths_of e.history) e.history → e.journal.limit ≡ journal_limit
        → Leaves view mid new (λ pending. ServesLinks P status_ most coming coming' backed backed' held0 held' s s' pending) s.history s'.history
        → IsServedOver view old new P status_ most steps steps' coming coming' backed backed' held0 held'
    over_engine {D} view old mid new e h steps begun steps' is is' opening limit end =
        let Ends : Stand → Stand → Type 0 = λ x y. Leaves view mid new (λ pending. ServesLinks P status_ most coming coming' backed backed' held0 held' x y pending) x.history y.history in
        let all : Ends (stand (history_of e) begun) (stand h steps') = subst (λ y. Ends (stand (history_of e) begun) y) is' (subst (λ x. Ends x s') is end) in
        run_over (λ s s' pending. ServesLinks P status_ most coming coming' backed backed' held0 held' s s' pending) view old mid new e h steps begun steps' all.pending opening limit
        (store_links (stand h steps') all.says_so.ends all.says_so.served.came all.says_so.served.back (stand (history_of e) begun) (stand h steps') all.pending all.says_so.served.served) all.says_so all.disk

-- the summary was written, or a part of it, or no memory was there for it
served_as : {C : Type 0} (st : Status) (most : ℕ) (coming : Option (List C)) (ends : List LinkEnd) (written : List ℕ)
    → IsDoorsEnd doors_end.Done most coming ends → IsWrittenAs st (IsCountOf ends) written → IsServedAs st most coming ends written
served_as status.DiskFault most coming ends written end says = absurd says
served_as status.NetFault most coming ends written end says = absurd says
served_as other most coming ends written end says = (end, says)

pub counts_written : {C : Type 0} (st : Status) (most : ℕ) (coming : Option (List C)) (held held' : Option (List ℕ)) (summary : Summary) → Writes st (λ text. text ≡ text_of_summary summary) held held'
    → (ends : List LinkEnd) → IsDoorsEnd doors_end.Done most coming ends → IsSummary ends summary → (written : List ℕ) × Appends held held' written × IsServedAs st most coming ends written
counts_written {C} st most coming held held' summary w ends end counts =
    let count : IsCountOf ends (text_of_summary summary) = record { summary = summary; counts = counts; spelled = refl } in
    (w.written, w.wrote, served_as st most coming ends w.written end (written_of st (IsCountOf ends) (text_of_summary summary) w.written count w.says))

-- ---- completeness

served_ends : {C : Type 0} (st : Status) (most : ℕ) (coming : Option (List C)) (ends : List LinkEnd) (written : List ℕ)
    → (st ≡ status.WriteFault → ⊥) → (st ≡ status.DiskFault → ⊥) → (st ≡ status.NetFault → ⊥) → IsServedAs st most coming ends written → Completes st
served_ends status.Done most coming ends written writes disks nets is = inl refl
served_ends status.WriteFault most coming ends written writes disks nets is = absurd (writes refl)
served_ends status.DiskFault most coming ends written writes disks nets is = absurd (disks refl)
served_ends status.NetFault most coming ends written writes disks nets is = absurd (nets refl)
served_ends status.OutOfMemory most coming ends written writes disks nets is = inr (inl refl)
served_ends other most coming ends written writes disks nets is = absurd is.1

pub complete_served : {D C A B : Type 0} (view : D → View) (faults : D → ℕ) (old new : D) (Q : Stand → OneServed C)
    (st : Status) (most steps steps' : ℕ) (coming coming' backed backed' : Option (List C)) (held held' : Option (List ℕ)) (s : List ℕ) (h : List Accepted) (a : Accepted)
    → (view old).seen ≡ Some s → IsHistory (h ++ a ∷ []) → IsGoodFound h a s
    → (st ≡ status.WriteFault → ⊥) → (st ≡ status.DiskFault → ⊥) → (st ≡ status.NetFault → ⊥) → (HasRisen (faults old) (faults new) → ⊥)
    → (IsUnopened view faults old new st steps steps' × A × B) ⊎ IsServedOver view old new Q st most steps steps' coming coming' backed backed' held held'
    → Completes st
complete_served view faults old new Q st most steps steps' coming coming' backed backed' held held' s h a told is_history good writes disks nets calm which =
    ⊎_elim
    (λ closed. unopened_ends st s h a (faults old) (faults new) (view old).seen told is_history good closed.0.cause calm)
    (λ over. served_ends st most coming' over.ended.ends over.ended.written writes disks nets over.ended.says)
    which
