-- What stands where a journal was opened, and where none was.
use Rattle.std.proofs.Common.{◌≡◌, ◌⊎◌, ℕ, ◌+◌, ◌-◌, ◌≤◌, List, [], ◌∷◌, ◌++◌, ap, subst, inl, inr, ⊎_elim, arith}
use Rattle.std.specs.Prelude.{Option, Some}
use Rattle.svc_world.specs.World.{Accepted}
use Rattle.svc_world.specs.Judging.{IsHistory}
use Rattle.serv_disk.specs.Disks.{Each, View}
use Rattle.serv_journal.specs.declared.format.Version.TheVariants.{Two}
use Rattle.serv_engine.specs.declared.fault.EngineFault.{EngineFault}
use Rattle.serv_engine.specs.declared.fault.EngineFault.TheVariants as fault
use Rattle.serv_engine.specs.Histories.{lengths_of, IsGoodFound}
use Rattle.serv_engine.specs.Engines.{EngineState, IsDurable}
use Rattle.serv_engine.specs.Opening.{IsFound, IsPassing, IsOpenFault, IsOpenCause, history_bound}
use Rattle.serv_engine.proofs.LengthLemmas.{journal_base}
use Rattle.serv_machine.specs.EngineLaws.{durable_whole}
use Rattle.serv_machine.proofs.EngineLemmas.{long_enough}
use Rattle.serv_texts.specs.Status.{status_of_fault}
use Rattle.serv_texts.specs.Journal.{KeepsGood, IsCause, IsOnly, IsOpened, journal_limit}

pub opened : {D : Type 0} (view : D → View) (old mid : D) (e : EngineState) (steps begun : ℕ)
    → IsHistory e.history → ((s : List ℕ) → (view old).seen ≡ Some s → IsFound journal_limit e.journal.size e.history s)
    → KeepsGood view old mid
    → ((s : List ℕ) → (view old).seen ≡ Some s → (h : List Accepted) (a : Accepted) → IsHistory (h ++ a ∷ []) → Each (view old).images (IsGoodFound h a) → (e.history ≡ h) ⊎ (e.history ≡ h ++ a ∷ []))
    → IsDurable (view mid).images e → e.journal.version ≡ Two → begun ≤ steps + history_bound [] e.history
    → IsOpened view old mid steps begun (e.journal.size - lengths_of e.history) e.history
opened view old mid e steps begun is_history found good either durable version cost =
    let b = journal_base (view mid).images e durable version in
    let back : e.journal.size ≡ (e.journal.size - lengths_of e.history) + lengths_of e.history = omega (arith, long_enough e b.0 b.1) in
    record {
      is_history = is_history;
      found = λ s told. subst (λ n. IsFound journal_limit n e.history s) back (found s told);
      good = good;
      either = either;
      whole = λ c image. let is = durable_whole (view mid).images e version durable c image in record { whole = is.whole; form = is.form };
      cost = cost;
    }

-- ---- none was opened

pub cause_of : (told : Option (List ℕ)) (old new : ℕ) (f : EngineFault) → ((s : List ℕ) → told ≡ Some s → IsOpenFault journal_limit s old new f) → IsOpenCause old new f → IsCause (status_of_fault f) told old new
cause_of told old new fault.NotJournal is cause = is
cause_of told old new (fault.Damaged place) is cause = is
cause_of told old new (fault.JournalFull bytes) is cause = is
cause_of told old new fault.DiskFault is cause = cause
cause_of told old new fault.OutOfMemory is cause = tt
cause_of told old new (fault.Refused why) is cause = absurd cause

pub only_of : (only f : EngineFault) (old new : ℕ) → (f ≡ only) ⊎ IsPassing old new f → IsOnly (status_of_fault only) (status_of_fault f)
only_of only f old new which =
    ⊎_elim (λ same. inl (ap status_of_fault same)) (λ passing. inr (⊎_elim (λ memory. inl (ap status_of_fault memory)) (λ disk. inr (ap status_of_fault disk.0)) passing)) which
