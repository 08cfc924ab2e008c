-- Faults of a journal as the engine's.
use Rattle.std.proofs.Common.{◌≡◌, ◌⊎◌, ℕ, ◌+◌, ◌<◌, ◌≤◌, List, length, refl, sym, ap, subst, ◌∙◌, inl, inr, ⊎_elim}
use Rattle.std.specs.Prelude.{Result, Err}
use Rattle.std.proofs.lemmas.Bool.{cases_lt}
use Rattle.svc_world.specs.World.{Accepted}
use Rattle.svc_world.specs.Judging.{Judgement, Fresh, IsHistory}
use Rattle.svc_core.specs.declared.fault.CoreFault.{CoreFault}
use Rattle.svc_core.specs.declared.fault.CoreFault.TheVariants as core
use Rattle.svc_core.specs.Core.{IsFault}
use Rattle.serv_disk.specs.Faults.{HasRisen}
use Rattle.serv_journal.specs.declared.format.Version.TheVariants.{One}
use Rattle.serv_journal.specs.declared.faults.JournalFault.{JournalFault}
use Rattle.serv_journal.specs.declared.faults.JournalFault.TheVariants as journal
use Rattle.serv_journal.specs.States.{JournalState}
use Rattle.serv_journal.specs.Reading.{lines_in}
use Rattle.serv_engine.specs.declared.fault.EngineFault.{EngineFault}
use Rattle.serv_engine.specs.declared.fault.EngineFault.TheVariants as fault
use Rattle.serv_engine.specs.Histories.{line_of_command, lines_of_history}
use Rattle.serv_engine.specs.Submitting.{IsFull, IsAppendFault, IsSubmitFault, fault_of_core}
use Rattle.serv_engine.specs.Opening.{fault_of_journal, length_upgraded, IsUpgradeFault, IsReplayFault, IsTakingFault}

-- results with faults
pub err_same : {E : Type 0} (f g : E) → ◌≡◌ {A = Result (Unit {0}) E} (Err f) (Err g) → f ≡ g
err_same f g is = cc

-- of adding a command
pub append_fault : (j : JournalState) (a : Accepted) (old new : ℕ) (f : JournalFault)
    → (f ≡ journal.Full j.size) ⊎ ((f ≡ journal.DiskFault) × HasRisen old new)
    → (f ≡ journal.Full j.size → IsFull j a) → (IsFull j a → f ≡ journal.Full j.size) → IsAppendFault j a old new (fault_of_journal f)
append_fault j a old new f which then back =
    ⊎_elim
    (λ full. subst (λ x. IsAppendFault j a old new (fault_of_journal x)) (sym full) (refl, then full))
    (λ disk. subst (λ x. IsAppendFault j a old new (fault_of_journal x)) (sym disk.0) (room (j.limit) (j.size + 7 + length (line_of_command a)) (λ past. differ (sym disk.0 ∙ back past)), disk.1))
    which
  where
    differ : journal.DiskFault ≡ journal.Full j.size → ⊥
    differ is = let e : ⊥ = cc in e

    room : (limit long : ℕ) → (limit < long → ⊥) → long ≤ limit
    room limit long never = ⊎_elim (λ less. absurd (never less)) (λ fits. fits) (cases_lt limit long)

-- the disk's fault stays the disk's, and no other becomes one
pub disk_is : (size old new : ℕ) (f : JournalFault) → (f ≡ journal.Full size) ⊎ ((f ≡ journal.DiskFault) × HasRisen old new)
    → (fault_of_journal f ≡ fault.DiskFault → f ≡ journal.DiskFault) × (f ≡ journal.DiskFault → fault_of_journal f ≡ fault.DiskFault)
disk_is size old new f which = (
  (λ is. ⊎_elim
      (λ full. absurd (differ (sym (ap fault_of_journal full) ∙ is)))
      (λ disk. disk.0)
      which),
  (λ is. ap fault_of_journal is),
)
  where
    differ : fault.JournalFull size ≡ fault.DiskFault → ⊥
    differ is = let e : ⊥ = cc in e

-- what is kept at another fault than the disk's
pub kept_full : (size old new : ℕ) (f : JournalFault) (P : Type 0) → (f ≡ journal.Full size) ⊎ ((f ≡ journal.DiskFault) × HasRisen old new)
    → (f ≡ journal.Full size → P) → (fault_of_journal f ≡ fault.DiskFault) ⊎ P
kept_full size old new f P which then = ⊎_elim (λ full. inr (then full)) (λ disk. inl (ap fault_of_journal disk.0)) which

-- of the core, over a command and over a query
pub submit_fault : (said : Judgement) (j : JournalState) (a : Accepted) (old new : ℕ) (f : CoreFault) → IsFault said f → IsSubmitFault said j a old new (fault_of_core f)
submit_fault said j a old new (core.Refused why) is = is
submit_fault said j a old new core.OutOfMemory is = is

pub core_kept : (f : CoreFault) → fault_of_core f ≡ fault.DiskFault → ⊥
core_kept (core.Refused why) is = let e : ⊥ = cc in e
core_kept core.OutOfMemory is = let e : ⊥ = cc in e

pub ask_memory : (f : CoreFault) (P : Type 0) → (f ≡ core.OutOfMemory → P) → fault_of_core f ≡ fault.OutOfMemory → P
ask_memory (core.Refused why) P wanted is = let no_way : ⊥ = cc in absurd no_way
ask_memory core.OutOfMemory P wanted is = wanted refl

-- of adding a fresh command
pub fresh_fault : (said : Judgement) (j : JournalState) (a : Accepted) (old new : ℕ) (f : EngineFault) → said ≡ Fresh → IsAppendFault j a old new f → IsSubmitFault said j a old new f
fresh_fault said j a old new (fault.JournalFull bytes) fresh is = (fresh, is.0, is.1)
fresh_fault said j a old new fault.DiskFault fresh is = (fresh, is.0, is.1)
fresh_fault said j a old new fault.OutOfMemory fresh is = fresh
fresh_fault said j a old new fault.NotJournal fresh is = absurd is
fresh_fault said j a old new (fault.Damaged place) fresh is = absurd is
fresh_fault said j a old new (fault.Refused why) fresh is = absurd is

-- of writing a journal of version 1 anew
pub upgrade_fault : (j : JournalState) (lines : List (List ℕ)) (old new : ℕ) (f : JournalFault) → j.version ≡ One
    → (f ≡ journal.Full j.size) ⊎ ((f ≡ journal.DiskFault) × HasRisen old new)
    → (f ≡ journal.Full j.size → j.limit < length_upgraded j.size lines) → IsUpgradeFault j lines old new (fault_of_journal f)
upgrade_fault j lines old new f one which then =
    ⊎_elim
    (λ full. subst (λ x. IsUpgradeFault j lines old new (fault_of_journal x)) (sym full) (one, refl, then full))
    (λ disk. subst (λ x. IsUpgradeFault j lines old new (fault_of_journal x)) (sym disk.0) disk.1)
    which

-- of taking over what a journal has found
pub replay_taking : (j : JournalState) (frames : List (ℕ × List ℕ)) (old new : ℕ) (f : EngineFault) → IsReplayFault frames f → IsTakingFault j frames old new f
replay_taking j frames old new f which =
    ⊎_elim
    (λ memory. subst (λ x. IsTakingFault j frames old new x) (sym memory) tt)
    (λ more. subst (λ x. IsTakingFault j frames old new x) (sym more.1) more.2)
    which

pub upgrade_taking : (j : JournalState) (frames : List (ℕ × List ℕ)) (old new : ℕ) (f : EngineFault) (h : List Accepted) → lines_of_history h ≡ lines_in frames → IsHistory h
    → IsUpgradeFault j (lines_in frames) old new f → IsTakingFault j frames old new f
upgrade_taking j frames old new (fault.JournalFull bytes) h are is u = (u.0, u.1, u.2, record { history = h; are = sym are; is_history = is })
upgrade_taking j frames old new fault.DiskFault h are is u = u
upgrade_taking j frames old new fault.OutOfMemory h are is u = absurd u
upgrade_taking j frames old new fault.NotJournal h are is u = absurd u
upgrade_taking j frames old new (fault.Damaged place) h are is u = absurd u
upgrade_taking j frames old new (fault.Refused why) h are is u = absurd u
