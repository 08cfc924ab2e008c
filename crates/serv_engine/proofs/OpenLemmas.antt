-- What opening answers, by what is read of the file.
use Rattle.std.proofs.Common.{◌≡◌, ◌⊎◌, ℕ, ◌+◌, ◌<◌, ◌≤◌, List, [], ◌∷◌, ◌++◌, length, refl, sym, ap, subst, ◌∙◌, inl, inr, ⊎_elim}
use Rattle.std.specs.Prelude.{Option, Some}
use Rattle.svc_world.specs.World.{Accepted}
use Rattle.svc_world.specs.Judging.{IsHistory}
use Rattle.serv_disk.specs.Disks.{LeavesOnly, View}
use Rattle.serv_disk.proofs.Moments.{weaker, joined}
use Rattle.serv_journal.specs.declared.format.Version.TheVariants.{One, Two}
use Rattle.serv_journal.specs.declared.faults.JournalFault.{JournalFault}
use Rattle.serv_journal.specs.declared.faults.JournalFault.TheVariants as journal
use Rattle.serv_journal.specs.Format.{Form, base, records}
use Rattle.serv_journal.specs.States.{JournalState, StandsFor}
use Rattle.serv_journal.specs.Disks.{IsWhole}
use Rattle.serv_journal.specs.Outcomes as outcomes
use Rattle.serv_journal.specs.Reading.{lines_in, IsRead, IsOpened, IsDamaged, IsNoJournal}
use Rattle.serv_journal.proofs.ExactLemmas.{read_or_damaged, whole_good}
use Rattle.serv_journal.proofs.ReadingLemmas.{risen_from}
use Rattle.serv_engine.specs.declared.fault.EngineFault.{EngineFault}
use Rattle.serv_engine.specs.declared.fault.EngineFault.TheVariants as fault
use Rattle.serv_engine.specs.Histories.{line_of_command, lines_of_history, IsGoodFound}
use Rattle.serv_engine.specs.Opening.{IsDamagedAt, IsTooLong, IsFound, IsClosed, IsPassing, IsTakingFault, IsOpenFault, IsOpenCause, fault_of_journal, base_length, length_upgraded}
use Rattle.serv_engine.proofs.LengthLemmas.{records_long}
use Rattle.serv_engine.proofs.FileLemmas.{read_once, unfit_file, unfit_place, read_or_damage, read_or_none}

-- ---- the journal does not open

-- its faults
pub journal_fault : (told : Option (List ℕ)) (limit old new : ℕ) (f : JournalFault) → outcomes.IsOpenFault old new f
    → (f ≡ journal.NotJournal → (s : List ℕ) → told ≡ Some s → IsNoJournal s)
    → ((place : ℕ) → f ≡ journal.Damaged place → (s : List ℕ) → told ≡ Some s → IsDamaged place s)
    → (s : List ℕ) → told ≡ Some s → IsOpenFault limit s old new (fault_of_journal f)
journal_fault told limit old new f which none damaged s is =
    ⊎_elim
    (λ not_one. subst (λ x. IsOpenFault limit s old new (fault_of_journal x)) (sym not_one) (none not_one s is))
    (λ more. ⊎_elim
    (λ at. subst (λ x. IsOpenFault limit s old new (fault_of_journal x)) (sym at.1) (inl (damaged at.0 at.1 s is)))
    (λ passing. ⊎_elim
    (λ memory. subst (λ x. IsOpenFault limit s old new (fault_of_journal x)) (sym memory) tt)
    (λ disk. subst (λ x. IsOpenFault limit s old new (fault_of_journal x)) (sym disk.0) disk.1)
    passing)
    more)
    which

pub journal_cause : (old new : ℕ) (f : JournalFault) → outcomes.IsOpenFault old new f → IsOpenCause old new (fault_of_journal f)
journal_cause old new f which =
    ⊎_elim
    (λ not_one. subst (λ x. IsOpenCause old new (fault_of_journal x)) (sym not_one) tt)
    (λ more. ⊎_elim
    (λ at. subst (λ x. IsOpenCause old new (fault_of_journal x)) (sym at.1) tt)
    (λ passing. ⊎_elim
    (λ memory. subst (λ x. IsOpenCause old new (fault_of_journal x)) (sym memory) tt)
    (λ disk. subst (λ x. IsOpenCause old new (fault_of_journal x)) (sym disk.0) disk.1)
    passing)
    more)
    which

passes : (old new : ℕ) (f : JournalFault) → outcomes.IsPassing old new f → IsPassing old new (fault_of_journal f)
passes old new f passing = ⊎_elim (λ memory. inl (ap fault_of_journal memory)) (λ disk. inr (ap fault_of_journal disk.0, disk.1)) passing

-- this one alone
pub journal_only : (old new : ℕ) (f only : JournalFault) → (f ≡ only) ⊎ outcomes.IsPassing old new f → (fault_of_journal f ≡ fault_of_journal only) ⊎ IsPassing old new (fault_of_journal f)
journal_only old new f only which = ⊎_elim (λ same. inl (ap fault_of_journal same)) (λ passing. inr (passes old new f passing)) which

-- a file that is read leaves passing faults alone
pub journal_passes : (told : Option (List ℕ)) (old new : ℕ) (f : JournalFault) (form : Form) (lines : List (List ℕ)) (commit : ℕ) (rest s : List ℕ) → outcomes.IsOpenFault old new f
    → (f ≡ journal.NotJournal → (s : List ℕ) → told ≡ Some s → IsNoJournal s)
    → ((place : ℕ) → f ≡ journal.Damaged place → (s : List ℕ) → told ≡ Some s → IsDamaged place s)
    → told ≡ Some s → IsRead form lines commit rest s → IsPassing old new (fault_of_journal f)
journal_passes told old new f form lines commit rest s which none damaged is read =
    ⊎_elim
    (λ not_one. absurd (read_or_none form lines commit rest s read (none not_one s is)))
    (λ more. ⊎_elim
    (λ at. absurd (read_or_damaged form lines commit rest s at.0 read (damaged at.0 at.1 s is)))
    (λ passing. passes old new f passing)
    more)
    which

pub journal_kept_or : (f : JournalFault) (P Q : Type 0) → (f ≡ journal.DiskFault) ⊎ P → (fault_of_journal f ≡ fault.DiskFault) ⊎ (P ⊎ Q)
journal_kept_or f P Q which = ⊎_elim (λ disk. inl (ap fault_of_journal disk)) (λ same. inr (inl same)) which

-- a file that is damaged as a journal has this fault alone; one that is read passing ones alone
pub journal_damaged : (told : Option (List ℕ)) (old new : ℕ) (f : JournalFault) (s : List ℕ) (place : ℕ) → outcomes.IsOpenFault old new f
    → (f ≡ journal.NotJournal → (s : List ℕ) → told ≡ Some s → IsNoJournal s)
    → ((place : ℕ) → f ≡ journal.Damaged place → (s : List ℕ) → told ≡ Some s → IsDamaged place s)
    → told ≡ Some s → (IsDamaged place s → (f ≡ journal.Damaged place) ⊎ outcomes.IsPassing old new f) → IsDamagedAt place s
    → (fault_of_journal f ≡ fault.Damaged place) ⊎ IsPassing old new (fault_of_journal f)
journal_damaged told old new f s place which none damaged is only at =
    ⊎_elim
    (λ journal_is. journal_only old new f (journal.Damaged place) (only journal_is))
    (λ unfit. inr (journal_passes told old new f unfit.form (lines_of_history unfit.history ++ unfit.line ∷ unfit.more) unfit.commit unfit.rest s which none damaged is unfit.read))
    at

-- ---- the journal opens, and is not taken over

too_long : (told : Option (List ℕ)) (j : JournalState) (frames : List (ℕ × List ℕ)) (s : List ℕ) (limit bytes : ℕ) → (o : IsOpened told j frames s) → j.limit ≡ limit
    → j.version ≡ One → bytes ≡ j.size → j.limit < length_upgraded j.size (lines_in frames) → (h : List Accepted) → lines_in frames ≡ lines_of_history h → IsHistory h → IsTooLong limit bytes s
too_long told j frames s limit bytes o limit_is one size past h are is = record {
  form = o.form;
  commit = o.commit;
  rest = o.rest;
  history = h;
  is_history = is;
  read = subst (λ l. IsRead o.form l o.commit o.rest s) are o.read;
  old = sym o.stands.version ∙ one;
  size_is = size ∙ (o.stands.size ∙ ap (λ l. length (base o.form l) + 1) are);
  past = subst (λ l. limit < length_upgraded bytes l) are (subst (λ n. limit < length_upgraded n (lines_in frames)) (sym size) (subst (λ n. n < length_upgraded j.size (lines_in frames)) limit_is past));
}

pub taking_fault : (told : Option (List ℕ)) (j : JournalState) (frames : List (ℕ × List ℕ)) (s : List ℕ) (limit old new : ℕ) (f : EngineFault) → IsOpened told j frames s → j.limit ≡ limit
    → IsTakingFault j frames old new f → IsOpenFault limit s old new f
taking_fault told j frames s limit old new (fault.JournalFull bytes) o limit_is is = too_long told j frames s limit bytes o limit_is is.0 is.1 is.2 is.3.history is.3.are is.3.is_history
taking_fault told j frames s limit old new fault.DiskFault o limit_is is = is
taking_fault told j frames s limit old new fault.OutOfMemory o limit_is is = tt
taking_fault told j frames s limit old new (fault.Damaged place) o limit_is is = inr (unfit_file told j frames s place o is)
taking_fault told j frames s limit old new fault.NotJournal o limit_is is = absurd is
taking_fault told j frames s limit old new (fault.Refused why) o limit_is is = absurd is

-- the same from an earlier count of faults on
pub taking_later : (j : JournalState) (frames : List (ℕ × List ℕ)) (old mid new : ℕ) (f : EngineFault) → old ≤ mid → mid ≤ new → IsTakingFault j frames mid new f → IsTakingFault j frames old new f
taking_later j frames old mid new (fault.JournalFull bytes) first second is = is
taking_later j frames old mid new fault.DiskFault first second is = risen_from old mid new first second is
taking_later j frames old mid new fault.OutOfMemory first second is = is
taking_later j frames old mid new (fault.Damaged place) first second is = is
taking_later j frames old mid new fault.NotJournal first second is = is
taking_later j frames old mid new (fault.Refused why) first second is = is

pub taking_cause : (j : JournalState) (frames : List (ℕ × List ℕ)) (old new : ℕ) (f : EngineFault) → IsTakingFault j frames old new f → IsOpenCause old new f
taking_cause j frames old new (fault.JournalFull bytes) is = tt
taking_cause j frames old new fault.DiskFault is = is
taking_cause j frames old new fault.OutOfMemory is = tt
taking_cause j frames old new (fault.Damaged place) is = tt
taking_cause j frames old new fault.NotJournal is = absurd is
taking_cause j frames old new (fault.Refused why) is = absurd is

-- a file that is damaged
pub only_damaged : (limit place old new : ℕ) (s : List ℕ) (f : EngineFault) (form : Form) (lines : List (List ℕ)) (commit : ℕ) (rest : List ℕ) → IsRead form lines commit rest s
    → IsDamagedAt place s → IsOpenFault limit s old new f → (f ≡ fault.Damaged place) ⊎ IsPassing old new f
only_damaged limit place old new s (fault.JournalFull bytes) form lines commit rest read damaged is =
    absurd (read_or_damage is.form is.history is.commit is.rest s place is.is_history is.read damaged)
only_damaged limit place old new s fault.DiskFault form lines commit rest read damaged is = inr (inr (refl, is))
only_damaged limit place old new s fault.OutOfMemory form lines commit rest read damaged is = inr (inl refl)
only_damaged limit place old new s (fault.Damaged other) form lines commit rest read damaged is =
    inl (ap (λ n. fault.Damaged n) (⊎_elim
    (λ journal_is. absurd (read_or_damaged form lines commit rest s other read journal_is))
    (λ unfit. ⊎_elim
    (λ journal_is. absurd (read_or_damaged form lines commit rest s place read journal_is))
    (λ unfit_there. unfit_place s other place unfit unfit_there)
    damaged)
    is))
only_damaged limit place old new s fault.NotJournal form lines commit rest read damaged is = absurd (read_or_none form lines commit rest s read is)
only_damaged limit place old new s (fault.Refused why) form lines commit rest read damaged is = absurd is

-- a file for which version 2 would pass the limit
same_size : (limit size bytes : ℕ) (s : List ℕ) → IsTooLong limit size s → IsTooLong limit bytes s → size ≡ bytes
same_size limit size bytes s a b =
    let same = read_once a.form b.form (lines_of_history a.history) (lines_of_history b.history) a.commit b.commit a.rest b.rest s a.read b.read in
    a.size_is ∙ (ap (λ (f : Form). length (base f (lines_of_history a.history)) + 1) same.form ∙ (ap (λ l. length (base b.form l) + 1) same.lines ∙ sym b.size_is))

pub only_full : (limit bytes old new : ℕ) (s : List ℕ) (f : EngineFault) → (long : IsTooLong limit bytes s) → IsOpenFault limit s old new f → (f ≡ fault.JournalFull bytes) ⊎ IsPassing old new f
only_full limit bytes old new s (fault.JournalFull size) long is = inl (ap (λ n. fault.JournalFull n) (same_size limit size bytes s is long))
only_full limit bytes old new s fault.DiskFault long is = inr (inr (refl, is))
only_full limit bytes old new s fault.OutOfMemory long is = inr (inl refl)
only_full limit bytes old new s (fault.Damaged place) long is = absurd (read_or_damage long.form long.history long.commit long.rest s place long.is_history long.read is)
only_full limit bytes old new s fault.NotJournal long is = absurd (read_or_none long.form (lines_of_history long.history) long.commit long.rest s long.read is)
only_full limit bytes old new s (fault.Refused why) long is = absurd is

-- what reads give then
pub closed_as : (told : Option (List ℕ)) (j : JournalState) (frames : List (ℕ × List ℕ)) (s : List ℕ) → IsOpened told j frames s → IsClosed s told
closed_as told j frames s o = record { form = o.form; lines = lines_in frames; commit = o.commit; rest = o.rest; read = o.read; closes = o.closes }

pub taken_kept : {D : Type 0} (view : D → View) (f : EngineFault) (j : JournalState) (frames : List (ℕ × List ℕ)) (old mid new : D)
    → ((s : List ℕ) → (view old).seen ≡ Some s → IsOpened (view mid).seen j frames s) → (f ≡ fault.DiskFault) ⊎ (new ≡ mid)
    → (f ≡ fault.DiskFault) ⊎ (((view new).seen ≡ (view old).seen) ⊎ ((s : List ℕ) → (view old).seen ≡ Some s → IsClosed s (view new).seen))
taken_kept view f j frames old mid new opened which =
    ⊎_elim (λ disk. inl disk)
    (λ same. inr (inr (λ s is. subst (λ d. IsClosed s (view d).seen) (sym same) (closed_as (view mid).seen j frames s (opened s is)))))
    which

-- ---- it is taken over

pub found_as : (told : Option (List ℕ)) (j : JournalState) (frames : List (ℕ × List ℕ)) (s : List ℕ) (limit size : ℕ) (h : List Accepted) → IsOpened told j frames s → j.limit ≡ limit
    → lines_of_history h ≡ lines_in frames → (j.version ≡ One → length_upgraded j.size (lines_in frames) ≤ j.limit)
    → ((form : Form) → StandsFor form (lines_in frames) j → size ≡ base_length form (lines_in frames) + length (records Two 1 (lines_in frames))) → IsFound limit size h s
found_as told j frames s limit size h o limit_is are room long = record {
  form = o.form;
  commit = o.commit;
  rest = o.rest;
  read = subst (λ l. IsRead o.form l o.commit o.rest s) (sym are) o.read;
  room = λ one.
      let fits = room (o.stands.version ∙ one) in
      subst (λ l. length_upgraded (length (base o.form l) + 1) l ≤ limit) (sym are)
      (subst (λ n. length_upgraded n (lines_in frames) ≤ limit) o.stands.size (subst (λ n. length_upgraded j.size (lines_in frames) ≤ n) limit_is fits));
  length_is = subst (λ l. size ≡ base_length o.form l + length (records Two 1 l)) (sym are) (long o.form o.stands) ∙ ap (λ n. base_length o.form (lines_of_history h) + n) (records_long 1 h);
}

-- ---- a crash while it is taken over

pub moments_taken : {D : Type 0} (view : D → View) (old mid new : D) (lines : List (List ℕ)) (h : List Accepted) (a : Accepted)
    → (lines ≡ lines_of_history h) ⊎ (lines ≡ lines_of_history h ++ line_of_command a ∷ [])
    → LeavesOnly view old mid (IsGoodFound h a) → LeavesOnly view mid new (IsWhole lines) → LeavesOnly view old new (IsGoodFound h a)
moments_taken view old mid new lines h a which first second =
    joined view old mid new (IsGoodFound h a) first
    (weaker view mid new (IsWhole lines) (IsGoodFound h a) second (λ c whole. whole_good lines (lines_of_history h) (line_of_command a) c which whole))
