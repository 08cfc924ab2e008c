use Rattle.std.proofs.Common.{◌≡◌, ◌⊎◌, ℕ, List, [], ◌∷◌, ◌++◌, inl, inr, refl, sym, ap, subst, ◌∙◌, arith}
use Rattle.std.specs.Prelude.{Some, Err}
use Rattle.serv_journal.specs.declared.faults.JournalFault.TheVariants as journal
use Rattle.serv_journal.specs.Reading.{lines_in, IsRead}
use Rattle.serv_engine.specs.declared.fault.EngineFault.TheVariants as fault
use Rattle.serv_engine.specs.Histories.{line_of_command, lines_of_history}
use Rattle.serv_engine.specs.Opening.{IsClosed, IsPassing, IsOpenFault, IsOpenCause}
use Rattle.serv_engine.proofs.HistoryLines.{command_is_line, are_lines, history_front, history_last}
use Rattle.serv_engine.proofs.FileLemmas.{read_or_damage, read_or_none, long_or_found, which_lines, which_history}
use Rattle.serv_engine.proofs.OpenLemmas.{journal_fault, journal_cause, journal_only, journal_damaged, journal_passes, journal_kept_or, taking_fault, taking_later, taking_cause, only_damaged, only_full, taken_kept, found_as, moments_taken}
use Rattle.serv_engine.proofs.engine.Engine.open.Goals as goal

pub returns-in-Ok-take_over-clause-found : goal.returns-in-Ok-take_over-clause-found
returns-in-Ok-take_over-clause-found g c =
    λ s is.
    found_as (g.D.Disk.view c.open.new.disk).seen c.in-Ok.journal c.in-Ok.frames s c.args.limit c.take_over.new.journal.size c.in-Ok-take_over.core.history (c.in-Ok.ensures.opened s is) c.in-Ok.ensures.fresh.0 c.in-Ok-take_over.ensures.lines c.in-Ok-take_over.ensures.room c.in-Ok-take_over.ensures.size

pub returns-in-Ok-take_over-clause-fresh : goal.returns-in-Ok-take_over-clause-fresh
returns-in-Ok-take_over-clause-fresh g c =
    (c.take_over.ensures.limit ∙ c.in-Ok.ensures.fresh.0, c.in-Ok-take_over.ensures.unspent)

pub returns-in-Ok-take_over-clause-moments : goal.returns-in-Ok-take_over-clause-moments
returns-in-Ok-take_over-clause-moments g c =
    let frames = c.in-Ok.frames in
    let disk = c.args.disk.now in
    let disk_opened = c.open.new.disk in
    λ s is h a hist each.
    moments_taken g.D.Disk.view disk disk_opened c.take_over.new.disk (lines_in frames) h a (which_lines (g.D.Disk.view disk_opened).seen c.in-Ok.journal frames s h a hist (each s (g.met.D.Disk.reads_image disk s is)) (c.in-Ok.ensures.opened s is)) (c.open.ensures.moments s is (lines_of_history h) (line_of_command a) (are_lines h (history_front h a hist).formed) (let last = history_last h a hist in command_is_line a last.0 last.1) each) c.take_over.ensures.moments

pub returns-in-Ok-take_over-clause-exactly_not_journal : goal.returns-in-Ok-take_over-clause-exactly_not_journal
returns-in-Ok-take_over-clause-exactly_not_journal g c =
    λ s is none. let o = (c.in-Ok.ensures.opened s is) in absurd (read_or_none o.form (lines_in c.in-Ok.frames) o.commit o.rest s o.read none)

pub returns-in-Err-take_over-clause-moments : goal.returns-in-Err-take_over-clause-moments
returns-in-Err-take_over-clause-moments g c =
    let frames = c.in-Ok.frames in
    let disk = c.args.disk.now in
    let disk_opened = c.open.new.disk in
    λ s is h a hist each.
    moments_taken g.D.Disk.view disk disk_opened c.take_over.new.disk (lines_in frames) h a (which_lines (g.D.Disk.view disk_opened).seen c.in-Ok.journal frames s h a hist (each s (g.met.D.Disk.reads_image disk s is)) (c.in-Ok.ensures.opened s is)) (c.open.ensures.moments s is (lines_of_history h) (line_of_command a) (are_lines h (history_front h a hist).formed) (let last = history_last h a hist in command_is_line a last.0 last.1) each) c.take_over.ensures.moments

pub returns-in-Err-take_over-clause-exactly_not_journal : goal.returns-in-Err-take_over-clause-exactly_not_journal
returns-in-Err-take_over-clause-exactly_not_journal g c =
    λ s is none. let o = (c.in-Ok.ensures.opened s is) in absurd (read_or_none o.form (lines_in c.in-Ok.frames) o.commit o.rest s o.read none)

pub returns-in-Err-clause-moments : goal.returns-in-Err-clause-moments
returns-in-Err-clause-moments g c =
    λ s is h a hist each.
    c.open.ensures.moments s is (lines_of_history h) (line_of_command a) (are_lines h (history_front h a hist).formed) (let last = history_last h a hist in command_is_line a last.0 last.1) each

pub returns-in-Ok-take_over-clause-either : goal.returns-in-Ok-take_over-clause-either
returns-in-Ok-take_over-clause-either g c =
    λ s is h a hist each.
    which_history h c.in-Ok-take_over.core.history a hist c.in-Ok-take_over.ensures.history (subst (λ l. (l ≡ lines_of_history h) ⊎ (l ≡ lines_of_history h ++ line_of_command a ∷ [])) (sym c.in-Ok-take_over.ensures.lines) (which_lines (g.D.Disk.view c.open.new.disk).seen c.in-Ok.journal c.in-Ok.frames s h a hist (each s (g.met.D.Disk.reads_image c.args.disk.now s is)) (c.in-Ok.ensures.opened s is)))

pub returns-in-Ok-take_over-clause-exactly_damaged : goal.returns-in-Ok-take_over-clause-exactly_damaged
returns-in-Ok-take_over-clause-exactly_damaged g c =
    λ s place is damaged.
    let o = (c.in-Ok.ensures.opened s is) in absurd (read_or_damage o.form c.in-Ok-take_over.core.history o.commit o.rest s place c.in-Ok-take_over.ensures.history (subst (λ l. IsRead o.form l o.commit o.rest s) (sym c.in-Ok-take_over.ensures.lines) o.read) damaged)

pub returns-in-Ok-take_over-clause-exactly_full : goal.returns-in-Ok-take_over-clause-exactly_full
returns-in-Ok-take_over-clause-exactly_full g c =
    let limit = c.args.limit in
    let j_now = c.take_over.new.journal in
    let history = c.in-Ok-take_over.core.history in
    λ s bytes is long.
    absurd (long_or_found limit bytes j_now.size s history long (found_as (g.D.Disk.view c.open.new.disk).seen c.in-Ok.journal c.in-Ok.frames s limit j_now.size history (c.in-Ok.ensures.opened s is) c.in-Ok.ensures.fresh.0 c.in-Ok-take_over.ensures.lines c.in-Ok-take_over.ensures.room c.in-Ok-take_over.ensures.size))

pub returns-in-Ok-take_over-clause-faults : goal.returns-in-Ok-take_over-clause-faults
returns-in-Ok-take_over-clause-faults g c =
    let first = c.open.ensures.faults in let second = c.take_over.ensures.faults in omega (arith, first, second)

pub returns-in-Err-take_over-clause-fault : goal.returns-in-Err-take_over-clause-fault
returns-in-Err-take_over-clause-fault g c =
    let old_faults = (g.D.Disk.faults c.args.disk.now) in
    let new_faults = (g.D.Disk.faults c.take_over.new.disk) in
    let journal_is = c.in-Ok.journal in
    let frames = c.in-Ok.frames in
    let disk_opened = c.open.new.disk in
    let failed = c.in-Err-take_over.fault in
    λ s is.
    (taking_fault (g.D.Disk.view disk_opened).seen journal_is frames s c.args.limit old_faults new_faults failed (c.in-Ok.ensures.opened s is) c.in-Ok.ensures.fresh.0 (taking_later journal_is frames old_faults (g.D.Disk.faults disk_opened) new_faults failed c.open.ensures.faults c.take_over.ensures.faults c.in-Err-take_over.ensures.fault))

pub returns-in-Err-take_over-clause-cause : goal.returns-in-Err-take_over-clause-cause
returns-in-Err-take_over-clause-cause g c =
    let old_faults = (g.D.Disk.faults c.args.disk.now) in
    let new_faults = (g.D.Disk.faults c.take_over.new.disk) in
    let journal_is = c.in-Ok.journal in
    let frames = c.in-Ok.frames in
    let failed = c.in-Err-take_over.fault in
    taking_cause journal_is frames old_faults new_faults failed (taking_later journal_is frames old_faults (g.D.Disk.faults c.open.new.disk) new_faults failed c.open.ensures.faults c.take_over.ensures.faults c.in-Err-take_over.ensures.fault)

pub returns-in-Err-take_over-clause-exactly_damaged : goal.returns-in-Err-take_over-clause-exactly_damaged
returns-in-Err-take_over-clause-exactly_damaged g c =
    let old_faults = (g.D.Disk.faults c.args.disk.now) in
    let new_faults = (g.D.Disk.faults c.take_over.new.disk) in
    let journal_is = c.in-Ok.journal in
    let frames = c.in-Ok.frames in
    let limit = c.args.limit in
    let disk_opened = c.open.new.disk in
    let failed = c.in-Err-take_over.fault in
    λ s place is damaged.
    let o = (c.in-Ok.ensures.opened s is) in only_damaged limit place old_faults new_faults s failed o.form (lines_in frames) o.commit o.rest o.read damaged (taking_fault (g.D.Disk.view disk_opened).seen journal_is frames s limit old_faults new_faults failed (c.in-Ok.ensures.opened s is) c.in-Ok.ensures.fresh.0 (taking_later journal_is frames old_faults (g.D.Disk.faults disk_opened) new_faults failed c.open.ensures.faults c.take_over.ensures.faults c.in-Err-take_over.ensures.fault))

pub returns-in-Err-take_over-clause-exactly_full : goal.returns-in-Err-take_over-clause-exactly_full
returns-in-Err-take_over-clause-exactly_full g c =
    let old_faults = (g.D.Disk.faults c.args.disk.now) in
    let new_faults = (g.D.Disk.faults c.take_over.new.disk) in
    let journal_is = c.in-Ok.journal in
    let frames = c.in-Ok.frames in
    let limit = c.args.limit in
    let disk_opened = c.open.new.disk in
    let failed = c.in-Err-take_over.fault in
    λ s bytes is long.
    only_full limit bytes old_faults new_faults s failed long (taking_fault (g.D.Disk.view disk_opened).seen journal_is frames s limit old_faults new_faults failed (c.in-Ok.ensures.opened s is) c.in-Ok.ensures.fresh.0 (taking_later journal_is frames old_faults (g.D.Disk.faults disk_opened) new_faults failed c.open.ensures.faults c.take_over.ensures.faults c.in-Err-take_over.ensures.fault))

pub returns-in-Err-take_over-clause-kept : goal.returns-in-Err-take_over-clause-kept
returns-in-Err-take_over-clause-kept g c =
    taken_kept g.D.Disk.view c.in-Err-take_over.fault c.in-Ok.journal c.in-Ok.frames c.args.disk.now c.open.new.disk c.take_over.new.disk c.in-Ok.ensures.opened c.in-Err-take_over.ensures.kept

pub returns-in-Err-take_over-clause-faults : goal.returns-in-Err-take_over-clause-faults
returns-in-Err-take_over-clause-faults g c =
    let first = c.open.ensures.faults in let second = c.take_over.ensures.faults in omega (arith, first, second)

pub returns-in-Err-take_over-clause-bound_err : goal.returns-in-Err-take_over-clause-bound_err
returns-in-Err-take_over-clause-bound_err g c =
    λ is free.
    inr (record {
      lines = lines_in c.in-Ok.frames;
      within = c.in-Err-take_over.ensures.bound_err is free;
      of_file = λ s told. let o = c.in-Ok.ensures.opened s told in record { form = o.form; commit = o.commit; rest = o.rest; read = o.read };
    })

pub returns-in-Err-clause-fault : goal.returns-in-Err-clause-fault
returns-in-Err-clause-fault g c =
    let view = g.D.Disk.view in
    let old_faults = (g.D.Disk.faults c.args.disk.now) in
    let mid_faults = (g.D.Disk.faults c.open.new.disk) in
    let limit = c.args.limit in
    let disk = c.args.disk.now in
    subst (λ f. (s : List ℕ) → (view disk).seen ≡ Some s → IsOpenFault limit s old_faults mid_faults f) (sym c.of_journal.ensures) (journal_fault (view disk).seen limit old_faults mid_faults c.in-Err.fault c.in-Err.ensures.fault (λ is. c.in-Err.ensures.not_journal (ap (λ x. Err x) is)) c.in-Err.ensures.damaged)

pub returns-in-Err-clause-cause : goal.returns-in-Err-clause-cause
returns-in-Err-clause-cause g c =
    let old_faults = (g.D.Disk.faults c.args.disk.now) in
    let mid_faults = (g.D.Disk.faults c.open.new.disk) in
    subst (λ f. IsOpenCause old_faults mid_faults f) (sym c.of_journal.ensures) (journal_cause old_faults mid_faults c.in-Err.fault c.in-Err.ensures.fault)

pub returns-in-Err-clause-exactly_not_journal : goal.returns-in-Err-clause-exactly_not_journal
returns-in-Err-clause-exactly_not_journal g c =
    let old_faults = (g.D.Disk.faults c.args.disk.now) in
    let mid_faults = (g.D.Disk.faults c.open.new.disk) in
    λ s is none.
    subst (λ f. (f ≡ fault.NotJournal) ⊎ IsPassing old_faults mid_faults f) (sym c.of_journal.ensures) (journal_only old_faults mid_faults c.in-Err.fault journal.NotJournal (c.in-Err.ensures.exactly_not_journal s is none))

pub returns-in-Err-clause-exactly_damaged : goal.returns-in-Err-clause-exactly_damaged
returns-in-Err-clause-exactly_damaged g c =
    let old_faults = (g.D.Disk.faults c.args.disk.now) in
    let mid_faults = (g.D.Disk.faults c.open.new.disk) in
    λ s place is damaged.
    subst (λ f. (f ≡ fault.Damaged place) ⊎ IsPassing old_faults mid_faults f) (sym c.of_journal.ensures) (journal_damaged (g.D.Disk.view c.args.disk.now).seen old_faults mid_faults c.in-Err.fault s place c.in-Err.ensures.fault (λ is. c.in-Err.ensures.not_journal (ap (λ x. Err x) is)) c.in-Err.ensures.damaged is (c.in-Err.ensures.exactly_damaged s place is) damaged)

pub returns-in-Err-clause-exactly_full : goal.returns-in-Err-clause-exactly_full
returns-in-Err-clause-exactly_full g c =
    let old_faults = (g.D.Disk.faults c.args.disk.now) in
    let mid_faults = (g.D.Disk.faults c.open.new.disk) in
    λ s bytes is long.
    subst (λ f. (f ≡ fault.JournalFull bytes) ⊎ IsPassing old_faults mid_faults f) (sym c.of_journal.ensures) (inr (journal_passes (g.D.Disk.view c.args.disk.now).seen old_faults mid_faults c.in-Err.fault long.form (lines_of_history long.history) long.commit long.rest s c.in-Err.ensures.fault (λ is. c.in-Err.ensures.not_journal (ap (λ x. Err x) is)) c.in-Err.ensures.damaged is long.read))

pub returns-in-Err-clause-kept : goal.returns-in-Err-clause-kept
returns-in-Err-clause-kept g c =
    let view = g.D.Disk.view in
    let disk = c.args.disk.now in
    let disk_opened = c.open.new.disk in
    let told = (view disk_opened).seen in
    subst (λ f. (f ≡ fault.DiskFault) ⊎ (((view disk_opened).seen ≡ (view disk).seen) ⊎ ((s : List ℕ) → (view disk).seen ≡ Some s → IsClosed s told))) (sym c.of_journal.ensures) (journal_kept_or c.in-Err.fault ((view disk_opened).seen ≡ (view disk).seen) ((s : List ℕ) → (view disk).seen ≡ Some s → IsClosed s told) c.in-Err.ensures.kept)

pub returns-in-Err-clause-bound_err : goal.returns-in-Err-clause-bound_err
returns-in-Err-clause-bound_err g c =
    λ is free. inl refl
