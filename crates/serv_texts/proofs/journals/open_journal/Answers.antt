use Rattle.std.proofs.Common.{refl, inl, inr, ⊎_elim, ap}
use Rattle.std.proofs.Math.Nat.{le_refl}
use Rattle.serv_engine.specs.declared.fault.EngineFault.TheVariants as fault
use Rattle.serv_texts.specs.Status.{status_of_fault}
use Rattle.serv_texts.proofs.OpenLemmas.{opened, cause_of, only_of}
use Rattle.serv_texts.proofs.journals.open_journal.Goals as goal

pub returns-in-Ok-clause-opened : goal.returns-in-Ok-clause-opened
returns-in-Ok-clause-opened g c =
    opened g.D.Disk.view c.args.disk.now c.open.new.disk c.in-Ok.engine c.args.steps.now c.open.new.steps
    c.in-Ok.ensures.history c.in-Ok.ensures.found c.open.ensures.moments c.in-Ok.ensures.either c.in-Ok.ensures.durable c.in-Ok.ensures.version
    (c.in-Ok.ensures.bound (λ a m. le_refl _) (λ a m. refl))

pub returns-in-Ok-clause-faultless : goal.returns-in-Ok-clause-faultless
returns-in-Ok-clause-faultless g c = λ status. record {
  not_journal = λ s told is. absurd (c.in-Ok.ensures.exactly_not_journal s told is);
  damaged = λ s place told is. absurd (c.in-Ok.ensures.exactly_damaged s place told is);
  full = λ s bytes told is. absurd (c.in-Ok.ensures.exactly_full s bytes told is);
}

pub returns-in-Err-clause-unopened : goal.returns-in-Err-clause-unopened
returns-in-Err-clause-unopened g c = record {
  cause = rw c.unopened.ensures (cause_of (g.D.Disk.view c.args.disk.now).seen (g.D.Disk.faults c.args.disk.now) (g.D.Disk.faults c.open.new.disk) c.in-Err.fault c.in-Err.ensures.fault c.in-Err.ensures.cause);
  good = c.open.ensures.moments;
  kept = rw c.unopened.ensures (⊎_elim (λ disk. inl (ap status_of_fault disk)) (λ same. inr same) c.in-Err.ensures.kept);
  cost = c.in-Err.ensures.bound_err (λ a m. le_refl _) (λ a m. refl);
}

pub returns-in-Err-clause-file : goal.returns-in-Err-clause-file
returns-in-Err-clause-file g c = record {
  not_journal = λ s told is.
      rw c.unopened.ensures (only_of fault.NotJournal c.in-Err.fault (g.D.Disk.faults c.args.disk.now) (g.D.Disk.faults c.open.new.disk) (c.in-Err.ensures.exactly_not_journal s told is));
  damaged = λ s place told is.
      rw c.unopened.ensures (only_of (fault.Damaged place) c.in-Err.fault (g.D.Disk.faults c.args.disk.now) (g.D.Disk.faults c.open.new.disk) (c.in-Err.ensures.exactly_damaged s place told is));
  full = λ s bytes told is.
      rw c.unopened.ensures (only_of (fault.JournalFull bytes) c.in-Err.fault (g.D.Disk.faults c.args.disk.now) (g.D.Disk.faults c.open.new.disk) (c.in-Err.ensures.exactly_full s bytes told is));
}
