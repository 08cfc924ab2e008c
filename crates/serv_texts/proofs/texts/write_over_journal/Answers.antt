use Rattle.std.proofs.Common.{refl, inl, inr, ◌-◌}
use Rattle.serv_engine.specs.Histories.{lengths_of}
use Rattle.serv_texts.proofs.texts.write_over_journal.Goals as goal

pub returns-in-Ok-clause-written : goal.returns-in-Ok-clause-written
returns-in-Ok-clause-written g c =
    let e = c.in-Ok.engine in
    inr (record {
      commands = e.history;
      base = e.journal.size - lengths_of e.history;
      begun = c.open_journal.new.steps;
      opening = c.in-Ok.ensures.opened;
      writes = c.write_by-status.ensures.writes;
    })

pub returns-in-Ok-clause-file : goal.returns-in-Ok-clause-file
returns-in-Ok-clause-file g c = c.in-Ok.ensures.faultless c.write_by-status.result

pub returns-in-Err-clause-written : goal.returns-in-Err-clause-written
returns-in-Err-clause-written g c = inl (c.in-Err.ensures.unopened, refl, refl)
