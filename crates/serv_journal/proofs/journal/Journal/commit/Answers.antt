use Rattle.std.proofs.Common.{refl, sym, subst}
use Rattle.serv_journal.specs.States.{JournalState}
use Rattle.serv_journal.specs.Disks.{IsKept}
use Rattle.serv_journal.proofs.BegunLemmas.{commit_kept, commit_around}
use Rattle.serv_journal.proofs.journal.Journal.commit.Goals as goal

pub returns-in-Ok-clause-committed : goal.returns-in-Ok-clause-committed
returns-in-Ok-clause-committed g c = λ form lines begun kept.
    let k = subst (λ (j : JournalState). IsKept form (g.D.Disk.view c.args.disk.now).images j lines begun) (sym c.self.view_is) kept in
    commit_kept form _ _ _ _ lines begun c.in-Some.gate c.in-Some.is refl refl refl refl refl c.in-Ok.ensures.durable k

pub returns-in-Ok-clause-moments : goal.returns-in-Ok-clause-moments
returns-in-Ok-clause-moments g c = λ form lines begun kept.
    let k = subst (λ (j : JournalState). IsKept form (g.D.Disk.view c.args.disk.now).images j lines begun) (sym c.self.view_is) kept in
    commit_around _ form _ _ lines begun c.in-Some.gate _ _ c.in-Some.is c.set_byte.ensures.moments k

pub returns-in-Err-clause-moments : goal.returns-in-Err-clause-moments
returns-in-Err-clause-moments g c = λ form lines begun kept.
    let k = subst (λ (j : JournalState). IsKept form (g.D.Disk.view c.args.disk.now).images j lines begun) (sym c.self.view_is) kept in
    commit_around _ form _ _ lines begun c.in-Some.gate _ _ c.in-Some.is c.set_byte.ensures.moments k
