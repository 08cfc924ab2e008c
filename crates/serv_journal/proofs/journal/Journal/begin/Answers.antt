use Rattle.std.proofs.Common.{◌+◌, refl, sym, ap, subst, ◌∙◌}
use Rattle.serv_journal.specs.States.{JournalState}
use Rattle.serv_journal.specs.Disks.{IsKept}
use Rattle.serv_journal.proofs.BegunLemmas.{begin_kept, begin_around, idle_around, laid_kept}
use Rattle.serv_journal.proofs.journal.Journal.begin.Goals as goal

pub returns-in-Ok-clause-moments : goal.returns-in-Ok-clause-moments
returns-in-Ok-clause-moments g c = λ form lines begun kept.
    let k = subst (λ (j : JournalState). IsKept form (g.D.Disk.view c.args.disk.now).images j lines begun) (sym c.self.view_is) kept in
    begin_around g.D.Disk.view form _ lines begun _ _ c.begin_within.ensures.moments k

pub returns-in-Err-clause-moments : goal.returns-in-Err-clause-moments
returns-in-Err-clause-moments g c = λ form lines begun kept.
    let k = subst (λ (j : JournalState). IsKept form (g.D.Disk.view c.args.disk.now).images j lines begun) (sym c.self.view_is) kept in
    begin_around g.D.Disk.view form _ lines begun _ _ c.begin_within.ensures.moments k

pub returns-in-Ok-clause-begun : goal.returns-in-Ok-clause-begun
returns-in-Ok-clause-begun g c = λ form lines begun kept.
    let k = subst (λ (j : JournalState). IsKept form (g.D.Disk.view c.args.disk.now).images j lines begun) (sym c.self.view_is) kept in
    rw c.count_in-in-Ok.ensures
    (begin_kept form _ _ _ _ lines begun c.args.line.now c.requires.line (ap (λ (j : JournalState). j.version) c.self.view_is ∙ c.requires.version) refl refl
    (ap (λ n. c.self.inside.size + n) c.in-Some.ensures.0) refl refl c.in-Ok.ensures.put k)

pub returns-then-has_laid-clause-moments : goal.returns-then-has_laid-clause-moments
returns-then-has_laid-clause-moments g c = λ form lines begun kept.
    idle_around g.D.Disk.view form (g.D.Disk.view c.args.disk.now).images c.args.self.now lines begun c.args.disk.now (g.met.D.Disk.only_now c.args.disk.now) kept

pub returns-then-has_laid-clause-begun : goal.returns-then-has_laid-clause-begun
returns-then-has_laid-clause-begun g c = λ form lines begun kept.
    rw c.count_in.ensures
    (laid_kept form _ c.args.self.now _ lines begun c.args.line.now (c.has_laid.ensures c.if-has_laid.true) c.requires.version refl refl
    (ap (λ n. c.args.self.now.size + n) c.in-Some.ensures.0) refl refl kept)

pub returns-in_default-clause-moments : goal.returns-in_default-clause-moments
returns-in_default-clause-moments g c = λ form lines begun kept.
    idle_around g.D.Disk.view form (g.D.Disk.view c.args.disk.now).images c.args.self.now lines begun c.args.disk.now (g.met.D.Disk.only_now c.args.disk.now) kept
