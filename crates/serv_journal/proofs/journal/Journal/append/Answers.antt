use Rattle.std.proofs.Common.{[], ◌∷◌, ◌++◌, refl, sym, subst}
use Rattle.serv_journal.specs.States.{JournalState}
use Rattle.serv_journal.specs.Disks.{IsKept}
use Rattle.serv_journal.proofs.BegunLemmas.{forgotten, push_around}
use Rattle.serv_journal.proofs.journal.Journal.append.Goals as goal

pub returns-then-is_err-clause-moments : goal.returns-then-is_err-clause-moments
returns-then-is_err-clause-moments g c = λ form lines kept.
    let k = forgotten form _ _ _ lines [] refl refl refl refl refl (subst (λ (j : JournalState). IsKept form (g.D.Disk.view c.args.disk.now).images j lines []) (sym c.self.view_is) kept) in
    push_around _ form lines c.args.line.now _ _ _ (c.begin.ensures.moments form lines [] k)
    (c.commit.ensures.moments form (lines ++ []) (c.args.line.now ∷ []) (c.in_ok-begin.ensures.begun form lines [] k))

pub returns-clause-moments : goal.returns-clause-moments
returns-clause-moments g c = λ form lines kept.
    let k = forgotten form _ _ _ lines [] refl refl refl refl refl (subst (λ (j : JournalState). IsKept form (g.D.Disk.view c.args.disk.now).images j lines []) (sym c.self.view_is) kept) in
    push_around _ form lines c.args.line.now _ _ _ (c.begin.ensures.moments form lines [] k)
    (c.commit.ensures.moments form (lines ++ []) (c.args.line.now ∷ []) (c.in_ok-begin.ensures.begun form lines [] k))
