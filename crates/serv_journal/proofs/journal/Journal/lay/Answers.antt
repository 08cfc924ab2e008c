use Rattle.std.proofs.Common.{refl, ap, ◌∙◌}
use Rattle.serv_journal.specs.States.{JournalState}
use Rattle.serv_journal.proofs.BegunLemmas.{lay_kept}
use Rattle.serv_journal.proofs.journal.Journal.lay.Goals as goal

pub returns-in-Ok-clause-committed : goal.returns-in-Ok-clause-committed
returns-in-Ok-clause-committed g c = λ form lines begun kept.
    lay_kept form _ _ c.args.self.now c.begin.new.self _ lines begun _ c.requires.line (ap (λ (j : JournalState). j.version) c.self-2.view_is ∙ c.begin.ensures.same_version)
    (ap (λ (j : JournalState). j.count) c.self.view_is) (ap (λ (j : JournalState). j.size) c.self.view_is) refl refl kept (rw c.deref.ensures.value at (c.in-Ok.ensures.begun form lines begun kept))
