use Rattle.std.proofs.Common.{◌+◌, length, sym, ap, subst, ◌∙◌}
use Rattle.std.specs.Prelude.{Err}
use Rattle.serv_journal.specs.declared.format.Version.TheVariants.{Two}
use Rattle.serv_journal.specs.Format.{records}
use Rattle.serv_journal.specs.Reading.{lines_in}
use Rattle.serv_journal.proofs.FormatLemmas.{number_one, number_two}
use Rattle.serv_journal.proofs.BegunLemmas.{stands_all}
use Rattle.serv_journal.proofs.ExactLemmas.{durable_reaches}
use Rattle.serv_engine.specs.Opening.{IsUpgradeFault}
use Rattle.serv_engine.proofs.FaultLemmas.{upgrade_fault, kept_full}
use Rattle.serv_engine.proofs.LengthLemmas.{size_upgraded, size_found}
use Rattle.serv_engine.proofs.UpgradedLemmas.{whole_now, upgraded_durable, ok_unspent, ok_fits, two_not_one}
use Rattle.serv_engine.proofs.old_version.upgrade_old.Goals as goal

pub returns-then-version-eq2-clause-version : goal.returns-then-version-eq2-clause-version
returns-then-version-eq2-clause-version g c = number_two c.args.journal.now.version (sym c.version.ensures ∙ c.if-version-eq2.true)

pub returns-then-version-eq2-clause-size : goal.returns-then-version-eq2-clause-size
returns-then-version-eq2-clause-size g c = λ form stands.
    size_found form (lines_in c.args.frames.now) c.args.journal.now (number_two c.args.journal.now.version (sym c.version.ensures ∙ c.if-version-eq2.true)) stands

pub returns-then-version-eq2-clause-moments : goal.returns-then-version-eq2-clause-moments
returns-then-version-eq2-clause-moments g c =
    whole_now g.D.Disk.view c.args.disk.now c.args.journal.now (lines_in c.args.frames.now) (g.met.D.Disk.only_now c.args.disk.now) c.requires.durable

pub returns-then-version-eq2-clause-room : goal.returns-then-version-eq2-clause-room
returns-then-version-eq2-clause-room g c = λ one.
    absurd (two_not_one c.args.journal.now (number_two c.args.journal.now.version (sym c.version.ensures ∙ c.if-version-eq2.true)) one)

pub upgrade-requires-clause-version : goal.upgrade-requires-clause-version
upgrade-requires-clause-version g c = number_one c.args.journal.now.version (λ is. c.if-version-eq2.false (c.version.ensures ∙ is))

pub upgrade-requires-clause-lines : goal.upgrade-requires-clause-lines
upgrade-requires-clause-lines g c = (stands_all c.requires.durable.form (lines_in c.args.frames.now) c.args.journal.now c.requires.durable.kept.stands).fit

pub upgrade-requires-clause-reaches : goal.upgrade-requires-clause-reaches
upgrade-requires-clause-reaches g c = λ s is.
    durable_reaches (g.D.Disk.view c.args.disk.now).images c.args.journal.now (lines_in c.args.frames.now) s c.requires.durable (g.met.D.Disk.reads_image c.args.disk.now s is)

pub returns-in-Ok-clause-durable : goal.returns-in-Ok-clause-durable
returns-in-Ok-clause-durable g c =
    let d = c.requires.durable in
    let stands = stands_all d.form (lines_in c.args.frames.now) c.args.journal.now d.kept.stands in
    upgraded_durable d.form (g.D.Disk.view c.upgrade.new.disk).images c.upgrade.new.self (lines_in c.args.frames.now) (c.in-Ok.ensures.upgraded d.form stands) c.in-Ok.ensures.none_begun (c.in-Ok.ensures.durable d.form stands d.kept.each)

pub returns-in-Ok-clause-version : goal.returns-in-Ok-clause-version
returns-in-Ok-clause-version g c = let d = c.requires.durable in (c.in-Ok.ensures.upgraded d.form (stands_all d.form (lines_in c.args.frames.now) c.args.journal.now d.kept.stands)).version

pub returns-in-Ok-clause-size : goal.returns-in-Ok-clause-size
returns-in-Ok-clause-size g c = λ form stands.
    size_upgraded form (lines_in c.args.frames.now) c.upgrade.new.self
    (sym stands.version ∙ number_one c.args.journal.now.version (λ is. c.if-version-eq2.false (c.version.ensures ∙ is))) (c.in-Ok.ensures.upgraded form stands)

pub returns-in-Ok-clause-unspent : goal.returns-in-Ok-clause-unspent
returns-in-Ok-clause-unspent g c = ok_unspent tt _ c.upgrade.new.self.spent c.in-Ok.ensures.spent.1

pub returns-in-Ok-clause-moments : goal.returns-in-Ok-clause-moments
returns-in-Ok-clause-moments g c = let d = c.requires.durable in c.upgrade.ensures.moments d.form (stands_all d.form (lines_in c.args.frames.now) c.args.journal.now d.kept.stands) d.kept.each

pub returns-in-Ok-clause-room : goal.returns-in-Ok-clause-room
returns-in-Ok-clause-room g c = λ one.
    ok_fits tt _ c.args.journal.now.limit (c.args.journal.now.size + 9 + length (records Two 1 (lines_in c.args.frames.now))) c.in-Ok.ensures.full.1

pub returns-in-Err-clause-moments : goal.returns-in-Err-clause-moments
returns-in-Err-clause-moments g c = let d = c.requires.durable in c.upgrade.ensures.moments d.form (stands_all d.form (lines_in c.args.frames.now) c.args.journal.now d.kept.stands) d.kept.each

pub returns-in-Err-clause-fault : goal.returns-in-Err-clause-fault
returns-in-Err-clause-fault g c =
    let old = g.D.Disk.faults c.args.disk.now in
    let new = g.D.Disk.faults c.upgrade.new.disk in
    subst (λ f. IsUpgradeFault c.args.journal.now (lines_in c.args.frames.now) old new f) (sym c.of_journal.ensures)
    (upgrade_fault c.args.journal.now (lines_in c.args.frames.now) old new c.in-Err.fault
    (number_one c.args.journal.now.version (λ is. c.if-version-eq2.false (c.version.ensures ∙ is))) c.in-Err.ensures.fault
    (λ is. c.in-Err.ensures.full.0 (ap (λ x. Err x) is)))

pub returns-in-Err-clause-kept : goal.returns-in-Err-clause-kept
returns-in-Err-clause-kept g c =
    rw c.of_journal.ensures (kept_full c.args.journal.now.size (g.D.Disk.faults c.args.disk.now) (g.D.Disk.faults c.upgrade.new.disk) c.in-Err.fault _ c.in-Err.ensures.fault
    (λ is. (c.in-Err.ensures.kept (c.in-Err.ensures.full.0 (ap (λ x. Err x) is))).1))
