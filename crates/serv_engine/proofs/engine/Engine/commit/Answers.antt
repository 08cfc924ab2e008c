use Rattle.std.proofs.Common.{◌≤◌, length, refl, sym, ap, subst, ◌∙◌}
use Rattle.std.proofs.lemmas.Result.{on_ok_weaker, on_err_weaker}
use Rattle.serv_disk.specs.Disks.{LeavesOnly}
use Rattle.serv_journal.specs.States.{JournalState}
use Rattle.serv_engine.specs.Histories.{lines_of_history, IsAroundFor}
use Rattle.serv_engine.specs.Engines.{EngineState, IsRunningIn, kept_of, begun_of}
use Rattle.serv_engine.proofs.DurableLemmas.{durable_in, good_now}
use Rattle.serv_engine.proofs.RunningLemmas.{committed_durable, same_parts_of, running_reaches}
use Rattle.serv_engine.proofs.engine.Engine.commit.Goals as goal

pub commit-requires-clause-unspent : goal.commit-requires-clause-unspent
commit-requires-clause-unspent g c = ap (λ (s : EngineState). s.journal.spent) c.self.view_is ∙ c.requires.unspent

pub commit-requires-clause-reaches : goal.commit-requires-clause-reaches
commit-requires-clause-reaches g c = λ t is.
    subst (λ (s : EngineState). s.journal.size ≤ length t) (sym c.self.view_is)
    (running_reaches (g.D.Disk.view c.args.disk.now).images c.args.self.now t c.requires.running (g.met.D.Disk.reads_image c.args.disk.now t is))

pub returns-clause-history : goal.returns-clause-history
returns-clause-history g c = ap (λ (s : EngineState). s.history) c.self.view_is

pub returns-clause-durable : goal.returns-clause-durable
returns-clause-durable g c =
    let form = c.requires.running.form in
    let old : EngineState = record { history = c.self.inside.core.history; journal = c.self.inside.journal } in
    let now : EngineState = record { history = c.self.inside.core.history; journal = c.commit.new.self } in
    let e = subst (λ (s : EngineState). IsRunningIn form (g.D.Disk.view c.args.disk.now).images s) (sym c.self.view_is) c.requires.running.kept in
    on_ok_weaker c.commit.result (λ kept. durable_in form (g.D.Disk.view c.commit.new.disk).images now (committed_durable form (g.D.Disk.view c.commit.new.disk).images old now refl kept))
    (c.commit.ensures.committed form (lines_of_history (kept_of old)) (lines_of_history (begun_of old)) e)

pub returns-clause-durable_in : goal.returns-clause-durable_in
returns-clause-durable_in g c = λ form r.
    let old : EngineState = record { history = c.self.inside.core.history; journal = c.self.inside.journal } in
    let now : EngineState = record { history = c.self.inside.core.history; journal = c.commit.new.self } in
    let e = subst (λ (s : EngineState). IsRunningIn form (g.D.Disk.view c.args.disk.now).images s) (sym c.self.view_is) r in
    on_ok_weaker c.commit.result (λ kept. committed_durable form (g.D.Disk.view c.commit.new.disk).images old now refl kept)
    (c.commit.ensures.committed form (lines_of_history (kept_of old)) (lines_of_history (begun_of old)) e)

pub returns-clause-moments : goal.returns-clause-moments
returns-clause-moments g c = λ form r.
    let old : EngineState = record { history = c.self.inside.core.history; journal = c.self.inside.journal } in
    let e = subst (λ (s : EngineState). IsRunningIn form (g.D.Disk.view c.args.disk.now).images s) (sym c.self.view_is) r in
    subst (λ (s : EngineState). LeavesOnly g.D.Disk.view c.args.disk.now c.commit.new.disk (IsAroundFor form (kept_of s) (begun_of s))) c.self.view_is
    (c.commit.ensures.moments form (lines_of_history (kept_of old)) (lines_of_history (begun_of old)) e)

pub returns-clause-good : goal.returns-clause-good
returns-clause-good g c = λ form r.
    let old : EngineState = record { history = c.self.inside.core.history; journal = c.self.inside.journal } in
    let e = subst (λ (s : EngineState). IsRunningIn form (g.D.Disk.view c.args.disk.now).images s) (sym c.self.view_is) r in
    good_now g.D.Disk.view c.args.disk.now c.commit.new.disk (IsAroundFor form (kept_of c.args.self.now) (begun_of c.args.self.now))
    g.met.D.Disk.counts_now
    (subst (λ (s : EngineState). LeavesOnly g.D.Disk.view c.args.disk.now c.commit.new.disk (IsAroundFor form (kept_of s) (begun_of s))) c.self.view_is
    (c.commit.ensures.moments form (lines_of_history (kept_of old)) (lines_of_history (begun_of old)) e))

pub returns-clause-idle : goal.returns-clause-idle
returns-clause-idle g c = λ none.
    let i = c.commit.ensures.idle (ap (λ (s : EngineState). s.journal.begun) c.self.view_is ∙ none) in
    (i.0, ap (λ (j : JournalState). let s : EngineState = record { history = c.self.inside.core.history; journal = j } in s) i.1 ∙ c.self.view_is, i.2)

pub returns-clause-same_kept : goal.returns-clause-same_kept
returns-clause-same_kept g c =
    let now : EngineState = record { history = c.self.inside.core.history; journal = c.commit.new.self } in
    on_err_weaker c.commit.result
    (λ same. same_parts_of c.args.self.now now (ap (λ (s : EngineState). s.history) c.self.view_is) (same ∙ ap (λ (s : EngineState). s.journal.begun) c.self.view_is))
    c.commit.ensures.same_begun

pub returns-clause-size : goal.returns-clause-size
returns-clause-size g c = c.commit.ensures.size ∙ ap (λ (s : EngineState). s.journal.size) c.self.view_is

pub returns-clause-limit : goal.returns-clause-limit
returns-clause-limit g c = c.commit.ensures.limit ∙ ap (λ (s : EngineState). s.journal.limit) c.self.view_is

pub returns-clause-version : goal.returns-clause-version
returns-clause-version g c = c.commit.ensures.same_version ∙ c.self.invariant
