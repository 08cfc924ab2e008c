use Rattle.std.proofs.Common.{◌≡◌, ◌+◌, ◌≤◌, inr, length, refl, sym, ap, subst, ◌∙◌, arith}
use Rattle.svc_world.specs.World.{Accepted, accepted}
use Rattle.svc_world.specs.Judging.{Kept, Fresh, judged, history_after}
use Rattle.svc_core.specs.Core.{IsVerdict, IsReplyTo}
use Rattle.svc_core.specs.Bound.{step_bound}
use Rattle.svc_core.proofs.BoundLemmas.{submitting_within, fresh_counted}
use Rattle.serv_disk.specs.Disks.{LeavesOnly}
use Rattle.serv_engine.specs.Histories.{IsAroundFor}
use Rattle.serv_engine.specs.Engines.{EngineState, IsRunningIn, IsRunning, kept_of, begun_of}
use Rattle.serv_engine.specs.Submitting.{HasRoom, IsSubmitFault}
use Rattle.serv_engine.specs.Entering.{risked, kept_after}
use Rattle.serv_engine.proofs.DurableLemmas.{running_in, good_now}
use Rattle.serv_engine.proofs.RunningLemmas.{same_parts_of, running_reaches}
use Rattle.serv_engine.proofs.EnteringLemmas.{enter_running, enter_parts, enter_none, idle_risked, rest_risked}
use Rattle.serv_engine.proofs.FaultLemmas.{submit_fault, core_kept, fresh_fault}
use Rattle.serv_engine.proofs.SubmitLemmas.{kept_reply, kept_history, fresh_reply, fresh_history, one_more, next_same, not_both, length_more, length_same, ok_not_spent, unspent_now, err_not_spent, err_spent, still_same, kept_engine}
use Rattle.serv_engine.proofs.engine.Engine.enter.Goals as goal

pub returns-in-Repeat-clause-reply : goal.returns-in-Repeat-clause-reply
returns-in-Repeat-clause-reply g c =
    let h = c.self.inside.core.history in
    let key = c.args.key.now in
    let command = c.args.command.now in
    let kept = subst (λ v. IsVerdict (judged h key command) v) c.in-Repeat.is c.in-Ok.ensures.verdict in
    let said = judged h key command in
    subst (λ (s : EngineState). IsReplyTo s.history command (judged s.history key command) c.in-Repeat.reply) c.self.view_is
    (kept_reply h command said c.in-Repeat.reply kept)

pub returns-in-Repeat-clause-history : goal.returns-in-Repeat-clause-history
returns-in-Repeat-clause-history g c =
    let h = c.self.inside.core.history in
    let key = c.args.key.now in
    let command = c.args.command.now in
    let judged_at = c.judge.new.self.history in
    let kept = subst (λ v. IsVerdict (judged h key command) v) c.in-Repeat.is c.in-Ok.ensures.verdict in
    let said = judged h key command in
    subst (λ (s : EngineState). judged_at ≡ history_after s.history key command (judged s.history key command)) c.self.view_is
    (kept_history h judged_at key command said c.in-Repeat.reply kept c.judge.ensures.history)

pub returns-in-Repeat-clause-taken : goal.returns-in-Repeat-clause-taken
returns-in-Repeat-clause-taken g c =
    let h = c.self.inside.core.history in
    let key = c.args.key.now in
    let command = c.args.command.now in
    let kept = subst (λ v. IsVerdict (judged h key command) v) c.in-Repeat.is c.in-Ok.ensures.verdict in
    let same = still_same h c.judge.new.self.history c.self.inside.journal c.args.self.now c.judge.ensures.history c.self.view_is in
    (subst (λ (s : EngineState). judged s.history key command ≡ Kept c.in-Repeat.reply) c.self.view_is kept, (same, refl))

pub returns-in-Repeat-clause-room : goal.returns-in-Repeat-clause-room
returns-in-Repeat-clause-room g c =
    let h = c.self.inside.core.history in
    let key = c.args.key.now in
    let command = c.args.command.now in
    let kept = subst (λ v. IsVerdict (judged h key command) v) c.in-Repeat.is c.in-Ok.ensures.verdict in
    let said = judged h key command in
    subst (λ (s : EngineState). (judged s.history key command) ≡ Fresh → HasRoom s.journal (accepted key command)) c.self.view_is
    (λ fresh. absurd (not_both said c.in-Repeat.reply kept fresh))

pub returns-in-Repeat-clause-spent : goal.returns-in-Repeat-clause-spent
returns-in-Repeat-clause-spent g c =
    ok_not_spent _ c.self.inside.journal.spent (ap (λ (s : EngineState). s.journal.spent) c.self.view_is ∙ c.requires.unspent)

pub returns-in-Repeat-clause-running : goal.returns-in-Repeat-clause-running
returns-in-Repeat-clause-running g c =
    let h = c.self.inside.core.history in
    let j = c.self.inside.journal in
    let was = c.args.self.now in
    let judged_at = c.judge.new.self.history in
    let same = still_same h judged_at j was c.judge.ensures.history c.self.view_is in
    subst (λ (s : EngineState). IsRunning (g.D.Disk.view c.args.disk.now).images s) (sym same) c.requires.running

pub returns-in-Repeat-clause-running_in : goal.returns-in-Repeat-clause-running_in
returns-in-Repeat-clause-running_in g c =
    let h = c.self.inside.core.history in
    let j = c.self.inside.journal in
    let was = c.args.self.now in
    let judged_at = c.judge.new.self.history in
    let same = still_same h judged_at j was c.judge.ensures.history c.self.view_is in
    λ form d. subst (λ (s : EngineState). IsRunningIn form (g.D.Disk.view c.args.disk.now).images s) (sym same) d

pub returns-in-Repeat-clause-length : goal.returns-in-Repeat-clause-length
returns-in-Repeat-clause-length g c =
    let h = c.self.inside.core.history in
    let j = c.self.inside.journal in
    let was = c.args.self.now in
    let judged_at = c.judge.new.self.history in
    let same = still_same h judged_at j was c.judge.ensures.history c.self.view_is in
    λ place is. length_same was (record { history = judged_at; journal = j }) same place is

pub returns-in-Repeat-clause-moments : goal.returns-in-Repeat-clause-moments
returns-in-Repeat-clause-moments g c =
    λ form r. idle_risked g.D.Disk.view c.args.until c.args.disk.now form c.args.self.now (accepted c.args.key.now c.args.command.now) c.requires.alone (g.met.D.Disk.only_now c.args.disk.now) r

pub returns-in-Repeat-clause-good : goal.returns-in-Repeat-clause-good
returns-in-Repeat-clause-good g c =
    λ form r. rest_risked c.args.until (g.D.Disk.view c.args.disk.now).images form c.args.self.now (accepted c.args.key.now c.args.command.now) c.requires.alone r

pub returns-in-Repeat-clause-limit : goal.returns-in-Repeat-clause-limit
returns-in-Repeat-clause-limit g c =
    ap (λ (s : EngineState). s.journal.limit) c.self.view_is

pub returns-in-Repeat-clause-version : goal.returns-in-Repeat-clause-version
returns-in-Repeat-clause-version g c =
    c.self.invariant

pub returns-in-Repeat-clause-bound : goal.returns-in-Repeat-clause-bound
returns-in-Repeat-clause-bound g c =
    let key = c.args.key.now in
    let command = c.args.command.now in
    λ is free.
    subst (λ (s : EngineState). c.judge.new.steps ≤ c.args.steps.now + step_bound s.history key command) c.self.view_is
    (let within = submitting_within g.B.LoanBooks.cost g.B.LoanBooks.month_cost c.self.inside.core.history key command is free c.history_holds.ensures.history in
    let le = c.judge.ensures.steps in
    omega (arith, le, within))

pub returns-in-Err-clause-moments : goal.returns-in-Err-clause-moments
returns-in-Err-clause-moments g c =
    λ form r. idle_risked g.D.Disk.view c.args.until c.args.disk.now form c.args.self.now (accepted c.args.key.now c.args.command.now) c.requires.alone (g.met.D.Disk.only_now c.args.disk.now) r

pub returns-in-Err-clause-good : goal.returns-in-Err-clause-good
returns-in-Err-clause-good g c =
    λ form r. rest_risked c.args.until (g.D.Disk.view c.args.disk.now).images form c.args.self.now (accepted c.args.key.now c.args.command.now) c.requires.alone r

pub returns-in-Err-clause-limit : goal.returns-in-Err-clause-limit
returns-in-Err-clause-limit g c =
    ap (λ (s : EngineState). s.journal.limit) c.self.view_is

pub returns-in-Err-clause-version : goal.returns-in-Err-clause-version
returns-in-Err-clause-version g c =
    c.self.invariant

pub returns-in-Err-clause-bound : goal.returns-in-Err-clause-bound
returns-in-Err-clause-bound g c =
    let key = c.args.key.now in
    let command = c.args.command.now in
    λ is free.
    subst (λ (s : EngineState). c.judge.new.steps ≤ c.args.steps.now + step_bound s.history key command) c.self.view_is
    (let within = submitting_within g.B.LoanBooks.cost g.B.LoanBooks.month_cost c.self.inside.core.history key command is free c.history_holds.ensures.history in
    let le = c.judge.ensures.steps in
    omega (arith, le, within))

pub returns-in-Err-clause-fault : goal.returns-in-Err-clause-fault
returns-in-Err-clause-fault g c =
    let faults = g.D.Disk.faults in
    let h = c.self.inside.core.history in
    let j = c.self.inside.journal in
    let key = c.args.key.now in
    let command = c.args.command.now in
    let disk = c.args.disk.now in
    let said = judged h key command in
    subst (λ (s : EngineState). IsSubmitFault (judged s.history key command) s.journal (accepted key command) (faults disk) (faults disk) c.of_core.result) c.self.view_is
    (subst (λ f. IsSubmitFault said j (accepted key command) (faults disk) (faults disk) f) (sym c.of_core.ensures) (submit_fault said j (accepted key command) (faults disk) (faults disk) c.in-Err.fault c.in-Err.ensures.fault))

pub returns-in-Err-clause-kept : goal.returns-in-Err-clause-kept
returns-in-Err-clause-kept g c =
    let h = c.self.inside.core.history in
    let j = c.self.inside.journal in
    let was = c.args.self.now in
    let judged_at = c.judge.new.self.history in
    let same = still_same h judged_at j was c.judge.ensures.history c.self.view_is in
    inr (same, refl)

pub returns-in-Err-clause-err : goal.returns-in-Err-clause-err
returns-in-Err-clause-err g c =
    c.judge.ensures.history ∙ ap (λ (s : EngineState). s.history) c.self.view_is

pub returns-in-Err-clause-spent : goal.returns-in-Err-clause-spent
returns-in-Err-clause-spent g c =
    err_not_spent c.of_core.result c.self.inside.journal.spent (λ is. core_kept c.in-Err.fault (sym c.of_core.ensures ∙ is)) (ap (λ (s : EngineState). s.journal.spent) c.self.view_is ∙ c.requires.unspent)

pub returns-in-Ok-put_command-clause-reply : goal.returns-in-Ok-put_command-clause-reply
returns-in-Ok-put_command-clause-reply g c =
    let h = c.self.inside.core.history in
    let key = c.args.key.now in
    let command = c.args.command.now in
    let fresh_is = subst (λ v. IsVerdict (judged h key command) v) c.in-Fresh.is c.in-Ok.ensures.verdict in
    let said = judged h key command in
    subst (λ (s : EngineState). IsReplyTo s.history command (judged s.history key command) c.accept.result) c.self.view_is
    (fresh_reply h command said c.accept.result fresh_is (next_same h c.judge.new.self.history command c.accept.result c.judge.ensures.history c.accept.ensures.reply))

pub returns-in-Ok-put_command-clause-history : goal.returns-in-Ok-put_command-clause-history
returns-in-Ok-put_command-clause-history g c =
    let h = c.self.inside.core.history in
    let key = c.args.key.now in
    let command = c.args.command.now in
    let judged_at = c.judge.new.self.history in
    let h_now = c.accept.new.self.history in
    let fresh_is = subst (λ v. IsVerdict (judged h key command) v) c.in-Fresh.is c.in-Ok.ensures.verdict in
    let more = one_more h judged_at h_now (accepted key command) c.judge.ensures.history c.accept.ensures.history in
    let said = judged h key command in
    subst (λ (s : EngineState). h_now ≡ history_after s.history key command (judged s.history key command)) c.self.view_is
    (fresh_history h h_now key command said fresh_is more)

pub returns-in-Ok-put_command-clause-taken : goal.returns-in-Ok-put_command-clause-taken
returns-in-Ok-put_command-clause-taken g c =
    let view = g.D.Disk.view in
    let h = c.self.inside.core.history in
    let a : Accepted = accepted c.args.key.now c.args.command.now in
    let old : EngineState = record { history = h; journal = c.self.inside.journal } in
    let now : EngineState = record { history = c.accept.new.self.history; journal = c.put_command.new.journal } in
    let more = one_more h c.judge.new.self.history c.accept.new.self.history a c.judge.ensures.history c.accept.ensures.history in
    let form = c.requires.running.form in
    let e = subst (λ (s : EngineState). IsRunningIn form (view c.args.disk.now).images s) (sym c.self.view_is) c.requires.running.kept in
    let fresh_is = subst (λ v. IsVerdict (judged h c.args.key.now c.args.command.now) v) c.in-Fresh.is c.in-Ok.ensures.verdict in
    let parts = enter_parts c.args.until form (view c.put_command.new.disk).images old now a more (c.in-Ok-put_command.ensures.put form (kept_of old) (begun_of old) e) in
    (subst (λ (s : EngineState). judged s.history c.args.key.now c.args.command.now ≡ Fresh) c.self.view_is fresh_is, (parts.0 ∙ ap (λ (s : EngineState). kept_after c.args.until s.history a) c.self.view_is, parts.1))

pub returns-in-Ok-put_command-clause-running_in : goal.returns-in-Ok-put_command-clause-running_in
returns-in-Ok-put_command-clause-running_in g c =
    let view = g.D.Disk.view in
    let h = c.self.inside.core.history in
    let a : Accepted = accepted c.args.key.now c.args.command.now in
    let old : EngineState = record { history = h; journal = c.self.inside.journal } in
    let now : EngineState = record { history = c.accept.new.self.history; journal = c.put_command.new.journal } in
    let more = one_more h c.judge.new.self.history c.accept.new.self.history a c.judge.ensures.history c.accept.ensures.history in
    λ form r.
    let e = subst (λ (s : EngineState). IsRunningIn form (view c.args.disk.now).images s) (sym c.self.view_is) r in
    enter_running c.args.until form (view c.put_command.new.disk).images old now a more (c.in-Ok-put_command.ensures.put form (kept_of old) (begun_of old) e)

pub returns-in-Ok-put_command-clause-running : goal.returns-in-Ok-put_command-clause-running
returns-in-Ok-put_command-clause-running g c =
    let view = g.D.Disk.view in
    let h = c.self.inside.core.history in
    let a : Accepted = accepted c.args.key.now c.args.command.now in
    let old : EngineState = record { history = h; journal = c.self.inside.journal } in
    let now : EngineState = record { history = c.accept.new.self.history; journal = c.put_command.new.journal } in
    let more = one_more h c.judge.new.self.history c.accept.new.self.history a c.judge.ensures.history c.accept.ensures.history in
    let form = c.requires.running.form in
    let e = subst (λ (s : EngineState). IsRunningIn form (view c.args.disk.now).images s) (sym c.self.view_is) c.requires.running.kept in
    running_in form (view c.put_command.new.disk).images now
    (enter_running c.args.until form (view c.put_command.new.disk).images old now a more (c.in-Ok-put_command.ensures.put form (kept_of old) (begun_of old) e))

pub returns-in-Ok-put_command-clause-room : goal.returns-in-Ok-put_command-clause-room
returns-in-Ok-put_command-clause-room g c =
    let key = c.args.key.now in
    let command = c.args.command.now in
    subst (λ (s : EngineState). (judged s.history key command) ≡ Fresh → HasRoom s.journal (accepted key command)) c.self.view_is
    (λ fresh. c.in-Ok-put_command.ensures.room)

pub returns-in-Ok-put_command-clause-spent : goal.returns-in-Ok-put_command-clause-spent
returns-in-Ok-put_command-clause-spent g c =
    let j_now = c.put_command.new.journal in
    ok_not_spent _ j_now.spent (unspent_now tt j_now.spent c.in-Ok-put_command.ensures.spent.1)

pub returns-in-Ok-put_command-clause-length : goal.returns-in-Ok-put_command-clause-length
returns-in-Ok-put_command-clause-length g c =
    let view = g.D.Disk.view in
    let h = c.self.inside.core.history in
    let a : Accepted = accepted c.args.key.now c.args.command.now in
    let old : EngineState = record { history = h; journal = c.self.inside.journal } in
    let now : EngineState = record { history = c.accept.new.self.history; journal = c.put_command.new.journal } in
    let more = one_more h c.judge.new.self.history c.accept.new.self.history a c.judge.ensures.history c.accept.ensures.history in
    let form = c.requires.running.form in
    let e = subst (λ (s : EngineState). IsRunningIn form (view c.args.disk.now).images s) (sym c.self.view_is) c.requires.running.kept in
    λ place is.
    length_more form (view c.args.disk.now).images (view c.put_command.new.disk).images c.args.self.now now c.requires.running.kept
    (enter_running c.args.until form (view c.put_command.new.disk).images old now a more (c.in-Ok-put_command.ensures.put form (kept_of old) (begun_of old) e))
    (ap (λ (s : EngineState). s.journal.version) (sym c.self.view_is) ∙ c.self.invariant) (c.put_command.ensures.same_version ∙ c.self.invariant) place is

pub returns-in-Ok-put_command-clause-bound : goal.returns-in-Ok-put_command-clause-bound
returns-in-Ok-put_command-clause-bound g c =
    let h = c.self.inside.core.history in
    let key = c.args.key.now in
    let command = c.args.command.now in
    let fresh_is = subst (λ v. IsVerdict (judged h key command) v) c.in-Fresh.is c.in-Ok.ensures.verdict in
    λ is free.
    subst (λ (s : EngineState). c.accept.new.steps ≤ c.args.steps.now + step_bound s.history key command) c.self.view_is
    (let within = submitting_within g.B.LoanBooks.cost g.B.LoanBooks.month_cost h key command is free c.history_holds.ensures.history in
    let counted = fresh_counted g.B.LoanBooks.cost g.B.LoanBooks.month_cost h c.judge.new.self.history key command c.args.steps.now c.judge.new.steps c.accept.new.steps fresh_is c.judge.ensures.history c.judge.ensures.steps c.accept.ensures.steps in
    omega (arith, counted, within))

pub returns-in-Err-put_command-clause-fault : goal.returns-in-Err-put_command-clause-fault
returns-in-Err-put_command-clause-fault g c =
    let faults = g.D.Disk.faults in
    let h = c.self.inside.core.history in
    let key = c.args.key.now in
    let command = c.args.command.now in
    let disk = c.args.disk.now in
    let disk_now = c.put_command.new.disk in
    let fresh_is = subst (λ v. IsVerdict (judged h key command) v) c.in-Fresh.is c.in-Ok.ensures.verdict in
    let said = judged h key command in
    subst (λ (s : EngineState). IsSubmitFault (judged s.history key command) s.journal (accepted key command) (faults disk) (faults disk_now) c.in-Err-put_command.fault) c.self.view_is
    (fresh_fault said c.self.inside.journal (accepted key command) (faults disk) (faults disk_now) c.in-Err-put_command.fault fresh_is c.in-Err-put_command.ensures.fault)

pub returns-in-Err-put_command-clause-kept : goal.returns-in-Err-put_command-clause-kept
returns-in-Err-put_command-clause-kept g c =
    kept_engine c.in-Err-put_command.fault c.self.inside.core.history c.judge.new.self.history c.self.inside.journal c.put_command.new.journal c.args.self.now c.args.disk.now c.put_command.new.disk c.judge.ensures.history c.self.view_is c.in-Err-put_command.ensures.kept

pub returns-in-Err-put_command-clause-err : goal.returns-in-Err-put_command-clause-err
returns-in-Err-put_command-clause-err g c =
    c.judge.ensures.history ∙ ap (λ (s : EngineState). s.history) c.self.view_is

pub returns-in-Err-put_command-clause-spent : goal.returns-in-Err-put_command-clause-spent
returns-in-Err-put_command-clause-spent g c =
    err_spent c.in-Err-put_command.fault c.put_command.new.journal.spent c.in-Err-put_command.ensures.spent.0 c.in-Err-put_command.ensures.spent.1

pub returns-in-Err-put_command-clause-bound : goal.returns-in-Err-put_command-clause-bound
returns-in-Err-put_command-clause-bound g c =
    let key = c.args.key.now in
    let command = c.args.command.now in
    λ is free.
    subst (λ (s : EngineState). c.judge.new.steps ≤ c.args.steps.now + step_bound s.history key command) c.self.view_is
    (let within = submitting_within g.B.LoanBooks.cost g.B.LoanBooks.month_cost c.self.inside.core.history key command is free c.history_holds.ensures.history in
    let le = c.judge.ensures.steps in
    omega (arith, le, within))

pub returns-in-Ok-put_command-clause-moments : goal.returns-in-Ok-put_command-clause-moments
returns-in-Ok-put_command-clause-moments g c =
    let view = g.D.Disk.view in
    let old : EngineState = record { history = c.self.inside.core.history; journal = c.self.inside.journal } in
    let disk = c.args.disk.now in
    let disk_now = c.put_command.new.disk in
    λ form r.
    let e = subst (λ (s : EngineState). IsRunningIn form (view c.args.disk.now).images s) (sym c.self.view_is) r in
    subst (λ (s : EngineState). LeavesOnly g.D.Disk.view disk disk_now (IsAroundFor form (kept_of s) (risked c.args.until (begun_of s) (accepted c.args.key.now c.args.command.now)))) c.self.view_is
    (c.put_command.ensures.moments form (kept_of old) (begun_of old) e)

pub returns-in-Ok-put_command-clause-good : goal.returns-in-Ok-put_command-clause-good
returns-in-Ok-put_command-clause-good g c =
    let view = g.D.Disk.view in
    let old : EngineState = record { history = c.self.inside.core.history; journal = c.self.inside.journal } in
    let disk = c.args.disk.now in
    let disk_now = c.put_command.new.disk in
    λ form r.
    let e = subst (λ (s : EngineState). IsRunningIn form (view c.args.disk.now).images s) (sym c.self.view_is) r in
    good_now view disk disk_now (IsAroundFor form (kept_of c.args.self.now) (risked c.args.until (begun_of c.args.self.now) (accepted c.args.key.now c.args.command.now))) g.met.D.Disk.counts_now
    (subst (λ (s : EngineState). LeavesOnly g.D.Disk.view disk disk_now (IsAroundFor form (kept_of s) (risked c.args.until (begun_of s) (accepted c.args.key.now c.args.command.now)))) c.self.view_is
    (c.put_command.ensures.moments form (kept_of old) (begun_of old) e))

pub returns-in-Ok-put_command-clause-limit : goal.returns-in-Ok-put_command-clause-limit
returns-in-Ok-put_command-clause-limit g c =
    c.put_command.ensures.limit ∙ ap (λ (s : EngineState). s.journal.limit) c.self.view_is

pub returns-in-Ok-put_command-clause-version : goal.returns-in-Ok-put_command-clause-version
returns-in-Ok-put_command-clause-version g c =
    c.put_command.ensures.same_version ∙ c.self.invariant

pub returns-in-Err-put_command-clause-moments : goal.returns-in-Err-put_command-clause-moments
returns-in-Err-put_command-clause-moments g c =
    let view = g.D.Disk.view in
    let old : EngineState = record { history = c.self.inside.core.history; journal = c.self.inside.journal } in
    let disk = c.args.disk.now in
    let disk_now = c.put_command.new.disk in
    λ form r.
    let e = subst (λ (s : EngineState). IsRunningIn form (view c.args.disk.now).images s) (sym c.self.view_is) r in
    subst (λ (s : EngineState). LeavesOnly g.D.Disk.view disk disk_now (IsAroundFor form (kept_of s) (risked c.args.until (begun_of s) (accepted c.args.key.now c.args.command.now)))) c.self.view_is
    (c.put_command.ensures.moments form (kept_of old) (begun_of old) e)

pub returns-in-Err-put_command-clause-good : goal.returns-in-Err-put_command-clause-good
returns-in-Err-put_command-clause-good g c =
    let view = g.D.Disk.view in
    let old : EngineState = record { history = c.self.inside.core.history; journal = c.self.inside.journal } in
    let disk = c.args.disk.now in
    let disk_now = c.put_command.new.disk in
    λ form r.
    let e = subst (λ (s : EngineState). IsRunningIn form (view c.args.disk.now).images s) (sym c.self.view_is) r in
    good_now view disk disk_now (IsAroundFor form (kept_of c.args.self.now) (risked c.args.until (begun_of c.args.self.now) (accepted c.args.key.now c.args.command.now))) g.met.D.Disk.counts_now
    (subst (λ (s : EngineState). LeavesOnly g.D.Disk.view disk disk_now (IsAroundFor form (kept_of s) (risked c.args.until (begun_of s) (accepted c.args.key.now c.args.command.now)))) c.self.view_is
    (c.put_command.ensures.moments form (kept_of old) (begun_of old) e))

pub returns-in-Err-put_command-clause-limit : goal.returns-in-Err-put_command-clause-limit
returns-in-Err-put_command-clause-limit g c =
    c.put_command.ensures.limit ∙ ap (λ (s : EngineState). s.journal.limit) c.self.view_is

pub returns-in-Err-put_command-clause-version : goal.returns-in-Err-put_command-clause-version
returns-in-Err-put_command-clause-version g c =
    c.put_command.ensures.same_version ∙ c.self.invariant

pub put_command-requires-clause-unspent : goal.put_command-requires-clause-unspent
put_command-requires-clause-unspent g c =
    (ap (λ (s : EngineState). s.journal.spent) c.self.view_is ∙ c.requires.unspent)

pub put_command-requires-clause-reaches : goal.put_command-requires-clause-reaches
put_command-requires-clause-reaches g c =
    λ t is.
    subst (λ (s : EngineState). s.journal.size ≤ length t) (sym c.self.view_is)
    (running_reaches (g.D.Disk.view c.args.disk.now).images c.args.self.now t c.requires.running (g.met.D.Disk.reads_image c.args.disk.now t is))

pub returns-in-Err-clause-size : goal.returns-in-Err-clause-size
returns-in-Err-clause-size g c =
    ap (λ (s : EngineState). s.journal.size) c.self.view_is

pub returns-in-Err-put_command-clause-size : goal.returns-in-Err-put_command-clause-size
returns-in-Err-put_command-clause-size g c =
    c.in-Err-put_command.ensures.size ∙ ap (λ (s : EngineState). s.journal.size) c.self.view_is

pub returns-in-Err-clause-same_kept : goal.returns-in-Err-clause-same_kept
returns-in-Err-clause-same_kept g c = λ is.
    let now : EngineState = record { history = c.judge.new.self.history; journal = c.self.inside.journal } in
    same_parts_of c.args.self.now now (c.judge.ensures.history ∙ ap (λ (s : EngineState). s.history) c.self.view_is) (ap (λ (s : EngineState). s.journal.begun) c.self.view_is)

pub returns-in-Err-put_command-clause-same_kept : goal.returns-in-Err-put_command-clause-same_kept
returns-in-Err-put_command-clause-same_kept g c = λ is.
    let now : EngineState = record { history = c.judge.new.self.history; journal = c.put_command.new.journal } in
    same_parts_of c.args.self.now now (c.judge.ensures.history ∙ ap (λ (s : EngineState). s.history) c.self.view_is)
    (c.in-Err-put_command.ensures.same_begun is ∙ ap (λ (s : EngineState). s.journal.begun) c.self.view_is)

pub put_command-requires-clause-alone : goal.put_command-requires-clause-alone
put_command-requires-clause-alone g c = λ is. ap (λ (s : EngineState). s.journal.begun) c.self.view_is ∙ c.requires.alone is

pub returns-in-Repeat-clause-none : goal.returns-in-Repeat-clause-none
returns-in-Repeat-clause-none g c = λ is. ap (λ (s : EngineState). s.journal.begun) c.self.view_is ∙ c.requires.alone is

pub returns-in-Ok-put_command-clause-none : goal.returns-in-Ok-put_command-clause-none
returns-in-Ok-put_command-clause-none g c =
    let old : EngineState = record { history = c.self.inside.core.history; journal = c.self.inside.journal } in
    let form = c.requires.running.form in
    let e = subst (λ (s : EngineState). IsRunningIn form (g.D.Disk.view c.args.disk.now).images s) (sym c.self.view_is) c.requires.running.kept in
    enter_none c.args.until form (g.D.Disk.view c.put_command.new.disk).images c.put_command.new.journal _ (accepted c.args.key.now c.args.command.now)
    (c.in-Ok-put_command.ensures.put form (kept_of old) (begun_of old) e)
