use Rattle.std.proofs.Common.{◌≡◌, ◌++◌, ◌∷◌, [], ap, sym, ◌∙◌}
use Rattle.std.proofs.lemmas.Result.{on_ok_weaker, IfErr-weaker}
use Rattle.serv_machine.specs.Sayings.{AreFirst}
use Rattle.serv_machine.proofs.OnDiskLemmas.{disk_more}
use Rattle.serv_machine.proofs.AnsweringLemmas.{first_exact, first_push, replies_wider, upheld_result}
use Rattle.serv_machine.proofs.GatheredLemmas.{stops_after, stops_wider}
use Rattle.serv_machine.proofs.replies.Replies.act.Goals as goal

pub returns-in-Ok-clause-gathered : goal.returns-in-Ok-clause-gathered
returns-in-Ok-clause-gathered g c = λ before s held gathers.
    (rw c.let_go.ensures.waiting at c.answer.ensures.gathered) before s held (c.in-Ok.ensures.gathered before s c.args.steps.now held gathers)

pub returns-in-Ok-clause-stopped : goal.returns-in-Ok-clause-stopped
returns-in-Ok-clause-stopped g c = λ before s held gathers.
    let said = g.S.Spoken.saying c.args.said.now in
    IfErr-weaker c.answer.result _ _
    (λ why stops. stops_after _ (AreFirst (λ saids. saids ≡ before ++ said ∷ []))
    (λ done ahead is. first_exact (before ++ said ∷ []) done ahead (ap (λ x. x ++ said ∷ []) (sym is.0) ∙ ap (λ x. done ++ x) (sym is.1))) _ s _
    g.D.Disk.view c.args.disk.now c.let_go.new.disk c.answer.new.disk why _ _ _ held _ c.in-Ok.ensures.disk stops)
    ((rw c.let_go.ensures.waiting at c.answer.ensures.stopped) before s held (c.in-Ok.ensures.gathered before s c.args.steps.now held gathers))

pub returns-in-Ok-clause-upheld : goal.returns-in-Ok-clause-upheld
returns-in-Ok-clause-upheld g c = λ before s held gathers.
    let said = g.S.Spoken.saying c.args.said.now in
    let gone = c.in-Ok.ensures.gathered before s c.args.steps.now held gathers in
    upheld_result g.D.Disk.view c.let_go.new.disk c.answer.new.disk c.answer.result _ _ _ _ s _ (λ saids. saids ≡ before) (λ saids. saids ≡ before ++ said ∷ []) held _ _ _ _ c.answer.ensures.disk
    ((rw c.let_go.ensures.waiting at c.answer.ensures.stopped) before s held gone) (λ done first. first_push before said done [] first)
    (replies_wider (λ saids. saids ≡ before) (λ saids. saids ≡ before ++ said ∷ []) _ _ s.history held _ _ (λ done first. first_push before said done [] first) (c.let_go.ensures.upheld before s c.args.steps.now held gathers))
    ((rw c.let_go.ensures.waiting at c.answer.ensures.upheld) before s held gone)

pub returns-in-Ok-clause-disk : goal.returns-in-Ok-clause-disk
returns-in-Ok-clause-disk g c = on_ok_weaker c.answer.result (λ second. disk_more g.D.Disk.view _ _ _ _ _ _ _ c.in-Ok.ensures.disk second) c.answer.ensures.disk

pub returns-in-Err-clause-stopped : goal.returns-in-Err-clause-stopped
returns-in-Err-clause-stopped g c = λ before s held gathers.
    let said = g.S.Spoken.saying c.args.said.now in
    stops_wider _ (AreFirst (λ saids. saids ≡ before ++ said ∷ [])) (λ done ahead is. first_push before said done ahead (first_exact before done ahead is)) _ s _
    g.D.Disk.view c.args.disk.now c.let_go.new.disk c.in-Err.stop _ _ held _ (c.in-Err.ensures.stopped before s c.args.steps.now held gathers)

pub returns-in-Err-clause-upheld : goal.returns-in-Err-clause-upheld
returns-in-Err-clause-upheld g c = λ before s held gathers.
    let said = g.S.Spoken.saying c.args.said.now in
    replies_wider (λ saids. saids ≡ before) (λ saids. saids ≡ before ++ said ∷ []) _ _ s.history held _ _ (λ done first. first_push before said done [] first) (c.let_go.ensures.upheld before s c.args.steps.now held gathers)
