use Rattle.std.proofs.Common.{rules, ◌≡◌, ◌++◌, ◌∷◌, [], refl, sym, ◌∙◌, append-nil}
use Rattle.std.proofs.lemmas.Result.{on_ok_weaker, IfErr-weaker}
use Rattle.serv_machine.proofs.OnDiskLemmas.{disk_none, disk_more}
use Rattle.serv_machine.proofs.UpheldLemmas.{upheld_none}
use Rattle.serv_machine.specs.Sayings.{AreFirst, SaidFirst}
use Rattle.serv_top.specs.Lines.{Says, lines_of}
use Rattle.serv_machine.proofs.AnsweringLemmas.{first_exact, upheld_result}
use Rattle.serv_machine.proofs.GatheredLemmas.{stops_after}
use Rattle.serv_top.proofs.ResultLemmas.{on_ok_both}
use Rattle.serv_top.proofs.ServedLemmas.{all_served, first_here, last_ended, none_last, none_more, served_gone}
use Rattle.serv_top.proofs.serving.Serving.finish.Goals as goal

pub end_line-requires : goal.end_line-requires
end_line-requires g c = record { running = (g.met.M.Machine.settled c.args.machine.now c.args.disk.now c.requires.ready).0 }

pub returns-then-is_empty-clause-served : goal.returns-then-is_empty-clause-served
returns-then-is_empty-clause-served g c = λ bytes s held run.
    let none : c.args.self.now.line.items ≡ [] = search rules in
    all_served _ bytes s _ held _ _ _ (lines_of bytes) (none_last _ bytes run none) (g.met.M.Machine.settled c.args.machine.now c.args.disk.now c.requires.ready).1 c.requires.empty run

pub returns-then-is_empty-clause-disk : goal.returns-then-is_empty-clause-disk
returns-then-is_empty-clause-disk g c =
    disk_none g.D.Disk.view c.args.disk.now _ _ refl
    (g.met.M.Machine.keeps_running c.args.machine.now c.args.disk.now (g.met.M.Machine.settled c.args.machine.now c.args.disk.now c.requires.ready).0) (g.met.D.Disk.only_now c.args.disk.now)

pub returns-then-is_empty-clause-upheld : goal.returns-then-is_empty-clause-upheld
returns-then-is_empty-clause-upheld g c = λ bytes s held run. upheld_none _ _ _ _ _

pub returns-in-Ok-clause-served : goal.returns-in-Ok-clause-served
returns-in-Ok-clause-served g c = λ bytes s held run.
    let some : c.args.self.now.line.items ≡ [] → ⊥ = search rules in
    let fed = c.in-Ok.ensures.fed bytes s held run in
    let gone = (rw c.end_line.ensures.waiting at c.let_go.ensures.gathered) fed.said s _ held fed.gathers in
    on_ok_weaker c.let_go.result
    (λ done. all_served _ (bytes ++ 10 ∷ []) s _ held _ _ _ (lines_of bytes) (last_ended _ bytes run some) (g.met.M.Machine.settled c.let_go.new.machine c.let_go.new.disk done.1.0).1 (none_more _ done.1.1)
    (served_gone _ (bytes ++ 10 ∷ []) fed _ _ _ done.0)) (on_ok_both _ _ c.let_go.result gone (on_ok_both _ _ c.let_go.result c.let_go.ensures.settled c.let_go.ensures.few))

pub returns-in-Ok-clause-stopped : goal.returns-in-Ok-clause-stopped
returns-in-Ok-clause-stopped g c = λ bytes s held run.
    let some : c.args.self.now.line.items ≡ [] → ⊥ = search rules in
    let fed = c.in-Ok.ensures.fed bytes s held run in
    let gone = rw c.end_line.ensures.waiting at c.let_go.ensures.stopped in
    IfErr-weaker c.let_go.result _ _
    (λ why stops. stops_after _ (AreFirst (SaidFirst Says (lines_of bytes))) (λ done ahead is. first_here _ (bytes ++ 10 ∷ []) fed (lines_of bytes) [] (last_ended _ bytes run some ∙ sym (append-nil _)) done ahead (first_exact fed.said done ahead is)) _ s _
    g.D.Disk.view c.args.disk.now c.end_line.new.disk c.let_go.new.disk why _ _ _ held _ c.in-Ok.ensures.disk stops)
    (gone fed.said s _ held fed.gathers)

pub returns-in-Ok-clause-upheld : goal.returns-in-Ok-clause-upheld
returns-in-Ok-clause-upheld g c = λ bytes s held run.
    let some : c.args.self.now.line.items ≡ [] → ⊥ = search rules in
    let fed = c.in-Ok.ensures.fed bytes s held run in
    let gone = rw c.end_line.ensures.waiting at c.let_go.ensures in
    let last = last_ended _ bytes run some in
    upheld_result g.D.Disk.view c.end_line.new.disk c.let_go.new.disk c.let_go.result _ _ _ _ s _ _ (SaidFirst Says (lines_of bytes)) held _ _ _ _ c.let_go.ensures.disk
    (gone.stopped fed.said s _ held fed.gathers) (λ done first. first_here _ (bytes ++ 10 ∷ []) fed (lines_of bytes) [] (last ∙ sym (append-nil _)) done [] first) (rw (sym last) at (c.end_line.ensures.upheld bytes s held run)) (gone.upheld fed.said s _ held fed.gathers)

pub returns-in-Ok-clause-disk : goal.returns-in-Ok-clause-disk
returns-in-Ok-clause-disk g c = on_ok_weaker c.let_go.result (λ second. disk_more g.D.Disk.view _ _ _ _ _ _ _ c.in-Ok.ensures.disk second) c.let_go.ensures.disk

pub returns-in-Err-clause-stopped : goal.returns-in-Err-clause-stopped
returns-in-Err-clause-stopped g c = λ bytes s held run.
    let some : c.args.self.now.line.items ≡ [] → ⊥ = search rules in
    rw (last_ended _ bytes run some) (c.in-Err.ensures.stopped bytes s held run)

pub returns-in-Err-clause-upheld : goal.returns-in-Err-clause-upheld
returns-in-Err-clause-upheld g c = λ bytes s held run.
    let some : c.args.self.now.line.items ≡ [] → ⊥ = search rules in
    rw (last_ended _ bytes run some) (c.end_line.ensures.upheld bytes s held run)
