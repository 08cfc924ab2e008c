use Rattle.std.proofs.Common.{◌≡◌, ◌++◌, ◌∷◌, [], length, rules, ap, ◌∙◌}
use Rattle.svc_replay.specs.declared.brief.BriefAct.{BriefAct}
use Rattle.svc_replay.specs.Briefs.{Recorded, settled_in, brief_act, expanded}
use Rattle.svc_replay.proofs.BriefLemmas.{expanded_push}
use Rattle.svc_replay.proofs.records.Records.push_reserved.Goals as goal

pub returns-clause-all : goal.returns-clause-all
returns-clause-all c =
    let ss = c.self.inside.settled.items in
    let bs = c.self.inside.briefs.items in
    let e = c.args.entry.now in
    let count : c.len-place.result ≡ length ss = search rules in
    let act : c.brief_act.result ≡ brief_act (length ss) e.act = c.brief_act.ensures ∙ ap (λ n. brief_act n e.act) count in
    ap (λ all. expanded all c.push_reserved.new.self.items) c.keep_settled.ensures.items
    ∙ ap (expanded (ss ++ settled_in e.act)) (c.push_reserved.ensures.items ∙ ap (λ (a : BriefAct). bs ++ record { number = e.number; day = e.day; act = a } ∷ []) act)
    ∙ expanded_push ss bs e c.self.invariant
    ∙ ap (λ (r : Recorded). r.all ++ e ∷ []) c.self.view_is
