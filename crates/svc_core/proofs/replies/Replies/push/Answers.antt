use Rattle.std.proofs.Common.{◌+◌, ◌<◌, ◌∷◌, [], ◌++◌, length, arith, rules, refl, sym, ap, subst, ◌∙◌}
use Rattle.svc_types.specs.declared.replies.Extra.TheVariants.{Plain}
use Rattle.svc_core.specs.Posted.{reply}
use Rattle.svc_core.specs.Replies.{GivenReplies, AreAmong, replies_of}
use Rattle.svc_core.proofs.RepliesLemmas.{replies_length, plain_more, kept_more, among_more, among_kept}
use Rattle.svc_core.proofs.replies.Replies.push.Goals as goal

pub overflow_add-number : goal.overflow_add-number
overflow_add-number c =
    let count = replies_length c.self.inside.count c.self.inside.kept.items in
    let is = ap (λ (r : GivenReplies). length r.list) c.self.view_is in
    let few = c.requires.few in
    let small : c.self.inside.count < 1_000_000 = omega arith in
    search rules

pub returns-in-Plain : goal.returns-in-Plain
returns-in-Plain c =
    rw c.in-Plain.is (plain_more c.self.inside.count _ c.self.inside.kept.items refl c.self.invariant
    ∙ ap (λ (r : GivenReplies). r.list ++ reply (length r.list + 1) Plain ∷ []) c.self.view_is)

pub invariant_of-self : goal.invariant_of-self
invariant_of-self c = among_more c.self.inside.count _ c.self.inside.kept.items refl c.self.invariant

pub invariant_of-self-in_default : goal.invariant_of-self-in_default
invariant_of-self-in_default c =
    subst (AreAmong (c.self.inside.count + 1)) (sym c.push_reserved.ensures.items)
    (among_kept c.self.inside.count _ c.self.inside.kept.items c.args.extra refl c.self.invariant)

pub returns-in_default : goal.returns-in_default
returns-in_default c =
    ap (replies_of (c.self.inside.count + 1)) c.push_reserved.ensures.items
    ∙ kept_more c.self.inside.count _ c.self.inside.kept.items c.args.extra refl c.self.invariant
    ∙ ap (λ (r : GivenReplies). r.list ++ reply (length r.list + 1) c.args.extra ∷ []) c.self.view_is
