use Rattle.std.proofs.Common.{◌<◌, List, length, rules, arith, sym, ap, subst}
use Rattle.svc_types.specs.declared.account.Entry.{Entry}
use Rattle.svc_replay.specs.declared.brief.Brief.{Brief}
use Rattle.svc_replay.specs.Briefs.{StandsWithin}
use Rattle.svc_replay.proofs.BriefLemmas.{expanded_length}
use Rattle.svc_replay.proofs.records.Numbered.at.Goals as goal

pub offset_bounds-briefs-place : goal.offset_bounds-briefs-place
offset_bounds-briefs-place c =
    let lt : c.args.place < length c.self.inside.briefs.now = omega (arith, c.requires, ap (λ (es : List Entry). length es) c.self.view_is, expanded_length c.self.inside.settled.now c.self.inside.briefs.now) in
    search rules

pub act_of-requires : goal.act_of-requires
act_of-requires c =
    let lt : c.args.place < length c.self.inside.briefs.now = omega (arith, c.requires, ap (λ (es : List Entry). length es) c.self.view_is, expanded_length c.self.inside.settled.now c.self.inside.briefs.now) in
    subst (λ (b : Brief). StandsWithin (length c.self.inside.settled.now) b.act) (sym c.index-briefs-place.is) (c.self.invariant c.args.place c.index-briefs-place.result lt)
