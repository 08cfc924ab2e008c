use Rattle.std.proofs.Common.{rules, ap, ◌∙◌}
use Rattle.std.specs.Prelude.{take, drop, ◌-◌}
use Rattle.serv_journal.proofs.FrameLemmas.{line_at, within_at}
use Rattle.serv_journal.proofs.frames.Frames.line.Goals as goal

pub slice_bounds-result-count : goal.slice_bounds-result-count
slice_bounds-result-count c =
    (within_at c.self.inside.bytes.items c.self.inside.list.items c.args.self.now c.args.i c.index-frame.result.now c.self.invariant c.self.view_is c.requires c.index-frame.ensures).0

pub slice_bounds-result-start : goal.slice_bounds-result-start
slice_bounds-result-start c =
    (within_at c.self.inside.bytes.items c.self.inside.list.items c.args.self.now c.args.i c.index-frame.result.now c.self.invariant c.self.view_is c.requires c.index-frame.ensures).0

pub slice_bounds-result-end : goal.slice_bounds-result-end
slice_bounds-result-end c =
    let bounds = within_at c.self.inside.bytes.items c.self.inside.list.items c.args.self.now c.args.i c.index-frame.result.now c.self.invariant c.self.view_is c.requires c.index-frame.ensures in
    search (rules, bounds.1)

pub returns : goal.returns
returns c =
    let frame = c.index-frame.result.now in
    ap (λ b. take (frame.end - frame.start) (drop frame.start b)) c.deref.ensures.value
    ∙ line_at c.self.inside.bytes.items c.self.inside.list.items c.args.self.now c.args.i frame c.self.view_is c.requires c.index-frame.ensures
