use Rattle.std.proofs.Common.{◌≡◌, ◌-◌, ◌≤◌, length, vec_len, arith, rules, ap, ◌∙◌}
use Rattle.std.specs.Prelude.{nat_lt, slice_get}
use Rattle.std.proofs.lemmas.List.Sorted.{IsPartitionPoint-from_clause}
use Rattle.svc_types.specs.declared.replies.Reply.{Reply}
use Rattle.svc_spec.proofs.FindLemmas.{rising_partitioned}
use Rattle.svc_core.specs.Replies.{GivenReplies}
use Rattle.svc_core.proofs.RepliesLemmas.{replies_length, reply_there, reply_plain, there_same, other_number}
use Rattle.svc_core.proofs.replies.Replies.get.Goals as goal
use Rattle.svc_core.proofs.replies.Replies.get.Goals.{else-place-len-via-then-place-len+else-index-number, else-place-len-via-else-place-len}

pub returns-then-index-number : goal.returns-then-index-number
returns-then-index-number c =
    let kept = c.self.inside.kept.items in
    let is = ap (λ (r : GivenReplies). length r.list) c.self.view_is in
    let few : c.args.number ≤ c.self.inside.count = omega (arith, is, replies_length c.self.inside.count kept, c.requires.few) in
    let len : vec_len c.self.inside.kept ≡ length kept = search rules in
    let number = c.if-index-number.true in
    reply_there c.self.inside.count c.args.number c.partition_point-place.result kept c.index-then-index-number.result.now c.self.invariant c.requires.some few (omega (arith, c.len.ensures)) c.index-then-index-number.ensures (ap (λ (q : Reply). q.number) (c.index-then-index-number.ensures ∙ there_same kept c.partition_point-place.result c.index.result.now c.index-then-index-number.result.now (omega (arith, c.len.ensures)) c.index.ensures) ∙ number)
    ∙ ap (λ (r : GivenReplies). slice_get r.list (c.args.number - 1)) c.self.view_is

pub returns : goal.returns
returns c =
    let kept = c.self.inside.kept.items in
    let i = c.partition_point-place.result in
    let n = c.args.number in
    let is = ap (λ (r : GivenReplies). length r.list) c.self.view_is in
    let few : n ≤ c.self.inside.count = omega (arith, is, replies_length c.self.inside.count kept, c.requires.few) in
    let len : vec_len c.self.inside.kept ≡ length kept = search rules in
    reply_plain c.self.inside.count n i kept c.self.invariant c.requires.some few
    (IsPartitionPoint-from_clause (λ (q : Reply). nat_lt q.number n) kept i (rw c.deref.ensures.value at c.partition_point-place.ensures.partitioned) (rising_partitioned (λ (q : Reply). q.number) kept n c.self.invariant.rise) (λ a r f' called. search rules))
    (λ d lt. elim c.else-place-len.branch [
      | else-place-len-via-then-place-len+else-index-number w ↦ other_number kept i n w.index.result.now d lt w.index.ensures w.if-index-number.false
      | else-place-len-via-else-place-len w ↦ absurd (omega (arith, c.len.ensures, w.if-place-len.false))
    ])
    ∙ ap (λ (r : GivenReplies). slice_get r.list (n - 1)) c.self.view_is
