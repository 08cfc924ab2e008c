use Rattle.std.proofs.Common.{rules, sym}
use Rattle.std.proofs.lemmas.List.Sorted.{IsPartitionPoint-from_clause}
use Rattle.svc_types.specs.Live.{is_before}
use Rattle.svc_replay.specs.Chosen.{passes}
use Rattle.svc_replay.proofs.ChosenLemmas.{point_of}
use Rattle.svc_replay.proofs.RemoveLemmas.{before_partitioned, place_within, left_at}
use Rattle.svc_replay.proofs.entries.Live.place_among.Goals as goal

pub returns-clause-bound : goal.returns-clause-bound
returns-clause-bound c =
    let es = c.self.inside.entries in
    let ks = c.self.inside.places.now in
    let i = c.partition_point.result in
    let e = c.args.entry.now in
    let live = c.args.self.now in
    place_within live e i c.requires.order c.requires.apart c.requires.there
    (point_of (λ x. is_before x e) es ks live i c.self.invariant c.self.view_is c.partition_point.ensures.bound (before_partitioned e live c.requires.order)
    (λ parted. IsPartitionPoint-from_clause (passes (λ x. is_before x e) es) ks i c.partition_point.ensures.partitioned parted (λ a r f' called. search rules)))

pub returns-clause-others : goal.returns-clause-others
returns-clause-others c =
    let es = c.self.inside.entries in
    let ks = c.self.inside.places.now in
    let i = c.partition_point.result in
    let e = c.args.entry.now in
    let live = c.args.self.now in
    sym (left_at live e i c.requires.order c.requires.apart c.requires.there
    (point_of (λ x. is_before x e) es ks live i c.self.invariant c.self.view_is c.partition_point.ensures.bound (before_partitioned e live c.requires.order)
    (λ parted. IsPartitionPoint-from_clause (passes (λ x. is_before x e) es) ks i c.partition_point.ensures.partitioned parted (λ a r f' called. search rules))))
