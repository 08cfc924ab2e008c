use Rattle.std.proofs.Common.{rules, arith}
use Rattle.std.specs.Prelude.{not}
use Rattle.std.proofs.lemmas.List.Sorted.{IsPartitionPoint-from_clause}
use Rattle.svc_types.specs.Live.{is_before}
use Rattle.svc_types.proofs.OrderLemmas.{partitioned, placed_at}
use Rattle.svc_replay.specs.Chosen.{passes}
use Rattle.svc_replay.proofs.ChosenLemmas.{count_of, point_of}
use Rattle.svc_replay.proofs.entries.Live.searched_place.Goals as goal

pub returns-clause-bound : goal.returns-clause-bound
returns-clause-bound c =
    let count = count_of c.self.inside.entries c.self.inside.places.now c.args.self.now c.self.invariant c.self.view_is in
    omega (arith, c.partition_point.ensures.bound)

pub returns-clause-placed : goal.returns-clause-placed
returns-clause-placed c =
    let es = c.self.inside.entries in
    let ks = c.self.inside.places.now in
    let i = c.partition_point.result in
    let e = c.args.entry.now in
    let live = c.args.self.now in
    placed_at e live i (returns-clause-bound c)
    (point_of (λ x. not (is_before e x)) es ks live i c.self.invariant c.self.view_is c.partition_point.ensures.bound (partitioned e live c.requires)
    (λ parted. IsPartitionPoint-from_clause (passes (λ x. not (is_before e x)) es) ks i c.partition_point.ensures.partitioned parted (λ a r f' called. search rules)))
