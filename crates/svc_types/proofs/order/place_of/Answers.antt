use Rattle.std.proofs.Common.{rules}
use Rattle.std.specs.Prelude.{not}
use Rattle.std.proofs.lemmas.List.Sorted.{IsPartitionPoint-from_clause}
use Rattle.svc_types.specs.Live.{is_before}
use Rattle.svc_types.proofs.OrderLemmas.{partitioned, placed_at}
use Rattle.svc_types.proofs.order.place_of.Goals as goal

pub returns-clause-placed : goal.returns-clause-placed
returns-clause-placed c =
    let e = c.args.entry.now in
    let xs = c.args.ordered.now in
    placed_at e xs c.partition_point.result c.partition_point.ensures.bound
    (IsPartitionPoint-from_clause (λ x. not (is_before e x)) xs c.partition_point.result c.partition_point.ensures.partitioned (partitioned e xs c.requires) (λ a r f' called. search rules))
