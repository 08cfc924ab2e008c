use Rattle.std.proofs.Common.{rules, arith}
use Rattle.std.specs.Prelude.{nat_le}
use Rattle.std.proofs.lemmas.List.Sorted.{IsPartitionPoint-from_clause}
use Rattle.svc_replay.specs.Chosen.{passes}
use Rattle.svc_replay.proofs.AfterLemmas.{days_partitioned, point_taken, point_dropped}
use Rattle.svc_replay.proofs.ChosenLemmas.{count_of, point_of}
use Rattle.svc_replay.proofs.entries.Live.searched_to.Goals as goal

pub returns-clause-taken : goal.returns-clause-taken
returns-clause-taken c =
    let es = c.self.inside.entries in
    let ks = c.self.inside.places.now in
    let i = c.partition_point.result in
    let d = c.args.day in
    let live = c.args.self.now in
    let count = count_of es ks live c.self.invariant c.self.view_is in
    let bound = c.partition_point.ensures.bound in
    point_taken live d i (omega arith)
    (point_of (λ e. nat_le e.day d) es ks live i c.self.invariant c.self.view_is bound (days_partitioned live d c.requires)
    (λ parted. IsPartitionPoint-from_clause (passes (λ e. nat_le e.day d) es) ks i c.partition_point.ensures.partitioned parted (λ a r f' called. search rules)))

pub returns-clause-later : goal.returns-clause-later
returns-clause-later c =
    let es = c.self.inside.entries in
    let ks = c.self.inside.places.now in
    let i = c.partition_point.result in
    let d = c.args.day in
    let live = c.args.self.now in
    let bound = c.partition_point.ensures.bound in
    point_dropped live d i
    (point_of (λ e. nat_le e.day d) es ks live i c.self.invariant c.self.view_is bound (days_partitioned live d c.requires)
    (λ parted. IsPartitionPoint-from_clause (passes (λ e. nat_le e.day d) es) ks i c.partition_point.ensures.partitioned parted (λ a r f' called. search rules)))
