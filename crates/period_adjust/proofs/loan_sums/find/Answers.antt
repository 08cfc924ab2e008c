use Rattle.std.proofs.Common.{ltb, rules, arith}
use Rattle.std.proofs.lemmas.List.Sorted.{IsPartitionPoint-from_clause}
use Rattle.period_adjust.specs.declared.loan_sums.LoanSums.{LoanSums}
use Rattle.period_adjust.proofs.RunningLemmas.{partitioned, place_at_end, place_between}
use Rattle.period_adjust.proofs.loan_sums.find.Goals as goal

pub returns-then-place-sums : goal.returns-then-place-sums
returns-then-place-sums c =
    place_at_end c.args.sums.now c.args.loan c.partition_point-place.result
    (IsPartitionPoint-from_clause (λ (s : LoanSums). ltb s.loan c.args.loan) c.args.sums.now c.partition_point-place.result c.partition_point-place.ensures.partitioned (partitioned c.args.sums.now c.args.loan c.requires) (λ a r q k. search rules))
    (omega arith)

pub returns-then-sums-place : goal.returns-then-sums-place
returns-then-sums-place c =
    place_between c.args.sums.now c.args.loan c.partition_point-place.result _ c.requires
    (IsPartitionPoint-from_clause (λ (s : LoanSums). ltb s.loan c.args.loan) c.args.sums.now c.partition_point-place.result c.partition_point-place.ensures.partitioned (partitioned c.args.sums.now c.args.loan c.requires) (λ a r q k. search rules))
    (omega arith) c.if-sums-place.true
