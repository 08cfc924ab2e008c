use Rattle.std.proofs.Common.{rules, Box, Global}
use Rattle.std.specs.Prelude.{nat_lt}
use Rattle.std.proofs.lemmas.List.Sorted.{IsPartitionPoint-from_clause}
use Rattle.svc_spec.proofs.FindLemmas.{rising_partitioned}
use Rattle.svc_loan.specs.Kept.{KeptLoan}
use Rattle.svc_loan.proofs.KeptLemmas.{rise_behind}
use Rattle.svc_loan.proofs.loans.place_for.Goals as goal

pub returns-clause-point : goal.returns-clause-point
returns-clause-point g c =
    let xs = c.args.loans.now in
    let n = c.args.id in
    let rises = rise_behind (λ (b : Box KeptLoan Global). b.value) xs c.requires in
    IsPartitionPoint-from_clause (λ (b : Box KeptLoan Global). nat_lt b.value.held.id n) xs c.partition_point.result c.partition_point.ensures.partitioned (rising_partitioned (λ (b : Box KeptLoan Global). b.value.held.id) xs n rises) (λ a r f' called. search rules)
