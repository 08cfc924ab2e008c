use Rattle.std.proofs.Common.{◌≡◌, ◌≤◌, None, rules, arith, sym, ◌∙◌, subst, SFits, w64}
use Rattle.std.specs.Option.{option_or}
use Rattle.std.proofs.lemmas.Int.{to_z-of_z}
use Rattle.svc_types.specs.declared.escrow.PlanPart.TheVariants.{Short, Deficient}
use Rattle.escrow_resolve.proofs.LawfulLemmas.{plan_fault-is, or-none, IsSpread-lawful}
use Rattle.escrow_resolve.specs.Lawful.{plan_fault}
use Rattle.escrow_resolve.specs.Limits.{IsWithinParts}
use Rattle.escrow_resolve.proofs.LimitLemmas.{settled_plan-within}
use Rattle.escrow_resolve.proofs.settlement.settle.Goals as goal

pub settled_plan-requires-clause-short : goal.settled_plan-requires-clause-short
settled_plan-requires-clause-short c =
    let amount : SFits w64 c.args.split.now.short = search rules in
    let base = c.ranges.base in
    let short = simp to_z-of_z at c.part_fault-short.ensures in
    let none : option_or (option_or c.surplus_fault-surplus.result c.part_fault-short.result) c.part_fault-deficient.result ≡ None = cc in
    let least : 1 ≤ 12 = omega arith in
    IsSpread-lawful Short 12 c.args.base c.args.split.now.short c.args.plan.now.short least (sym short ∙ (or-none c.surplus_fault-surplus.result c.part_fault-short.result c.part_fault-deficient.result none).1)

pub settled_plan-requires-clause-deficient : goal.settled_plan-requires-clause-deficient
settled_plan-requires-clause-deficient c =
    let amount : SFits w64 c.args.split.now.deficient = search rules in
    let base = c.ranges.base in
    let deficient = simp to_z-of_z at c.part_fault-deficient.ensures in
    let none : option_or (option_or c.surplus_fault-surplus.result c.part_fault-short.result) c.part_fault-deficient.result ≡ None = cc in
    let least : 1 ≤ 2 = omega arith in
    IsSpread-lawful Deficient 2 c.args.base c.args.split.now.deficient c.args.plan.now.deficient least (sym deficient ∙ (or-none c.surplus_fault-surplus.result c.part_fault-short.result c.part_fault-deficient.result none).2)

pub returns-in-Some-clause-fault : goal.returns-in-Some-clause-fault
returns-in-Some-clause-fault c =
    let fits : SFits w64 c.args.split.now.surplus = search rules in
    let fits' : SFits w64 c.args.split.now.short = search rules in
    let fits'' : SFits w64 c.args.split.now.deficient = search rules in
    let base = c.ranges.base in
    let surplus = simp to_z-of_z at c.surplus_fault-surplus.ensures in
    let short = simp to_z-of_z at c.part_fault-short.ensures in
    let deficient = simp to_z-of_z at c.part_fault-deficient.ensures in
    let is = plan_fault-is c.args.split.now c.args.base c.args.current c.args.plan.now in
    cc

pub returns-in-None-clause-lawful : goal.returns-in-None-clause-lawful
returns-in-None-clause-lawful c =
    let fits : SFits w64 c.args.split.now.surplus = search rules in
    let fits' : SFits w64 c.args.split.now.short = search rules in
    let fits'' : SFits w64 c.args.split.now.deficient = search rules in
    let base = c.ranges.base in
    let surplus = simp to_z-of_z at c.surplus_fault-surplus.ensures in
    let short = simp to_z-of_z at c.part_fault-short.ensures in
    let deficient = simp to_z-of_z at c.part_fault-deficient.ensures in
    let is = plan_fault-is c.args.split.now c.args.base c.args.current c.args.plan.now in
    cc

pub returns-in-None-clause-limits : goal.returns-in-None-clause-limits
returns-in-None-clause-limits c =
    let fits : SFits w64 c.args.split.now.surplus = search rules in
    let fits' : SFits w64 c.args.split.now.short = search rules in
    let fits'' : SFits w64 c.args.split.now.deficient = search rules in
    let base = c.ranges.base in
    let surplus = simp to_z-of_z at c.surplus_fault-surplus.ensures in
    let short = simp to_z-of_z at c.part_fault-short.ensures in
    let deficient = simp to_z-of_z at c.part_fault-deficient.ensures in
    let is = plan_fault-is c.args.split.now c.args.base c.args.current c.args.plan.now in
    let lawful : plan_fault c.args.split.now c.args.base c.args.current c.args.plan.now ≡ None = cc in
    let settled = simp to_z-of_z at c.settled_plan.ensures in
    subst (IsWithinParts c.args.split.now) (sym settled) (settled_plan-within c.args.split.now c.args.base c.args.current c.args.start c.args.plan.now c.requires.parts lawful)
