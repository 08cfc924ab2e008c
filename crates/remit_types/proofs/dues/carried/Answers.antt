use Rattle.std.proofs.Common.{◌≡◌, arith, ap, ◌∙◌, to_z, of_z, w64, ◌+ℤ◌, ◌-ℤ◌}
use Rattle.std.proofs.lemmas.Int.{ints}
use Rattle.remit_types.specs.Dues as dues
use Rattle.remit_types.specs.Schedule as schedule
use Rattle.remit_types.proofs.DueFields.{carried_fields, passed_by-both}
use Rattle.remit_types.proofs.dues.carried.Goals as goal

pub returns-clause-carry : goal.returns-clause-carry
returns-clause-carry c =
    let month = dues.loan_month c.args.kind c.args.facts.now in
    let was : to_z w64 (of_z w64 c.args.before.now.balance) ≡ c.args.before.now.balance = omega (arith, ints) in
    let balance : c.balance_after-balance.result ≡ dues.balance_after c.args.terms.now c.args.before.now.balance month = c.balance_after-balance.ensures.value ∙ ap (λ b. dues.balance_after c.args.terms.now b month) was in
    let interest : c.scheduled_interest.result ≡ schedule.scheduled_interest c.args.terms.now c.args.facts.now.month c.args.before.now.balance = c.scheduled_interest.ensures.value ∙ ap (λ b. schedule.scheduled_interest c.args.terms.now c.args.facts.now.month b) was in
    let actual : to_z w64 (of_z w64 (to_z w64 (of_z w64 c.args.before.now.actual) +ℤ to_z w64 (of_z w64 (to_z w64 (of_z w64 c.args.facts.now.interest) -ℤ to_z w64 (of_z w64 c.args.facts.now.fee))))) ≡ dues.actual_after c.args.before.now month = omega (arith, ints) in
    let scheduled : to_z w64 (of_z w64 (to_z w64 (of_z w64 c.args.before.now.scheduled) +ℤ to_z w64 (of_z w64 c.scheduled_interest.result))) ≡ dues.scheduled_after c.args.terms.now c.args.before.now month = omega (arith, ints) in
    let passed : to_z w64 (of_z w64 c.passed_by.result) ≡ c.passed_by.result = omega (arith, ints) in
    carried_fields c.args.terms.now c.args.before.now month _ _ _ _ _ (omega (arith, ints)) (omega (arith, ints)) actual scheduled (passed ∙ c.passed_by.ensures.value ∙ passed_by-both c.args.kind _ _ _ _ actual scheduled)

pub returns-clause-passed_low : goal.returns-clause-passed_low
returns-clause-passed_low c = omega (arith, ints)

pub returns-clause-passed_high : goal.returns-clause-passed_high
returns-clause-passed_high c = omega (arith, ints)
