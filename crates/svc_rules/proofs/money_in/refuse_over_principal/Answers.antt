use Rattle.std.proofs.Common.{◌≡◌, [], false, w64, to_z, of_z, ap, sym, ◌∙◌}
use Rattle.std.specs.Prelude.{int_lt}
use Rattle.std.specs.Int.Signed.{lt_z}
use Rattle.std.proofs.lemmas.Int.{to_z-of_z}
use Rattle.svc_world.specs.Refusals as rule
use Rattle.svc_rules.proofs.RuleLemmas.{first_past, balance_same}
use Rattle.svc_rules.proofs.money_in.refuse_over_principal.Goals as goal

pub returns-clause-cause : goal.returns-clause-cause
returns-clause-cause g c =
    let upb = c.books_at-upb.result.upb in
    let low = c.books_at-upb.ensures.sound.signs.upb_low in
    let high = c.books_at-upb.ensures.sound.signs.upb_high in
    let most = c.is_sound.ensures.account.terms.principal_high in
    let same = balance_same upb c.args.loan.now.held.account.terms.principal low high most in
    let is : to_z w64 (of_z w64 c.args.cents) ≡ c.args.cents = to_z-of_z w64 c.args.cents c.ranges.cents in
    let less : int_lt upb c.args.cents ≡ false = sym (ap (λ z. lt_z z (to_z w64 (of_z w64 c.args.cents))) same ∙ ap (λ z. lt_z upb z) is) ∙ c.if-upb-cents.false in
    sym (first_past (rule.over_principal c.args.day c.args.cents c.args.loan.now.held) [] (ap (λ b. int_lt b.upb c.args.cents) (sym c.books_at-upb.ensures.books) ∙ less))
