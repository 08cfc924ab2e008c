use Rattle.std.proofs.Common.{◌≡◌, w64, to_z, of_z, ap, ◌∙◌}
use Rattle.escrow_resolve.specs.Parts.{escrow_parts}
use Rattle.svc_world.specs.Analysing as world
use Rattle.svc_rules.proofs.AnalysingLemmas.{escrow_same, amount_same}
use Rattle.svc_rules.proofs.analysing.parts_of.Goals as goal

pub returns-clause-value : goal.returns-clause-value
returns-clause-value g c =
    let e = c.now.result.now.escrow in
    let o = c.args.opening in
    let l = c.args.loan.now.held in
    let balance : to_z w64 (of_z w64 e) ≡ e = escrow_same e c.now.ensures.sound.within.escrow_low c.now.ensures.sound.within.escrow_high in
    let opening : to_z w64 (of_z w64 o) ≡ o = amount_same o c.requires.low c.requires.high in
    c.split.ensures.value ∙ ap (λ z. escrow_parts z (to_z w64 (of_z w64 o))) balance ∙ ap (escrow_parts e) opening ∙ ap (escrow_parts e) c.requires.opening ∙ ap (λ b. escrow_parts b.escrow (world.opening_of l)) c.now.ensures.books
