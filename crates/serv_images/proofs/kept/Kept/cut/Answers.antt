use Rattle.std.proofs.Common.{◌∷◌, ap, ◌∙◌, arith}
use Rattle.serv_images.specs.DiskCalls.{Shortened}
use Rattle.serv_images.specs.Kept.{KeptState}
use Rattle.serv_images.proofs.KeptLemmas.{kept_cut, made_cut}
use Rattle.serv_images.proofs.kept.Kept.cut.Goals as goal

pub invariant_of-self : goal.invariant_of-self
invariant_of-self c =
    let k = c.self.inside in (
      kept_cut _ _ k.content.items _ k.pool.items k.steps.items _ c.args.len c.self.invariant.0 c.note.ensures.items c.truncate.ensures.items,
      omega (arith, c.truncate.ensures.len, c.self.invariant.1),
    )

pub returns-clause-made : goal.returns-clause-made
returns-clause-made c =
    let k = c.self.inside in
    made_cut k.steps.items _ k.pool.items c.args.len c.self.invariant.0.pooled c.note.ensures.items ∙ ap (λ (s : KeptState). Shortened c.args.len ∷ s.made) c.self.view_is
