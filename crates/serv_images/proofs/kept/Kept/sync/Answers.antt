use Rattle.std.proofs.Common.{◌∷◌, ◌++◌, ap, ◌∙◌, arith}
use Rattle.serv_images.specs.DiskCalls.{Synced}
use Rattle.serv_images.specs.Kept.{KeptState}
use Rattle.serv_images.proofs.KeptLemmas.{kept_sync, made_sync}
use Rattle.serv_images.proofs.kept.Kept.sync.Goals as goal

pub invariant_of-self : goal.invariant_of-self
invariant_of-self c =
    let k = c.self.inside in (
      kept_sync _ k.synced.items _ _ k.pool.items k.steps.items _ c.self.invariant.0 c.note.ensures.items
          (c.append.ensures.items ∙ ap (λ s. s ++ c.deref.result.now) c.clear.ensures.items ∙ c.deref.ensures.value),
      omega (arith, c.append.ensures.room, c.clear.ensures.capacity, c.self.invariant.1),
    )

pub returns-clause-made : goal.returns-clause-made
returns-clause-made c =
    let k = c.self.inside in
    made_sync k.steps.items _ k.pool.items c.self.invariant.0.pooled c.note.ensures.items ∙ ap (λ (s : KeptState). Synced ∷ s.made) c.self.view_is
