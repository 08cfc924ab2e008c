use Rattle.std.proofs.Common.{◌≡◌, ◌≤◌, ◌∷◌, length, ap, sym, refl, ◌∙◌, arith}
use Rattle.serv_images.specs.DiskCalls.{Wrote, now_of}
use Rattle.serv_images.specs.Kept.{KeptState}
use Rattle.serv_images.proofs.KeptLemmas.{kept_write, made_write}
use Rattle.serv_images.proofs.kept.Kept.write.Goals as goal

pub invariant_of-self : goal.invariant_of-self
invariant_of-self c =
    let k = c.self.inside in
    let said : length (now_of c.args.self.now.first c.args.self.now.made) ≡ length k.content.items =
    ap (λ (s : KeptState). length (now_of s.first s.made)) (sym c.self.view_is) ∙ ap length (sym c.self.invariant.0.content_is) in
    let within : c.args.at ≤ length k.content.items = omega (arith, c.requires.within, said) in (
      kept_write _ _ k.content.items _ k.pool.items _ k.steps.items _ c.args.at (length c.args.bytes.now) c.args.bytes.now
          c.self.invariant.0 within refl c.note.ensures.items c.append.ensures.items c.lay.ensures.written,
      omega (arith, c.requires.room, ap (λ (s : KeptState). s.room) c.self.view_is, c.lay.ensures.longer),
    )

pub returns-clause-made : goal.returns-clause-made
returns-clause-made c =
    let k = c.self.inside in
    made_write k.steps.items _ k.pool.items _ c.args.at (length c.args.bytes.now) c.args.bytes.now c.self.invariant.0.pooled refl
    c.note.ensures.items c.append.ensures.items
    ∙ ap (λ (s : KeptState). Wrote c.args.at c.args.bytes.now ∷ s.made) c.self.view_is
