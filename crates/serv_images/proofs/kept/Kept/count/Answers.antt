use Rattle.std.proofs.Common.{rules, ◌≡◌, ◌∙◌, ap, length}
use Rattle.serv_images.specs.Kept.{KeptState}
use Rattle.serv_images.proofs.KeptLemmas.{calls_long}
use Rattle.serv_images.proofs.kept.Kept.count.Goals as goal

pub returns : goal.returns
returns c =
    let steps = c.self.inside.steps.items in
    let len : c.len.result ≡ length steps = search rules in
    len ∙ calls_long steps c.self.inside.pool.items ∙ ap (λ (k : KeptState). length k.made) c.self.view_is
