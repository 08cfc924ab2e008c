use Rattle.std.proofs.Common.{◌≤◌, arith, sym, ap, ◌∙◌, length-take, length-drop}
use Rattle.std.specs.Prelude.{replicate}
use Rattle.std.proofs.lemmas.List.{length-replicate, take-replicate}
use Rattle.serv_images.proofs.TearLemmas.{put_laid}
use Rattle.serv_images.proofs.tearing.fill_within.Goals as goal

pub returns : goal.returns
returns c =
    let n = c.min-n.result in
    let all = replicate c.args.count c.args.value in
    let fits : n ≤ c.args.count = omega arith in
    put_laid c.args.at _ n all _ c.args.file.now (omega arith) (omega arith)
    (omega (arith, length-replicate c.args.count c.args.value, c.min-n.ensures))
    (c.set_all.ensures ∙ ap (λ m. replicate m c.args.value) (simp (length-take, length-drop) (omega (arith, c.min-n.ensures))) ∙ sym (take-replicate n c.args.count c.args.value fits))
