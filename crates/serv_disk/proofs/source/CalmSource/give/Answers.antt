use Rattle.std.proofs.Common.{◌+◌, arith, ap, sym, ◌∙◌, drop}
use Rattle.std.specs.Prelude.{slice_range}
use Rattle.serv_disk.proofs.Pieces.{given}
use Rattle.serv_disk.proofs.source.CalmSource.give.Goals as goal

pub returns-clause-given : goal.returns-clause-given
returns-clause-given c =
    let at = c.self.inside.at in
    let n = c.min-n.result in
    sym c.self.view_is ∙ given c.self.inside.bytes.items (drop n c.args.buf.now) c.copy_from_slice.new.self at n (omega arith)
    (c.copy_from_slice.ensures.after ∙ ap (λ xs. slice_range xs at (at + n)) c.deref.ensures.value)
