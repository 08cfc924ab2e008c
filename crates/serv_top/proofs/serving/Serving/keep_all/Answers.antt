use Rattle.std.proofs.Common.{◌∙◌, arith}
use Rattle.serv_top.proofs.Pieces.{kept_piece}
use Rattle.serv_top.proofs.serving.Serving.keep_all.Goals as goal

pub returns-clause-line : goal.returns-clause-line
returns-clause-line c =
    c.in_ok-extend_from_slice.ensures.items
    ∙ kept_piece c.args.self.now.line.items c.args.piece.now c.min.result _ (omega (arith, c.len-room.ensures, c.args.self.now.line.ok.0, c.args.self.now.short)) c.min.ensures
