use Rattle.std.proofs.Common.{arith}
use Rattle.serv_images.proofs.TearLemmas.{put_laid}
use Rattle.serv_images.proofs.tearing.lay_within.Goals as goal

pub returns : goal.returns
returns c = put_laid c.args.at _ c.min-n.result c.args.bytes.now _ c.args.file.now (omega arith) (omega arith) (omega arith) c.copy_from_slice.ensures.after
