use Rattle.std.proofs.Common.{refl}
use Rattle.svc_core.specs.Replies.{replies_of}
use Rattle.svc_core.proofs.replies.Replies.new.Goals as goal

pub returns : goal.returns
unfolding replies_of
returns c = refl
