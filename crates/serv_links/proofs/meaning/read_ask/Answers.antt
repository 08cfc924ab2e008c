use Rattle.std.proofs.Common.{ap, refl, Err}
use Rattle.serv_links.proofs.meaning.read_ask.Goals as goal

pub returns-in-Err-NotRequest-clause-means : goal.returns-in-Err-NotRequest-clause-means
returns-in-Err-NotRequest-clause-means c = rw c.in-Post.is (rw c.bytes.ensures at (c.in-Err-NotRequest.ensures.refused (ap Err c.in-Err-NotRequest.field-0-is)), refl, refl, refl)
