use Rattle.std.proofs.Common.{refl}
use Rattle.serv_http.proofs.StepLemmas.{nothing-open, nothing-more}
use Rattle.serv_http.proofs.conn.Conn.new.Goals as goal

pub returns : goal.returns
returns c = record { text = refl; going = nothing-more; may = nothing-open }
