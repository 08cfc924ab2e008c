use Rattle.std.proofs.Common.{refl}
use Rattle.svc_base.specs.Text.{text_of_month}
use Rattle.serv_words.proofs.WordLemmas.{month_read, month_spelled}
use Rattle.serv_words.proofs.laws.months_are_read.Goals as goal

pub returns : goal.returns
returns c = record { read = λ m is. month_read (text_of_month m) m is refl; spelled = month_spelled }
