use Rattle.serv_top.proofs.ImportLemmas.{file_one}
use Rattle.serv_top.proofs.laws.files_say_one_thing.Goals as goal

pub returns : goal.returns
returns c = file_one
