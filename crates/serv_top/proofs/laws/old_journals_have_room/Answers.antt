use Rattle.serv_top.proofs.RoomLemmas.{never_too_long}
use Rattle.serv_top.proofs.laws.old_journals_have_room.Goals as goal

pub returns : goal.returns
returns c = record { room = never_too_long }
