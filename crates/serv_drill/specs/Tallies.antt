-- The tally that the desk keeps.
use Rattle.serv_drill.specs.declared.desk.Desk.{Desk}
use Rattle.serv_drill.specs.Machine.{Tally}

abbrev pub tally : Desk → Tally
tally d = record { made = d.made; history = d.core.history; repeats = d.repeats; remitted = d.remitted }
