-- What a stage may be.
use Rattle.std.specs.Prelude.{Bool, true, false, nat_le, ◌&&◌, IsTrue}
use Rattle.serv_http.specs.declared.stage.Stage.{Stage}
use Rattle.serv_http.specs.declared.stage.Stage.TheVariants.{Heading, Passing, Keeping, Over}

-- a body that is kept fits its room
abbrev pub stage_fits : Stage → Bool
stage_fits Heading = true
stage_fits (Passing left due) = true
stage_fits (Keeping have need last) = nat_le have need && nat_le need 2048
stage_fits Over = true

abbrev pub StageFits : Stage → Type 0
StageFits stage = IsTrue (stage_fits stage)

-- the connection has ended
abbrev pub is_ended : Stage → Bool
is_ended Heading = false
is_ended (Passing left due) = false
is_ended (Keeping have need last) = false
is_ended Over = true
