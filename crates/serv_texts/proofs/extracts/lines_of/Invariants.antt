use Rattle.std.proofs.Common.{◌≡◌, take}
use Rattle.std.specs.List.{flat_map}
use Rattle.svc_world.specs.World.{accepted}
use Rattle.serv_line.specs.Replies.{ended}
use Rattle.serv_engine.specs.Histories.{line_of_command}
use Rattle.serv_texts.proofs.extracts.lines_of.Given as goal

abbrev pub invariant-loop-key : goal.invariant-loop-key
invariant-loop-key l = l.text.items ≡ flat_map (λ p. ended (line_of_command (accepted p.0 p.1))) (take l.key-index l.commands)
