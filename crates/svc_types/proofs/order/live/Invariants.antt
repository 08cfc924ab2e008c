use Rattle.std.proofs.Common.{◌≡◌, take}
use Rattle.std.specs.List.{filter}
use Rattle.svc_types.specs.Live.{in_order, is_live}
use Rattle.svc_types.proofs.order.live.Given as goal

-- the live ones of the entries so far
abbrev pub invariant-loop-entry : goal.invariant-loop-entry
invariant-loop-entry l = l.found.items ≡ in_order (filter (is_live l.fn.reversed) (take l.entry-index l.entries))
