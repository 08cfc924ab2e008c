-- The first commands of a history are a history.
use Rattle.std.proofs.Common.{List, [], ◌∷◌, ◌++◌}
use Rattle.std.proofs.lemmas.List.Elements.{All-cons, All-head, All-tail, All-nil}
use Rattle.svc_types.specs.Keys.{IsKey}
use Rattle.svc_types.specs.Requests.{IsCommand}
use Rattle.svc_world.specs.World.{Accepted}
use Rattle.svc_world.specs.Judging.{IsHistoryFrom, AreWellFormed, IsHistory}

IsWell : Accepted → Type 0
IsWell a = IsKey a.key × IsCommand a.command

formed_front : (h more : List Accepted) → AreWellFormed (h ++ more) → AreWellFormed h
unfolding IsWell
formed_front [] more is = All-nil IsWell
formed_front (a ∷ h) more is = All-cons IsWell a h (All-head IsWell a (h ++ more) is) (formed_front h more (All-tail IsWell a (h ++ more) is))

fresh_front : (done h more : List Accepted) → IsHistoryFrom done (h ++ more) → IsHistoryFrom done h
fresh_front done [] more is = tt
fresh_front done (a ∷ h) more is = (is.0, fresh_front (done ++ a ∷ []) h more is.1)

pub history_front : (h more : List Accepted) → IsHistory (h ++ more) → IsHistory h
history_front h more is = record { formed = formed_front h more is.formed; fresh = fresh_front [] h more is.fresh }
