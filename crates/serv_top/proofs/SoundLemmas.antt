-- The books after a run are sound.
use Rattle.std.proofs.Common.{◌≡◌, List, [], ◌++◌, refl, sym, subst}
use Rattle.svc_world.specs.World.{Accepted, world}
use Rattle.svc_world.specs.Judging.{IsHistory}
use Rattle.svc_world.specs.Laws.{ReportsGrow}
use Rattle.svc_world.proofs.LawLemmas.{are_lawful}
use Rattle.svc_world.proofs.StayLemmas.{reports_grow}
use Rattle.svc_core.proofs.CoreLemmas.{empty_history}
use Rattle.serv_machine.proofs.OnDiskLemmas.{alone}
use Rattle.serv_top.specs.Outcome.{StaySound}

pub stay_sound : (h h' list pending : List Accepted) → h' ≡ h ++ list → IsHistory h' × IsHistory (h' ++ pending) → StaySound h h' pending
stay_sound h h' list pending same is = record {
  is_history = is.0;
  with_pending = is.1;
  lawful = are_lawful h' is.0;
  reports = subst (λ x. ReportsGrow (world h) (world x)) (sym same) (reports_grow h list);
}

-- a run in memory that begins with nothing
pub begun_sound : (h : List Accepted) → IsHistory h → StaySound [] h []
begun_sound h is = stay_sound [] h h [] refl (alone h h refl is)

pub nothing_sound : StaySound [] [] []
nothing_sound = begun_sound [] empty_history
