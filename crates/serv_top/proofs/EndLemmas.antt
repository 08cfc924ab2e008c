-- How runs that open no journal end where nothing fails.
use Rattle.std.proofs.Common.{◌≡◌, ◌⊎◌, ℕ, ◌<◌, List, length, refl, inl, inr, arith}
use Rattle.std.specs.Prelude.{Option, Some}
use Rattle.svc_world.specs.World.{Accepted}
use Rattle.serv_disk.specs.Disks.{View}
use Rattle.serv_disk.specs.Faults.{HasRisen}
use Rattle.serv_texts.specs.declared.status.Status.{Status}
use Rattle.serv_texts.specs.declared.status.Status.TheVariants as status
use Rattle.serv_texts.specs.Journal.{IsInit}
use Rattle.serv_machine.specs.History.{Stand}
use Rattle.serv_top.specs.Outcome.{Ended}
use Rattle.serv_texts.specs.Input.{input_limit}
use Rattle.serv_links.proofs.LinkLemmas.{few_taken}

pub init_ends : (st : Status) (old new : View) (faults faults' : ℕ) → (HasRisen faults faults' → ⊥) → IsInit st old new faults faults' → (st ≡ status.Done) ⊎ (st ≡ status.AlreadyThere)
init_ends status.Done old new faults faults' calm is = inl refl
init_ends status.AlreadyThere old new faults faults' calm is = inr refl
init_ends status.DiskFault old new faults faults' calm is = absurd (calm is)
init_ends other old new faults faults' calm is = absurd is

pub session_ends : (waiting : ℕ) (st : Status) (s s' : Stand) (pending : List Accepted) (left left' held held' : Option (List ℕ)) (input : List ℕ) → left ≡ Some input → length input < input_limit
    → (st ≡ status.ReadFault → ⊥) → (st ≡ status.WriteFault → ⊥) → (st ≡ status.DiskFault → ⊥) → Ended waiting st s s' pending left left' held held' → (st ≡ status.Done) ⊎ (st ≡ status.OutOfMemory)
session_ends waiting status.Done s s' pending left left' held held' input is short reads writes disks e = inl refl
session_ends waiting status.ReadFault s s' pending left left' held held' input is short reads writes disks e = absurd (reads refl)
session_ends waiting status.WriteFault s s' pending left left' held held' input is short reads writes disks e = absurd (writes refl)
session_ends waiting status.DiskFault s s' pending left left' held held' input is short reads writes disks e = absurd (disks refl)
session_ends waiting (status.TooMuch n) s s' pending left left' held held' input is short reads writes disks e =
    absurd (omega (arith, few_taken left left' input e.taken is e.took, short, e.says.1, e.says.2))
session_ends waiting status.OutOfMemory s s' pending left left' held held' input is short reads writes disks e = inr refl
session_ends waiting other s s' pending left left' held held' input is short reads writes disks e = absurd e.says
