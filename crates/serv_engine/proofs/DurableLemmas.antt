-- What a call leaves on the disk.
use Rattle.std.proofs.Common.{ℕ, ◌≤◌, List}
use Rattle.serv_disk.specs.Disks.{Each, LeavesOnly, View}
use Rattle.serv_journal.specs.Format.{Form}
use Rattle.serv_engine.specs.Engines.{EngineState, IsDurableIn, IsDurable, IsRunningIn, IsRunning}

-- in some form, and in this one
pub durable_in : (form : Form) (images : List ℕ → Type 0) (e : EngineState) → IsDurableIn form images e → IsDurable images e
durable_in form images e d = record { form = form; kept = d }

pub running_in : (form : Form) (images : List ℕ → Type 0) (e : EngineState) → IsRunningIn form images e → IsRunning images e
running_in form images e r = record { form = form; kept = r }

-- what is good at each moment is so at the end
pub good_now : {D : Type 0} (view : D → View) (old new : D) (P : List ℕ → Type 0)
    → ((d : D) (t : ℕ) (c : List ℕ) → t ≤ (view d).moment → (view d).images c → (view d).since t c) → LeavesOnly view old new P → Each (view new).images P
good_now view old new P counts run c image = run.each c (counts new (view old).moment c run.later image)
