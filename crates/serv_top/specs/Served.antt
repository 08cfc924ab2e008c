-- What a run that serves links over a journal has accepted and written.
use Rattle.std.specs.Prelude.{◌≡◌, ℕ, List, [], Option}
use Rattle.std.specs.Io.KnownBytes.{Appends}
use Rattle.svc_world.specs.World.{Accepted}
use Rattle.serv_links.specs.declared.doors.DoorsEnd.TheVariants as doors_end
use Rattle.serv_links.specs.declared.link_end.LinkEnd.{LinkEnd}
use Rattle.serv_links.specs.declared.summary.Summary.{Summary}
use Rattle.serv_links.specs.Doors.{OneServed, HasServed, IsDoorsEnd, IsSummary, text_of_summary}
use Rattle.serv_texts.specs.declared.status.Status.{Status}
use Rattle.serv_texts.specs.declared.status.Status.TheVariants.{DiskFault, NetFault}
use Rattle.serv_machine.specs.History.{Stand}
use Rattle.serv_top.specs.Journal.{IsRunOver}
use Rattle.serv_texts.specs.Texts.{IsWrittenAs}
use Rattle.serv_disk.specs.Disks.{View}

-- the line that counts these ends
pub record IsCountOf (ends : List LinkEnd) (text : List ℕ) : Type 0 where
  pub summary : Summary
  pub counts : IsSummary ends summary
  pub spelled : text ≡ text_of_summary summary

-- why no further link was served, and what is written, by the status, where so many links were asked for, these are to
-- come, and those that came ended so: after the last one their count, as any text
abbrev pub IsServedAs : {C : Type 0} → Status → ℕ → Option (List C) → List LinkEnd → List ℕ → Type 0
IsServedAs DiskFault most coming ends written = IsDoorsEnd doors_end.DiskFault most coming ends × (written ≡ [])
IsServedAs NetFault most coming ends written = IsDoorsEnd doors_end.NetFault most coming ends × (written ≡ [])
IsServedAs other most coming ends written = IsDoorsEnd doors_end.Done most coming ends × IsWrittenAs other (IsCountOf ends) written

-- links came, each was served over the history that the one before it left, and they were handed back; and then their
-- summary was written
pub record ServesLinks {C : Type 0} (P : Stand → OneServed C) (status : Status) (most : ℕ) (coming coming' backed backed' : Option (List C)) (held held' : Option (List ℕ))
    (s s' : Stand) (pending : List Accepted) : Type 0 where
  pub ends : List LinkEnd
  pub served : HasServed (P s') coming coming' backed backed' ends s s' pending
  pub written : List ℕ
  pub wrote : Appends held held' written
  pub says : IsServedAs status most coming' ends written

-- a journal was opened, and then links were served over it
abbrev pub IsServedOver : {D : Type 0} → (D → View) → D → D → {C : Type 0} → (Stand → OneServed C) → Status → ℕ → ℕ → ℕ
    → Option (List C) → Option (List C) → Option (List C) → Option (List C) → Option (List ℕ) → Option (List ℕ) → Type 0
IsServedOver view old new P status most steps steps' coming coming' backed backed' held held' =
    IsRunOver (λ s s' pending. ServesLinks P status most coming coming' backed backed' held held' s s' pending) view old new steps steps'
