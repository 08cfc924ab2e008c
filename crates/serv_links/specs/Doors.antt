-- Links that are served one after another, as they come from doors.
use Rattle.std.specs.Prelude.{◌≡◌, ℕ, ◌<◌, ◌≤◌, ◌⊎◌, List, [], ◌∷◌, ◌++◌, length, sum_by, codes, Option, Some, None, ⊤, option_map}
use Rattle.std.specs.Io.KnownBytes.{Appends}
use Rattle.svc_world.specs.World.{Accepted}
use Rattle.serv_disk.specs.Faults.{HasRisen}
use Rattle.svc_base.specs.Text.{text_of_number}
use Rattle.serv_line.specs.Replies.{ended, number_field}
use Rattle.serv_machine.specs.OnDisk.{OnDisk, Upholds}
use Rattle.serv_disk.specs.Stamps.{Stamp}
use Rattle.serv_links.specs.declared.doors.DoorsEnd.{DoorsEnd}
use Rattle.serv_links.specs.declared.doors.DoorsEnd.TheVariants.{Done, DiskFault, NetFault}
use Rattle.serv_links.specs.declared.link_end.LinkEnd.{LinkEnd}
use Rattle.serv_links.specs.declared.link_end.LinkEnd.TheVariants as link_end
use Rattle.serv_links.specs.declared.summary.Summary.{Summary}
use Rattle.serv_machine.specs.History.{Stand}
use Rattle.serv_links.specs.Links.{IsDiskEnd, Serves, number_in}
use Rattle.serv_disk.specs.Disks.{View}

-- what is said of a link: its end, how it came and how it was handed back, where the books stood before and after it,
-- and the command that was being appended
abbrev pub OneServed : Type 0 → Type 1
OneServed C = LinkEnd → C → C → Stand → Stand → List Accepted → Type 0

-- a link came so, was served to this end, and was handed back so; and where the books stand at the exit, what was answered
-- of it is on the disk
pub record ServedLink {C : Type 0} (left held : C → Option (List ℕ)) (log : C → Option (List Stamp)) (reads writes : C
    → ℕ) (view : View) (exit : Stand) (end : LinkEnd) (came back : C) (s s' : Stand) (pending : List Accepted) : Type 0 where
  pub added : List ℕ
  pub appends : Appends (held came) (held back) added
  pub serves : Serves end (HasRisen (reads came) (reads back)) (HasRisen (writes came) (writes back))
      (λ covers. Upholds covers view exit.history (held came) (log came) (log back))
      (left came) (left back) s s' pending added

-- each link in its turn, over the history that the one before it left
abbrev pub AreServed : {C : Type 0} → OneServed C → List LinkEnd → List C → List C → Stand → Stand → List Accepted → Type 0
AreServed P [] [] [] s s' pending = (s' ≡ s) × (pending ≡ [])
AreServed P (end ∷ ends) (x ∷ came) (y ∷ back) s s' pending =
    (t : Stand) × ((now : List Accepted) × ((later : List Accepted) × P end x y s t now
    × AreServed P ends came back t s' later × (pending ≡ now ++ later)))
AreServed P ends came back s s' pending = ⊥

-- these links came, where the doors tell which are to come
abbrev pub AreTaken : {C : Type 0} → Option (List C) → Option (List C) → List C → Type 0
AreTaken old new links = old ≡ option_map (λ rest. links ++ rest) new

-- these links were handed back
abbrev pub AreBack : {C : Type 0} → Option (List C) → Option (List C) → List C → Type 0
AreBack old new links = new ≡ option_map (λ had. had ++ links) old

-- no link is to come
abbrev pub AreNone : {C : Type 0} → Option (List C) → Type 0
AreNone None = ⊤
AreNone (Some coming) = coming ≡ []

-- the links that came and were handed back, each served to its end
pub record HasServed {C : Type 0} (P : OneServed C) (coming coming' backed backed' : Option (List C)) (ends : List LinkEnd) (s s' : Stand) (pending : List Accepted) : Type 0 where
  pub came : List C
  pub back : List C
  pub taken : AreTaken coming coming' came
  pub handed : AreBack backed backed' back
  pub served : AreServed P ends came back s s' pending

-- at no end the disk failed
abbrev pub NoDisk : List LinkEnd → Type 0
NoDisk [] = ⊤
NoDisk (end ∷ ends) = (¬ (IsDiskEnd end)) × NoDisk ends

-- so many links were served, or no more were to come; or the disk failed at the last end and at no other, or the doors failed
abbrev pub IsDoorsEnd : {C : Type 0} → DoorsEnd → ℕ → Option (List C) → List LinkEnd → Type 0
IsDoorsEnd Done most coming ends = NoDisk ends × ((length ends ≡ most) ⊎ ((length ends < most) × AreNone coming))
IsDoorsEnd DiskFault most coming ends =
    ((before : List LinkEnd) × ((last : LinkEnd) × (ends ≡ before ++ last ∷ []) × NoDisk before × IsDiskEnd last)) × (length ends ≤ most)
IsDoorsEnd NetFault most coming ends = NoDisk ends × (length ends < most)

-- which ends are counted
abbrev pub as_broken : LinkEnd → ℕ
as_broken (link_end.Broken n) = 1
as_broken other = 0

abbrev pub as_cut : LinkEnd → ℕ
as_cut (link_end.Cut n) = 1
as_cut other = 0

abbrev pub as_memory : LinkEnd → ℕ
as_memory (link_end.NoMemory n) = 1
as_memory other = 0

-- the counts of these ends
pub record IsSummary (ends : List LinkEnd) (summary : Summary) : Type 0 where
  pub served : summary.served ≡ length ends
  pub requests : summary.requests ≡ sum_by number_in ends
  pub broken : summary.broken ≡ sum_by as_broken ends
  pub cut : summary.cut ≡ sum_by as_cut ends
  pub memory : summary.memory ≡ sum_by as_memory ends

-- how many links were served, and how many requests were answered
abbrev pub text_of_answered : Summary → List ℕ
text_of_answered s = codes "served " ++ text_of_number s.served ++ codes " requests " ++ text_of_number s.requests

-- how many links ended by a fault, at the limit, and for want of memory
abbrev pub text_of_unanswered : Summary → List ℕ
text_of_unanswered s =
    number_field (codes "broken") s.broken ++ number_field (codes "cut") s.cut
    ++ number_field (codes "memory") s.memory

-- the line that says it
unfoldable pub text_of_summary : Summary → List ℕ
text_of_summary s = ended (text_of_answered s ++ text_of_unanswered s)

-- with what is left on a disk
module _ {D : Type 0} (view : D → View) (old new : D) where
  pub record ServesDoors {C : Type 0} (P : Stand → OneServed C) (end : DoorsEnd) (summary : Summary) (most : ℕ) (coming coming' backed backed' : Option (List C)) (s s' : Stand) : Type 0 where
    pub ends : List LinkEnd
    pub pending : List Accepted
    pub has : HasServed (P s') coming coming' backed backed' ends s s' pending
    pub ended : IsDoorsEnd end most coming' ends
    pub counted : IsSummary ends summary
    pub disk : OnDisk view old new s.history s'.history pending
