-- How a link was served: what was taken from it and written to it, what is held after it, and why it ended.
use Rattle.std.specs.Prelude.{◌≡◌, ℕ, ◌^◌, ◌<◌, ◌≤◌, ◌⊎◌, List, [], ◌++◌, length, Option, None, Some, ⊤}
use Rattle.std.specs.Io.KnownBytes.{Consumes, IsAtEnd}
use Rattle.svc_world.specs.World.{Accepted}
use Rattle.serv_http.specs.declared.ask.Ask.{Ask}
use Rattle.serv_http.specs.Streams.{AsksTo}
use Rattle.serv_links.specs.declared.link_end.LinkEnd.{LinkEnd}
use Rattle.serv_links.specs.declared.link_end.LinkEnd.TheVariants as link_end
use Rattle.serv_machine.specs.declared.faults.Stop.TheVariants as stop
use Rattle.serv_links.specs.Outcomes.{AreInFront, AreAnswersOf, IsAnswered, IsCutOff}
use Rattle.serv_machine.specs.History.{Stand}

-- the most bytes that are taken from a link: 16,777,216
abbrev pub link_limit : ℕ
link_limit = 2 ^ 24

-- the most bytes that one read takes: 16,384
abbrev pub read_limit : ℕ
read_limit = 2 ^ 14

-- how many responses were written whole
abbrev pub number_in : LinkEnd → ℕ
number_in (link_end.Ended n) = n
number_in (link_end.Broken n) = n
number_in (link_end.Cut n) = n
number_in (link_end.Disk n) = n
number_in (link_end.NoMemory n) = n

-- the disk failed
abbrev pub IsDiskEnd : LinkEnd → Type 0
IsDiskEnd (link_end.Disk n) = ⊤
IsDiskEnd other = ⊥

-- all requests of these bytes are answered
pub record IsAll (n : ℕ) (taken added : List ℕ) (s s' : Stand) (left : Option (List ℕ)) : Type 0 where
  pub asks : List Ask
  pub asked : AsksTo taken asks left
  pub answered : IsAnswered n asks s s' added

-- the end of a link whose count of read faults, or of write faults, has risen, and of which nothing is left to read:
-- at Ended and Cut, and where a read failed, all requests are answered. A read that fails comes of a connection that goes
-- on: after a response that ends it nothing more is read
abbrev pub IsServed : LinkEnd → Type 0 → Type 0 → Type 0 → List ℕ → Stand → Stand → List Accepted → List ℕ → Type 0
IsServed (link_end.Ended n) reads writes at_end taken s s' pending added =
    (pending ≡ []) × (length taken < link_limit)
    × ((left : Option (List ℕ)) × IsAll n taken added s s' left × (at_end ⊎ (left ≡ None)))
IsServed (link_end.Cut n) reads writes at_end taken s s' pending added =
    (pending ≡ []) × (length taken ≡ link_limit)
    × ((left : Option (List ℕ)) × IsAll n taken added s s' left)
IsServed (link_end.Broken n) reads writes at_end taken s s' pending added =
    (reads × (pending ≡ []) × (length taken < link_limit)
    × ((going : List ℕ) × IsAll n taken added s s' (Some going)))
    ⊎ (writes × IsCutOff (AreInFront taken) writes stop.WriteFault n s s' pending added)
IsServed (link_end.Disk n) reads writes at_end taken s s' pending added =
    IsCutOff (AreInFront taken) writes stop.DiskFault n s s' pending added
IsServed (link_end.NoMemory n) reads writes at_end taken s s' pending added =
    IsCutOff (AreInFront taken) writes stop.OutOfMemory n s s' pending added

-- nothing was read after a response that ends the connection: before the last read it went on
pub record IsReadOn (taken : List ℕ) : Type 0 where
  pub before : List ℕ
  pub piece : List ℕ
  pub parted : taken ≡ before ++ piece
  pub few : length piece ≤ read_limit
  pub asks : List Ask
  pub going : List ℕ
  pub asked : AsksTo before asks (Some going)

-- with what is taken, where the link tells what is left; and of what so many bytes answer, which writes are upheld
pub record Serves (end : LinkEnd) (reads writes : Type 0) (upheld : (ℕ → List Accepted → Type 0) → Type 0) (left left' : Option (List ℕ)) (s s' : Stand) (pending : List Accepted) (added : List ℕ) : Type 0 where
  pub taken : List ℕ
  pub took : Consumes left left' taken
  pub within : length taken ≤ link_limit
  pub read_on : IsReadOn taken
  pub says : IsServed end reads writes (IsAtEnd left') taken s s' pending added
  pub acknowledged : upheld (AreAnswersOf (AreInFront taken) s.history)
