-- What contracts see of sources, sinks, links and doors in memory.
use Rattle.std.specs.Prelude.{ℕ, ◌+◌, ◌-◌, ◌^◌, min, List, Some, None}
use Rattle.serv_disk.specs.Sides.{Reading, Writing}

-- a source in memory: the bytes that are left, the numbers of the calls that fail, how many calls there were and how
-- many of them failed
pub record SourceState : Type 0 where
  pub rest : List ℕ
  pub fails : List ℕ
  pub calls : ℕ
  pub faults : ℕ

-- a sink in memory: the bytes that it holds, the room for more that is reserved, and the same three
pub record SinkState : Type 0 where
  pub content : List ℕ
  pub room : ℕ
  pub fails : List ℕ
  pub calls : ℕ
  pub faults : ℕ

-- a count one higher, which stands still at the end of its type
abbrev pub raised : ℕ → ℕ
raised count = min (count + 1) (2 ^ 64 - 1)

-- a link in memory: the side that is read and the side that is written
pub record LinkState : Type 0 where
  pub reading : SourceState
  pub writing : SinkState

-- its sides, each as the other sees it
abbrev pub reading_side : LinkState → Reading
reading_side link = record { left = Some link.reading.rest; faults = link.reading.faults }

abbrev pub writing_side : LinkState → Writing
writing_side link = record { held = Some link.writing.content; faults = link.writing.faults; log = None; mark = 0 }

-- links that are to come, in order, those that were handed back, and how many are out
pub record LinksState (A : Type 0) : Type 0 where
  pub coming : List A
  pub backed : List A
  pub out : ℕ

-- doors in memory: the links, the numbers of the calls that fail, how many calls there were and how many of them failed
pub record DoorsState : Type 0 where
  pub links : LinksState LinkState
  pub fails : List ℕ
  pub calls : ℕ
  pub faults : ℕ
