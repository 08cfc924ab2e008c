-- What a connection keeps, and the bytes for which it stands.
use Rattle.std.specs.Prelude.{◌≡◌, ℕ, ◌+◌, ◌<◌, ◌≤◌, List, [], ◌++◌, length, take, Bool, true, false, Option, Some, None}
use Rattle.httparse.specs.Grammar.{RequestHead}
use Rattle.serv_http.specs.declared.ask.Ask.{Ask}
use Rattle.serv_http.specs.declared.ask.Due.{Due}
use Rattle.serv_http.specs.declared.ask.Plan.TheVariants.{Pass, Keep}
use Rattle.serv_http.specs.declared.stage.Stage.{Stage}
use Rattle.serv_http.specs.declared.stage.Stage.TheVariants.{Heading, Passing, Keeping, Over}
use Rattle.serv_http.specs.declared.conn.Conn.{Conn}
use Rattle.serv_http.specs.declared.head_step.HeadStep.{HeadStep}
use Rattle.serv_http.specs.declared.head_step.HeadStep.TheVariants.{Asked, Begun, Waits}
use Rattle.serv_http.specs.Heads.{HasHead, IsClosed, IsOpen}
use Rattle.serv_http.specs.Plans.{IsPlan}
use Rattle.serv_http.specs.Stages.{is_ended}
use Rattle.serv_http.specs.Streams.{after_head, ends, IsFirst, AsksTo}

-- the bytes are kept in the room of the head, and no head is in them yet
pub record IsHeading (c : Conn) (s : List ℕ) : Type 0 where
  pub text : s ≡ take c.filled c.head
  pub going : ¬ (IsClosed s)
  pub may : IsOpen s

-- the bytes are a head and a part of a body that is passed over
pub record IsPassing (left : ℕ) (due : Due) (s : List ℕ) : Type 0 where
  pub head : RequestHead
  pub here : HasHead s head
  pub total : ℕ
  pub planned : IsPlan head (Pass total due)
  pub count : length (after_head s head) + left ≡ total

-- the bytes are a head and a part of a command's body, which is kept
pub record IsKeeping (body : List ℕ) (have need : ℕ) (last : Bool) (s : List ℕ) : Type 0 where
  pub head : RequestHead
  pub here : HasHead s head
  pub planned : IsPlan head (Keep need last)
  pub text : after_head s head ≡ take have body
  pub count : length (after_head s head) ≡ have

-- the bytes since the last whole request, at each stage
abbrev pub StandsAt : Conn → Stage → List ℕ → Type 0
StandsAt c Heading s = IsHeading c s
StandsAt c (Passing left due) s = IsPassing left due s × (0 < left)
StandsAt c (Keeping have need last) s = IsKeeping c.body have need last s × (have < need)
StandsAt c Over s = ⊥

-- the connection has read these bytes since the last whole request
abbrev pub StandsFor : Conn → List ℕ → Type 0
StandsFor c s = StandsAt c c.stage s

-- the connection has ended
abbrev pub is_over : Conn → Bool
is_over c = is_ended c.stage

-- what is left of the bytes is what the connection stands for, or it has ended
abbrev pub StandsForLeft : Conn → Option (List ℕ) → Type 0
StandsForLeft c None = is_over c ≡ true
StandsForLeft c (Some s) = StandsFor c s

-- the bytes have asked this, and the connection stands for the rest
abbrev pub IsFed : List ℕ → List Ask → Conn → Type 0
IsFed s asks c = (left : Option (List ℕ)) × AsksTo s asks left × StandsForLeft c left

-- the stage after a request
abbrev pub stage_after : Bool → Stage
stage_after true = Over
stage_after false = Heading

-- so many bytes of a piece were used, and completed this request, or the bytes wait
abbrev pub IsStep : List ℕ → List ℕ → Conn → ℕ → Option Ask → Type 0
IsStep s piece c used None = (used ≡ length piece) × StandsFor c (s ++ piece)
IsStep s piece c used (Some a) =
    (used ≤ length piece)
    × ((t : List ℕ) × IsFirst (s ++ take used piece) a t
    × (c.stage ≡ stage_after (ends a)) × (c.filled ≡ 0) × (ends a ≡ false → t ≡ []))

-- the bytes are a whole head and a part of its body, which may be all of it
abbrev pub BegunAt : Conn → Stage → List ℕ → Type 0
BegunAt c Heading s = ⊥
BegunAt c (Passing left due) s = IsPassing left due s
BegunAt c (Keeping have need last) s = IsKeeping c.body have need last s
BegunAt c Over s = ⊥

abbrev pub BegunFor : Conn → List ℕ → Type 0
BegunFor c s = BegunAt c c.stage s

-- the bytes are a whole head alone
pub record IsWhole (s : List ℕ) (h : RequestHead) : Type 0 where
  pub here : HasHead s h
  pub alone : after_head s h ≡ []

-- what a piece made of a head
abbrev pub IsHeadStep : List ℕ → List ℕ → Conn → HeadStep → Type 0
IsHeadStep s piece c (Asked used a) = IsStep s piece c used (Some a)
IsHeadStep s piece c (Begun used) = (used ≤ length piece) × BegunFor c (s ++ take used piece)
IsHeadStep s piece c Waits = StandsFor c (s ++ piece)
