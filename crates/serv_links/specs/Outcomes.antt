-- How requests of a connection went, in order.
use Rattle.std.specs.Prelude.{◌≡◌, ℕ, ◌+◌, ◌⊎◌, List, [], ◌++◌, length, Option, Result, Ok, Err}
use Rattle.std.specs.Io.KnownBytes.{Appends}
use Rattle.svc_world.specs.World.{Accepted}
use Rattle.serv_http.specs.declared.ask.Ask.{Ask}
use Rattle.serv_http.specs.declared.conn.Conn.{Conn}
use Rattle.serv_http.specs.Conns.{IsFed}
use Rattle.serv_http.specs.Streams.{AsksTo}
use Rattle.serv_machine.specs.declared.faults.Stop.{Stop}
use Rattle.serv_machine.specs.History.{History, Stand, Running}
use Rattle.serv_machine.specs.Sayings.{Saying, Say, SaidFirst, AreFirst}
use Rattle.serv_machine.specs.Answering.{Answers, AreReplies, Gathered, IsStopped}
use Rattle.serv_links.specs.Meanings.{Says, last_text}

-- ---- what is written last

-- a front part of a text, and all of it unless a write was cut
pub record IsFront (cut : Type 0) (part whole : List ℕ) : Type 0 where
  pub rest : List ℕ
  pub joined : whole ≡ part ++ rest
  pub all : ¬ cut → rest ≡ []

-- a front part of a text is written
pub record AppendsFront (cut : Type 0) (held held' : Option (List ℕ)) (text : List ℕ) : Type 0 where
  pub part : List ℕ
  pub appends : Appends held held' part
  pub front : IsFront cut part text

-- ---- requests in order

-- all of them are answered
pub record IsAnswered (n : ℕ) (asks : List Ask) (s s' : Stand) (wrote : List ℕ) : Type 0 where
  pub count : n ≡ length asks
  pub answers : Answers (Say Says asks) s s' wrote

-- so many of them come first
abbrev pub ComeFirst : ℕ → List Ask → List Saying → List Saying → Type 0
ComeFirst n asks done ahead = (n ≡ length done) × AreFirst (SaidFirst Says asks) done ahead

-- the first ones are answered, and no further one; the last text is written, whole unless a write was cut
pub record IsEnded (cut : Type 0) (why : Stop) (n : ℕ) (asks : List Ask) (s s' : Stand) (pending : List Accepted) (wrote : List ℕ) : Type 0 where
  pub before : List ℕ
  pub stopped : IsStopped why (ComeFirst n asks) 0 s s' pending before
  pub part : List ℕ
  pub wrote_is : wrote ≡ before ++ part
  pub front : IsFront cut part (last_text why)

abbrev pub IsRound : Type 0 → Result (Unit {0}) Stop → ℕ → List Ask → Stand → Stand → List Accepted → List ℕ → Type 0
IsRound cut (Ok done) n asks s s' pending wrote = (pending ≡ []) × IsAnswered n asks s s' wrote
IsRound cut (Err why) n asks s s' pending wrote = IsEnded cut why n asks s s' pending wrote

-- they were acted on, and the response to the last one may wait until the disk has its command
pub record AreGathered (n : ℕ) (asks : List Ask) (s : Stand) (t : Running) (held held' : Option (List ℕ)) (text : List ℕ) : Type 0 where
  pub count : n ≡ length asks
  pub saids : List Saying
  pub say : Say Says asks saids
  pub gathered : Gathered 0 saids s t held held' text

-- ---- the requests of bytes

-- all of them, or none where no memory was there to read them
abbrev pub AreRead : List ℕ → List Ask → Type 0
AreRead bytes asks = (asks ≡ []) ⊎ ((left : Option (List ℕ)) × AsksTo bytes asks left)

-- those of a front part, which has no further one
pub record AreInFront (bytes : List ℕ) (asks : List Ask) : Type 0 where
  pub front : List ℕ
  pub more : List ℕ
  pub parted : bytes ≡ front ++ more
  pub left : Option (List ℕ)
  pub asked : AsksTo front asks left

-- not all requests are answered, of which this is known
pub record IsCutOff (Known : List Ask → Type 0) (cut : Type 0) (why : Stop) (n : ℕ) (s s' : Stand) (pending : List Accepted) (wrote : List ℕ) : Type 0 where
  pub asks : List Ask
  pub known : Known asks
  pub ended : IsEnded cut why n asks s s' pending wrote

-- of a piece all are answered, and the connection goes on with what is left; or they are not
abbrev pub IsPiece : Type 0 → Result (Unit {0}) Stop → ℕ → List ℕ → Conn → Stand → Stand → List Accepted → List ℕ → Type 0
IsPiece cut (Ok done) n bytes c s s' pending wrote = (asks : List Ask) × IsFed bytes asks c × (pending ≡ []) × IsAnswered n asks s s' wrote
IsPiece cut (Err why) n bytes c s s' pending wrote = IsCutOff (AreRead bytes) cut why n s s' pending wrote

-- ---- what bytes answer

-- so many bytes are the responses to some first ones of these requests, and what is written last; and these commands are accepted
-- then
pub record AreAnswers (asks : List Ask) (h : History) (bytes : ℕ) (commands : List Accepted) : Type 0 where
  pub before : ℕ
  pub replies : AreReplies (SaidFirst Says asks) h before commands
  pub why : Stop
  pub bytes_are : bytes ≡ before + length (last_text why)

-- the same of requests of which this is known
pub record AreAnswersOf (Known : List Ask → Type 0) (h : History) (bytes : ℕ) (commands : List Accepted) : Type 0 where
  pub asks : List Ask
  pub known : Known asks
  pub answers : AreAnswers asks h bytes commands
