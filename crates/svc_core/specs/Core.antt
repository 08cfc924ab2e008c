-- What callers see of the core, what it answers, and what it keeps.
use Rattle.std.specs.Prelude.{◌≡◌, ℕ, ◌+◌, ◌≤◌, List, length, Option, Some, None, MatchOption, ⊤}
use Rattle.std.specs.List.{All}
use Rattle.svc_types.specs.declared.requests.Command.{Command}
use Rattle.svc_types.specs.declared.replies.Reply.{Reply}
use Rattle.svc_types.specs.declared.replies.Refusal.{Refusal}
use Rattle.svc_types.specs.Keys.{IsKey}
use Rattle.svc_types.specs.Requests.{IsCommand}
use Rattle.svc_spec.specs.Accounts.{Account}
use Rattle.period_adjust.specs.Sealed.{State}
use Rattle.custodial_book.specs.declared.row.Row.{Row}
use Rattle.svc_world.specs.declared.custody.Custody.{Custody}
use Rattle.svc_world.specs.World.{World, Accepted, accepted, after, world, today_after}
use Rattle.svc_world.specs.Judging.{Judgement, Kept, Refused, Fresh, Known, known, judged, next_reply, IsHistory}
use Rattle.svc_world.specs.Custody.{rows_in, custody_of}
use Rattle.svc_loan.specs.Loans.{KeptLoans}
use Rattle.svc_core.specs.declared.verdict.Verdict.{Verdict}
use Rattle.svc_core.specs.declared.verdict.Verdict.TheVariants as verdict
use Rattle.svc_core.specs.declared.fault.CoreFault.{CoreFault}
use Rattle.svc_core.specs.declared.fault.CoreFault.TheVariants as fault
use Rattle.svc_custody.specs.declared.position.Position.{Position}
use Rattle.svc_custody.specs.Cash.{IsKeptIn}
use Rattle.svc_custody.specs.Positions.{positions_of}
use Rattle.svc_core.specs.State.{world_of}
use Rattle.svc_world.specs.Scope.{scope_of}
use Rattle.svc_core.specs.declared.ready.Ready.{Ready}
use Rattle.svc_core.specs.declared.ready.Prepared.{Prepared}
use Rattle.svc_core.specs.Ready.{IsReadyFor}
use Rattle.svc_core.specs.Costs.{refusing_cost, preparing_cost, accepting_cost}
use Rattle.svc_core.specs.Posted.{PostedCommands, replies_to}

-- the accepted commands with their keys, and the command that may be accepted next
pub record Standing : Type 0 where
  pub history : List Accepted
  pub prepared : Option Accepted

-- ---- what it answers

-- a verdict on a command: the reply that was kept, or that it is fresh
abbrev pub IsVerdict : Judgement → Verdict → Type 0
IsVerdict j (verdict.Repeat reply) = j ≡ Kept reply
IsVerdict j verdict.Fresh = j ≡ Fresh

-- a fault: the refusal, or want of memory, which comes of a fresh command alone
abbrev pub IsFault : Judgement → CoreFault → Type 0
IsFault j (fault.Refused why) = j ≡ Refused why
IsFault j fault.OutOfMemory = j ≡ Fresh

-- a fault of a query: the refusal, or want of memory
abbrev pub IsQueryFault : Option Refusal → CoreFault → Type 0
IsQueryFault o (fault.Refused why) = o ≡ Some why
IsQueryFault o fault.OutOfMemory = ⊤

-- what is prepared after a verdict
abbrev pub prepared_by : List ℕ → Command → Verdict → Option Accepted
prepared_by key c (verdict.Repeat reply) = None
prepared_by key c verdict.Fresh = Some (accepted key c)

-- the reply to a command: that of the next command where it is fresh, else the kept one; a refused one has none
abbrev pub IsReplyTo : List Accepted → Command → Judgement → Reply → Type 0
IsReplyTo h c (Kept reply) r = r ≡ reply
IsReplyTo h c (Refused why) r = ⊥
IsReplyTo h c Fresh r = r ≡ next_reply h c

-- ---- what it costs

-- to judge a command whose key no other has
abbrev pub unknown_cost : (Account → ℕ → ℕ) → World → Command → Judgement → ℕ
unknown_cost cost w c (Kept reply) = 0
unknown_cost cost w c (Refused why) = refusing_cost cost w c
unknown_cost cost w c Fresh = refusing_cost cost w c + preparing_cost cost w c

-- where a key is known, nothing is looked at
abbrev pub where_unknown : Option Known → ℕ → ℕ
where_unknown None n = n
where_unknown (Some k) n = 0

-- to judge a command
abbrev pub judging_cost : (Account → ℕ → ℕ) → List Accepted → List ℕ → Command → ℕ
judging_cost cost h key c = where_unknown (known h key) (unknown_cost cost (world h) c (judged h key c))

-- to accept it as the next one of a history
abbrev pub accepted_cost : (Account → ℕ → ℕ) → (Account → ℕ → ℕ) → List Accepted → Command → ℕ
accepted_cost cost month_cost h c = accepting_cost cost month_cost (world h) (after (length h + 1) (world h) c) c

abbrev pub where_fresh : Judgement → ℕ → ℕ
where_fresh (Kept reply) n = 0
where_fresh (Refused why) n = 0
where_fresh Fresh n = n

-- to judge it, and to accept it where it is fresh
abbrev pub submitting_cost : (Account → ℕ → ℕ) → (Account → ℕ → ℕ) → List Accepted → List ℕ → Command → ℕ
submitting_cost cost month_cost h key c =
    judging_cost cost h key c + where_fresh (judged h key c) (accepted_cost cost month_cost h c)

-- ---- what it keeps

-- the parts are those that the history of accepted commands gives
pub record AreParts (posted : PostedCommands) (today : ℕ) (loans : KeptLoans) (seals : State) (rows : List Row) (custody : Custody) (positions : List Position) : Type 0 where
  pub history : IsHistory posted.history
  pub replies : posted.replies ≡ replies_to posted.history
  pub state : world_of today loans seals ≡ world posted.history
  pub kept : All (IsKeptIn (world posted.history)) loans.loans
  pub book : rows ≡ rows_in posted.history
  pub line : custody ≡ custody_of (world posted.history)
  pub places : positions ≡ positions_of (world posted.history)

-- the prepared command is fresh, what it changes is ready, and there is room for it in each part
pub record IsPrepared {B : Type 0} (posted : PostedCommands) (today : ℕ) (loans : KeptLoans) (seals : State) (rows dues places lines : ℕ) (a : Accepted) (ready : Ready B) : Type 0 where
  pub fresh : judged posted.history a.key a.command ≡ Fresh
  pub key_formed : IsKey a.key
  pub formed : IsCommand a.command
  pub place : 1 ≤ posted.room
  pub ready_for : IsReadyFor (scope_of a.command) today (today_after today a.command) loans seals rows dues places lines ready

pub record IsCore {B : Type 0} (posted : PostedCommands) (today : ℕ) (loans : KeptLoans) (seals : State) (rows : List Row) (custody : Custody) (positions : List Position) (spare dues places lines : ℕ) (prepared : Option (Prepared B)) : Type 0 where
  pub parts : AreParts posted today loans seals rows custody positions
  pub prepare : MatchOption prepared ⊤ (λ (p : Prepared B). IsPrepared posted today loans seals spare dues places lines (accepted p.key p.command) p.ready)
