-- How a command is judged over a history of accepted commands: a known key, a refusal, or a fresh command;
-- and what its reply says.
use Rattle.std.specs.Prelude.{◌≡◌, ℕ, zero, suc, ◌+◌, ◌==◌, Bool, List, [], ◌∷◌, ◌++◌, length, Option, Some, None, ℤ, ◌+ℤ◌, if◌then◌else◌, nat_eq, slice_get}
use Rattle.std.specs.List.{All, find}
use Rattle.std.specs.Option.{option_map_or}
use Rattle.std.specs.Cmp.Lexicographic.{pointwise}
use Rattle.svc_base.specs.Sums.{total_by}
use Rattle.svc_types.specs.declared.requests.Command.{Command}
use Rattle.svc_types.specs.declared.requests.Command.TheVariants as command
use Rattle.svc_types.specs.declared.replies.Reply.{Reply}
use Rattle.svc_types.specs.declared.replies.Extra.{Extra}
use Rattle.svc_types.specs.declared.replies.Extra.TheVariants.{Plain, Analysed, Closed, Remitted}
use Rattle.svc_types.specs.declared.replies.Refusal.{Refusal}
use Rattle.svc_types.specs.declared.replies.Refusal.TheVariants.{KeyReused}
use Rattle.svc_types.specs.Keys.{IsKey}
use Rattle.svc_types.specs.Requests.{IsCommand}
use Rattle.svc_types.specs.Same.{is_same}
use Rattle.period_adjust.specs.declared.report_line.ReportLine.{ReportLine}
use Rattle.period_adjust.specs.Sealed.{Sealed}
use Rattle.svc_world.specs.Held.{find_loan}
use Rattle.svc_world.specs.Analysing.{settled_figures}
use Rattle.svc_world.specs.World.{World, Accepted, accepted, first_world, after, world}
use Rattle.svc_world.specs.Custody.{sent_of_line}
use Rattle.svc_world.specs.Refusals.{refusal_of}

-- the report of a month
abbrev pub report_for : ℕ → List Sealed → Option Sealed
report_for month reports = find (λ (r : Sealed). r.month == month) reports

-- a report's number of lines and its sums of interest and principal, adjustments included
abbrev pub closed_extra : Sealed → Extra
closed_extra r =
    Closed (length r.lines)
    (total_by (λ (l : ReportLine). l.interest +ℤ l.adj_interest) r.lines)
    (total_by (λ (l : ReportLine). l.principal +ℤ l.adj_principal) r.lines)

-- what the investor is sent by a report
abbrev pub net_of : Sealed → ℤ
net_of r = total_by sent_of_line r.lines

-- what the reply to an accepted command says beside its number, from the worlds before and after it
abbrev pub extra_of : World → World → Command → Extra
extra_of w later (command.Analyse id plan) =
    option_map_or (λ l. Analysed (settled_figures l plan)) (find_loan id w.loans) Plain
extra_of w later (command.Close p) = option_map_or closed_extra (report_for p later.seals.reports) Plain
extra_of w later (command.Remit p) = option_map_or (λ r. Remitted (net_of r)) (report_for p later.seals.reports) Plain
extra_of w later c = Plain

-- the reply to command n, which is accepted
unfoldable pub reply_of : ℕ → World → Command → Reply
reply_of n w c = record { number = n; extra = extra_of w (after n w c) c }

-- an accepted command, and the reply that was given
pub record Known : Type 0 where
  pub command : Command
  pub reply : Reply

abbrev pub is_key : List ℕ → List ℕ → Bool
is_key = pointwise nat_eq

-- the command under a key with its reply, among some commands of which the first has number n + 1
unfoldable pub known_from : ℕ → World → List Accepted → List ℕ → Option Known
known_from n w [] key = None
known_from n w (a ∷ more) key =
    if is_key a.key key then Some (record { command = a.command; reply = reply_of (n + 1) w a.command })
    else known_from (n + 1) (after (n + 1) w a.command) more key

-- the command of a history under a key
abbrev pub known : List Accepted → List ℕ → Option Known
known h key = known_from 0 first_world h key

-- what is said of a command: the reply that its key has, a refusal, or that it is fresh
pub data Judgement : Type 0 where
  Kept : Reply → Judgement
  Refused : Refusal → Judgement
  Fresh : Judgement

abbrev pub by_refusal : Option Refusal → Judgement
by_refusal None = Fresh
by_refusal (Some why) = Refused why

abbrev pub by_key : List Accepted → Command → Option Known → Judgement
by_key h c None = by_refusal (refusal_of (length h) (world h) c)
by_key h c (Some k) = if is_same k.command c then Kept k.reply else Refused (KeyReused k.reply.number)

-- a command with a known key acts no more: the same command has the reply that was given, another one is
-- refused; else the first rule that holds refuses it, or it is fresh
unfoldable pub judged : List Accepted → List ℕ → Command → Judgement
judged h key c = by_key h c (known h key)

-- the history after it: a fresh command is accepted
abbrev pub history_after : List Accepted → List ℕ → Command → Judgement → List Accepted
history_after h key c (Kept reply) = h
history_after h key c (Refused why) = h
history_after h key c Fresh = h ++ accepted key c ∷ []

-- the reply to the next command of a history
abbrev pub next_reply : List Accepted → Command → Reply
next_reply h c = reply_of (length h + 1) (world h) c

-- each command of a history was fresh after those before it
abbrev pub IsHistoryFrom : List Accepted → List Accepted → Type 0
IsHistoryFrom h [] = Unit {0}
IsHistoryFrom h (a ∷ more) = (judged h a.key a.command ≡ Fresh) × IsHistoryFrom (h ++ a ∷ []) more

abbrev pub AreWellFormed : List Accepted → Type 0
AreWellFormed h = All (λ (a : Accepted). IsKey a.key × IsCommand a.command) h

-- a history: well-formed commands, each fresh after those before it
pub record IsHistory (h : List Accepted) : Type 0 where
  pub formed : AreWellFormed h
  pub fresh : IsHistoryFrom [] h

-- the command with a number, from 1
abbrev pub nth_accepted : List Accepted → ℕ → Option Accepted
nth_accepted h zero = None
nth_accepted h (suc n) = slice_get h n
