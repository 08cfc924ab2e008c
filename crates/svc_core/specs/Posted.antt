-- The accepted commands with their replies, and the place of a key among them.
use Rattle.std.specs.Prelude.{◌≡◌, ℕ, ◌+◌, ◌≤◌, List, [], ◌∷◌, length, map, Option, Some, None, if◌then◌else◌}
use Rattle.std.specs.List.{All}
use Rattle.svc_types.specs.declared.terms.Terms.{Terms}
use Rattle.svc_types.specs.declared.requests.Command.{Command}
use Rattle.svc_types.specs.declared.replies.Extra.{Extra}
use Rattle.svc_types.specs.declared.replies.Reply.{Reply}
use Rattle.svc_world.specs.World.{World, Accepted, accepted, first_world, after}
use Rattle.svc_world.specs.Judging.{Known, is_key, reply_of}
use Rattle.svc_world.specs.Desk.{Posting}
use Rattle.svc_core.specs.declared.brief.Brief.{Brief}
use Rattle.svc_core.specs.Briefs.{command_of, StandsWithin}

-- a history of accepted commands with the reply to each, and for how many more there is room
pub record PostedCommands : Type 0 where
  pub history : List Accepted
  pub replies : List Reply
  pub room : ℕ

-- the number of the command under a key, among some of which the first has number n
abbrev pub number_from : ℕ → List Accepted → List ℕ → Option ℕ
number_from n [] key = None
number_from n (a ∷ more) key = if is_key a.key key then Some n else number_from (n + 1) more key

-- the number of the command under a key, from 1
abbrev pub number_of : List Accepted → List ℕ → Option ℕ
number_of h key = number_from 1 h key

-- commands with their keys, as a history has them
abbrev pub history_of : List (List ℕ × Command) → List Accepted
history_of ps = map (λ p. accepted p.0 p.1) ps

-- commands as they are kept with their keys, by the terms of the loans that were taken on
abbrev pub pairs_of : List Terms → List (List ℕ × Brief) → List (List ℕ × Command)
pairs_of terms ps = map (λ p. (p.0, command_of terms p.1)) ps

-- the most commands of a history
abbrev pub most_commands : ℕ
most_commands = 1_000_000

-- there are no more commands than that, each has a reply, and the terms of each stand among those that are kept
pub record AreReplied (terms : List Terms) (commands : List (List ℕ × Brief)) (replies : List Reply) : Type 0 where
  pub few : length commands ≤ most_commands
  pub replied : length replies ≡ length commands
  pub few_terms : length terms ≤ length commands
  pub within : All (λ (p : List ℕ × Brief). StandsWithin (length terms) p.1) commands

abbrev pub reply : ℕ → Extra → Reply
reply number extra = record { number = number; extra = extra }

-- a command, and the reply to it
abbrev pub known_as : Command → Reply → Known
known_as c r = record { command = c; reply = r }

-- the command under a key with its reply
abbrev pub known_among : List Accepted → List Reply → List ℕ → Option Known
known_among [] rs key = None
known_among (a ∷ h) [] key = None
known_among (a ∷ h) (r ∷ rs) key = if is_key a.key key then Some (known_as a.command r) else known_among h rs key

-- the replies to some commands, of which the first has number n + 1
unfoldable pub replies_from : ℕ → World → List Accepted → List Reply
replies_from n w [] = []
replies_from n w (a ∷ more) = reply_of (n + 1) w a.command ∷ replies_from (n + 1) (after (n + 1) w a.command) more

-- the replies to a history
abbrev pub replies_to : List Accepted → List Reply
replies_to h = replies_from 0 first_world h

-- the commands, each with its reply
abbrev pub postings_in : List Accepted → List Reply → List Posting
postings_in [] rs = []
postings_in (a ∷ h) [] = []
postings_in (a ∷ h) (r ∷ rs) = record { key = a.key; command = a.command; reply = r } ∷ postings_in h rs
