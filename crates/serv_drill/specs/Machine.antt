-- Each command is submitted twice in a row, under one key, to the machine that judges over the history of accepted
-- commands; what is accepted, and what is answered.
use Rattle.std.specs.Prelude.{ℕ, ◌+◌, ℤ, pos, ◌+ℤ◌, Bool, true, false, List, [], ◌∷◌, ◌++◌, codes, if◌then◌else◌}
use Rattle.svc_base.specs.Text.{text_of_number}
use Rattle.svc_types.specs.declared.requests.Command.{Command}
use Rattle.svc_types.specs.declared.requests.Command.TheVariants as command
use Rattle.svc_types.specs.declared.replies.Extra.{Extra}
use Rattle.svc_types.specs.declared.replies.Extra.TheVariants as extra
use Rattle.svc_types.specs.declared.replies.Reply.{Reply}
use Rattle.svc_world.specs.World.{Accepted}
use Rattle.svc_world.specs.Judging.{Judgement, Kept, Refused, Fresh, judged, history_after, next_reply}
use Rattle.svc_core.specs.Bound.{step_bound}
use Rattle.serv_drill.specs.Works.{Work, Do, TakeBack}
use Rattle.serv_drill.specs.Payments.{last_payment}

-- the keys are d1, d2 and so on
abbrev pub key_of : ℕ → List ℕ
key_of n = codes "d" ++ text_of_number n

-- the history after a command was submitted once
unfoldable pub submitted : List Accepted → List ℕ → Command → List Accepted
submitted h key c = history_after h key c (judged h key c)

-- it was answered with a kept reply
abbrev pub is_kept : Judgement → Bool
is_kept (Kept reply) = true
is_kept (Refused why) = false
is_kept Fresh = false

abbrev pub one_if : Bool → ℕ
one_if b = if b then 1 else 0

-- what the investor is sent, as a reply says; nothing where it says none
abbrev pub net_of_extra : Extra → ℤ
net_of_extra (extra.Remitted net) = net
net_of_extra e = pos 0

abbrev pub net_in : Reply → ℤ
net_in r = net_of_extra r.extra

-- the same of the reply to a command; a refused one has none
abbrev pub net_by : List Accepted → Command → Judgement → ℤ
net_by h c (Kept reply) = net_in reply
net_by h c (Refused why) = pos 0
net_by h c Fresh = net_in (next_reply h c)

-- how many commands were made, the accepted ones, how many kept replies were given, and the sum of the nets in the first
-- reply to each command
pub record Tally : Type 0 where
  pub made : ℕ
  pub history : List Accepted
  pub repeats : ℕ
  pub remitted : ℤ

abbrev pub first_tally : Tally
first_tally = record { made = 0; history = []; repeats = 0; remitted = pos 0 }

-- one more command, submitted twice under its key
unfoldable pub after_command : Tally → Command → Tally
after_command t c =
    let key = key_of (t.made + 1) in
    let once = submitted t.history key c in
    record {
      made = t.made + 1;
      history = submitted once key c;
      repeats = t.repeats + one_if (is_kept (judged t.history key c)) + one_if (is_kept (judged once key c));
      remitted = t.remitted +ℤ net_by t.history c (judged t.history key c);
    }

-- what a work is, over the accepted commands: a payment is taken back by its number among them
abbrev pub command_of : List Accepted → Work → Command
command_of h (Do c) = c
command_of h (TakeBack loan) = command.Reverse loan (last_payment loan h)

unfoldable pub after_work : Tally → Work → Tally
after_work t w = after_command t (command_of t.history w)

-- all works, one after another
unfoldable pub after_works : Tally → List Work → Tally
after_works t [] = t
after_works t (w ∷ more) = after_works (after_work t w) more

-- ---- the steps of it, at most: the bounds of all submitted commands, added up

unfoldable pub cost_of_command : Tally → Command → ℕ
cost_of_command t c =
    let key = key_of (t.made + 1) in
    step_bound t.history key c + step_bound (submitted t.history key c) key c

unfoldable pub cost_of_work : Tally → Work → ℕ
cost_of_work t w = cost_of_command t (command_of t.history w)

unfoldable pub cost_of_works : Tally → List Work → ℕ
cost_of_works t [] = 0
cost_of_works t (w ∷ more) = cost_of_work t w + cost_of_works (after_work t w) more
