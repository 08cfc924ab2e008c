-- Commands as they are kept: the terms of loans stand in a list of their own.
use Rattle.std.specs.Prelude.{◌≡◌, ℕ, ◌<◌, List, [], ◌∷◌, get_or, pos}
use Rattle.svc_types.specs.declared.terms.RemitType.TheVariants.{AA}
use Rattle.svc_types.specs.declared.terms.Terms.{Terms}
use Rattle.svc_types.specs.declared.requests.Command.{Command}
use Rattle.svc_types.specs.declared.requests.Command.TheVariants as command
use Rattle.svc_core.specs.declared.brief.Brief.{Brief}
use Rattle.svc_core.specs.declared.brief.Brief.TheVariants as brief

-- the terms that a command has
abbrev pub terms_in : Command → List Terms
terms_in (command.Day d) = []
terms_in (command.Board id t) = t ∷ []
terms_in (command.Pay id d c over) = []
terms_in (command.Curtail id d c) = []
terms_in (command.Payoff id d c) = []
terms_in (command.Deposit id d c) = []
terms_in (command.Disburse id d c line) = []
terms_in (command.Refund id c) = []
terms_in (command.Waive id c) = []
terms_in (command.Reverse id number) = []
terms_in (command.Line id line kind month every c) = []
terms_in (command.Drop id line) = []
terms_in (command.Analyse id plan) = []
terms_in (command.Close p) = []
terms_in (command.Remit p) = []
terms_in (command.Retype id from kind) = []

-- a command as it is kept, whose terms, where it has any, stand at a place
abbrev pub brief_of : ℕ → Command → Brief
brief_of place (command.Day d) = brief.Day d
brief_of place (command.Board id t) = brief.Board id place
brief_of place (command.Pay id d c over) = brief.Pay id d c over
brief_of place (command.Curtail id d c) = brief.Curtail id d c
brief_of place (command.Payoff id d c) = brief.Payoff id d c
brief_of place (command.Deposit id d c) = brief.Deposit id d c
brief_of place (command.Disburse id d c line) = brief.Disburse id d c line
brief_of place (command.Refund id c) = brief.Refund id c
brief_of place (command.Waive id c) = brief.Waive id c
brief_of place (command.Reverse id number) = brief.Reverse id number
brief_of place (command.Line id line kind month every c) = brief.Line id line kind month every c
brief_of place (command.Drop id line) = brief.Drop id line
brief_of place (command.Analyse id plan) = brief.Analyse id plan
brief_of place (command.Close p) = brief.Close p
brief_of place (command.Remit p) = brief.Remit p
brief_of place (command.Retype id from kind) = brief.Retype id from kind

-- terms for a place at which none stand
abbrev pub no_terms : Terms
no_terms = record {
  boarded = 0;
  principal = pos 0;
  rate = 0;
  fee = 0;
  pi = pos 0;
  term = 0;
  first = 0;
  grace = 0;
  late = 0;
  cushion = 0;
  escrow = pos 0;
  kind = AA;
}

-- the command that one stands for
abbrev pub command_of : List Terms → Brief → Command
command_of terms (brief.Day d) = command.Day d
command_of terms (brief.Board id place) = command.Board id (get_or terms place no_terms)
command_of terms (brief.Pay id d c over) = command.Pay id d c over
command_of terms (brief.Curtail id d c) = command.Curtail id d c
command_of terms (brief.Payoff id d c) = command.Payoff id d c
command_of terms (brief.Deposit id d c) = command.Deposit id d c
command_of terms (brief.Disburse id d c line) = command.Disburse id d c line
command_of terms (brief.Refund id c) = command.Refund id c
command_of terms (brief.Waive id c) = command.Waive id c
command_of terms (brief.Reverse id number) = command.Reverse id number
command_of terms (brief.Line id line kind month every c) = command.Line id line kind month every c
command_of terms (brief.Drop id line) = command.Drop id line
command_of terms (brief.Analyse id plan) = command.Analyse id plan
command_of terms (brief.Close p) = command.Close p
command_of terms (brief.Remit p) = command.Remit p
command_of terms (brief.Retype id from kind) = command.Retype id from kind

-- its terms, where it has any, are among the first n
abbrev pub StandsWithin : ℕ → Brief → Type 0
StandsWithin n b = (id place : ℕ) → b ≡ brief.Board id place → place < n
