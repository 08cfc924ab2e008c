-- Entries as they are kept: what analyses settled stands in a list of its own.
use Rattle.std.specs.Prelude.{◌≡◌, ℕ, ◌<◌, List, [], ◌∷◌, get_or, length, map, pos}
use Rattle.std.specs.List.{All}
use Rattle.svc_types.specs.declared.escrow.Settled.{Settled}
use Rattle.svc_types.specs.declared.account.Act.{Act}
use Rattle.svc_types.specs.declared.account.Act.TheVariants as act
use Rattle.svc_types.specs.declared.account.Entry.{Entry}
use Rattle.svc_replay.specs.declared.brief.Brief.{Brief}
use Rattle.svc_replay.specs.declared.brief.BriefAct.{BriefAct}
use Rattle.svc_replay.specs.declared.brief.BriefAct.TheVariants as brief

-- what an act settles
abbrev pub settled_in : Act → List Settled
settled_in (act.Pay c over) = []
settled_in (act.Curtail c) = []
settled_in (act.Payoff c) = []
settled_in (act.Deposit c) = []
settled_in (act.Disburse c line) = []
settled_in (act.Refund c) = []
settled_in (act.Waive c) = []
settled_in (act.Analyse s) = s ∷ []

-- an act as it is kept, where what it settles, if it does, stands at a place
abbrev pub brief_act : ℕ → Act → BriefAct
brief_act place (act.Pay c over) = brief.Pay over c
brief_act place (act.Curtail c) = brief.Curtail c
brief_act place (act.Payoff c) = brief.Payoff c
brief_act place (act.Deposit c) = brief.Deposit c
brief_act place (act.Disburse c line) = brief.Disburse line c
brief_act place (act.Refund c) = brief.Refund c
brief_act place (act.Waive c) = brief.Waive c
brief_act place (act.Analyse s) = brief.Analyse place

-- what stands at a place at which nothing was settled
abbrev pub none_settled : Settled
none_settled = record {
  plan = record { start = 0; short_months = 0; deficient_months = 0; base = pos 0; credit = pos 0; short = pos 0; deficient = pos 0 };
  refund = pos 0;
  within30 = pos 0;
}

-- the act that one stands for
abbrev pub act_of : List Settled → BriefAct → Act
act_of ss (brief.Pay over c) = act.Pay c over
act_of ss (brief.Curtail c) = act.Curtail c
act_of ss (brief.Payoff c) = act.Payoff c
act_of ss (brief.Deposit c) = act.Deposit c
act_of ss (brief.Disburse line c) = act.Disburse c line
act_of ss (brief.Refund c) = act.Refund c
act_of ss (brief.Waive c) = act.Waive c
act_of ss (brief.Analyse place) = act.Analyse (get_or ss place none_settled)

-- the entry that one stands for
abbrev pub entry_of : List Settled → Brief → Entry
entry_of ss b = record { number = b.number; day = b.day; act = act_of ss b.act }

-- an entry as it is kept
abbrev pub brief_of : ℕ → Entry → Brief
brief_of place e = record { number = e.number; day = e.day; act = brief_act place e.act }

-- the entries that some stand for
abbrev pub expanded : List Settled → List Brief → List Entry
expanded ss bs = map (entry_of ss) bs

-- what it settled, where it did, is among the first n
abbrev pub StandsWithin : ℕ → BriefAct → Type 0
StandsWithin n b = (place : ℕ) → b ≡ brief.Analyse place → place < n

-- what each of them settled stands where it says
abbrev pub AreSettled : List Settled → List Brief → Type 0
AreSettled ss bs = All (λ b. StandsWithin (length ss) b.act) bs

-- entries by number, and for how many more there is room
pub record Recorded : Type 0 where
  pub all : List Entry
  pub room : ℕ
