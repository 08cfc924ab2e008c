-- In which order the events of a loan stand: by day; on one day the month mark, then late marks, then
-- entries.
use Rattle.std.specs.Prelude.{◌≡◌, ℕ, ◌≤◌}
use Rattle.svc_types.specs.declared.account.Event.{Event}
use Rattle.svc_types.specs.declared.account.What.{What}
use Rattle.svc_types.specs.declared.account.What.TheVariants as what

-- the place of an event among those of one day
abbrev pub rank : What → ℕ
rank what.MonthMark = 0
rank (what.LateMark k) = 1
rank (what.Act a) = 2

-- an event may stand before another one
pub record MayPrecede (a b : Event) : Type 0 where
  pub day : a.day ≤ b.day
  pub same_day : a.day ≡ b.day → rank a.what ≤ rank b.what
