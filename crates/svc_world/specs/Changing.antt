-- What a command on one loan changes: the entry that it may make, and the world with the loan changed.
use Rattle.std.specs.Prelude.{◌≡◌, ℕ, ◌+◌, ◌<◌, ◌≤◌, ◌+ℤ◌, ◌≤ℤ◌, ◌++◌, length, Some}
use Rattle.svc_base.specs.Calendar.{IsDay, month_of}
use Rattle.svc_types.specs.declared.account.Entry.{Entry}
use Rattle.svc_spec.specs.Books.{IsAct}
use Rattle.svc_spec.specs.Step.{brought}
use Rattle.svc_spec.specs.Totals.{received, refunded, refunded_by}
use Rattle.period_adjust.specs.Sealed.{reporting}
use Rattle.period_adjust.specs.Conditions.{count_held}
use Rattle.svc_world.specs.Held.{Held, find_loan, changed}
use Rattle.svc_world.specs.Reports.{months_of, changes_of}
use Rattle.svc_world.specs.World.{World}
use Rattle.svc_world.specs.Refusals.{closed_from}
use Rattle.svc_world.specs.Worlds.{IsNamedAct}

-- a world in which command n changes one loan: the adjustments of closed months are pending
abbrev pub world_with : World → ℕ → (Held → Held) → ℕ → World
world_with w id f n = record w {
  loans = changed id f w.loans;
  seals = reporting w.seals.reports
      (w.seals.pending ++ changes_of n (months_of w.seals.reports) w.loans (changed id f w.loans));
}

-- the next command after n may make an entry of a loan
pub record MayEnter (n : ℕ) (w : World) (id : ℕ) (e : Entry) : Type 0 where
  pub few : n < 1_000_000
  pub number : e.number ≡ n + 1
  pub loan : Held
  pub found : find_loan id w.loans ≡ Some loan
  pub entries : length loan.account.entries < 4_096
  pub since : loan.account.terms.boarded ≤ e.day
  pub until : e.day ≤ w.today
  pub exists : IsDay e.day
  pub act : IsAct e.act
  pub named : IsNamedAct e.act
  pub covered : (refunded loan.account +ℤ refunded_by e.act) ≤ℤ (received loan.account +ℤ brought e.act)
  pub room : count_held w.seals + closed_from w.seals.reports (month_of e.day) ≤ 4_000_000
