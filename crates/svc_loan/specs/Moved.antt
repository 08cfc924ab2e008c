-- What a loan's entries brought in and paid out, as numbers that run along.
use Rattle.std.specs.Prelude.{◌+◌, ◌≤◌, length, ℤ, pos, ◌+ℤ◌, ◌-ℤ◌, ◌≤ℤ◌}
use Rattle.svc_types.specs.declared.account.Act.{Act}
use Rattle.svc_spec.specs.Step.{brought}
use Rattle.svc_spec.specs.Accounts.{Account}
use Rattle.svc_spec.specs.Totals.{refunded_by, disbursed_by, received, returned, refunded, disbursed}
use Rattle.svc_loan.specs.declared.moved.Moved.{Moved}

-- the numbers of an account
abbrev pub moved_of : Account → Moved
moved_of a = record {
  entries = length a.entries;
  received = received a;
  returned = returned a;
  refunded = refunded a;
  disbursed = disbursed a;
}

-- with one more entry of an act
abbrev pub with_act : Act → Moved → Moved
with_act x m = record {
  entries = m.entries + 1;
  received = m.received +ℤ brought x;
  returned = m.returned;
  refunded = m.refunded +ℤ refunded_by x;
  disbursed = m.disbursed +ℤ disbursed_by x;
}

-- with an entry of that act reversed
abbrev pub with_reversed : Act → Moved → Moved
with_reversed x m = record {
  entries = m.entries;
  received = m.received;
  returned = m.returned +ℤ brought x;
  refunded = m.refunded -ℤ refunded_by x;
  disbursed = m.disbursed -ℤ disbursed_by x;
}

-- an amount that 4,096 entries can move
pub record IsMoved (z : ℤ) : Type 0 where
  pub low : pos 0 ≤ℤ z
  pub high : z ≤ℤ pos 409_600_000_000_000_000

pub record AreMoved (m : Moved) : Type 0 where
  pub entries : m.entries ≤ 4_096
  pub received : IsMoved m.received
  pub returned : IsMoved m.returned
  pub refunded : IsMoved m.refunded
  pub disbursed : IsMoved m.disbursed
