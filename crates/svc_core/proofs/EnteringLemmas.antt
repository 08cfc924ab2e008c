-- The entry that a command makes: no rule refuses it, so it may be added.
use Rattle.std.proofs.Common.{◌≡◌, ℕ, ◌+◌, ◌<◌, length, refl, sym, subst}
use Rattle.std.specs.Prelude.{Some, None}
use Rattle.svc_base.specs.Calendar.{month_of}
use Rattle.svc_types.specs.declared.account.Act.TheVariants as act
use Rattle.svc_types.specs.declared.account.Entry.{Entry}
use Rattle.svc_types.specs.declared.requests.Command.{Command}
use Rattle.svc_types.specs.declared.requests.Command.TheVariants as command
use Rattle.svc_types.specs.Requests.{IsCommand}
use Rattle.svc_spec.specs.Accounts.{MayPost}
use Rattle.period_adjust.specs.Sealed.{State}
use Rattle.svc_world.specs.Held.{with_entry}
use Rattle.svc_world.specs.World.{World, entry, loans_after, seals_after, after}
use Rattle.svc_world.specs.Refusals.{refusal_of}
use Rattle.svc_world.specs.Worlds.{IsWorld}
use Rattle.svc_world.specs.Changing.{MayEnter, world_with}
use Rattle.svc_world.proofs.NamedLoans.{named_loan, room_enough}
use Rattle.svc_world.proofs.ChangedWorlds.{IsChange}
use Rattle.svc_world.proofs.EntryWorlds.{entry_may, entry_change, pay_enters, curtail_enters, payoff_enters, deposit_enters, disburse_enters, refund_enters, waive_enters}
use Rattle.svc_loan.specs.Kept.{KeptLoan}
use Rattle.svc_loan.specs.Loans.{KeptLoans, OfLoan}
use Rattle.svc_loan.proofs.KeptLemmas.{found_of}
use Rattle.svc_replay.specs.Faults.{most_entries}
use Rattle.svc_world.specs.declared.scope.Scope.TheVariants.{One}
use Rattle.svc_world.specs.Scope.{scope_of}
use Rattle.svc_core.specs.State.{world_of, IsState}
use Rattle.svc_core.specs.Changing.{entry_made}
use Rattle.svc_core.proofs.KeptInLemmas.{kept_of}
use Rattle.svc_core.proofs.ChangingLemmas.{IsChanging}

-- ---- an entry that may be made is a change from its month on

pub entering : (n today : ℕ) (loans : KeptLoans) (seals : State) (id m : ℕ) (e : Entry) → IsState n today loans seals → MayEnter n (world_of today loans seals) id e → m ≡ month_of e.day → IsChanging n today loans seals id m (with_entry e)
entering n today loans seals id m e s may month =
    let w = world_of today loans seals in
    let is = named_loan n w id may.loan s.world may.found in
    let ch = entry_change n id w e s.world may in
    let kept = kept_of id loans.loans may.loan may.found in
    subst (λ p. IsChanging n today loans seals id p (with_entry e)) (sym month) (record {
      state = s;
      few = may.few;
      kept = kept.kept;
      found = kept.found;
      change = subst (λ l. IsChange (n + 1) today (month_of e.day) (with_entry e) l) (sym kept.held) ch;
      room = room_enough n (month_of e.day) w may.loan s.world is.found ch.since may.room;
    })

pub may_post : (n today : ℕ) (loans : KeptLoans) (seals : State) (id : ℕ) (e : Entry) → IsState n today loans seals → MayEnter n (world_of today loans seals) id e → OfLoan id loans.loans (λ k. MayPost k.held.account e)
may_post n today loans seals id e s m =
    let may = entry_may n id (world_of today loans seals) e s.world m in
    let kept = kept_of id loans.loans m.loan m.found in
    found_of (λ (k : KeptLoan). MayPost k.held.account e) id loans.loans kept.kept (subst (λ l. MayPost l.account e) (sym kept.held) may) kept.found

pub few_entries : (n today : ℕ) (loans : KeptLoans) (seals : State) (id : ℕ) (e : Entry) → MayEnter n (world_of today loans seals) id e → OfLoan id loans.loans (λ k. length k.held.account.entries < most_entries)
few_entries n today loans seals id e m =
    let kept = kept_of id loans.loans m.loan m.found in
    found_of (λ (k : KeptLoan). length k.held.account.entries < most_entries) id loans.loans kept.kept (subst (λ l. length l.account.entries < most_entries) (sym kept.held) m.entries) kept.found

-- ---- each command of an entry

-- the entry of a command may be made, and the world after the command has it
pub record IsMade (n id : ℕ) (w : World) (c : Command) (e : Entry) : Type 0 where
  pub may : MayEnter n w id e
  pub world : after (n + 1) w c ≡ world_with w id (with_entry e) (n + 1)

made_at : (n j id : ℕ) (w : World) (c : Command) (x e : Entry) → One j ≡ One id → Some x ≡ Some e → IsMade n j w c x → IsMade n id w c e
made_at n j id w c x e one some h =
    let number : j ≡ id = cc in
    let same : x ≡ e = cc in
    subst (λ i. IsMade n i w c e) number (subst (λ y. IsMade n j w c y) same h)

pub made : (n id : ℕ) (w : World) (c : Command) (e : Entry) → IsWorld n w → IsCommand c → scope_of c ≡ One id → refusal_of n w c ≡ None → entry_made (n + 1) w.today c ≡ Some e → IsMade n id w c e
unfolding after loans_after seals_after
made n id w (command.Day d) e h read one fresh some = absurd (cc)
made n id w (command.Board j t) e h read one fresh some = absurd (cc)
made n id w (command.Pay j d c over) e h read one fresh some = made_at n j id w (command.Pay j d c over) (entry (n + 1) d (act.Pay c over)) e one some (record { may = pay_enters n j d w c over h read.1.exists fresh; world = refl })
made n id w (command.Curtail j d c) e h read one fresh some = made_at n j id w (command.Curtail j d c) (entry (n + 1) d (act.Curtail c)) e one some (record { may = curtail_enters n j d w c h read.1.exists fresh; world = refl })
made n id w (command.Payoff j d c) e h read one fresh some = made_at n j id w (command.Payoff j d c) (entry (n + 1) d (act.Payoff c)) e one some (record { may = payoff_enters n j d w c h read.1.exists fresh; world = refl })
made n id w (command.Deposit j d c) e h read one fresh some = made_at n j id w (command.Deposit j d c) (entry (n + 1) d (act.Deposit c)) e one some (record { may = deposit_enters n j d w c h read.1.exists fresh; world = refl })
made n id w (command.Disburse j d c line) e h read one fresh some = made_at n j id w (command.Disburse j d c line) (entry (n + 1) d (act.Disburse c line)) e one some (record { may = disburse_enters n j d line w c h read.1.exists fresh; world = refl })
made n id w (command.Refund j c) e h read one fresh some = made_at n j id w (command.Refund j c) (entry (n + 1) w.today (act.Refund c)) e one some (record { may = refund_enters n j w c h fresh; world = refl })
made n id w (command.Waive j c) e h read one fresh some = made_at n j id w (command.Waive j c) (entry (n + 1) w.today (act.Waive c)) e one some (record { may = waive_enters n j w c h fresh; world = refl })
made n id w (command.Reverse j number) e h read one fresh some = absurd (cc)
made n id w (command.Line j line kind month every c) e h read one fresh some = absurd (cc)
made n id w (command.Drop j line) e h read one fresh some = absurd (cc)
made n id w (command.Analyse j plan) e h read one fresh some = absurd (cc)
made n id w (command.Close p) e h read one fresh some = absurd (cc)
made n id w (command.Remit p) e h read one fresh some = absurd (cc)
made n id w (command.Retype j from kind) e h read one fresh some = absurd (cc)
