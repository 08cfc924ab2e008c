-- The entry that a command makes: where no rule refuses a payment, a curtailment, a payoff, a deposit, a disbursement, a
-- refund or a waiver, its entry may be made; and a world stays sound with one more entry of a loan.
use Rattle.std.proofs.Common.{◌≡◌, ℕ, ◌+◌, ◌≤◌, false, get_or, arith, refl, sym, subst}
use Rattle.std.specs.List.{All}
use Rattle.std.specs.Prelude.{None, ℤ, pos, ◌+ℤ◌, ◌≤ℤ◌}
use Rattle.std.proofs.lemmas.Int.{ints}
use Rattle.std.proofs.lemmas.List.Elements.{All-push}
use Rattle.svc_base.specs.Calendar.{IsDay, month_of}
use Rattle.svc_base.proofs.CentsRules.{from_not_int_lt}
use Rattle.svc_types.specs.declared.account.Act.{Act}
use Rattle.svc_types.specs.declared.account.Act.TheVariants.{Pay, Curtail, Payoff, Deposit, Disburse, Refund, Waive}
use Rattle.svc_types.specs.declared.account.Designation.{Designation}
use Rattle.svc_types.specs.declared.account.Entry.{Entry}
use Rattle.svc_types.specs.declared.requests.Command.{Command}
use Rattle.svc_types.specs.declared.requests.Command.TheVariants as command
use Rattle.svc_spec.specs.Books.{IsAct, IsEntryAmount}
use Rattle.svc_spec.specs.Step.{brought}
use Rattle.svc_spec.specs.Payoff.{available}
use Rattle.svc_spec.specs.Accounts.{MayPost}
use Rattle.svc_spec.specs.Totals.{refunded_by, received, refunded}
use Rattle.svc_world.specs.Held.{Held, changed, books_now, with_entry}
use Rattle.svc_world.specs.Reports.{months_of, changes_of}
use Rattle.svc_world.specs.World.{World, entry}
use Rattle.svc_world.specs.Refusals.{Case, refusal_of, cases_by_command, on_loan, asks_no_more, over_principal, payoff_short, no_such_line, over_refund, over_waiver, dated_cases, present_cases}
use Rattle.svc_world.specs.Worlds.{IsNamedAmount, IsNamedAct, IsLimited, IsHeld, IsWorld}
use Rattle.svc_world.specs.Changing.{MayEnter, world_with}
use Rattle.svc_world.specs.Laws.{IsFrom}
use Rattle.svc_world.proofs.LimitedLemmas.{posted_limited, available_covered}
use Rattle.svc_world.proofs.AgreeLemmas.{entry_agrees}
use Rattle.svc_world.proofs.CaseLemmas.{IsEntered, dated, present}
use Rattle.svc_world.proofs.NamedLoans.{named_loan, room_enough, asked}
use Rattle.svc_world.proofs.QuietWorlds.{IsQuiet, today_open}
use Rattle.svc_world.proofs.ChangedWorlds.{IsChange, own_changes, change_keeps}

-- ---- one more entry

-- the entry with the next number may follow on a loan
pub entry_posts : (n : ℕ) (w : World) (e : Entry) (l : Held) → IsHeld n w.today l → e.number ≡ n + 1 → l.account.terms.boarded ≤ e.day → e.day ≤ w.today → IsAct e.act → MayPost l.account e
entry_posts n w e l h number since until act = record {
  number = λ k x lt. (let le : (get_or l.account.entries k x).number ≤ n = h.numbers k x lt in omega (arith, number));
  since = since;
  until = subst (λ t. e.day ≤ t) (sym h.today) until;
  act = act;
}

pub entry_may : (n id : ℕ) (w : World) (e : Entry) → IsWorld n w → (m : MayEnter n w id e) → MayPost m.loan.account e
entry_may n id w e h m = entry_posts n w e m.loan (named_loan n w id m.loan h m.found).held m.number m.since m.until m.act

pub entry_change : (n id : ℕ) (w : World) (e : Entry) → IsWorld n w → (m : MayEnter n w id e) → IsChange (n + 1) w.today (month_of e.day) (with_entry e) m.loan
entry_change n id w e h m =
    let l = m.loan in
    let held = (named_loan n w id l h m.found).held in
    let account = held.limited.account in
    let may = entry_may n id w e h m in
    let number = m.number in
    let from = m.since in
    record {
      number = λ k. refl;
      boarded = λ k. refl;
      agree = entry_agrees l e account may;
      since = omega (arith, from);
      held = record {
        limited = posted_limited l.account e held.limited may m.exists m.entries m.named m.covered;
        today = held.today;
        numbers = All-push (λ (x : Entry). x.number ≤ n + 1) l.account.entries e (λ k x lt. (let le : (get_or l.account.entries k x).number ≤ n = held.numbers k x lt in omega arith)) (omega (arith, number));
        lines = held.lines;
        types = held.types;
        since = held.since;
      };
    }

pub entry_keeps : (n id : ℕ) (w : World) (e : Entry) → IsWorld n w → MayEnter n w id e → IsWorld (n + 1) (world_with w id (with_entry e) (n + 1))
entry_keeps n id w e h m =
    let is = named_loan n w id m.loan h m.found in
    let ch = entry_change n id w e h m in
    let room = room_enough n (month_of e.day) w m.loan h is.found ch.since m.room in
    subst (λ i. IsWorld (n + 1) (world_with w i (with_entry e) (n + 1))) is.number (change_keeps n (month_of e.day) w (with_entry e) m.loan h m.few is.found ch room)

-- an entry of the business day changes no closed month
pub present_quiet : (n id : ℕ) (w : World) (a : Act) → IsWorld n w → MayEnter n w id (entry (n + 1) w.today a) → IsQuiet n w id (with_entry (entry (n + 1) w.today a))
present_quiet n id w a h m = record { few = m.few; loan = m.loan; found = m.found; month = month_of w.today; end = today_open n w h; change = entry_change n id w (entry (n + 1) w.today a) h m }

-- ---- entries of a day

pub entered_sum : (c : ℤ) → IsEntered c → IsEntryAmount c
entered_sum c h = let low = h.low in let high = h.high in record { low = omega (arith, ints); high = omega (arith, ints) }

entered_named : (c : ℤ) → IsEntered c → IsNamedAmount c
entered_named c h = let low = h.low in let high = h.high in record { low = omega (arith, ints); high = omega (arith, ints) }

entered_low : (c : ℤ) → IsEntered c → pos 0 ≤ℤ c
entered_low c h = let low = h.low in omega (arith, ints)

-- the adjustments of a command that is asked of a day are of its loan, and of months from that of the day on
pub dated_own : (n id d : ℕ) (w : World) (c : ℤ) (rule : Held → Case) (cmd : Command) (a : Act) → cases_by_command w cmd ≡ on_loan w id (dated_cases w d c rule) → (IsEntered c → IsAct a) → IsWorld n w → refusal_of n w cmd ≡ None → All (IsFrom id (month_of d)) (changes_of (n + 1) (months_of w.seals.reports) w.loans (changed id (with_entry (entry (n + 1) d a)) w.loans))
dated_own n id d w c rule cmd a is act h fresh =
    let q = asked n w id (dated_cases w d c rule) cmd is fresh in
    let l = q.loan.loan in
    let it = dated w d c rule l q.loan.rest in
    let named = named_loan n w id l h q.loan.found in
    let e = entry (n + 1) d a in
    let since = it.since in
    let agree = entry_agrees l e named.held.limited.account (entry_posts n w e l named.held refl since it.until (act it.amount)) in
    let own = own_changes n (month_of d) (n + 1) w (with_entry e) l h named.found (λ k. refl) agree (omega (arith, since)) in
    subst (λ i. All (IsFrom i (month_of d)) (changes_of (n + 1) (months_of w.seals.reports) w.loans (changed i (with_entry e) w.loans))) named.number own

-- an entry that brings in an amount or none, and refunds none
dated_enters : (n id d : ℕ) (w : World) (c : ℤ) (rule : Held → Case) (cmd : Command) (a : Act) → cases_by_command w cmd ≡ on_loan w id (dated_cases w d c rule) → (IsEntered c → IsAct a) → (IsEntered c → IsNamedAct a) → refunded_by a ≡ pos 0 → (IsEntered c → pos 0 ≤ℤ brought a) → IsWorld n w → IsDay d → refusal_of n w cmd ≡ None → MayEnter n w id (entry (n + 1) d a)
dated_enters n id d w c rule cmd a is act named none brings h exists fresh =
    let q = asked n w id (dated_cases w d c rule) cmd is fresh in
    let l = q.loan.loan in
    let it = dated w d c rule l q.loan.rest in
    let covered = (named_loan n w id l h q.loan.found).held.limited.covered in
    let low = brings it.amount in
    record { few = q.few; number = refl; loan = l; found = q.loan.found; entries = it.entries; since = it.since; until = it.until; exists = exists; act = act it.amount; named = named it.amount; covered = omega (arith, ints, covered, none, low); room = it.room }

pub pay_enters : (n id d : ℕ) (w : World) (c : ℤ) (over : Designation) → IsWorld n w → IsDay d → refusal_of n w (command.Pay id d c over) ≡ None → MayEnter n w id (entry (n + 1) d (Pay c over))
pay_enters n id d w c over h exists fresh = dated_enters n id d w c asks_no_more (command.Pay id d c over) (Pay c over) refl (entered_sum c) (entered_named c) refl (entered_low c) h exists fresh

pub curtail_enters : (n id d : ℕ) (w : World) (c : ℤ) → IsWorld n w → IsDay d → refusal_of n w (command.Curtail id d c) ≡ None → MayEnter n w id (entry (n + 1) d (Curtail c))
curtail_enters n id d w c h exists fresh = dated_enters n id d w c (over_principal d c) (command.Curtail id d c) (Curtail c) refl (entered_sum c) (entered_named c) refl (entered_low c) h exists fresh

pub payoff_enters : (n id d : ℕ) (w : World) (c : ℤ) → IsWorld n w → IsDay d → refusal_of n w (command.Payoff id d c) ≡ None → MayEnter n w id (entry (n + 1) d (Payoff c))
payoff_enters n id d w c h exists fresh = dated_enters n id d w c (payoff_short d c) (command.Payoff id d c) (Payoff c) refl (entered_sum c) (entered_named c) refl (entered_low c) h exists fresh

pub deposit_enters : (n id d : ℕ) (w : World) (c : ℤ) → IsWorld n w → IsDay d → refusal_of n w (command.Deposit id d c) ≡ None → MayEnter n w id (entry (n + 1) d (Deposit c))
deposit_enters n id d w c h exists fresh = dated_enters n id d w c asks_no_more (command.Deposit id d c) (Deposit c) refl (entered_sum c) (entered_named c) refl (entered_low c) h exists fresh

pub disburse_enters : (n id d line : ℕ) (w : World) (c : ℤ) → IsWorld n w → IsDay d → refusal_of n w (command.Disburse id d c line) ≡ None → MayEnter n w id (entry (n + 1) d (Disburse c line))
disburse_enters n id d line w c h exists fresh = dated_enters n id d w c (no_such_line line) (command.Disburse id d c line) (Disburse c line) refl (entered_sum c) (entered_named c) refl (λ it. omega (arith, ints)) h exists fresh

-- ---- entries of the business day

-- an entry that refunds no more than what was received and not yet refunded
abbrev IsCovered : Held → Act → Type 0
IsCovered l a = (refunded l.account +ℤ refunded_by a) ≤ℤ (received l.account +ℤ brought a)

present_enters : (n id : ℕ) (w : World) (c : ℤ) (rule : Held → Case) (cmd : Command) (a : Act) → cases_by_command w cmd ≡ on_loan w id (present_cases w c rule) → (IsEntered c → IsAct a) → (IsEntered c → IsNamedAct a) → ((l : Held) → IsLimited l.account → (rule l).holds ≡ false → IsCovered l a) → IsWorld n w → refusal_of n w cmd ≡ None → MayEnter n w id (entry (n + 1) w.today a)
present_enters n id w c rule cmd a is act named covered h fresh =
    let q = asked n w id (present_cases w c rule) cmd is fresh in
    let l = q.loan.loan in
    let it = present w c rule l q.loan.rest in
    let held = (named_loan n w id l h q.loan.found).held in
    let after = held.limited.account.after in
    record { few = q.few; number = refl; loan = l; found = q.loan.found; entries = it.entries; since = subst (λ t. l.account.terms.boarded ≤ t) held.today after; until = omega arith; exists = h.today.exists; act = act it.amount; named = named it.amount; covered = covered l held.limited it.own; room = it.room }

pub refund_enters : (n id : ℕ) (w : World) (c : ℤ) → IsWorld n w → refusal_of n w (command.Refund id c) ≡ None → MayEnter n w id (entry (n + 1) w.today (Refund c))
refund_enters n id w c h fresh = present_enters n id w c (over_refund c) (command.Refund id c) (Refund c) refl (entered_sum c) (entered_named c) (λ l limited own. within l limited (from_not_int_lt (available (books_now l)) c own)) h fresh
  where
    within : (l : Held) → IsLimited l.account → c ≤ℤ available (books_now l) → IsCovered l (Refund c)
    within l limited le = let covered = available_covered l.account c limited le in omega (arith, ints, covered)

pub waive_enters : (n id : ℕ) (w : World) (c : ℤ) → IsWorld n w → refusal_of n w (command.Waive id c) ≡ None → MayEnter n w id (entry (n + 1) w.today (Waive c))
waive_enters n id w c h fresh = present_enters n id w c (over_waiver c) (command.Waive id c) (Waive c) refl (entered_sum c) (entered_named c) (λ l limited own. (let covered = limited.covered in omega (arith, ints, covered))) h fresh
