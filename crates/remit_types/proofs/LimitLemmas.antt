-- Within which limits balances and scheduled interest lie, whatever the months did.
use Rattle.std.proofs.Common.{ℕ, ◌+◌, ◌*◌, List, [], ◌∷◌, length, Bool, true, false, nat_lt, nat_le, if◌then◌else◌, ℤ, pos, ◌≤ℤ◌, arith}
use Rattle.std.proofs.lemmas.Int.{ints, clamps}
use Rattle.std.proofs.lemmas.List.Elements.{All-head, All-tail}
use Rattle.svc_base.proofs.MoneyLemmas.{month_interest_most}
use Rattle.svc_types.specs.declared.terms.Terms.{Terms}
use Rattle.svc_types.specs.declared.terms.RemitType.{RemitType}
use Rattle.svc_types.specs.declared.terms.RemitType.TheVariants.{AA, SA, SS}
use Rattle.svc_types.specs.declared.books.MonthFacts.{MonthFacts}
use Rattle.svc_types.specs.Terms.{IsSound}
use Rattle.remit_types.specs.declared.dues.Carry.{Carry}
use Rattle.svc_types.specs.LevelPayment.{level_principal}
use Rattle.remit_types.specs.Schedule.{scheduled_principal, scheduled_interest}
use Rattle.remit_types.specs.Dues.{LoanMonth, scheduled_balance, balance_by, carried, carried_after}
use Rattle.remit_types.specs.Limits.{IsWithin, AreWithin, AllWithin}
use Rattle.remit_types.proofs.Interest.{month_interest-low, month_interest-rises, month_interest-rises_with_rate}

if_low : (b : Bool) (x y : ℤ) → pos 0 ≤ℤ x → pos 0 ≤ℤ y → pos 0 ≤ℤ (if b then x else y)
if_low true x y g h = g
if_low false x y g h = h

if_high : (b : Bool) (x y z : ℤ) → x ≤ℤ z → y ≤ℤ z → (if b then x else y) ≤ℤ z
if_high true x y z g h = g
if_high false x y z g h = h

pub scheduled_interest-low : (t : Terms) (month : ℕ) (balance : ℤ) → IsSound t → pos 0 ≤ℤ scheduled_interest t month balance
unfolding scheduled_interest
scheduled_interest-low t month balance sound =
    let rises = month_interest-rises_with_rate balance t.fee t.rate sound.fee in
    if_low (nat_lt month t.first) _ _ (omega (arith, ints)) (omega (arith, ints))

pub scheduled_interest-high : (t : Terms) (month : ℕ) (balance : ℤ) → IsSound t → pos 0 ≤ℤ balance → balance ≤ℤ t.principal → scheduled_interest t month balance ≤ℤ pos 208_333_333
unfolding scheduled_interest
scheduled_interest-high t month balance sound low high =
    let amount : balance ≤ℤ pos 10_000_000_000 = omega (arith, ints, sound.principal_high) in
    let most = month_interest_most balance t.rate (low, amount) sound.rate_high in
    let least = month_interest-low balance t.fee in
    if_high (nat_lt month t.first) _ _ _ (omega (arith, ints)) (omega (arith, ints))

level_principal-low : (t : Terms) (balance : ℤ) → IsSound t → pos 0 ≤ℤ balance → balance ≤ℤ t.principal → pos 0 ≤ℤ level_principal t balance
unfolding level_principal
level_principal-low t balance sound low high =
    let rises = month_interest-rises balance t.principal t.rate low high in
    let payment = sound.pi_low in
    omega (arith, ints, clamps)

scheduled_principal-low : (t : Terms) (month : ℕ) (balance : ℤ) → IsSound t → pos 0 ≤ℤ balance → balance ≤ℤ t.principal → pos 0 ≤ℤ scheduled_principal t month balance
unfolding scheduled_principal
scheduled_principal-low t month balance sound low high =
    if_low (nat_lt month t.first) _ _ (omega (arith, ints))
    (if_low (nat_le (t.first + t.term) (month + 1)) _ _ low (level_principal-low t balance sound low high))

scheduled_balance-low : (t : Terms) (balance : ℤ) (f : MonthFacts) → pos 0 ≤ℤ scheduled_balance t balance f
unfolding scheduled_balance
scheduled_balance-low t balance f = omega (arith, ints, clamps)

scheduled_balance-high : (t : Terms) (balance : ℤ) (f : MonthFacts) → IsSound t → AreWithin t f → pos 0 ≤ℤ balance → balance ≤ℤ t.principal → scheduled_balance t balance f ≤ℤ t.principal
unfolding scheduled_balance
scheduled_balance-high t balance f sound within low high =
    let least = scheduled_principal-low t f.month balance sound low high in
    let curtailed = within.curtailed_low in
    let principal = sound.principal_low in
    omega (arith, ints, clamps)

balance_by-low : (kind : RemitType) (t : Terms) (before : ℤ) (f : MonthFacts) → AreWithin t f → pos 0 ≤ℤ balance_by kind t before f
balance_by-low AA t before f within = within.upb_low
balance_by-low SA t before f within = within.upb_low
balance_by-low SS t before f within = if_low f.satisfied _ _ (omega (arith, ints)) (scheduled_balance-low t before f)

balance_by-high : (kind : RemitType) (t : Terms) (before : ℤ) (f : MonthFacts) → IsSound t → AreWithin t f → pos 0 ≤ℤ before → before ≤ℤ t.principal → balance_by kind t before f ≤ℤ t.principal
balance_by-high AA t before f sound within low high = within.upb_high
balance_by-high SA t before f sound within low high = within.upb_high
balance_by-high SS t before f sound within low high =
    if_high f.satisfied _ _ _ (omega (arith, ints, sound.principal_low)) (scheduled_balance-high t before f sound within low high)

step_within : (t : Terms) (c : Carry) (m : LoanMonth) → IsSound t → AreWithin t m.facts → IsWithin t c → IsWithin t (carried_after t c m)
unfolding carried_after
step_within t c m sound within was =
    record {
      upb_low = within.upb_low;
      upb_high = within.upb_high;
      balance_low = balance_by-low m.kind t c.balance m.facts within;
      balance_high = balance_by-high m.kind t c.balance m.facts sound within was.balance_low was.balance_high;
    }

facts_within : (t : Terms) (m : LoanMonth) (earlier : List LoanMonth) → AllWithin t (m ∷ earlier) → AreWithin t m.facts
facts_within t m earlier all = All-head (λ (n : LoanMonth). AreWithin t n.facts) m earlier all

earlier_within : (t : Terms) (m : LoanMonth) (earlier : List LoanMonth) → AllWithin t (m ∷ earlier) → AllWithin t earlier
earlier_within t m earlier all = All-tail (λ (n : LoanMonth). AreWithin t n.facts) m earlier all

pub carried-within : (t : Terms) (months : List LoanMonth) → IsSound t → AllWithin t months → IsWithin t (carried t months)
carried-within t [] sound all =
    record {
      upb_low = omega (arith, ints, sound.principal_low);
      upb_high = omega (arith, ints);
      balance_low = omega (arith, ints, sound.principal_low);
      balance_high = omega (arith, ints);
    }
carried-within t (m ∷ earlier) sound all =
    step_within t (carried t earlier) m sound (facts_within t m earlier all) (carried-within t earlier sound (earlier_within t m earlier all))

pub carried-scheduled_low : (t : Terms) (months : List LoanMonth) → IsSound t → pos 0 ≤ℤ (carried t months).scheduled
unfolding carried_after
carried-scheduled_low t [] sound = omega (arith, ints)
carried-scheduled_low t (m ∷ earlier) sound =
    omega (arith, ints, carried-scheduled_low t earlier sound, scheduled_interest-low t m.facts.month (carried t earlier).balance sound)

pub carried-scheduled_high : (t : Terms) (months : List LoanMonth) → IsSound t → AllWithin t months → (carried t months).scheduled ≤ℤ pos (208_333_333 * length months)
unfolding carried_after
carried-scheduled_high t [] sound all = omega (arith, ints)
carried-scheduled_high t (m ∷ earlier) sound all =
    let within = carried-within t earlier sound (earlier_within t m earlier all) in
    omega (arith, ints, carried-scheduled_high t earlier sound (earlier_within t m earlier all), scheduled_interest-high t m.facts.month (carried t earlier).balance sound within.balance_low within.balance_high)
