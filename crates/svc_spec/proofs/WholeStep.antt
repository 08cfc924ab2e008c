-- What a whole step keeps: books stay books of their terms, and all money.
use Rattle.std.proofs.Common.{◌≡◌, ℕ, ◌+◌, arith, sym}
use Rattle.std.specs.Prelude.{pos, ◌+ℤ◌}
use Rattle.std.proofs.lemmas.Int.{ints}
use Rattle.svc_base.specs.Calendar.{month_of}
use Rattle.svc_base.proofs.CentsRules.{int_le-false}
use Rattle.svc_types.specs.declared.terms.Terms.{Terms}
use Rattle.svc_types.specs.declared.books.Books.{Books}
use Rattle.svc_types.specs.declared.account.Event.{Event}
use Rattle.svc_types.specs.declared.account.What.{What}
use Rattle.svc_types.specs.Terms.{IsSound}
use Rattle.svc_spec.specs.Settling.{marked, settled}
use Rattle.svc_spec.specs.Step.{happened, step, brought_by, paid_out_by}
use Rattle.svc_spec.specs.Books.{IsEntryAmount, IsPlan, HaveSigns, AreWithin, AreBooks, IsWhat, total, boarding_plan, start}
use Rattle.svc_spec.proofs.StepLemmas.{marked_signs, marked_total}
use Rattle.svc_spec.proofs.SettledLemmas.{stays_paid, marked_satisfied, settled_signs, settled_total, settled_satisfied}
use Rattle.svc_spec.proofs.ActLemmas.{happened_signs, happened_total, happened_stays}

-- signs do not speak of the day
pub with_day : (t : Terms) (d : ℕ) (b : Books) → HaveSigns t b → HaveSigns t (record b { day = d })
with_day t d b h = record { upb_low = h.upb_low; upb_high = h.upb_high; next_low = h.next_low; next_high = h.next_high; suspense = h.suspense; late_owed = h.late_owed; interest = h.interest; fee = h.fee; principal = h.principal; curtailed = h.curtailed; late_paid = h.late_paid; plan = h.plan; earlier = h.earlier }

pub happened_marked_signs : (t : Terms) (d : ℕ) (w : What) (b : Books) → IsSound t → IsWhat w → HaveSigns t b → HaveSigns t (marked d (happened t d w b))
happened_marked_signs t d w b s a h = marked_signs t d (happened t d w b) (happened_signs t d w b s a h)

-- the books after an event are books of the terms, where their sums stay within the limits
pub step_books : (t : Terms) (e : Event) (b : Books) → IsSound t → IsWhat e.what → AreBooks t b → AreWithin (step t e b) → AreBooks t (step t e b)
unfolding step
step_books t e b s a h within =
    let first = happened t e.day e.what b in
    let mark = marked e.day first in
    let exact = marked_satisfied e.day first (happened_stays t e.day e.what b s a h.signs (stays_paid b h.satisfied)) in
    let signs = happened_marked_signs t e.day e.what b s a h.signs in
    let last = settled_signs t (month_of e.day + 1) e.day mark s signs in
    let paid = settled_satisfied t (month_of e.day + 1) e.day mark s signs (stays_paid mark exact) in
    record { signs = with_day t e.day (settled t e.day mark) last; satisfied = paid; within = within }

-- money is conserved by every event
pub step_total : (t : Terms) (e : Event) (b : Books) → IsSound t → IsWhat e.what → HaveSigns t b → total (step t e b) +ℤ paid_out_by e.what ≡ total b +ℤ brought_by e.what
unfolding step
step_total t e b s a h =
    let first = happened t e.day e.what b in
    let signs = happened_marked_signs t e.day e.what b s a h in
    omega (arith, ints, happened_total t e.day e.what b s a h, marked_total e.day first, settled_total t (month_of e.day + 1) e.day (marked e.day first) s signs)

pub start_books : (t : Terms) → IsSound t → AreBooks t (start t)
unfolding start
start_books t s =
    let low = s.principal_low in
    let high = s.principal_high in
    let term = s.term_low in
    let none : IsEntryAmount (pos 0) = record { low = omega (arith, ints); high = omega (arith, ints) } in
    let escrow : IsEntryAmount t.escrow = let a = s.escrow_low in let z = s.escrow_high in record { low = omega (arith, ints); high = omega (arith, ints) } in
    let plan : IsPlan (boarding_plan t) = record { base = escrow; credit = none; short = none; short_months = omega arith; deficient = none; deficient_months = omega arith } in
    record {
      signs = record { upb_low = omega (arith, ints); upb_high = omega (arith, ints); next_low = λ owed. omega arith; next_high = λ owed. term; suspense = omega (arith, ints); late_owed = omega (arith, ints); interest = omega (arith, ints); fee = omega (arith, ints); principal = omega (arith, ints); curtailed = omega (arith, ints); late_paid = omega (arith, ints); plan = plan; earlier = plan };
      satisfied = sym (int_le-false t.principal (pos 0) (omega (arith, ints)));
      within = record { escrow_low = omega (arith, ints); escrow_high = omega (arith, ints); suspense = omega (arith, ints); late_owed = omega (arith, ints); interest = omega (arith, ints); fee = omega (arith, ints); principal = omega (arith, ints); curtailed = omega (arith, ints); late_paid = omega (arith, ints) };
    }

-- nor do books speak of the day
pub books_on : (t : Terms) (d : ℕ) (b : Books) → AreBooks t b → AreBooks t (record b { day = d })
books_on t d b h =
    let w = h.within in
    record { signs = with_day t d b h.signs; satisfied = h.satisfied; within = record { escrow_low = w.escrow_low; escrow_high = w.escrow_high; suspense = w.suspense; late_owed = w.late_owed; interest = w.interest; fee = w.fee; principal = w.principal; curtailed = w.curtailed; late_paid = w.late_paid } }
