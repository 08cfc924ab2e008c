-- The open installment of a borrower who is late.
use Rattle.std.proofs.Common.{◌≡◌, ℕ, Bool, true, false, refl, sym, ap, ◌∙◌}
use Rattle.std.specs.Prelude.{ℤ, ◌||◌, pos, int_le, if◌then◌else◌, nat_le, Some, None}
use Rattle.svc_base.specs.Calendar.{day_after}
use Rattle.svc_base.proofs.CentsRules.{int_lt-true, from_not_int_le}
use Rattle.svc_types.specs.declared.terms.Terms.{Terms}
use Rattle.svc_types.specs.declared.books.Books.{Books}
use Rattle.svc_types.specs.declared.books.Installment.{Installment}
use Rattle.svc_spec.specs.Installments.{due_day, installment, open_installment}
use Rattle.svc_spec.specs.Payoff.{is_current}
use Rattle.pmi_track.specs.declared.pmi_outcome.Denial.TheVariants.{NotCurrent, Above}
use Rattle.pmi_track.specs.Insurance.{is_within, asked_balance, denial_with}

left_false : (a b : Bool) → (a || b) ≡ false → a ≡ false
left_false true b e = e
left_false false b e = refl

pub late_open : (t : Terms) (day : ℕ) (b : Books) → is_current t day b ≡ false → open_installment t b ≡ Some (installment t b)
unfolding is_current
late_open t day b late =
    let above : int_le b.upb (pos 0) ≡ false = left_false (int_le b.upb (pos 0)) (nat_le day (day_after (due_day t b.next) 30)) late in
    ap (λ v. if v then Some (installment t b) else None) (int_lt-true (pos 0) b.upb (from_not_int_le b.upb (pos 0) above))

pub late_day : (t : Terms) (day : ℕ) (b : Books) (i : Installment) → is_current t day b ≡ false → open_installment t b ≡ Some i → i.due ≡ due_day t b.next
late_day t day b i late e =
    let same : installment t b ≡ i = the_same (sym (late_open t day b late) ∙ e) in
    ap (λ (x : Installment). x.due) (sym same)
  where
    the_same : Some (installment t b) ≡ Some i → installment t b ≡ i
    the_same q = cc

pub late_none : (t : Terms) (day : ℕ) (b : Books) → is_current t day b ≡ false → open_installment t b ≡ None → ⊥
late_none t day b late e = let q : Some (installment t b) ≡ None = sym (late_open t day b late) ∙ e in cc

-- ---- denials

-- of a borrower who is current the balance decides
pub denied_by : (b : Books) (t : Terms) (day : ℕ) (value balance : ℤ) → is_current t day b ≡ true → balance ≡ asked_balance b t day
    → denial_with b t day value ≡ (if is_within 80 value balance then None else Some (Above balance))
denied_by b t day value balance current is =
    ap (λ v. if v then (if is_within 80 value (asked_balance b t day) then None else Some (Above (asked_balance b t day))) else Some (NotCurrent (due_day t b.next))) current
    ∙ ap (λ x. if is_within 80 value x then None else Some (Above x)) (sym is)

pub granted : (b : Books) (t : Terms) (day : ℕ) (value balance : ℤ) → is_current t day b ≡ true → balance ≡ asked_balance b t day → is_within 80 value balance ≡ true
    → None ≡ denial_with b t day value
granted b t day value balance current is within = sym (denied_by b t day value balance current is ∙ ap (λ v. if v then None else Some (Above balance)) within)

pub denied : (b : Books) (t : Terms) (day : ℕ) (value balance : ℤ) → is_current t day b ≡ true → balance ≡ asked_balance b t day → is_within 80 value balance ≡ false
    → Some (Above balance) ≡ denial_with b t day value
denied b t day value balance current is above = sym (denied_by b t day value balance current is ∙ ap (λ v. if v then None else Some (Above balance)) above)
