-- What the definitions say of a due, one at a time.
use Rattle.std.proofs.Common.{◌≡◌, ℕ, ℤ, pos, ◌-ℤ◌, refl}
use Rattle.std.specs.Int.{int_min, int_max}
use Rattle.svc_base.specs.Money.{month_interest}
use Rattle.svc_types.specs.declared.terms.Terms.{Terms}
use Rattle.svc_types.specs.declared.terms.RemitType.{RemitType}
use Rattle.svc_types.specs.declared.terms.RemitType.TheVariants.{AA, SA, SS}
use Rattle.svc_types.specs.declared.books.MonthFacts.{MonthFacts}
use Rattle.svc_types.specs.LevelPayment.{level_principal}
use Rattle.remit_types.specs.Schedule.{scheduled_principal}
use Rattle.remit_types.specs.Dues.{LoanMonth, scheduled_balance, balance_after, actual_after, scheduled_after, passed_by, carried_after}
use Rattle.remit_types.specs.declared.dues.MonthDue.{MonthDue}
use Rattle.remit_types.specs.declared.dues.Carry.{Carry}

-- a due is known by its fields
pub due_fields : (m n : ℕ) (i j p q b d : ℤ) → m ≡ n → i ≡ j → p ≡ q → b ≡ d → (let x : MonthDue = record { month = m; interest = i; principal = p; balance = b } in let y : MonthDue = record { month = n; interest = j; principal = q; balance = d } in x ≡ y)
due_fields m n i j p q b d e f g h = cc

-- and so is what is carried
carry_fields : (u v b d a e s z p q : ℤ) → u ≡ v → b ≡ d → a ≡ e → s ≡ z → p ≡ q → (let x : Carry = record { upb = u; balance = b; actual = a; scheduled = s; passed = p } in let y : Carry = record { upb = v; balance = d; actual = e; scheduled = z; passed = q } in x ≡ y)
carry_fields u v b d a e s z p q f g h i j = cc

pub carried_fields : (t : Terms) (c : Carry) (m : LoanMonth) (u b a s p : ℤ) → u ≡ m.facts.upb → b ≡ balance_after t c.balance m → a ≡ actual_after c m → s ≡ scheduled_after t c m → p ≡ passed_by m.kind (actual_after c m) (scheduled_after t c m) → (let x : Carry = record { upb = u; balance = b; actual = a; scheduled = s; passed = p } in x ≡ carried_after t c m)
unfolding carried_after
carried_fields t c m u b a s p e f g h i = carry_fields u _ b _ a _ s _ p _ e f g h i

-- what was passed, of equal sums
pub passed_by-both : (kind : RemitType) (a b c d : ℤ) → a ≡ b → c ≡ d → passed_by kind a c ≡ passed_by kind b d
passed_by-both AA a b c d e f = e
passed_by-both SA a b c d e f = f
passed_by-both SS a b c d e f = f

pub level_principal-is : (t : Terms) (b : ℤ) → level_principal t b ≡ int_min b (t.pi -ℤ month_interest b t.rate)
unfolding level_principal
level_principal-is t b = refl

pub scheduled_balance-is : (t : Terms) (b : ℤ) (f : MonthFacts) → scheduled_balance t b f ≡ int_max (b -ℤ scheduled_principal t f.month b -ℤ f.curtailed) (pos 0)
unfolding scheduled_balance
scheduled_balance-is t b f = refl
