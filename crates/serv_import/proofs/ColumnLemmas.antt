-- The first column of a row that does not fit.
use Rattle.std.proofs.Common.{◌≡◌, ◌≢◌, ◌<◌, ℕ, zero, suc, List, [], ◌∷◌, Some, length, refl, sym, ◌∙◌, subst, true, arith}
use Rattle.csv.specs.Records.{field_at}
use Rattle.svc_types.specs.Keys.{IsKey}
use Rattle.serv_rows.specs.Columns.{count, column}
use Rattle.svc_forms.specs.declared.field.FieldKind.TheVariants as kind
use Rattle.svc_forms.specs.declared.form.Form.{Form}
use Rattle.svc_forms.specs.Values.{Spells}
use Rattle.svc_forms.specs.Forms.{word_of}
use Rattle.svc_forms.proofs.RequestLemmas.{same_form}
use Rattle.serv_import.specs.Columns.{has_rows, FitsLine, NamesForm, Fits, IsBadAt}

pub bad_key : (key word loan day amount line : List ℕ) → (IsKey key → ⊥)
    → IsBadAt (key ∷ word ∷ loan ∷ day ∷ amount ∷ line ∷ []) 1
bad_key key word loan day amount line not =
    column 0 refl (record { before = before; here = not }) where
      before : (i : ℕ) → i < 0 → Fits (key ∷ word ∷ loan ∷ day ∷ amount ∷ line ∷ []) i
      before i h = absurd (omega arith)

pub bad_word : (key word loan day amount line : List ℕ) → IsKey key → (NamesForm word → ⊥)
    → IsBadAt (key ∷ word ∷ loan ∷ day ∷ amount ∷ line ∷ []) 2
bad_word key word loan day amount line k not =
    column 1 refl (record { before = before; here = not }) where
      before : (i : ℕ) → i < 1 → Fits (key ∷ word ∷ loan ∷ day ∷ amount ∷ line ∷ []) i
      before zero h = k
      before (suc i) h = absurd (omega arith)

pub bad_loan : (key word loan day amount line : List ℕ) → IsKey key → NamesForm word → (Spells kind.Number loan → ⊥)
    → IsBadAt (key ∷ word ∷ loan ∷ day ∷ amount ∷ line ∷ []) 3
bad_loan key word loan day amount line k w not =
    column 2 refl (record { before = before; here = not }) where
      before : (i : ℕ) → i < 2 → Fits (key ∷ word ∷ loan ∷ day ∷ amount ∷ line ∷ []) i
      before zero h = k
      before (suc zero) h = w
      before (suc (suc i)) h = absurd (omega arith)

pub bad_day : (key word loan day amount line : List ℕ) → IsKey key → NamesForm word → Spells kind.Number loan → (Spells kind.Day day → ⊥)
    → IsBadAt (key ∷ word ∷ loan ∷ day ∷ amount ∷ line ∷ []) 4
bad_day key word loan day amount line k w l not =
    column 3 refl (record { before = before; here = not }) where
      before : (i : ℕ) → i < 3 → Fits (key ∷ word ∷ loan ∷ day ∷ amount ∷ line ∷ []) i
      before zero h = k
      before (suc zero) h = w
      before (suc (suc zero)) h = l
      before (suc (suc (suc i))) h = absurd (omega arith)

pub bad_amount : (key word loan day amount line : List ℕ) → IsKey key → NamesForm word → Spells kind.Number loan → Spells kind.Day day → (Spells kind.Amount amount → ⊥)
    → IsBadAt (key ∷ word ∷ loan ∷ day ∷ amount ∷ line ∷ []) 5
bad_amount key word loan day amount line k w l d not =
    column 4 refl (record { before = before; here = not }) where
      before : (i : ℕ) → i < 4 → Fits (key ∷ word ∷ loan ∷ day ∷ amount ∷ line ∷ []) i
      before zero h = k
      before (suc zero) h = w
      before (suc (suc zero)) h = l
      before (suc (suc (suc zero))) h = d
      before (suc (suc (suc (suc i)))) h = absurd (omega arith)

pub bad_line : (key word loan day amount line : List ℕ) (form : Form) → IsKey key → word ≡ word_of form → has_rows form ≡ true → Spells kind.Number loan
    → Spells kind.Day day → Spells kind.Amount amount → (FitsLine form line → ⊥) → IsBadAt (key ∷ word ∷ loan ∷ day ∷ amount ∷ line ∷ []) 6
bad_line key word loan day amount line form k named rows l d a not =
    column 5 refl (record { before = before; here = λ h. not (subst (λ (f : Form). FitsLine f line) (same_form h.form form (sym h.named ∙ named)) h.fits) }) where
      before : (i : ℕ) → i < 5 → Fits (key ∷ word ∷ loan ∷ day ∷ amount ∷ line ∷ []) i
      before zero h = k
      before (suc zero) h = record { form = form; rows = rows; named = named }
      before (suc (suc zero)) h = l
      before (suc (suc (suc zero))) h = d
      before (suc (suc (suc (suc zero)))) h = a
      before (suc (suc (suc (suc (suc i))))) h = absurd (omega arith)

-- six fields by their places
pub six : (fs : List (List ℕ)) (a b c d e f : List ℕ) → length fs ≡ 6 → field_at fs 0 ≡ Some a → field_at fs 1 ≡ Some b → field_at fs 2 ≡ Some c
    → field_at fs 3 ≡ Some d → field_at fs 4 ≡ Some e → field_at fs 5 ≡ Some f → fs ≡ a ∷ b ∷ c ∷ d ∷ e ∷ f ∷ []
unfolding field_at
six (u ∷ v ∷ w ∷ x ∷ y ∷ z ∷ []) a b c d e f n p0 p1 p2 p3 p4 p5 = cc
six [] a b c d e f n p0 p1 p2 p3 p4 p5 = absurd (omega arith)
six (u ∷ []) a b c d e f n p0 p1 p2 p3 p4 p5 = absurd (omega arith)
six (u ∷ v ∷ []) a b c d e f n p0 p1 p2 p3 p4 p5 = absurd (omega arith)
six (u ∷ v ∷ w ∷ []) a b c d e f n p0 p1 p2 p3 p4 p5 = absurd (omega arith)
six (u ∷ v ∷ w ∷ x ∷ []) a b c d e f n p0 p1 p2 p3 p4 p5 = absurd (omega arith)
six (u ∷ v ∷ w ∷ x ∷ y ∷ []) a b c d e f n p0 p1 p2 p3 p4 p5 = absurd (omega arith)
six (u ∷ v ∷ w ∷ x ∷ y ∷ z ∷ t ∷ more) a b c d e f n p0 p1 p2 p3 p4 p5 = absurd (omega arith)

pub not_six : (row : List (List ℕ)) → length row ≢ 6 → IsBadAt row 7
not_six row not = count not
