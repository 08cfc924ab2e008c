-- Each row is taken for one thing: it asks one command, or it goes wrong in one column.
use Rattle.std.proofs.Common.{◌≡◌, ◌⊎◌, inl, inr, ℕ, zero, suc, ℤ, List, [], ◌∷◌, Some, None, true, length, get_or, refl, sym, ap, ◌∙◌, subst, arith}
use Rattle.svc_base.specs.Calendar.{IsReadDay}
use Rattle.svc_base.specs.Text.{text_of_number, text_of_day, IsReadAmount}
use Rattle.svc_base.proofs.TextLemmas.{number_injective, amount_injective}
use Rattle.svc_types.specs.Keys.{IsKey}
use Rattle.svc_types.specs.Requests.{IsReadNumber}
use Rattle.svc_types.specs.Words.{text_of_designation}
use Rattle.svc_types.specs.declared.account.Designation.{Designation}
use Rattle.svc_types.specs.declared.account.Designation.TheVariants as over
use Rattle.svc_types.specs.declared.requests.Command.{Command}
use Rattle.svc_types.specs.declared.requests.Command.TheVariants as command
use Rattle.svc_forms.specs.declared.field.FieldKind.TheVariants as kind
use Rattle.svc_forms.specs.declared.form.Form.{Form}
use Rattle.svc_forms.specs.declared.form.Form.TheVariants as form
use Rattle.svc_forms.specs.declared.value.Value.TheVariants as value
use Rattle.svc_forms.proofs.RequestLemmas.{same_form, same_value}
use Rattle.serv_rows.specs.Columns.{count, column}
use Rattle.serv_rows.proofs.ColumnLemmas.{one_column}
use Rattle.serv_import.specs.declared.row.RowRequest.{RowRequest}
use Rattle.serv_import.specs.declared.row.RowRequest.TheVariants as request
use Rattle.serv_import.specs.Rows.{header, row_with, Asks}
use Rattle.serv_import.specs.Columns.{has_rows, FitsLine, Fits, IsBadAt}
use Rattle.serv_import.specs.Batches.{IsAnswer, AreAnswers, IsBatch}

-- ---- the parts of a command that rows ask

-- what the last field of a row says
data Last : Type 0 where
  nothing : Last
  designation : Designation → Last
  line : ℕ → Last

abbrev text_of_last : Last → List ℕ
text_of_last nothing = []
text_of_last (designation o) = text_of_designation o
text_of_last (line n) = text_of_number n

abbrev IsLast : Last → Type 0
IsLast nothing = Unit {0}
IsLast (designation o) = Unit {0}
IsLast (line n) = IsReadNumber n

abbrev HasLast : Form → Last → Type 0
HasLast f nothing = (f ≡ form.Curtail) ⊎ (f ≡ form.Payoff) ⊎ (f ≡ form.Deposit)
HasLast f (designation o) = f ≡ form.Pay
HasLast f (line n) = f ≡ form.Disburse

abbrev plain : Form → ℕ → ℕ → ℤ → Command
plain form.Curtail l d a = command.Curtail l d a
plain form.Payoff l d a = command.Payoff l d a
plain other l d a = command.Deposit l d a

abbrev made_of : Form → ℕ → ℕ → ℤ → Last → Command
made_of f l d a nothing = plain f l d a
made_of f l d a (designation o) = command.Pay l d a o
made_of f l d a (line n) = command.Disburse l d a n

record Parts (row : List (List ℕ)) (key : List ℕ) (c : Command) : Type 0 where
  form : Form
  loan : ℕ
  day : ℕ
  amount : ℤ
  last : Last
  made : made_of form loan day amount last ≡ c
  fields : row ≡ row_with key form loan day amount (text_of_last last)
  kind : HasLast form last
  loan_in : IsReadNumber loan
  day_in : IsReadDay day
  amount_in : IsReadAmount amount
  last_in : IsLast last

some_told : (r s : List (List ℕ)) → Some r ≡ Some s → s ≡ r
some_told r s e = cc

none_told : (r : List (List ℕ)) → None ≡ Some r → ⊥
none_told r e = cc e

-- a row with the fields of a command has its parts
parts_with : (row : List (List ℕ)) (key : List ℕ) (f : Form) (l d : ℕ) (a : ℤ) (x : Last) → HasLast f x → IsLast x → IsReadNumber l → IsReadDay d → IsReadAmount a → Some (row_with key f l d a (text_of_last x)) ≡ Some row → Parts row key (made_of f l d a x)
parts_with row key f l d a x kind last_in loan_in day_in amount_in fields = record {
  form = f;
  loan = l;
  day = d;
  amount = a;
  last = x;
  made = refl;
  fields = some_told _ _ fields;
  kind = kind;
  loan_in = loan_in;
  day_in = day_in;
  amount_in = amount_in;
  last_in = last_in;
}

parts : (row : List (List ℕ)) (key : List ℕ) (c : Command) → Asks row key c → Parts row key c
parts row key (command.Pay l d a o) h = parts_with row key form.Pay l d a (designation o) refl tt h.well.0 h.well.1 h.well.2 h.fields
parts row key (command.Curtail l d a) h = parts_with row key form.Curtail l d a nothing (inl refl) tt h.well.0 h.well.1 h.well.2 h.fields
parts row key (command.Payoff l d a) h = parts_with row key form.Payoff l d a nothing (inr (inl refl)) tt h.well.0 h.well.1 h.well.2 h.fields
parts row key (command.Deposit l d a) h = parts_with row key form.Deposit l d a nothing (inr (inr refl)) tt h.well.0 h.well.1 h.well.2 h.fields
parts row key (command.Disburse l d a n) h = parts_with row key form.Disburse l d a (line n) refl h.well.3 h.well.0 h.well.1 h.well.2 h.fields
parts row key (command.Day d) h = absurd (none_told row h.fields)
parts row key (command.Board l t) h = absurd (none_told row h.fields)
parts row key (command.Refund l a) h = absurd (none_told row h.fields)
parts row key (command.Waive l a) h = absurd (none_told row h.fields)
parts row key (command.Reverse l n) h = absurd (none_told row h.fields)
parts row key (command.Line l n k' m e a) h = absurd (none_told row h.fields)
parts row key (command.Drop l n) h = absurd (none_told row h.fields)
parts row key (command.Analyse l p) h = absurd (none_told row h.fields)
parts row key (command.Close m) h = absurd (none_told row h.fields)
parts row key (command.Remit m) h = absurd (none_told row h.fields)
parts row key (command.Retype l m t) h = absurd (none_told row h.fields)

-- ---- a row asks one command

record AreSame (a b c d e f a' b' c' d' e' f' : List ℕ) : Type 0 where
  first : a ≡ a'
  second : b ≡ b'
  third : c ≡ c'
  fourth : d ≡ d'
  fifth : e ≡ e'
  sixth : f ≡ f'

six_told : (a b c d e f a' b' c' d' e' f' : List ℕ) → a ∷ b ∷ c ∷ d ∷ e ∷ f ∷ [] ≡ a' ∷ b' ∷ c' ∷ d' ∷ e' ∷ f' ∷ []
    → AreSame a b c d e f a' b' c' d' e' f'
six_told a b c d e f a' b' c' d' e' f' h = record { first = cc; second = cc; third = cc; fourth = cc; fifth = cc; sixth = cc }

first_byte : List ℕ → ℕ
first_byte text = get_or text 0 0

designation_told : (s t : Designation) → text_of_designation s ≡ text_of_designation t → s ≡ t
unfolding first_byte
designation_told over.Regular over.Regular e = refl
designation_told over.Principal over.Principal e = refl
designation_told over.Escrow over.Escrow e = refl
designation_told s t e =
    absurd (let n : first_byte (text_of_designation s) ≡ first_byte (text_of_designation t) = ap first_byte e in omega arith)

other_forms : (f : Form) → (f ≡ form.Curtail) ⊎ (f ≡ form.Payoff) ⊎ (f ≡ form.Deposit) → (f ≡ form.Pay) ⊎ (f ≡ form.Disburse) → ⊥
other_forms f (inl h) (inl e) = let x : form.Curtail ≡ form.Pay = sym h ∙ e in cc x
other_forms f (inl h) (inr e) = let x : form.Curtail ≡ form.Disburse = sym h ∙ e in cc x
other_forms f (inr (inl h)) (inl e) = let x : form.Payoff ≡ form.Pay = sym h ∙ e in cc x
other_forms f (inr (inl h)) (inr e) = let x : form.Payoff ≡ form.Disburse = sym h ∙ e in cc x
other_forms f (inr (inr h)) (inl e) = let x : form.Deposit ≡ form.Pay = sym h ∙ e in cc x
other_forms f (inr (inr h)) (inr e) = let x : form.Deposit ≡ form.Disburse = sym h ∙ e in cc x

last_told : (f : Form) (x y : Last) → HasLast f x → HasLast f y → IsLast x → IsLast y → text_of_last x ≡ text_of_last y → x ≡ y
last_told f nothing nothing p q i j e = refl
last_told f (designation o) (designation o') p q i j e = ap designation (designation_told o o' e)
last_told f (line m) (line n) p q i j e = ap line (number_injective m n (omega arith) (omega arith) e)
last_told f nothing (designation o) p q i j e = absurd (other_forms f p (inl q))
last_told f nothing (line n) p q i j e = absurd (other_forms f p (inr q))
last_told f (designation o) nothing p q i j e = absurd (other_forms f q (inl p))
last_told f (line n) nothing p q i j e = absurd (other_forms f q (inr p))
last_told f (designation o) (line n) p q i j e = absurd (let x : form.Pay ≡ form.Disburse = sym p ∙ q in cc x)
last_told f (line n) (designation o) p q i j e = absurd (let x : form.Pay ≡ form.Disburse = sym q ∙ p in cc x)

day_told : (c d : ℕ) → IsReadDay c → IsReadDay d → text_of_day c ≡ text_of_day d → c ≡ d
day_told c d p q e =
    let is : value.Day c ≡ value.Day d =
    same_value kind.Day (value.Day c) (value.Day d) (record { kind = refl; range = p }) (record { kind = refl; range = q }) e
    in
    cc

made_same : (f f' : Form) (l l' d d' : ℕ) (a a' : ℤ) (x x' : Last) → f ≡ f' → l ≡ l' → d ≡ d' → a ≡ a' → x ≡ x' → made_of f l d a x ≡ made_of f' l' d' a' x'
made_same f f' l l' d d' a a' x x' p q r s t = rw (p, q, r, s, t) refl

one_command : (row : List (List ℕ)) (key key' : List ℕ) (c c' : Command) → Asks row key c → Asks row key' c' → (key ≡ key') × (c ≡ c')
one_command row key key' c c' h h' =
    let p = parts row key c h in
    let q = parts row key' c' h' in
    let same = six_told _ _ _ _ _ _ _ _ _ _ _ _ (sym p.fields ∙ q.fields) in
    let f : p.form ≡ q.form = same_form p.form q.form same.second in
    let last : p.last ≡ q.last =
    last_told q.form p.last q.last (subst (λ (g : Form). HasLast g p.last) f p.kind) q.kind p.last_in q.last_in same.sixth
    in
    let loan : p.loan ≡ q.loan = number_injective p.loan q.loan (let x = p.loan_in in omega arith) (let x = q.loan_in in omega arith) same.third in
    let day : p.day ≡ q.day = day_told p.day q.day p.day_in q.day_in same.fourth in
    let amount : p.amount ≡ q.amount = amount_injective p.amount q.amount p.amount_in q.amount_in same.fifth in
    (same.first, sym p.made ∙ made_same _ _ _ _ _ _ _ _ _ _ f loan day amount last ∙ q.made)

-- ---- a row that asks a command goes wrong nowhere

rows_asked : (f : Form) (x : Last) → HasLast f x → has_rows f ≡ true
rows_asked f nothing (inl h) = subst (λ g. has_rows g ≡ true) (sym h) refl
rows_asked f nothing (inr (inl h)) = subst (λ g. has_rows g ≡ true) (sym h) refl
rows_asked f nothing (inr (inr h)) = subst (λ g. has_rows g ≡ true) (sym h) refl
rows_asked f (designation o) h = subst (λ g. has_rows g ≡ true) (sym h) refl
rows_asked f (line n) h = subst (λ g. has_rows g ≡ true) (sym h) refl

designation_fits : (o : Designation) → FitsLine form.Pay (text_of_designation o)
designation_fits over.Regular = inl refl
designation_fits over.Principal = inr (record { spelled = value.Designation over.Principal; fits = record { kind = refl; range = tt }; is = refl })
designation_fits over.Escrow = inr (record { spelled = value.Designation over.Escrow; fits = record { kind = refl; range = tt }; is = refl })

last_fits : (f : Form) (x : Last) → HasLast f x → IsLast x → FitsLine f (text_of_last x)
last_fits f nothing (inl h) i = subst (λ g. FitsLine g []) (sym h) refl
last_fits f nothing (inr (inl h)) i = subst (λ g. FitsLine g []) (sym h) refl
last_fits f nothing (inr (inr h)) i = subst (λ g. FitsLine g []) (sym h) refl
last_fits f (designation o) h i = subst (λ g. FitsLine g (text_of_designation o)) (sym h) (designation_fits o)
last_fits f (line n) h i =
    subst (λ g. FitsLine g (text_of_number n)) (sym h) (record { spelled = value.Number n; fits = record { kind = refl; range = i }; is = refl })

fits_with : (key : List ℕ) (f : Form) (l d : ℕ) (a : ℤ) (x : Last) → IsKey key → HasLast f x → IsReadNumber l → IsReadDay d → IsReadAmount a → IsLast x
    → (i : ℕ) → Fits (row_with key f l d a (text_of_last x)) i
fits_with key f l d a x k h p q r s zero = k
fits_with key f l d a x k h p q r s (suc zero) = record { form = f; rows = rows_asked f x h; named = refl }
fits_with key f l d a x k h p q r s (suc (suc zero)) = record { spelled = value.Number l; fits = record { kind = refl; range = p }; is = refl }
fits_with key f l d a x k h p q r s (suc (suc (suc zero))) = record { spelled = value.Day d; fits = record { kind = refl; range = q }; is = refl }
fits_with key f l d a x k h p q r s (suc (suc (suc (suc zero)))) = record { spelled = value.Amount a; fits = record { kind = refl; range = r }; is = refl }
fits_with key f l d a x k h p q r s (suc (suc (suc (suc (suc zero))))) = record { form = f; named = refl; fits = last_fits f x h s }
fits_with key f l d a x k h p q r s (suc (suc (suc (suc (suc (suc i)))))) = tt

not_bad : (row : List (List ℕ)) (key : List ℕ) (c : Command) (col : ℕ) → Asks row key c → IsBadAt row col → ⊥
not_bad row key c col h (count not) =
    let p = parts row key c h in
    not (ap length p.fields)
not_bad row key c col h (column place n m) =
    let p = parts row key c h in
    m.here (subst (λ r. Fits r place) (sym p.fields)
    (fits_with key p.form p.loan p.day p.amount p.last h.names p.kind p.loan_in p.day_in p.amount_in p.last_in place))

-- ---- a file asks one thing

one_answer : (n : ℕ) (row : List (List ℕ)) (a b : RowRequest) → IsAnswer n row a → IsAnswer n row b → a ≡ b
one_answer n row (request.Row key c) (request.Row key' c') h k = let e = one_command row key key' c c' h k in rw (e.0, e.1) refl
one_answer n row (request.Row key c) (request.Bad m col) h k = absurd (not_bad row key c col h k.1)
one_answer n row (request.Bad m col) (request.Row key c) h k = absurd (not_bad row key c col k h.1)
one_answer n row (request.Bad m col) (request.Bad m' col') h k =
    let e : m ≡ m' = h.0 ∙ sym k.0 in
    let f : col ≡ col' = one_column 6 Fits row col col' h.1 k.1 in
    rw (e, f) refl

one_list : (n : ℕ) (rows : List (List (List ℕ))) (xs ys : List RowRequest) → AreAnswers n rows xs → AreAnswers n rows ys → xs ≡ ys
one_list n [] [] [] h k = refl
one_list n (r ∷ rows) (x ∷ xs) (y ∷ ys) h k =
    let e = one_answer n r x y h.0 k.0 in
    let f = one_list (suc n) rows xs ys h.1 k.1 in
    rw (e, f) refl
one_list n [] (x ∷ xs) ys h k = absurd h
one_list n [] xs (y ∷ ys) h k = absurd k
one_list n (r ∷ rows) [] ys h k = absurd h
one_list n (r ∷ rows) xs [] h k = absurd k

rest_told : (h : List (List ℕ)) (r s : List (List (List ℕ))) → h ∷ r ≡ h ∷ s → r ≡ s
rest_told h r s e = cc

-- what a file asks is one list
pub one_batch : (bytes : List ℕ) (xs ys : List RowRequest) → IsBatch bytes xs → IsBatch bytes ys → xs ≡ ys
one_batch bytes xs ys h k =
    let e : h.rows ≡ k.rows = rest_told header h.rows k.rows (sym h.begins ∙ k.begins) in
    one_list 2 k.rows xs ys (subst (λ rows. AreAnswers 2 rows xs) e h.each) k.each
