-- What a bank's list says, row by row; a list says one thing.
use Rattle.std.proofs.Common.{◌≡◌, ◌<◌, ◌+◌, ◌^◌, ℕ, zero, suc, List, [], ◌∷◌, ◌++◌, length, map, get_or, refl, sym, ap, ◌∙◌, subst, arith}
use Rattle.std.specs.Prelude.{Result, Ok, Err, IfOk, IfErr, OnOk, filter}
use Rattle.std.specs.List.{AllZip}
use Rattle.std.proofs.lemmas.List.{map-append}
use Rattle.std.proofs.lemmas.List.Elements.{filter-append}
use Rattle.svc_base.specs.Text.{text_of_number, text_of_signed}
use Rattle.svc_base.proofs.TextLemmas.{number_injective}
use Rattle.custodial_book.specs.declared.part.Account.{Account}
use Rattle.custodial_book.specs.declared.part.Account.TheVariants.{T, P}
use Rattle.serv_rows.specs.Files.{records_of, BeginsWith, IsFile}
use Rattle.serv_rows.specs.Columns.{count, column}
use Rattle.serv_rows.proofs.ColumnLemmas.{one_column}
use Rattle.bank_recon.specs.declared.item.BankItem.{BankItem}
use Rattle.bank_recon.specs.declared.line.LineKind.{LineKind}
use Rattle.bank_recon.specs.declared.line.LineKind.TheVariants.{Open, Bank}
use Rattle.bank_recon.specs.declared.line.Line.{Line}
use Rattle.bank_recon.specs.declared.fault.ReconFault.{ReconFault}
use Rattle.bank_recon.specs.declared.fault.ReconFault.TheVariants.{Bad, OutOfMemory}
use Rattle.bank_recon.specs.declared.statement.Statement.{Statement}
use Rattle.bank_recon.specs.Rows.{header, text_of_kind, text_of_account, row_of, IsLine, Fits, IsBadAt}
use Rattle.bank_recon.specs.Reading.{is_kind, items_of_kind, IsStatement, IsBadRow, headless, misfit, Reading, Lists, BadRow, IsReading, IsAnswered, IsFault}
use Rattle.bank_recon.specs.Taking.{HasLines, TakesLine}
use Rattle.bank_recon.proofs.AmountLemmas.{signed_injective}

-- ---- row by row

zip_push : (rows : List (List (List ℕ))) (lines : List Line) (row : List (List ℕ)) (line : Line) → AllZip IsLine rows lines → IsLine row line → AllZip IsLine (rows ++ row ∷ []) (lines ++ line ∷ [])
zip_push [] [] row line h is = (is, tt)
zip_push (r ∷ rows) (l ∷ lines) row line h is = (h.0, zip_push rows lines row line h.1 is)
zip_push [] (l ∷ lines) row line h is = absurd h
zip_push (r ∷ rows) [] row line h is = absurd h

kind_push : (kind : LineKind) (lines : List Line) (line : Line) → items_of_kind kind (lines ++ line ∷ []) ≡ items_of_kind kind lines ++ items_of_kind kind (line ∷ [])
kind_push kind lines line =
    ap (map (λ (l : Line). l.item)) (filter-append (λ (l : Line). is_kind kind l.kind) lines (line ∷ []))
    ∙ map-append (λ (l : Line). l.item) (filter (λ (l : Line). is_kind kind l.kind) lines) (filter (λ (l : Line). is_kind kind l.kind) (line ∷ []))

lines_more : (rows : List (List (List ℕ))) (row : List (List ℕ)) (line : Line) (old new : Statement) → IsLine row line → TakesLine line old new → HasLines rows old.carried.items old.bank.items
    → HasLines (rows ++ row ∷ []) new.carried.items new.bank.items
lines_more rows row line old new is takes h = record {
  lines = h.lines ++ line ∷ [];
  each = zip_push rows h.lines row line h.each is;
  carried_are = takes.carried ∙ ap (λ l. l ++ items_of_kind Open (line ∷ [])) h.carried_are ∙ sym (kind_push Open h.lines line);
  bank_are = takes.bank ∙ ap (λ l. l ++ items_of_kind Bank (line ∷ [])) h.bank_are ∙ sym (kind_push Bank h.lines line);
}

-- a row that has a line adds it
pub line_taken : {A E : Type 0} (r : Result A E) (number : ℕ) (row : List (List ℕ)) (line : Line) (old new : Statement) → IsLine row line → OnOk r (TakesLine line old new)
    → (before : List (List (List ℕ))) → number ≡ length before + 2 → HasLines before old.carried.items old.bank.items → OnOk r (HasLines (before ++ row ∷ []) new.carried.items new.bank.items)
line_taken (Ok a) number row line old new is takes before e h = lines_more before row line old new is takes h
line_taken (Err x) number row line old new is takes before e h = tt

-- want of memory is no fault of the list
pub memory_fault : {A : Type 0} (r : Result A ReconFault) (number : ℕ) (row : List (List ℕ)) (old : Statement) → IfErr r (λ f. f ≡ OutOfMemory)
    → IfErr r (λ f. (bytes : List ℕ) (before after : List (List (List ℕ))) → records_of bytes ≡ header ∷ (before ++ row ∷ after) → number ≡ length before + 2 → HasLines before old.carried.items old.bank.items → IsFault bytes f)
memory_fault (Ok a) number row old h = tt
memory_fault (Err f) number row old h = λ bytes before after all e lines. subst (IsFault bytes) (sym h) tt

-- a row that goes wrong is the first
pub wrong_row : (number c : ℕ) (row : List (List ℕ)) (old : Statement) → IsBadAt row c → (bytes : List ℕ) (before after : List (List (List ℕ))) → records_of bytes ≡ header ∷ (before ++ row ∷ after)
    → number ≡ length before + 2 → HasLines before old.carried.items old.bank.items → IsBadRow bytes number c
wrong_row number c row old bad bytes before after all e h =
    subst (λ i. IsBadRow bytes i c) (sym e) (misfit before after h.lines row c all h.each bad)

-- a list without the header
pub no_header : (bytes : List ℕ) → (BeginsWith header bytes → ⊥) → IsBadRow bytes 1 1
no_header bytes none = headless none

-- what a list says, of what is read of it
pub statement_told : (bytes : List ℕ) (s : Statement) → IsFile header (λ records (s : Statement). HasLines records s.carried.items s.bank.items) bytes s → IsStatement bytes s.carried.items s.bank.items
statement_told bytes s h = record {
  rows = h.rows;
  lines = h.rows_say.lines;
  begins = h.begins;
  each = h.rows_say.each;
  carried_are = h.rows_say.carried_are;
  bank_are = h.rows_say.bank_are;
}

-- ---- a row has one line

one_kind : (a b : LineKind) → text_of_kind a ≡ text_of_kind b → a ≡ b
one_kind Open Open e = refl
one_kind Open Bank e = absurd (let n : 111 ≡ 98 = ap (λ t. get_or t 0 0) e in omega arith)
one_kind Bank Open e = absurd (let n : 98 ≡ 111 = ap (λ t. get_or t 0 0) e in omega arith)
one_kind Bank Bank e = refl

one_account : (a b : Account) → text_of_account a ≡ text_of_account b → a ≡ b
one_account T T e = refl
one_account T P e = absurd (let n : 84 ≡ 80 = ap (λ t. get_or t 0 0) e in omega arith)
one_account P T e = absurd (let n : 80 ≡ 84 = ap (λ t. get_or t 0 0) e in omega arith)
one_account P P e = refl

fields_same : (a b c d e f g h : List ℕ) → a ∷ b ∷ c ∷ d ∷ [] ≡ e ∷ f ∷ g ∷ h ∷ [] → (a ≡ e) × (b ≡ f) × (c ≡ g) × (d ≡ h)
fields_same a b c d e f g h q = (cc, cc, cc, cc)

one_line : (row : List (List ℕ)) (x y : Line) → IsLine row x → IsLine row y → x ≡ y
one_line row x y h k =
    let f = fields_same (text_of_kind x.kind) (text_of_account x.item.account) (text_of_number x.item.number) (text_of_signed x.item.cents) (text_of_kind y.kind) (text_of_account y.item.account) (text_of_number y.item.number) (text_of_signed y.item.cents) (sym h.fields ∙ k.fields) in
    let a = one_kind x.kind y.kind f.0 in
    let b = one_account x.item.account y.item.account f.1 in
    let m : x.item.number < 2 ^ 64 = (let n = h.number in omega arith) in
    let o : y.item.number < 2 ^ 64 = (let n = k.number in omega arith) in
    let n = number_injective x.item.number y.item.number m o f.2 in
    let z = signed_injective x.item.cents y.item.cents h.amount k.amount f.3 in
    rw (a, b, n, z) refl

line_fits : (l : Line) (i : ℕ) (row : List (List ℕ)) → IsLine row l → Fits (row_of l) i
line_fits l zero row h = record { kind = l.kind; is = refl }
line_fits l (suc zero) row h = record { account = l.item.account; is = refl }
line_fits l (suc (suc zero)) row h = record { number = l.item.number; range = h.number; is = refl }
line_fits l (suc (suc (suc zero))) row h = record { cents = l.item.cents; range = h.amount; is = refl }
line_fits l (suc (suc (suc (suc i)))) row h = tt

not_bad : (row : List (List ℕ)) (l : Line) (c : ℕ) → IsLine row l → IsBadAt row c → ⊥
not_bad row l c h (count not) = not (ap length h.fields)
not_bad row l c h (column place n m) = m.here (subst (λ r. Fits r place) (sym h.fields) (line_fits l place row h))

-- ---- a list has one reading

one_list : (rows : List (List (List ℕ))) (xs ys : List Line) → AllZip IsLine rows xs → AllZip IsLine rows ys → xs ≡ ys
one_list [] [] [] h k = refl
one_list (r ∷ rows) (x ∷ xs) (y ∷ ys) h k =
    let e = one_line r x y h.0 k.0 in
    let f = one_list rows xs ys h.1 k.1 in
    rw (e, f) refl
one_list [] (x ∷ xs) ys h k = absurd h
one_list [] xs (y ∷ ys) h k = absurd k
one_list (r ∷ rows) [] ys h k = absurd h
one_list (r ∷ rows) xs [] h k = absurd k

rest_told : (h : List (List ℕ)) (r s : List (List (List ℕ))) → h ∷ r ≡ h ∷ s → r ≡ s
rest_told h r s e = cc

one_statement : (bytes : List ℕ) (a b c d : List BankItem) → IsStatement bytes a b → IsStatement bytes c d → (a ≡ c) × (b ≡ d)
one_statement bytes a b c d h k =
    let e : h.rows ≡ k.rows = rest_told header h.rows k.rows (sym h.begins ∙ k.begins) in
    let f : h.lines ≡ k.lines = one_list k.rows h.lines k.lines (subst (λ rows. AllZip IsLine rows h.lines) e h.each) k.each in
    (h.carried_are ∙ ap (items_of_kind Open) f ∙ sym k.carried_are, h.bank_are ∙ ap (items_of_kind Bank) f ∙ sym k.bank_are)

-- a row among rows with lines has one
row_lined : (before after : List (List (List ℕ))) (row : List (List ℕ)) (lines : List Line) → AllZip IsLine (before ++ row ∷ after) lines → (l : Line) × IsLine row l
row_lined [] after row [] h = absurd h
row_lined [] after row (l ∷ lines) h = (l, h.0)
row_lined (b ∷ before) after row [] h = absurd h
row_lined (b ∷ before) after row (l ∷ lines) h = row_lined before after row lines h.1

not_both : (bytes : List ℕ) (a b : List BankItem) (r c : ℕ) → IsStatement bytes a b → IsBadRow bytes r c → ⊥
not_both bytes a b r c h (headless none) = none (record { rows = h.rows; begins = h.begins })
not_both bytes a b r c h (misfit before after lines row col all each bad) =
    let e : h.rows ≡ before ++ row ∷ after = rest_told header h.rows (before ++ row ∷ after) (sym h.begins ∙ all) in
    let l = row_lined before after row h.lines (subst (λ rows. AllZip IsLine rows h.lines) e h.each) in
    not_bad row l.0 col l.1 bad

first_same : (b1 b2 a1 a2 : List (List (List ℕ))) (r1 r2 : List (List ℕ)) (l1 l2 : List Line) (c1 c2 : ℕ) → b1 ++ r1 ∷ a1 ≡ b2 ++ r2 ∷ a2 → AllZip IsLine b1 l1 → AllZip IsLine b2 l2 → IsBadAt r1 c1 → IsBadAt r2 c2 → (length b1 ≡ length b2) × (r1 ≡ r2)
first_same [] [] a1 a2 r1 r2 l1 l2 c1 c2 e h k p q = (refl, (let f : r1 ≡ r2 = cc in f))
first_same [] (x ∷ b2) a1 a2 r1 r2 l1 [] c1 c2 e h k p q = absurd k
first_same [] (x ∷ b2) a1 a2 r1 r2 l1 (l ∷ l2) c1 c2 e h k p q = absurd (let f : r1 ≡ x = cc in not_bad x l c1 k.0 (subst (λ r. IsBadAt r c1) f p))
first_same (x ∷ b1) [] a1 a2 r1 r2 [] l2 c1 c2 e h k p q = absurd h
first_same (x ∷ b1) [] a1 a2 r1 r2 (l ∷ l1) l2 c1 c2 e h k p q = absurd (let f : r2 ≡ x = cc in not_bad x l c2 h.0 (subst (λ r. IsBadAt r c2) f q))
first_same (x ∷ b1) (y ∷ b2) a1 a2 r1 r2 [] l2 c1 c2 e h k p q = absurd h
first_same (x ∷ b1) (y ∷ b2) a1 a2 r1 r2 (l ∷ l1) [] c1 c2 e h k p q = absurd k
first_same (x ∷ b1) (y ∷ b2) a1 a2 r1 r2 (l ∷ l1) (m ∷ l2) c1 c2 e h k p q =
    let rest : b1 ++ r1 ∷ a1 ≡ b2 ++ r2 ∷ a2 = cc in
    let s = first_same b1 b2 a1 a2 r1 r2 l1 l2 c1 c2 rest h.1 k.1 p q in
    (ap suc s.0, s.1)

one_bad : (bytes : List ℕ) (r c s d : ℕ) → IsBadRow bytes r c → IsBadRow bytes s d → (r ≡ s) × (c ≡ d)
one_bad bytes r c s d (headless none) (headless other) = (refl, refl)
one_bad bytes r c s d (headless none) (misfit before after lines row col all each bad) = absurd (none (record { rows = before ++ row ∷ after; begins = all }))
one_bad bytes r c s d (misfit before after lines row col all each bad) (headless none) = absurd (none (record { rows = before ++ row ∷ after; begins = all }))
one_bad bytes r c s d (misfit b1 a1 l1 r1 c1 all1 each1 bad1) (misfit b2 a2 l2 r2 c2 all2 each2 bad2) =
    let rest : b1 ++ r1 ∷ a1 ≡ b2 ++ r2 ∷ a2 = rest_told header (b1 ++ r1 ∷ a1) (b2 ++ r2 ∷ a2) (sym all1 ∙ all2) in
    let f = first_same b1 b2 a1 a2 r1 r2 l1 l2 c1 c2 rest each1 each2 bad1 bad2 in
    (ap (λ n. n + 2) f.0, one_column 4 Fits r2 c1 c2 (subst (λ x. IsBadAt x c1) f.1 bad1) bad2)

pub one_reading : (bytes : List ℕ) (x y : Reading) → IsReading bytes x → IsReading bytes y → x ≡ y
one_reading bytes (Lists a b) (Lists c d) h k = (let e = one_statement bytes a b c d h k in rw (e.0, e.1) refl)
one_reading bytes (Lists a b) (BadRow r c) h k = absurd (not_both bytes a b r c h k)
one_reading bytes (BadRow r c) (Lists a b) h k = absurd (not_both bytes a b r c k h)
one_reading bytes (BadRow r c) (BadRow s d) h k = (let e = one_bad bytes r c s d h k in rw (e.0, e.1) refl)

-- what is answered is the reading
pub answered : (bytes : List ℕ) (r : Result Statement ReconFault) (x : Reading) → IfOk r (λ (s : Statement). IsReading bytes (Lists s.carried.items s.bank.items)) → IfErr r (IsFault bytes) → IsReading bytes x → IsAnswered r x
answered bytes (Ok s) x ok err h = one_reading bytes x (Lists s.carried.items s.bank.items) h ok
answered bytes (Err (Bad row col)) x ok err h = one_reading bytes x (BadRow row col) h err
answered bytes (Err OutOfMemory) x ok err h = tt
