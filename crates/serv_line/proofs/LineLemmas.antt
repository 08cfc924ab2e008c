-- The line of a request is told by the request, and tells it.
use Rattle.std.proofs.Common.{◌≡◌, ℕ, zero, suc, ◌+◌, ◌*◌, ◌/◌, ◌%◌, ◌^◌, ◌<◌, ◌≤◌, inl, inr, List, [], ◌∷◌, ◌++◌, length, Option, Some, None, Bool, true, false, refl, sym, ap, subst, ◌∙◌, arith, length-append, ℤ, pos, negsuc, ◌≤ℤ◌, ◌<ℤ◌}
use Rattle.std.specs.Prelude.{map, slice_get, codes, ◌==◌, ◌&&◌, nat_lt}
use Rattle.std.specs.List.{All, list_all}
use Rattle.std.proofs.lemmas.List.Splits.{slice_split_none, slice_split_at}
use Rattle.std.proofs.lemmas.List.Elements.{All-cons, All-nil, All-append, All-weaker}
use Rattle.std.proofs.lemmas.List.Sums.{AllPass-from_list_all}
use Rattle.std.proofs.lemmas.Option.{slice_get-map}
use Rattle.std.proofs.lemmas.Fmt.{length-decimal-le}
use Rattle.std.proofs.lemmas.Int.{ints}
use Rattle.std.specs.Fmt.{decimal}
use Rattle.svc_base.specs.Text.{two_digits, four_digits, text_of_number, text_of_cents, text_of_amount, text_of_month, text_of_day, IsReadAmount, IsReadMonth}
use Rattle.svc_base.specs.Calendar.{IsReadDay}
use Rattle.svc_base.proofs.ByteLemmas.{OfDigits, each_of_cents, each_of_day, each_of_month, each_of_number}
use Rattle.svc_types.specs.Keys.{IsKey, is_key_byte}
use Rattle.svc_types.specs.Requests.{IsRequest}
use Rattle.svc_types.specs.Words.{text_of_type, text_of_kind, text_of_surplus, text_of_part, text_of_designation, IsReadPart, IsNamed}
use Rattle.svc_types.specs.declared.account.Designation.{Designation}
use Rattle.svc_types.specs.declared.account.Designation.TheVariants as over
use Rattle.svc_types.specs.declared.terms.RemitType.{RemitType}
use Rattle.svc_types.specs.declared.terms.RemitType.TheVariants.{AA, SA, SS}
use Rattle.svc_types.specs.declared.escrow.LineKind.{LineKind}
use Rattle.svc_types.specs.declared.escrow.LineKind.TheVariants.{Tax, Hazard, Flood, Other}
use Rattle.svc_types.specs.declared.escrow.SurplusPlan.{SurplusPlan}
use Rattle.svc_types.specs.declared.escrow.SurplusPlan.TheVariants as surplus
use Rattle.svc_types.specs.declared.escrow.PartPlan.{PartPlan}
use Rattle.svc_types.specs.declared.escrow.PartPlan.TheVariants as part
use Rattle.svc_types.specs.declared.requests.Command.{Command}
use Rattle.svc_types.specs.declared.requests.Command.TheVariants as commands
use Rattle.svc_types.specs.declared.requests.Query.{Query}
use Rattle.svc_types.specs.declared.requests.Query.TheVariants as queries
use Rattle.svc_types.specs.declared.requests.Request.{Request}
use Rattle.svc_types.specs.declared.requests.Request.TheVariants as request
use Rattle.svc_forms.specs.declared.field.Field.{Field}
use Rattle.svc_forms.specs.declared.form.Form.{Form}
use Rattle.svc_forms.specs.declared.form.Form.TheVariants as form
use Rattle.svc_forms.specs.declared.form.Question.{Question}
use Rattle.svc_forms.specs.declared.form.Question.TheVariants as question
use Rattle.svc_forms.specs.declared.value.Value.{Value}
use Rattle.svc_forms.specs.declared.value.Value.TheVariants as value
use Rattle.svc_forms.specs.Fields.{kind_of_field}
use Rattle.svc_forms.specs.Values.{text_of_value, IsReadValue, FitsField, AreValuesOf}
use Rattle.svc_forms.specs.Forms.{word_of, fields_of, form_of, values_of, word_of_question, fields_of_question, question_of, values_of_query}
use Rattle.svc_forms.proofs.RequestLemmas.{command_fits, query_fits, same_command, same_query, same_form, same_question, same_value}
use Rattle.serv_line.specs.Lines.{joined, words_of, words_of_request, line_of}
use Rattle.serv_line.specs.LineFaults.{command, query, FitsWord, Fits, IsFault, too_long, misfit}
use Rattle.serv_line.proofs.FieldLemmas.{fits_text}
use Rattle.serv_line.proofs.FaultLemmas.{not_key}

-- ---- words: their bytes are greater than a space's, and they are short

abbrev AreVisible : List ℕ → Type 0
AreVisible text = All (λ b. 32 < b) text

record IsWord (word : List ℕ) : Type 0 where
  visible : AreVisible word
  short : length word ≤ 32

is_visible : ℕ → Bool
is_visible b = nat_lt 32 b

visible_bytes : (text : List ℕ) → list_all is_visible text ≡ true → AreVisible text
unfolding is_visible
visible_bytes text h = All-weaker (λ b. is_visible b ≡ true) (λ b. 32 < b) (λ b e. grind arith) text (AllPass-from_list_all is_visible text h)

key_byte : (b : ℕ) → is_key_byte b ≡ true → 32 < b
key_byte b h = grind arith

key_bytes : (text : List ℕ) → list_all is_key_byte text ≡ true → AreVisible text
key_bytes text h = All-weaker (λ b. is_key_byte b ≡ true) (λ b. 32 < b) key_byte text (AllPass-from_list_all is_key_byte text h)

key_word : (key : List ℕ) → IsKey key → IsWord key
key_word key k = record { visible = key_bytes key k.each; short = k.high }

plain : (word : List ℕ) → list_all is_visible word ≡ true → length word ≤ 32 → IsWord word
plain word h short = record { visible = visible_bytes word h; short = short }

-- ---- numbers, amounts, months and days

digits : OfDigits (λ b. 32 < b) 9
digits d h = omega arith

visible_number : (n : ℕ) → n < 2 ^ 64 → AreVisible (text_of_number n)
visible_number n h = each_of_number (λ b. 32 < b) n digits h

visible_amount : (z : ℤ) → IsReadAmount z → AreVisible (text_of_amount z)
visible_amount (pos n) read =
    let small : n < 10 ^ 13 = (let h : pos n <ℤ pos (10 ^ 13) = read.high in grind (arith, ints)) in
    each_of_cents (λ b. 32 < b) n digits (omega arith) (omega arith)
visible_amount (negsuc n) read = absurd (let h : pos 0 ≤ℤ negsuc n = read.low in grind (arith, ints))

visible_month : (m : ℕ) → IsReadMonth m → AreVisible (text_of_month m)
visible_month m is = each_of_month (λ b. 32 < b) 9 m digits (omega arith) (omega arith) (let y = is.last in omega arith)

visible_day : (d : ℕ) → IsReadDay d → AreVisible (text_of_day d)
visible_day d is = each_of_day (λ b. 32 < b) 9 d digits (omega arith) (omega arith) (let y = is.last in omega arith)

-- ---- the other values

type_word : (t : RemitType) → IsWord (text_of_type t)
unfolding is_visible
type_word AA = plain (text_of_type AA) refl (omega arith)
type_word SA = plain (text_of_type SA) refl (omega arith)
type_word SS = plain (text_of_type SS) refl (omega arith)

kind_word : (k : LineKind) → IsWord (text_of_kind k)
unfolding is_visible
kind_word Tax = plain (text_of_kind Tax) refl (omega arith)
kind_word Hazard = plain (text_of_kind Hazard) refl (omega arith)
kind_word Flood = plain (text_of_kind Flood) refl (omega arith)
kind_word Other = plain (text_of_kind Other) refl (omega arith)

surplus_word : (s : SurplusPlan) → IsWord (text_of_surplus s)
unfolding is_visible
surplus_word surplus.Unsaid = plain (text_of_surplus surplus.Unsaid) refl (omega arith)
surplus_word surplus.Refund = plain (text_of_surplus surplus.Refund) refl (omega arith)
surplus_word surplus.Credit = plain (text_of_surplus surplus.Credit) refl (omega arith)
surplus_word surplus.Retain = plain (text_of_surplus surplus.Retain) refl (omega arith)

number_word : (n : ℕ) → n < 2 ^ 32 → AreVisible (text_of_number n) × (length (text_of_number n) ≤ 10)
number_word n h = (visible_number n (omega arith), length-decimal-le 10 n (omega arith) (omega arith) (omega arith))

spread_bytes : (text : List ℕ) → AreVisible text → AreVisible (codes "spread:" ++ text)
unfolding is_visible
spread_bytes text h = All-append (λ b. 32 < b) (codes "spread:") text (visible_bytes (codes "spread:") refl) h

part_word : (p : PartPlan) → IsReadPart p → IsWord (text_of_part p)
unfolding is_visible
part_word part.Unsaid h = plain (text_of_part part.Unsaid) refl (omega arith)
part_word part.Leave h = plain (text_of_part part.Leave) refl (omega arith)
part_word part.Within30 h = plain (text_of_part part.Within30) refl (omega arith)
part_word (part.Spread n) h =
    let w = number_word n h in
    record { visible = spread_bytes (text_of_number n) w.0; short = (let s = w.1 in omega (arith, length-append (codes "spread:") (text_of_number n))) }

over_word : (d : Designation) → IsNamed d → IsWord (text_of_designation d)
unfolding is_visible
over_word over.Regular h = absurd h
over_word over.Principal h = plain (text_of_designation over.Principal) refl (omega arith)
over_word over.Escrow h = plain (text_of_designation over.Escrow) refl (omega arith)

amount_short : (z : ℤ) → IsReadAmount z → length (text_of_amount z) ≤ 32
unfolding text_of_cents
amount_short (pos n) r =
    let small : n < 10 ^ 13 = (let h : pos n <ℤ pos (10 ^ 13) = r.high in grind (arith, ints)) in
    let units : length (decimal (n / 100)) ≤ 11 = length-decimal-le 11 (n / 100) (omega arith) (omega arith) (omega arith) in
    omega (arith, length-append (decimal (n / 100)) (46 ∷ (48 + n % 100 / 10) ∷ (48 + n % 100 % 10) ∷ []))
amount_short (negsuc n) r = absurd (let h : pos 0 ≤ℤ negsuc n = r.low in grind (arith, ints))

month_length_is : (m : ℕ) → length (text_of_month m) ≡ 7
unfolding text_of_month
month_length_is m = refl

day_length_is : (d : ℕ) → length (text_of_day d) ≡ 10
unfolding text_of_day text_of_month
day_length_is d = refl

value_word : (v : Value) → IsReadValue v → IsWord (text_of_value v)
value_word (value.Number n) h = let w = number_word n h in record { visible = w.0; short = (let s = w.1 in omega arith) }
value_word (value.Amount z) h = record { visible = visible_amount z h; short = amount_short z h }
value_word (value.Day d) h = record { visible = visible_day d h; short = omega (arith, day_length_is d) }
value_word (value.Month m) h = record { visible = visible_month m h; short = omega (arith, month_length_is m) }
value_word (value.Type t) h = type_word t
value_word (value.Kind k) h = kind_word k
value_word (value.Surplus s) h = surplus_word s
value_word (value.Part p) h = part_word p h
value_word (value.Designation d) h = over_word d h
value_word (value.Key key) h = key_word key h

form_word : (f : Form) → IsWord (word_of f)
unfolding is_visible
form_word form.Day = plain (word_of form.Day) refl (omega arith)
form_word form.Board = plain (word_of form.Board) refl (omega arith)
form_word form.Pay = plain (word_of form.Pay) refl (omega arith)
form_word form.Curtail = plain (word_of form.Curtail) refl (omega arith)
form_word form.Payoff = plain (word_of form.Payoff) refl (omega arith)
form_word form.Deposit = plain (word_of form.Deposit) refl (omega arith)
form_word form.Disburse = plain (word_of form.Disburse) refl (omega arith)
form_word form.Refund = plain (word_of form.Refund) refl (omega arith)
form_word form.Waive = plain (word_of form.Waive) refl (omega arith)
form_word form.Reverse = plain (word_of form.Reverse) refl (omega arith)
form_word form.Line = plain (word_of form.Line) refl (omega arith)
form_word form.Drop = plain (word_of form.Drop) refl (omega arith)
form_word form.Analyse = plain (word_of form.Analyse) refl (omega arith)
form_word form.Close = plain (word_of form.Close) refl (omega arith)
form_word form.Remit = plain (word_of form.Remit) refl (omega arith)
form_word form.Retype = plain (word_of form.Retype) refl (omega arith)

question_word : (q : Question) → IsWord (word_of_question q)
unfolding is_visible
question_word question.Books = plain (word_of_question question.Books) refl (omega arith)
question_word question.At = plain (word_of_question question.At) refl (omega arith)
question_word question.Payoff = plain (word_of_question question.Payoff) refl (omega arith)
question_word question.Escrow = plain (word_of_question question.Escrow) refl (omega arith)
question_word question.Report = plain (word_of_question question.Report) refl (omega arith)
question_word question.Trial = plain (word_of_question question.Trial) refl (omega arith)
question_word question.Custodial = plain (word_of_question question.Custodial) refl (omega arith)
question_word question.Rows = plain (word_of_question question.Rows) refl (omega arith)
question_word question.Loan = plain (word_of_question question.Loan) refl (omega arith)
question_word question.History = plain (word_of_question question.History) refl (omega arith)
question_word question.Quote = plain (word_of_question question.Quote) refl (omega arith)
question_word question.Arrears = plain (word_of_question question.Arrears) refl (omega arith)
question_word question.Aging = plain (word_of_question question.Aging) refl (omega arith)
question_word question.Status = plain (word_of_question question.Status) refl (omega arith)
question_word question.Command = plain (word_of_question question.Command) refl (omega arith)
question_word question.Key = plain (word_of_question question.Key) refl (omega arith)

-- ---- words joined are split again, and are not long

no_space : (word : List ℕ) → AreVisible word → All (λ b. (b == 32) ≡ false) word
no_space word all = All-weaker (λ b. 32 < b) (λ b. (b == 32) ≡ false) (λ b h. grind arith) word all

are_words : List (List ℕ) → Type 0
are_words [] = Unit {0}
are_words (w ∷ ws) = IsWord w × are_words ws

split_again : (w : List ℕ) (ws : List (List ℕ)) → are_words (w ∷ ws) → words_of (joined (w ∷ ws)) ≡ w ∷ ws
unfolding are_words
split_again w [] h = slice_split_none (λ b. b == 32) w (no_space w h.0.visible)
split_again w (x ∷ xs) h =
    slice_split_at (λ b. b == 32) w 32 (joined (x ∷ xs)) (no_space w h.0.visible) refl ∙ ap (λ (ws : List (List ℕ)). w ∷ ws) (split_again x xs h.1)

joined_short : (ws : List (List ℕ)) → are_words ws → length (joined ws) ≤ 33 * length ws
unfolding are_words
joined_short [] h = omega arith
joined_short (w ∷ []) h = let s = h.0.short in omega arith
joined_short (w ∷ x ∷ xs) h =
    let s = h.0.short in
    let rest : length (joined (x ∷ xs)) ≤ 33 * length (x ∷ xs) = joined_short (x ∷ xs) h.1 in
    omega (arith, length-append w (32 ∷ joined (x ∷ xs)))

read_in : (f : Option Field) (v : Value) → FitsField f (Some v) → IsReadValue v
read_in None v h = absurd h
read_in (Some f) v h = h.range

values_words : (values : List Value) → ((i : ℕ) (v : Value) → slice_get values i ≡ Some v → IsReadValue v) → are_words (map text_of_value values)
unfolding are_words
values_words [] h = tt
values_words (v ∷ values) h = (value_word v (h 0 v refl), values_words values (λ i w e. h (suc i) w e))

fields_words : (fields : List Field) (values : List Value) → AreValuesOf fields values → are_words (map text_of_value values)
fields_words fields values h =
    values_words values (λ i v e. read_in (slice_get fields i) v (subst (λ (x : Option Value). FitsField (slice_get fields i) x) e (h.each i)))

question_mark : list_all is_visible (codes "?") ≡ true
unfolding is_visible
question_mark = refl

request_words : (r : Request) → IsRequest r → are_words (words_of_request r)
unfolding are_words
request_words (request.Do key c) h =
    (key_word key h.0, (form_word (form_of c), fields_words (fields_of (form_of c)) (values_of c) (command_fits c h.1)))
request_words (request.Ask q) h =
    (plain (codes "?") question_mark (omega arith), (question_word (question_of q), fields_words (fields_of_question (question_of q)) (values_of_query q) (query_fits q h)))

-- the words of a request's line
pub line_words : (r : Request) → IsRequest r → words_of (line_of r) ≡ words_of_request r
unfolding line_of
line_words (request.Do key c) h = split_again key (word_of (form_of c) ∷ map text_of_value (values_of c)) (request_words (request.Do key c) h)
line_words (request.Ask q) h = split_again (codes "?") (word_of_question (question_of q) ∷ map text_of_value (values_of_query q)) (request_words (request.Ask q) h)

few_values : (c : Command) → length (map text_of_value (values_of c)) ≤ 13
few_values (commands.Day d) = omega arith
few_values (commands.Board l t) = omega arith
few_values (commands.Pay l d c over.Regular) = omega arith
few_values (commands.Pay l d c over.Principal) = omega arith
few_values (commands.Pay l d c over.Escrow) = omega arith
few_values (commands.Curtail l d c) = omega arith
few_values (commands.Payoff l d c) = omega arith
few_values (commands.Deposit l d c) = omega arith
few_values (commands.Disburse l d c n) = omega arith
few_values (commands.Refund l c) = omega arith
few_values (commands.Waive l c) = omega arith
few_values (commands.Reverse l n) = omega arith
few_values (commands.Line l n k m e c) = omega arith
few_values (commands.Drop l n) = omega arith
few_values (commands.Analyse l p) = omega arith
few_values (commands.Close m) = omega arith
few_values (commands.Remit m) = omega arith
few_values (commands.Retype l m k) = omega arith

few_query_values : (q : Query) → length (map text_of_value (values_of_query q)) ≤ 13
few_query_values (queries.Books l) = omega arith
few_query_values (queries.At l d) = omega arith
few_query_values (queries.Payoff l d) = omega arith
few_query_values (queries.Escrow l) = omega arith
few_query_values (queries.Report m) = omega arith
few_query_values (queries.Trial m) = omega arith
few_query_values queries.Custodial = omega arith
few_query_values (queries.Rows n) = omega arith
few_query_values (queries.Loan l) = omega arith
few_query_values (queries.History l) = omega arith
few_query_values (queries.Quote l d) = omega arith
few_query_values (queries.Arrears l) = omega arith
few_query_values queries.Aging = omega arith
few_query_values queries.Status = omega arith
few_query_values (queries.Command n) = omega arith
few_query_values (queries.Key key) = omega arith

-- it is short
pub line_short : (r : Request) → IsRequest r → length (line_of r) ≤ 512
unfolding line_of
line_short (request.Do key c) h =
    omega (arith, few_values c, joined_short (words_of_request (request.Do key c)) (request_words (request.Do key c) h))
line_short (request.Ask q) h =
    omega (arith, few_query_values q, joined_short (words_of_request (request.Ask q)) (request_words (request.Ask q) h))

-- ---- no line feed stands in it: each byte is a space or a greater one

printed : (word : List ℕ) → AreVisible word → All (λ b. 32 ≤ b) word
printed word all = All-weaker (λ b. 32 < b) (λ b. 32 ≤ b) (λ b h. omega arith) word all

joined_printed : (ws : List (List ℕ)) → are_words ws → All (λ b. 32 ≤ b) (joined ws)
unfolding are_words
joined_printed [] h = All-nil (λ b. 32 ≤ b)
joined_printed (w ∷ []) h = printed w h.0.visible
joined_printed (w ∷ x ∷ xs) h =
    All-append (λ b. 32 ≤ b) w (32 ∷ joined (x ∷ xs)) (printed w h.0.visible)
    (All-cons (λ b. 32 ≤ b) 32 (joined (x ∷ xs)) (omega arith) (joined_printed (x ∷ xs) h.1))

pub line_printed : (r : Request) → IsRequest r → All (λ b. 32 ≤ b) (line_of r)
unfolding line_of
line_printed (request.Do key c) h = joined_printed (words_of_request (request.Do key c)) (request_words (request.Do key c) h)
line_printed (request.Ask q) h = joined_printed (words_of_request (request.Ask q)) (request_words (request.Ask q) h)

-- ---- no word of it is a misfit

values_fit : (fields : List Field) (values : List Value) → AreValuesOf fields values → (i : ℕ) → FitsWord (slice_get fields i) (slice_get (map text_of_value values) i)
values_fit fields values h i =
    subst (λ (w : Option (List ℕ)). FitsWord (slice_get fields i) w) (sym (slice_get-map text_of_value values i)) (fits_text (slice_get fields i) (slice_get values i) (h.each i))

all_fit : (r : Request) → IsRequest r → (i : ℕ) → Fits (words_of_request r) i
all_fit (request.Do key c) h zero = inr h.0
all_fit (request.Do key c) h (suc zero) = record { fields = fields_of (form_of c); named = command (form_of c) h.0 refl }
all_fit (request.Do key c) h (suc (suc i)) =
    record { fields = fields_of (form_of c); named = command (form_of c) h.0 refl; fits = values_fit (fields_of (form_of c)) (values_of c) (command_fits c h.1) i }
all_fit (request.Ask q) h zero = inl refl
all_fit (request.Ask q) h (suc zero) = record { fields = fields_of_question (question_of q); named = query (question_of q) refl refl }
all_fit (request.Ask q) h (suc (suc i)) =
    record { fields = fields_of_question (question_of q); named = query (question_of q) refl refl; fits = values_fit (fields_of_question (question_of q)) (values_of_query q) (query_fits q h) i }

pub no_fault : (r : Request) (line : List ℕ) (place : ℕ) → IsRequest r → line ≡ line_of r → IsFault line place → ⊥
no_fault r line place h e (too_long long) = let short = line_short r h in let n : length line ≡ length (line_of r) = ap length e in omega arith
no_fault r line place h e (misfit i short first) =
    let words : words_of_request r ≡ words_of line = sym (line_words r h) ∙ ap words_of (sym e) in
    first.here (subst (λ (ws : List (List ℕ)). Fits ws i) words (all_fit r h i))

-- ---- no two requests share a line

same_values : (fields : List Field) (vs ws : List Value) → AreValuesOf fields vs → AreValuesOf fields ws → map text_of_value vs ≡ map text_of_value ws → vs ≡ ws
same_values fields [] [] p q e = refl
same_values fields [] (w ∷ ws) p q e = absurd cc
same_values fields (v ∷ vs) [] p q e = absurd cc
same_values [] (v ∷ vs) (w ∷ ws) p q e = absurd (p.each 0)
same_values (f ∷ fields) (v ∷ vs) (w ∷ ws) p q e =
    let text : text_of_value v ≡ text_of_value w = cc in
    let texts : map text_of_value vs ≡ map text_of_value ws = cc in
    let first : v ≡ w = same_value (kind_of_field f) v w (p.each 0) (q.each 0) text in
    let rest : vs ≡ ws = same_values fields vs ws (record { each = λ i. p.each (suc i) }) (record { each = λ i. q.each (suc i) }) texts in
    cc

same_words : (r s : Request) → IsRequest r → IsRequest s → words_of_request r ≡ words_of_request s → r ≡ s
same_words (request.Do key c) (request.Do key' d) p q e =
    let keys : key ≡ key' = cc in
    let names : word_of (form_of c) ≡ word_of (form_of d) = cc in
    let texts : map text_of_value (values_of c) ≡ map text_of_value (values_of d) = cc in
    let forms : form_of c ≡ form_of d = same_form (form_of c) (form_of d) names in
    let fits : AreValuesOf (fields_of (form_of c)) (values_of d) = subst (λ (f : Form). AreValuesOf (fields_of f) (values_of d)) (sym forms) (command_fits d q.1) in
    let values : values_of c ≡ values_of d = same_values (fields_of (form_of c)) (values_of c) (values_of d) (command_fits c p.1) fits texts in
    let commands : c ≡ d = same_command c d forms values in
    cc
same_words (request.Do key c) (request.Ask q') p q e = let first : key ≡ codes "?" = cc in absurd (not_key key first p.0)
same_words (request.Ask q') (request.Do key c) p q e = let first : key ≡ codes "?" = cc in absurd (not_key key first q.0)
same_words (request.Ask a) (request.Ask b) p q e =
    let names : word_of_question (question_of a) ≡ word_of_question (question_of b) = cc in
    let texts : map text_of_value (values_of_query a) ≡ map text_of_value (values_of_query b) = cc in
    let forms : question_of a ≡ question_of b = same_question (question_of a) (question_of b) names in
    let fits : AreValuesOf (fields_of_question (question_of a)) (values_of_query b) = subst (λ (f : Question). AreValuesOf (fields_of_question f) (values_of_query b)) (sym forms) (query_fits b q) in
    let values : values_of_query a ≡ values_of_query b = same_values (fields_of_question (question_of a)) (values_of_query a) (values_of_query b) (query_fits a p) fits texts in
    let queries : a ≡ b = same_query a b forms values in
    cc

pub same_line : (r s : Request) → IsRequest r → IsRequest s → line_of r ≡ line_of s → r ≡ s
same_line r s p q e = same_words r s p q (sym (line_words r p) ∙ ap words_of e ∙ line_words s q)

-- a line whose words are a request's is its line
pub line_is : (line : List ℕ) (r : Request) → joined (words_of line) ≡ line → words_of line ≡ words_of_request r → line ≡ line_of r
unfolding line_of
line_is line r back e = sym back ∙ ap joined e
