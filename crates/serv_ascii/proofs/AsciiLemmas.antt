-- Each byte of a reply, of a refusal and of a line is ASCII: words are, and so are digits and the marks between them.
use Rattle.std.proofs.Common.{◌≡◌, ℕ, zero, suc, ◌+◌, ◌/◌, ◌%◌, ◌<◌, Bool, true, false, List, [], ◌∷◌, ◌++◌, Option, Some, None, ℤ, pos, negsuc, refl, subst, arith}
use Rattle.std.specs.Prelude.{map, nat_lt, slice_get, ◌==◌, if◌then◌else◌, unsigned_abs}
use Rattle.std.specs.List.{All, list_all, flat_map}
use Rattle.std.specs.Str.{IsAscii}
use Rattle.std.specs.Fmt.{digits, digits_onto, digit_glyph}
use Rattle.std.proofs.lemmas.Str.{IsAscii-append}
use Rattle.std.proofs.lemmas.Str.Ascii.{IsAscii-nil, IsAscii-cons, IsAscii-from_all, All-from_ascii}
use Rattle.std.proofs.lemmas.List.Elements.{All-weaker, All-head, All-tail}
use Rattle.std.proofs.lemmas.List.Sums.{AllPass-from_list_all, list_all-from_AllPass}
use Rattle.std.proofs.lemmas.List.Folds.{list_all-append}
use Rattle.svc_base.specs.Calendar.{IsMonth, IsReadDay, months_end}
use Rattle.svc_base.specs.Text.{two_digits, text_of_number, text_of_cents, text_of_amount, text_of_signed, text_of_month, text_of_day, IsReadMonth}
use Rattle.svc_base.proofs.ByteLemmas.{OfDigits, each_of_month, each_of_day}
use Rattle.svc_types.specs.Keys.{IsKey, is_key_byte}
use Rattle.svc_types.specs.Requests.{IsCommand}
use Rattle.svc_types.specs.Words.{text_of_type, text_of_kind, text_of_surplus, text_of_part, text_of_designation}
use Rattle.svc_types.specs.declared.account.Designation.{Designation}
use Rattle.svc_types.specs.declared.account.Designation.TheVariants as over
use Rattle.svc_types.specs.declared.terms.RemitType.{RemitType}
use Rattle.svc_types.specs.declared.terms.RemitType.TheVariants.{AA, SA, SS}
use Rattle.svc_types.specs.declared.escrow.Figures.{Figures}
use Rattle.svc_types.specs.declared.escrow.LineKind.{LineKind}
use Rattle.svc_types.specs.declared.escrow.LineKind.TheVariants.{Tax, Hazard, Flood, Other}
use Rattle.svc_types.specs.declared.escrow.SurplusPlan.{SurplusPlan}
use Rattle.svc_types.specs.declared.escrow.SurplusPlan.TheVariants as surplus
use Rattle.svc_types.specs.declared.escrow.PartPlan.{PartPlan}
use Rattle.svc_types.specs.declared.escrow.PartPlan.TheVariants as plan_part
use Rattle.svc_types.specs.declared.escrow.PlanPart.TheVariants as part
use Rattle.svc_types.specs.declared.faults.LineWhy.{LineWhy}
use Rattle.svc_types.specs.declared.faults.LineWhy.TheVariants as why
use Rattle.svc_types.specs.declared.faults.PlanFault.{PlanFault}
use Rattle.svc_types.specs.declared.faults.PlanFault.TheVariants as plan
use Rattle.svc_types.specs.declared.faults.TermFault.{TermFault}
use Rattle.svc_types.specs.declared.faults.TermFault.TheVariants as term
use Rattle.svc_types.specs.declared.replies.Extra.{Extra}
use Rattle.svc_types.specs.declared.replies.Extra.TheVariants as extra
use Rattle.svc_types.specs.declared.replies.Limit.{Limit}
use Rattle.svc_types.specs.declared.replies.Limit.TheVariants as limit
use Rattle.svc_types.specs.declared.replies.Refusal.{Refusal}
use Rattle.svc_types.specs.declared.replies.Refusal.TheVariants as refusal
use Rattle.svc_types.specs.declared.replies.Reply.{Reply}
use Rattle.svc_types.specs.declared.requests.Command.{Command}
use Rattle.svc_types.specs.declared.requests.Request.TheVariants as request
use Rattle.svc_forms.specs.declared.field.Field.{Field}
use Rattle.svc_forms.specs.declared.form.Form.{Form}
use Rattle.svc_forms.specs.declared.form.Form.TheVariants as form
use Rattle.svc_forms.specs.declared.value.Value.{Value}
use Rattle.svc_forms.specs.declared.value.Value.TheVariants as value
use Rattle.svc_forms.specs.Values.{text_of_value, IsReadValue, FitsField, AreValuesOf}
use Rattle.svc_forms.specs.Forms.{word_of, fields_of, form_of, values_of}
use Rattle.svc_forms.proofs.RequestLemmas.{command_fits}
use Rattle.serv_line.specs.Lines.{joined, line_of}
use Rattle.serv_line.specs.Refusals.{name_of_refusal, text_of_limit, text_of_term_fault, text_of_line_why, text_of_plan_fault, text_of_closed, text_of_cause, text_of_named, text_of_refusal}
use Rattle.serv_line.specs.Replies.{number_field, amount_field, signed_field, text_of_found, text_of_parts, text_of_settled, text_of_extra, text_of_reply, text_of_full}
use Rattle.serv_ascii.specs.Reach.{IsReachedDay, IsReachedMonth, IsReachedRefusal}

-- ---- a test of each byte, which words pass as they stand

abbrev pub is_ascii : ℕ → Bool
is_ascii b = nat_lt b 128

abbrev pub AreAscii : List ℕ → Type 0
AreAscii text = list_all is_ascii text ≡ true

pub from_test : (text : List ℕ) → AreAscii text → IsAscii text
from_test text h =
    IsAscii-from_all text (All-weaker (λ b. is_ascii b ≡ true) (λ b. b < 128) (λ b e. grind arith) text (AllPass-from_list_all is_ascii text h))

from_all : (text : List ℕ) → All (λ b. b < 128) text → AreAscii text
from_all text h =
    list_all-from_AllPass is_ascii text (All-weaker (λ b. b < 128) (λ b. is_ascii b ≡ true) (λ b e. grind arith) text h)

to_test : (text : List ℕ) → IsAscii text → AreAscii text
to_test text h = from_all text (All-from_ascii text h)

-- ---- numbers, amounts, months and days

either : (b : Bool) (xs ys : List ℕ) → IsAscii xs → IsAscii ys → IsAscii (if b then xs else ys)
either true xs ys p q = p
either false xs ys p q = q

glyph : (b : Bool) (d : ℕ) → d < 10 → (if b then 48 + d else 87 + d) < 128
glyph true d h = omega arith
glyph false d h = omega arith

-- each digit, however many there are
onto : (k n : ℕ) (after : List ℕ) → IsAscii after → IsAscii (digits_onto k 10 false n after)
onto zero n after h = h
onto (suc k) n after h =
    let more : IsAscii (digit_glyph false (n % 10) ∷ after) = IsAscii-cons (digit_glyph false (n % 10)) after (glyph (nat_lt (n % 10) 10) (n % 10) (omega arith)) h in
    either (n / 10 == 0) (digit_glyph false (n % 10) ∷ after) (digits_onto k 10 false (n / 10) (digit_glyph false (n % 10) ∷ after)) more (onto k (n / 10) (digit_glyph false (n % 10) ∷ after) more)

number_digits : (n : ℕ) → IsAscii (text_of_number n)
unfolding digits
number_digits n = onto 64 n [] IsAscii-nil

pair : (n : ℕ) → n < 100 → IsAscii (two_digits n)
pair n h = IsAscii-cons (48 + n / 10) ((48 + n % 10) ∷ []) (omega arith) (IsAscii-cons (48 + n % 10) [] (omega arith) IsAscii-nil)

cents_digits : (n : ℕ) → IsAscii (text_of_cents n)
unfolding text_of_cents
cents_digits n =
    IsAscii-append (text_of_number (n / 100)) (46 ∷ two_digits (n % 100)) (number_digits (n / 100))
    (IsAscii-cons 46 (two_digits (n % 100)) (omega arith) (pair (n % 100) (omega arith)))

signed_digits : (z : ℤ) → IsAscii (text_of_signed z)
unfolding text_of_signed
signed_digits (pos n) = cents_digits n
signed_digits (negsuc n) = IsAscii-cons 45 (text_of_cents (n + 1)) (omega arith) (cents_digits (n + 1))

digit : OfDigits (λ b. b < 128) 9
digit d h = omega arith

pub ascii_number : (n : ℕ) → AreAscii (text_of_number n)
ascii_number n = to_test (text_of_number n) (number_digits n)

pub ascii_amount : (z : ℤ) → AreAscii (text_of_amount z)
ascii_amount z = to_test (text_of_amount z) (cents_digits (unsigned_abs z))

pub ascii_signed : (z : ℤ) → AreAscii (text_of_signed z)
ascii_signed z = to_test (text_of_signed z) (signed_digits z)

pub ascii_before_end : (m : ℕ) → m < months_end → AreAscii (text_of_month m)
ascii_before_end m before = from_all (text_of_month m) (each_of_month (λ b. b < 128) 9 m digit (omega arith) (omega arith) (omega arith))

pub ascii_month : (m : ℕ) → IsMonth m → AreAscii (text_of_month m)
ascii_month m is = ascii_before_end m is.end

pub ascii_day : (d : ℕ) → IsReachedDay d → AreAscii (text_of_day d)
ascii_day d is =
    from_all (text_of_day d) (each_of_day (λ b. b < 128) 9 d digit (omega arith) (omega arith) (let last = is.end in omega (arith, last)))

-- ---- fields

pub ascii_number_field : (name : List ℕ) (n : ℕ) → AreAscii name → AreAscii (number_field name n)
unfolding number_field
ascii_number_field name n h = simp (list_all-append is_ascii, ascii_number, h)

pub ascii_amount_field : (name : List ℕ) (z : ℤ) → AreAscii name → AreAscii (amount_field name z)
unfolding amount_field
ascii_amount_field name z h = simp (list_all-append is_ascii, ascii_amount, h)

pub ascii_signed_field : (name : List ℕ) (z : ℤ) → AreAscii name → AreAscii (signed_field name z)
unfolding signed_field
ascii_signed_field name z h = simp (list_all-append is_ascii, ascii_signed, h)

pub ascii_join : (xs ys : List ℕ) → AreAscii xs → AreAscii ys → AreAscii (xs ++ ys)
ascii_join xs ys p q = simp (list_all-append is_ascii, p, q)

-- what is said of each thing of a list
pub ascii_each : {X : Type 0} (f : X → List ℕ) (xs : List X) → ((x : X) → AreAscii (f x)) → AreAscii (flat_map f xs)
ascii_each f [] each = refl
ascii_each f (x ∷ xs) each = simp (list_all-append is_ascii, each x, ascii_each f xs each)

pub ascii_all : {X : Type 0} (P : X → Type 0) (f : X → List ℕ) (xs : List X) → ((x : X) → P x → AreAscii (f x)) → All P xs → AreAscii (flat_map f xs)
ascii_all P f [] each all = refl
ascii_all P f (x ∷ xs) each all = simp (list_all-append is_ascii, each x (All-head P x xs all), ascii_all P f xs each (All-tail P x xs all))

-- ---- replies

pub ascii_found : (f : Figures) → AreAscii (text_of_found f)
unfolding text_of_found
ascii_found f = simp (list_all-append is_ascii, ascii_amount_field, ascii_signed_field)

pub ascii_parts : (f : Figures) → AreAscii (text_of_parts f)
unfolding text_of_parts
ascii_parts f = simp (list_all-append is_ascii, ascii_amount_field)

ascii_settled : (f : Figures) → AreAscii (text_of_settled f)
unfolding text_of_settled
ascii_settled f = simp (list_all-append is_ascii, ascii_amount_field)

ascii_extra : (e : Extra) → AreAscii (text_of_extra e)
ascii_extra extra.Plain = refl
ascii_extra (extra.Analysed f) = simp (list_all-append is_ascii, ascii_found, ascii_parts, ascii_settled)
ascii_extra (extra.Closed lines interest principal) = simp (list_all-append is_ascii, ascii_number_field, ascii_signed_field)
ascii_extra (extra.Remitted net) = simp ascii_signed_field

pub ascii_reply : (r : Reply) → AreAscii (text_of_reply r)
unfolding text_of_reply
ascii_reply r = simp (list_all-append is_ascii, ascii_number, ascii_extra)

pub ascii_full : (bytes : ℕ) → AreAscii (text_of_full bytes)
unfolding text_of_full
ascii_full bytes = simp (list_all-append is_ascii, ascii_number)

-- ---- refusals

ascii_name : (r : Refusal) → AreAscii (name_of_refusal r)
ascii_name (refusal.KeyReused n) = refl
ascii_name (refusal.Full limit) = refl
ascii_name (refusal.DayNotLater d) = refl
ascii_name refusal.LoanExists = refl
ascii_name refusal.NoSuchLoan = refl
ascii_name (refusal.BadTerms f) = refl
ascii_name (refusal.BoardedLate m) = refl
ascii_name refusal.BadAmount = refl
ascii_name (refusal.FutureDated d) = refl
ascii_name (refusal.BeforeBoarding d) = refl
ascii_name (refusal.OverPrincipal z) = refl
ascii_name (refusal.PayoffShort z) = refl
ascii_name refusal.NoSuchEntry = refl
ascii_name (refusal.AlreadyReversed n) = refl
ascii_name refusal.NotReversible = refl
ascii_name refusal.NoSuchLine = refl
ascii_name (refusal.BadLine w) = refl
ascii_name (refusal.BadPlan f) = refl
ascii_name (refusal.OverRefund z) = refl
ascii_name (refusal.OverWaiver z) = refl
ascii_name (refusal.WrongPeriod m) = refl
ascii_name (refusal.NotEnded d) = refl
ascii_name (refusal.NotClosed m) = refl
ascii_name (refusal.WrongRemit m) = refl
ascii_name (refusal.AdjustmentsFull n) = refl
ascii_name (refusal.ClosedMonth m) = refl
ascii_name refusal.NoSuchCommand = refl

ascii_limit : (l : Limit) → AreAscii (text_of_limit l)
ascii_limit limit.Commands = refl
ascii_limit limit.Loans = refl
ascii_limit limit.Entries = refl
ascii_limit limit.Lines = refl
ascii_limit limit.Months = refl
ascii_limit limit.Types = refl

ascii_term_fault : (f : TermFault) → AreAscii (text_of_term_fault f)
ascii_term_fault term.Principal = refl
ascii_term_fault term.RateRange = refl
ascii_term_fault term.FeeRange = refl
ascii_term_fault term.Payment = refl
ascii_term_fault term.Term = refl
ascii_term_fault term.FirstDue = refl
ascii_term_fault term.Grace = refl
ascii_term_fault term.Late = refl
ascii_term_fault term.Cushion = refl
ascii_term_fault term.EscrowPay = refl

ascii_line_why : (w : LineWhy) → AreAscii (text_of_line_why w)
ascii_line_why why.Amount = refl
ascii_line_why why.MonthRange = refl
ascii_line_why why.Every = refl

ascii_plan_fault : (f : PlanFault) → AreAscii (text_of_plan_fault f)
ascii_plan_fault plan.MustRefund = refl
ascii_plan_fault (plan.MustSpread part.Surplus) = refl
ascii_plan_fault (plan.MustSpread part.Short) = refl
ascii_plan_fault (plan.MustSpread part.Deficient) = refl
ascii_plan_fault (plan.TooFewMonths n) = ascii_number n
ascii_plan_fault (plan.TooManyMonths n) = ascii_number n
ascii_plan_fault (plan.NothingToPlan part.Surplus) = refl
ascii_plan_fault (plan.NothingToPlan part.Short) = refl
ascii_plan_fault (plan.NothingToPlan part.Deficient) = refl

ascii_closed : (m : Option ℕ) → IsReachedMonth m → AreAscii (text_of_closed m)
ascii_closed None is = refl
ascii_closed (Some m) is = ascii_month m is

ascii_cause : (r : Refusal) → IsReachedRefusal r → AreAscii (text_of_cause r)
ascii_cause (refusal.KeyReused n) is = ascii_number n
ascii_cause (refusal.Full limit) is = ascii_limit limit
ascii_cause (refusal.DayNotLater d) is = ascii_day d is
ascii_cause refusal.LoanExists is = refl
ascii_cause refusal.NoSuchLoan is = refl
ascii_cause (refusal.BadTerms f) is = ascii_term_fault f
ascii_cause (refusal.BoardedLate m) is = ascii_month m is
ascii_cause refusal.BadAmount is = refl
ascii_cause (refusal.FutureDated d) is = ascii_day d is
ascii_cause (refusal.BeforeBoarding d) is = ascii_day d is
ascii_cause (refusal.OverPrincipal z) is = ascii_amount z
ascii_cause (refusal.PayoffShort z) is = ascii_amount z
ascii_cause refusal.NoSuchEntry is = refl
ascii_cause (refusal.AlreadyReversed n) is = ascii_number n
ascii_cause refusal.NotReversible is = refl
ascii_cause refusal.NoSuchLine is = refl
ascii_cause (refusal.BadLine w) is = ascii_line_why w
ascii_cause (refusal.BadPlan f) is = ascii_plan_fault f
ascii_cause (refusal.OverRefund z) is = ascii_amount z
ascii_cause (refusal.OverWaiver z) is = ascii_amount z
ascii_cause (refusal.WrongPeriod m) is = ascii_month m is
ascii_cause (refusal.NotEnded d) is = ascii_day d is
ascii_cause (refusal.NotClosed m) is = ascii_closed m is
ascii_cause (refusal.WrongRemit m) is = ascii_month m is
ascii_cause (refusal.AdjustmentsFull n) is = ascii_number n
ascii_cause (refusal.ClosedMonth m) is = ascii_month m is
ascii_cause refusal.NoSuchCommand is = refl

ascii_named : (r : Refusal) → AreAscii (text_of_named r)
ascii_named r = simp (list_all-append is_ascii, ascii_number, ascii_name)

pub ascii_refusal : (r : Refusal) → IsReachedRefusal r → AreAscii (text_of_refusal r)
unfolding text_of_refusal
ascii_refusal r is = simp (list_all-append is_ascii, ascii_named r, ascii_cause r is)

-- ---- lines of commands

ascii_key_byte : (b : ℕ) → is_key_byte b ≡ true → is_ascii b ≡ true
ascii_key_byte b h = grind arith

pub ascii_key : (key : List ℕ) → IsKey key → AreAscii key
ascii_key key is =
    list_all-from_AllPass is_ascii key (All-weaker (λ b. is_key_byte b ≡ true) (λ b. is_ascii b ≡ true) ascii_key_byte key (AllPass-from_list_all is_key_byte key is.each))

pub ascii_type : (t : RemitType) → AreAscii (text_of_type t)
ascii_type AA = refl
ascii_type SA = refl
ascii_type SS = refl

pub ascii_kind : (k : LineKind) → AreAscii (text_of_kind k)
ascii_kind Tax = refl
ascii_kind Hazard = refl
ascii_kind Flood = refl
ascii_kind Other = refl

ascii_surplus : (s : SurplusPlan) → AreAscii (text_of_surplus s)
ascii_surplus surplus.Unsaid = refl
ascii_surplus surplus.Refund = refl
ascii_surplus surplus.Credit = refl
ascii_surplus surplus.Retain = refl

ascii_part : (p : PartPlan) → AreAscii (text_of_part p)
ascii_part plan_part.Unsaid = refl
ascii_part plan_part.Leave = refl
ascii_part plan_part.Within30 = refl
ascii_part (plan_part.Spread n) = ascii_number n

ascii_designation : (d : Designation) → AreAscii (text_of_designation d)
ascii_designation over.Regular = refl
ascii_designation over.Principal = refl
ascii_designation over.Escrow = refl

-- the books reach what requests may name
read_month : (m : ℕ) → IsReadMonth m → IsMonth m
read_month m is = let first = is.first in let last = is.last in record { begin = omega arith; end = omega arith }

read_day : (d : ℕ) → IsReadDay d → IsReachedDay d
read_day d is = let first = is.first in let last = is.last in record { begin = omega arith; end = omega arith }

ascii_value : (v : Value) → IsReadValue v → AreAscii (text_of_value v)
ascii_value (value.Number n) is = ascii_number n
ascii_value (value.Amount z) is = ascii_amount z
ascii_value (value.Day d) is = ascii_day d (read_day d is)
ascii_value (value.Month m) is = ascii_month m (read_month m is)
ascii_value (value.Type t) is = ascii_type t
ascii_value (value.Kind k) is = ascii_kind k
ascii_value (value.Surplus s) is = ascii_surplus s
ascii_value (value.Part p) is = ascii_part p
ascii_value (value.Designation d) is = ascii_designation d
ascii_value (value.Key key) is = ascii_key key is

ascii_form : (f : Form) → AreAscii (word_of f)
ascii_form form.Day = refl
ascii_form form.Board = refl
ascii_form form.Pay = refl
ascii_form form.Curtail = refl
ascii_form form.Payoff = refl
ascii_form form.Deposit = refl
ascii_form form.Disburse = refl
ascii_form form.Refund = refl
ascii_form form.Waive = refl
ascii_form form.Reverse = refl
ascii_form form.Line = refl
ascii_form form.Drop = refl
ascii_form form.Analyse = refl
ascii_form form.Close = refl
ascii_form form.Remit = refl
ascii_form form.Retype = refl

-- values after a word, a space before each
ascii_values : (word : List ℕ) (values : List Value) → AreAscii word → ((i : ℕ) (v : Value) → slice_get values i ≡ Some v → IsReadValue v) → AreAscii (joined (word ∷ map text_of_value values))
ascii_values word [] passes each = passes
ascii_values word (v ∷ values) passes each =
    simp (list_all-append is_ascii, passes, ascii_values (text_of_value v) values (ascii_value v (each 0 v refl)) (λ i w e. each (suc i) w e))

-- a value of a field is one that is read
read_in : (f : Option Field) (v : Value) → FitsField f (Some v) → IsReadValue v
read_in None v h = absurd h
read_in (Some f) v h = h.range

pub ascii_line : (key : List ℕ) (c : Command) → IsKey key → IsCommand c → AreAscii (line_of (request.Do key c))
unfolding line_of
ascii_line key c named fits =
    let each : AreValuesOf (fields_of (form_of c)) (values_of c) = command_fits c fits in
    let rest : AreAscii (joined (word_of (form_of c) ∷ map text_of_value (values_of c))) =
    ascii_values (word_of (form_of c)) (values_of c) (ascii_form (form_of c))
    (λ i v e. read_in (slice_get (fields_of (form_of c)) i) v (subst (λ (x : Option Value). FitsField (slice_get (fields_of (form_of c)) i) x) e (each.each i)))
    in
    simp (list_all-append is_ascii, ascii_key key named, rest)

-- ---- each as std has it

pub reply_is_ascii : (r : Reply) → IsAscii (text_of_reply r)
reply_is_ascii r = from_test (text_of_reply r) (ascii_reply r)

pub refusal_is_ascii : (r : Refusal) → IsReachedRefusal r → IsAscii (text_of_refusal r)
refusal_is_ascii r is = from_test (text_of_refusal r) (ascii_refusal r is)

pub full_is_ascii : (bytes : ℕ) → IsAscii (text_of_full bytes)
full_is_ascii bytes = from_test (text_of_full bytes) (ascii_full bytes)
