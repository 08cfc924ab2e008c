-- How many lines a head of the grammar has.
use Rattle.std.proofs.Common.{◌≡◌, ℕ, suc, ◌+◌, ◌<◌, ◌≤◌, inl, inr, Bool, true, false, eqb, List, [], ◌∷◌, ◌++◌, length, take, drop, refl, sym, ap, ◌∙◌, subst, arith, append_assoc, append-nil, length-take, length-drop, flat_map, Option, Some, None}
use Rattle.std.specs.Prelude.{All, is_some}
use Rattle.std.proofs.lemmas.Bool.{cases_Bool, both_ways, false≢true, eqb-true, ne_eqb, cond-false}
use Rattle.std.proofs.lemmas.List.{take-append-drop, append_cancel_right}
use Rattle.std.proofs.lemmas.List.Elements.{All-head, All-tail, All-weaker, All-take, All-drop}
use Rattle.std.proofs.lemmas.Grind.{flat_map-append}
use Rattle.httparse.specs.Grammar.{is_token_byte, is_uri_byte, is_value_byte, AllPass, LineEnd, crlf, lf, print_end, print_blank, print_version, Field, print_field, IsField, print_section, RequestHead, IsRequestHead}
use Rattle.httparse.specs.Pieces.{Stops, is_newline}
use Rattle.httparse.specs.Spans.{RequestExceeds}
use Rattle.httparse.proofs.PieceLemmas.{print_field-append, Stops_token, token_is_no_newline}
use Rattle.httparse.proofs.GrammarLemmas.{print_request-append, cons-append}
use Rattle.serv_http.specs.Heads.{from_request_line, after_lines, begun, line_too_many, line_limit}
use Rattle.serv_http.proofs.LineLemmas.{line-append, line-from}

-- the bytes of a head before its fields, and these after them
abbrev pub with_front : RequestHead → List ℕ → List ℕ
with_front h y =
    print_blank h.blank
    ++ (h.method ++ 32 ∷ (h.target ++ 32 ∷ (print_version h.minor ++ (print_end h.line_end ++ y))))

with_front-append : (h : RequestHead) (y z : List ℕ) → with_front h y ++ z ≡ with_front h (y ++ z)
with_front-append h y z = regroup (print_blank h.blank) h.method h.target (print_version h.minor) (print_end h.line_end) y z
  where
    regroup : (a b c d e f r : List ℕ)
        → (a ++ (b ++ 32 ∷ (c ++ 32 ∷ (d ++ (e ++ f))))) ++ r ≡ a ++ (b ++ 32 ∷ (c ++ 32 ∷ (d ++ (e ++ (f ++ r)))))
    regroup a b c d e f r = simp (append_assoc, cons-append)

-- bytes that are no line feed
abbrev IsFeedless : List ℕ → Type 0
IsFeedless p = All (λ b. eqb b 10 ≡ false) p

not-feed : (test : ℕ → Bool) → test 10 ≡ false → (b : ℕ) → test b ≡ true → eqb b 10 ≡ false
not-feed test fails b passes = elim (cases_Bool (eqb b 10)) [
  | inl t ↦ absurd (both_ways (test b) (ap test (eqb-true b 10 t) ∙ fails) passes)
  | inr f ↦ f
]

feed-no-token : is_token_byte 10 ≡ false
unfolding is_token_byte
feed-no-token = refl

feedless : (test : ℕ → Bool) → test 10 ≡ false → (p : List ℕ) → AllPass test p → IsFeedless p
feedless test fails p all =
    All-weaker (λ b. test b ≡ true) (λ b. eqb b 10 ≡ false) (not-feed test fails) p all

-- bytes without a line feed stand in one line
after-same : (n : ℕ) (p y : List ℕ) → IsFeedless p → after_lines (suc n) (p ++ y) ≡ after_lines (suc n) y
unfolding after_lines
after-same n [] y all = refl
after-same n (b ∷ p) y all =
    cond-false (eqb b 10) (after_lines n (p ++ y)) (after_lines (suc n) (p ++ y)) (All-head (λ b. eqb b 10 ≡ false) b p all)
    ∙ after-same n p y (All-tail (λ b. eqb b 10 ≡ false) b p all)

after-byte : (n b : ℕ) (y : List ℕ) → eqb b 10 ≡ false → after_lines (suc n) (b ∷ y) ≡ after_lines (suc n) y
unfolding after_lines
after-byte n b y other = cond-false (eqb b 10) (after_lines n y) (after_lines (suc n) y) other

after-end : (n : ℕ) (end : LineEnd) (y : List ℕ) → after_lines (suc n) (print_end end ++ y) ≡ after_lines n y
unfolding after_lines
after-end n crlf y = refl
after-end n lf y = refl

after-field : (n : ℕ) (f : Field) (y : List ℕ) → IsField f → after_lines (suc n) (print_field f ++ y) ≡ after_lines n y
after-field n f y is =
    ap (after_lines (suc n)) (print_field-append f y)
    ∙ after-same n f.name (58 ∷ (f.raw ++ (print_end f.end ++ y))) (feedless is_token_byte feed-no-token f.name is.name.1)
    ∙ after-byte n 58 (f.raw ++ (print_end f.end ++ y)) refl
    ∙ after-same n f.raw (print_end f.end ++ y) (feedless is_value_byte refl f.raw is.raw)
    ∙ after-end n f.end y

-- each field is one line
pub after-fields : (fs : List Field) (k : ℕ) (y : List ℕ) → All IsField fs
    → after_lines (length fs + k) (flat_map print_field fs ++ y) ≡ after_lines k y
after-fields [] k y all = ap (λ (n : ℕ). after_lines n y) (let e : 0 + k ≡ k = omega arith in e)
after-fields (f ∷ fs) k y all =
    ap (λ (n : ℕ). after_lines n ((print_field f ++ flat_map print_field fs) ++ y))
    (let e : suc (length fs) + k ≡ suc (length fs + k) = omega arith in e)
    ∙ ap (after_lines (suc (length fs + k))) (append_assoc (print_field f) (flat_map print_field fs) y)
    ∙ after-field (length fs + k) f (flat_map print_field fs ++ y) (All-head IsField f fs all)
    ∙ after-fields fs k y (All-tail IsField f fs all)

after-version : (n minor : ℕ) (y : List ℕ) → after_lines (suc n) (print_version minor ++ y) ≡ after_lines (suc n) y
unfolding after_lines
after-version n minor y =
    cond-false (eqb (48 + minor) 10) (after_lines n y) (after_lines (suc n) y)
    (ne_eqb (48 + minor) 10 (λ e. omega arith))

from-blank : (blank : List LineEnd) (z : List ℕ) → Stops is_newline z → from_request_line (print_blank blank ++ z) ≡ z
unfolding from_request_line
from-blank [] [] stops = absurd stops
from-blank [] (b ∷ z) stops = cond-false (is_newline b) (from_request_line z) (b ∷ z) stops
from-blank (crlf ∷ es) z stops = from-blank es z stops
from-blank (lf ∷ es) z stops = from-blank es z stops

-- the request line is one line
pub after-front : (n : ℕ) (h : RequestHead) (y : List ℕ) → IsRequestHead h
    → after_lines (suc n) (from_request_line (with_front h y)) ≡ after_lines n y
after-front n h y is =
    let tail : List ℕ = print_version h.minor ++ (print_end h.line_end ++ y) in
    let line : List ℕ = h.method ++ 32 ∷ (h.target ++ 32 ∷ tail) in
    ap (after_lines (suc n)) (from-blank h.blank line (Stops_token h.method (32 ∷ (h.target ++ 32 ∷ tail)) is.method.0 is.method.1))
    ∙ after-same n h.method (32 ∷ (h.target ++ 32 ∷ tail)) (feedless is_token_byte feed-no-token h.method is.method.1)
    ∙ after-byte n 32 (h.target ++ 32 ∷ tail) refl
    ∙ after-same n h.target (32 ∷ tail) (feedless is_uri_byte refl h.target is.target.1)
    ∙ after-byte n 32 tail refl
    ∙ after-version n h.minor (print_end h.line_end ++ y)
    ∙ after-end n h.line_end y

after-none : (z : List ℕ) → after_lines 0 z ≡ Some z
unfolding after_lines
after-none z = refl

-- what stands after so many fields
pub after-some-fields : (n : ℕ) (fs : List Field) (y : List ℕ) → All IsField fs → n ≤ length fs
    → after_lines n (flat_map print_field fs ++ y) ≡ Some (flat_map print_field (drop n fs) ++ y)
after-some-fields n fs y all l =
    let size : length (take n fs) + 0 ≡ n = omega (arith, length-take n fs) in
    let cut : flat_map print_field fs ++ y ≡ flat_map print_field (take n fs) ++ (flat_map print_field (drop n fs) ++ y) =
    ap (λ (x : List Field). flat_map print_field x ++ y) (sym (take-append-drop n fs))
    ∙ ap (λ (x : List ℕ). x ++ y) (flat_map-append print_field (take n fs) (drop n fs))
    ∙ append_assoc (flat_map print_field (take n fs)) (flat_map print_field (drop n fs)) y in
    ap (after_lines n) cut
    ∙ ap (λ (k : ℕ). after_lines k (flat_map print_field (take n fs) ++ (flat_map print_field (drop n fs) ++ y))) (sym size)
    ∙ after-fields (take n fs) 0 (flat_map print_field (drop n fs) ++ y) (All-take IsField n fs all)
    ∙ after-none (flat_map print_field (drop n fs) ++ y)

begun-token : (name rest : List ℕ) → 0 < length name → AllPass is_token_byte name → begun (Some (name ++ rest)) ≡ Some (name ++ rest)
begun-token [] rest some all = absurd (omega arith)
begun-token (b ∷ name) rest some all =
    cond-false (is_newline b) None (Some (b ∷ (name ++ rest)))
    (token_is_no_newline b (All-head (λ v. is_token_byte v ≡ true) b name all))

begun-fields : (fs : List Field) (y : List ℕ) → 0 < length fs → All IsField fs
    → begun (Some (flat_map print_field fs ++ y)) ≡ Some (flat_map print_field fs ++ y)
begun-fields [] y some all = absurd (omega arith)
begun-fields (f ∷ fs) y some all =
    let is = All-head IsField f fs all in
    let e : (print_field f ++ flat_map print_field fs) ++ y ≡ f.name ++ 58 ∷ (f.raw ++ (print_end f.end ++ (flat_map print_field fs ++ y))) =
    append_assoc (print_field f) (flat_map print_field fs) y ∙ print_field-append f (flat_map print_field fs ++ y) in
    subst (λ (x : List ℕ). begun (Some x) ≡ Some x) (sym e) (begun-token f.name _ is.name.0 is.name.1)

-- a head of more than 64 header lines has one too many
many-of-head : (h : RequestHead) (y : List ℕ) → IsRequestHead h → line_limit < length h.fields
    → is_some (line_too_many (with_front h (flat_map print_field h.fields ++ y))) ≡ true
many-of-head h y is many =
    let lines = after-front line_limit h (flat_map print_field h.fields ++ y) is
    ∙ after-some-fields line_limit h.fields y is.fields (omega arith) in
    let first = begun-fields (drop line_limit h.fields) y (omega (arith, length-drop line_limit h.fields))
    (All-drop IsField line_limit h.fields is.fields) in
    ap is_some (line-from (line_limit + 1) (with_front h (flat_map print_field h.fields ++ y)) _ lines first)

-- the bytes before the last line feed of a head
last-feed : (fs : List Field) (last : LineEnd) → (v : List ℕ) × (print_section fs last ++ [] ≡ (flat_map print_field fs ++ v) ++ 10 ∷ [])
last-feed fs crlf = (
  13 ∷ [],
  append-nil (print_section fs crlf) ∙ sym (append_assoc (flat_map print_field fs) (13 ∷ []) (10 ∷ [])),
)
last-feed fs lf = (
  [],
  append-nil (print_section fs lf) ∙ ap (λ (x : List ℕ). x ++ 10 ∷ []) (sym (append-nil (flat_map print_field fs))),
)

-- where the parser counts too many lines, one too many has begun
pub exceeds-many : (s : List ℕ) → RequestExceeds line_limit s → is_some (line_too_many s) ≡ true
exceeds-many s (front, rest, cut, h, reads, many) =
    let v = last-feed h.fields h.last in
    let text : List ℕ = with_front h (flat_map print_field h.fields ++ v.0) in
    let whole : front ++ 10 ∷ [] ≡ text ++ 10 ∷ [] =
    reads.1 ∙ print_request-append h [] ∙ ap (with_front h) v.1
    ∙ sym (with_front-append h (flat_map print_field h.fields ++ v.0) (10 ∷ [])) in
    let same : front ≡ text = append_cancel_right front text (10 ∷ []) whole in
    let some : is_some (line_too_many front) ≡ true =
    subst (λ (x : List ℕ). is_some (line_too_many x) ≡ true) (sym same) (many-of-head h v.0 reads.0 many) in
    subst (λ (x : List ℕ). is_some (line_too_many x) ≡ true) (sym cut) (by (line_too_many front) refl some)
  where
    by : (o : Option (List ℕ)) → line_too_many front ≡ o → is_some o ≡ true → is_some (line_too_many (front ++ rest)) ≡ true
    by None e some = absurd (false≢true some)
    by (Some r) e some = ap is_some (line-append (line_limit + 1) front rest r e)
