-- The path of a question is one of its route's paths.
use Rattle.std.proofs.Common.{◌≡◌, ◌≢◌, ℕ, ◌+◌, ◌/◌, ◌%◌, ◌^◌, ◌<◌, ◌≤◌, Bool, true, false, ◌||◌, eqb, List, [], ◌∷◌, ◌++◌, length, codes, refl, sym, ap, arith, append-nil, Some}
use Rattle.std.specs.Prelude.{All}
use Rattle.std.specs.List.{list_any, list_all}
use Rattle.std.proofs.lemmas.Bool.{ne_eqb, and_parts}
use Rattle.std.proofs.lemmas.List.Sums.{AllPass-from_list_all}
use Rattle.std.proofs.lemmas.Fmt.{decimal_nonempty}
use Rattle.std.proofs.lemmas.List.Elements.{All-nil, All-cons, All-append, All-head, All-tail, All-weaker}
use Rattle.svc_base.specs.Calendar.{IsReadDay}
use Rattle.svc_base.specs.Text.{two_digits, four_digits, text_of_number, text_of_day, text_of_month, IsReadMonth}
use Rattle.svc_base.proofs.ByteLemmas.{OfDigits, each_of_number, each_of_month, each_of_day}
use Rattle.svc_types.specs.Keys.{IsKey, is_key_byte}
use Rattle.svc_types.specs.Requests.{IsQuery}
use Rattle.svc_types.specs.declared.requests.Query.{Query}
use Rattle.svc_types.specs.declared.requests.Query.TheVariants.{Books, At, Payoff, Escrow, Report, Trial, Custodial, Rows, Loan, History, Quote, Arrears, Aging, Status, Command, Key}
use Rattle.serv_http.specs.Paths.{IsPart, IsPathOf}
use Rattle.serv_http.specs.Routes.{route_of, route_of_query, path_of_query}
use Rattle.serv_http.proofs.RouteLemmas.{route-paths}

-- a byte of a path that ends neither a part nor the path
record IsPlain (b : ℕ) : Type 0 where
  byte : b < 256
  one : b ≢ 47
  path : b ≢ 63

-- a text that is a part of a path
record IsOwn (text : List ℕ) : Type 0 where
  some : 0 < length text
  each : All IsPlain text

plain : (b : ℕ) → b < 256 → b ≢ 47 → b ≢ 63 → IsPlain b
plain b l m n = record { byte = l; one = m; path = n }

digits : OfDigits IsPlain 9
digits d l = plain (48 + d) (omega arith) (λ e. omega arith) (λ e. omega arith)

dash : IsPlain 45
dash = plain 45 (omega arith) (λ e. omega arith) (λ e. omega arith)

number-own : (n : ℕ) → n < 2 ^ 32 → IsOwn (text_of_number n)
number-own n l = record { some = decimal_nonempty n (omega arith); each = each_of_number IsPlain n digits (omega arith) }

month-own : (m : ℕ) → IsReadMonth m → IsOwn (text_of_month m)
unfolding text_of_month
month-own m is = record { some = omega arith; each = each_of_month IsPlain 9 m digits dash (omega arith) (let y = is.last in omega arith) }

day-own : (d : ℕ) → IsReadDay d → IsOwn (text_of_day d)
unfolding text_of_day text_of_month
day-own d is = record { some = omega arith; each = each_of_day IsPlain 9 d digits dash (omega arith) (let y = is.last in omega arith) }

key-byte : (b : ℕ) → is_key_byte b ≡ true → IsPlain b
key-byte b h = plain b (grind arith) (λ e. grind arith) (λ e. grind arith)

key-own : (key : List ℕ) → IsKey key → IsOwn key
key-own key k =
    record {
      some = (let l = k.low in omega arith);
      each = All-weaker (λ b. is_key_byte b ≡ true) IsPlain key-byte key (AllPass-from_list_all is_key_byte key k.each);
    }

part : (text : List ℕ) → IsOwn text → IsPart text
part text x = record { some = x.some; one = All-weaker IsPlain (λ b. b ≢ 47) (λ b h. h.one) text x.each }

ended : (before text : List ℕ) → before ++ text ≡ before ++ (text ++ [])
ended before text = ap (λ (t : List ℕ). before ++ t) (sym (append-nil text))

-- the path of a question is its route's
own-path : (q : Query) → IsQuery q → IsPathOf (route_of_query q) (path_of_query q)
unfolding path_of_query
own-path (Books l) h = (text_of_number l, part _ (number-own l h), refl)
own-path (At l d) h = (text_of_number l, text_of_day d, part _ (number-own l h.0), part _ (day-own d h.1), refl)
own-path (Payoff l d) h = (text_of_number l, text_of_day d, part _ (number-own l h.0), part _ (day-own d h.1), refl)
own-path (Escrow l) h = (text_of_number l, part _ (number-own l h), refl)
own-path (Report m) h = (text_of_month m, part _ (month-own m h), refl)
own-path (Trial m) h = (text_of_month m, part _ (month-own m h), refl)
own-path Custodial h = refl
own-path (Rows n) h = (text_of_number n, part _ (number-own n h), ended (codes "/v1/rows/") (text_of_number n))
own-path (Loan l) h = (text_of_number l, part _ (number-own l h), ended (codes "/v1/loans/") (text_of_number l))
own-path (History l) h = (text_of_number l, part _ (number-own l h), refl)
own-path (Quote l d) h = (text_of_number l, text_of_day d, part _ (number-own l h.0), part _ (day-own d h.1), refl)
own-path (Arrears l) h = (text_of_number l, part _ (number-own l h), refl)
own-path Aging h = refl
own-path Status h = refl
own-path (Command n) h = (text_of_number n, part _ (number-own n h), ended (codes "/v1/commands/") (text_of_number n))
own-path (Key key) h = (key, part _ (key-own key h), ended (codes "/v1/keys/") key)

-- ---- its bytes

-- the bytes of a text that stands in each path
is_kept : ℕ → Bool
is_kept b = (eqb b 47) || is_key_byte b

kept : (b : ℕ) → is_kept b ≡ true → (b < 256) × (b ≢ 63)
unfolding is_kept
kept b h = (grind arith, λ e. grind arith)

-- bytes with no '?'
abbrev IsAsked : List ℕ → Type 0
IsAsked text = All (λ b. (b < 256) × (b ≢ 63)) text

kept-bytes : (text : List ℕ) → list_all is_kept text ≡ true → IsAsked text
kept-bytes [] h = All-nil (λ b. (b < 256) × (b ≢ 63))
kept-bytes (b ∷ text) h =
    let parts = and_parts (is_kept b) (list_all is_kept text) h in
    All-cons (λ c. (c < 256) × (c ≢ 63)) b text (kept b parts.0) (kept-bytes text parts.1)

own-bytes : (text : List ℕ) → IsOwn text → IsAsked text
own-bytes text x = All-weaker IsPlain (λ b. (b < 256) × (b ≢ 63)) (λ b h. (h.byte, h.path)) text x.each

then : (a b : List ℕ) → IsAsked a → IsAsked b → IsAsked (a ++ b)
then a b x y = All-append (λ c. (c < 256) × (c ≢ 63)) a b x y

one-part : (before text after : List ℕ) → list_all is_kept before ≡ true → list_all is_kept after ≡ true → IsOwn text → IsAsked (before ++ (text ++ after))
one-part before text after b a x = then before (text ++ after) (kept-bytes before b) (then text after (own-bytes text x) (kept-bytes after a))

two-parts : (before text middle last : List ℕ) → list_all is_kept before ≡ true → list_all is_kept middle ≡ true → IsOwn text → IsOwn last
    → IsAsked (before ++ (text ++ (middle ++ last)))
two-parts before text middle last b m x y =
    then before (text ++ (middle ++ last)) (kept-bytes before b)
    (then text (middle ++ last) (own-bytes text x) (then middle last (kept-bytes middle m) (own-bytes last y)))

last-part : (before text : List ℕ) → list_all is_kept before ≡ true → IsOwn text → IsAsked (before ++ text)
last-part before text b x = then before text (kept-bytes before b) (own-bytes text x)

own-asked : (q : Query) → IsQuery q → IsAsked (path_of_query q)
unfolding path_of_query is_kept
own-asked (Books l) h = one-part (codes "/v1/loans/") (text_of_number l) (codes "/books") refl refl (number-own l h)
own-asked (At l d) h = two-parts (codes "/v1/loans/") (text_of_number l) (codes "/books/") (text_of_day d) refl refl (number-own l h.0) (day-own d h.1)
own-asked (Payoff l d) h = two-parts (codes "/v1/loans/") (text_of_number l) (codes "/payoff/") (text_of_day d) refl refl (number-own l h.0) (day-own d h.1)
own-asked (Escrow l) h = one-part (codes "/v1/loans/") (text_of_number l) (codes "/escrow") refl refl (number-own l h)
own-asked (Report m) h = one-part (codes "/v1/months/") (text_of_month m) (codes "/report") refl refl (month-own m h)
own-asked (Trial m) h = one-part (codes "/v1/months/") (text_of_month m) (codes "/trial") refl refl (month-own m h)
own-asked Custodial h = kept-bytes (codes "/v1/custodial") refl
own-asked (Rows n) h = last-part (codes "/v1/rows/") (text_of_number n) refl (number-own n h)
own-asked (Loan l) h = last-part (codes "/v1/loans/") (text_of_number l) refl (number-own l h)
own-asked (History l) h = one-part (codes "/v1/loans/") (text_of_number l) (codes "/history") refl refl (number-own l h)
own-asked (Quote l d) h = two-parts (codes "/v1/loans/") (text_of_number l) (codes "/quote/") (text_of_day d) refl refl (number-own l h.0) (day-own d h.1)
own-asked (Arrears l) h = one-part (codes "/v1/loans/") (text_of_number l) (codes "/arrears") refl refl (number-own l h)
own-asked Aging h = kept-bytes (codes "/v1/aging") refl
own-asked Status h = kept-bytes (codes "/v1/status") refl
own-asked (Command n) h = last-part (codes "/v1/commands/") (text_of_number n) refl (number-own n h)
own-asked (Key key) h = last-part (codes "/v1/keys/") key refl (key-own key h)

no-mark : (text : List ℕ) → IsAsked text → list_any (λ b. eqb b 63) text ≡ false
no-mark [] all = refl
no-mark (b ∷ text) all =
    let here : eqb b 63 ≡ false = ne_eqb b 63 (All-head (λ c. (c < 256) × (c ≢ 63)) b text all).1 in
    let rest : list_any (λ b. eqb b 63) text ≡ false = no-mark text (All-tail (λ c. (c < 256) × (c ≢ 63)) b text all) in
    rw (here, rest) refl

-- the path of a question finds its route
pub query-path : (q : Query) → IsQuery q → route_of (path_of_query q) ≡ Some (route_of_query q)
query-path q h =
    let asked = own-asked q h in
    (route-paths (route_of_query q) (path_of_query q)
    (All-weaker (λ b. (b < 256) × (b ≢ 63)) (λ b. b < 256) (λ b x. x.0) (path_of_query q) asked)).1
    (no-mark (path_of_query q) asked, own-path q h)
