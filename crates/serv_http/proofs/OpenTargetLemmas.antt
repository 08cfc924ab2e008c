-- What the scan for a target found, and whether the stream ends inside one.
use Rattle.std.proofs.Common.{◌≡◌, ◌≢◌, ℕ, ◌+◌, ◌<◌, ◌≤◌, ◌↔◌, inl, inr, Bool, true, false, eqb, not, ◌&&◌, List, [], ◌∷◌, ◌++◌, length, refl, sym, ap, ◌∙◌, subst, append_assoc}
use Rattle.std.specs.Prelude.{IsTrue}
use Rattle.std.specs.List.{list_all}
use Rattle.std.proofs.lemmas.Bool.{cases_Bool, both_ways, eqb-true, ltb-true, lt-ltb, and_parts, and_from}
use Rattle.std.proofs.lemmas.List.Elements.{All-nil, All-cons, All-head, All-tail, All-weaker}
use Rattle.httparse.specs.Grammar.{is_token_byte, is_token, is_uri_byte, AllPass, LineEnd, print_end, print_blank, EndsInTarget}
use Rattle.httparse.specs.Pieces.{Begins, Newline, Stops, is_newline}
use Rattle.httparse.proofs.RunLemmas.{run_unique, run_unstopped}
use Rattle.httparse.proofs.PieceLemmas.{print_end_unique, newline_not_stopped, Stops_token}
use Rattle.serv_http.specs.Words.{is_other, IsOpenTarget}

pub all-passes : (test : ℕ → Bool) (s : List ℕ) → list_all test s ≡ true → AllPass test s
all-passes test [] e = All-nil (λ b. test b ≡ true)
all-passes test (b ∷ s) e =
    let p = and_parts (test b) (list_all test s) e in
    All-cons (λ b. test b ≡ true) b s p.0 (all-passes test s p.1)

pub passes-all : (test : ℕ → Bool) (s : List ℕ) → AllPass test s → list_all test s ≡ true
passes-all test [] all = refl
passes-all test (b ∷ s) all =
    and_from (test b) (list_all test s) (All-head (λ b. test b ≡ true) b s all)
    (passes-all test s (All-tail (λ b. test b ≡ true) b s all))

space-no-token : is_token_byte 32 ≡ false
unfolding is_token_byte
space-no-token = refl

token-other : (b : ℕ) → is_token_byte b ≡ true → is_other 32 b ≡ true
token-other b token = elim (cases_Bool (eqb b 32)) [
  | inl t ↦ absurd (both_ways (is_token_byte b) (ap is_token_byte (eqb-true b 32 t) ∙ space-no-token) token)
  | inr f ↦ ap not f
]

-- blank lines that go as far as they can are those of any other cut that goes on with another byte
blank-agree : (es gs : List LineEnd) (r q : List ℕ) → ¬ (Begins Newline r) → Stops is_newline q
    → print_blank es ++ r ≡ print_blank gs ++ q → r ≡ q
blank-agree [] [] r q none stops e = e
blank-agree [] (g ∷ gs) r q none stops e =
    absurd (none (g, print_blank gs ++ q, e ∙ append_assoc (print_end g) (print_blank gs) q))
blank-agree (a ∷ es) [] r q none stops e =
    absurd (newline_not_stopped a (print_blank es ++ r) q (sym (append_assoc (print_end a) (print_blank es) r) ∙ e) stops)
blank-agree (a ∷ es) (g ∷ gs) r q none stops e =
    blank-agree es gs r q none stops
    (print_end_unique a g (print_blank es ++ r) (print_blank gs ++ q)
    (sym (append_assoc (print_end a) (print_blank es) r) ∙ e ∙ append_assoc (print_end g) (print_blank gs) q)).1

pub record IsAfterBlank (buf rest : List ℕ) : Type 0 where
  pub blank : List LineEnd
  pub cut : buf ≡ print_blank blank ++ rest
  pub ended : ¬ (Begins Newline rest)

pub open-from : {buf rest : List ℕ} → IsAfterBlank buf rest → IsOpenTarget rest → EndsInTarget buf
open-from x y = (
  x.blank,
  y.method,
  y.target,
  y.token,
  y.passes,
  x.cut ∙ ap (λ (t : List ℕ). print_blank x.blank ++ t) y.cut ∙ sym (append_assoc (print_blank x.blank) y.method (32 ∷ y.target)),
)

pub open-parts : {buf rest : List ℕ} → IsAfterBlank buf rest → EndsInTarget buf → IsOpenTarget rest
open-parts {rest} x (blank, method, target, token, passes, e) = record {
  method = method;
  target = target;
  token = token;
  passes = passes;
  cut = blank-agree x.blank blank rest (method ++ 32 ∷ target) x.ended (Stops_token method (32 ∷ target) token.0 token.1)
      (sym x.cut ∙ e ∙ append_assoc (print_blank blank) method (32 ∷ target));
}

-- a first word and what follows it
pub record IsCut (rest word more : List ℕ) : Type 0 where
  pub other : AllPass (is_other 32) word
  pub cut : rest ≡ word ++ 32 ∷ more

-- the word is the method, and what follows it the target
pub word-decides : {rest word more : List ℕ} → IsCut rest word more
    → IsTrue (is_token word && list_all is_uri_byte more) ↔ IsOpenTarget rest
word-decides {word = word} {more = more} y = (
  λ t.
      let p = and_parts (is_token word) (list_all is_uri_byte more) t in
      let q = and_parts _ (list_all is_token_byte word) p.0 in
      record {
        method = word;
        target = more;
        token = (ltb-true 0 (length word) q.0, all-passes is_token_byte word q.1);
        passes = all-passes is_uri_byte more p.1;
        cut = y.cut;
      },
  λ o.
      let spaceless = All-weaker (λ b. is_token_byte b ≡ true) (λ b. is_other 32 b ≡ true) token-other o.method o.token.1 in
      let same = run_unique (is_other 32) word o.method (32 ∷ more) (32 ∷ o.target) y.other spaceless refl refl (sym y.cut ∙ o.cut) in
      let after : more ≡ o.target = (let t = same.1 in cc) in
      and_from (is_token word) (list_all is_uri_byte more)
      (ap is_token same.0 ∙ and_from _ (list_all is_token_byte o.method) (lt-ltb 0 (length o.method) o.token.0) (passes-all is_token_byte o.method o.token.1))
      (ap (list_all is_uri_byte) after ∙ passes-all is_uri_byte o.target o.passes),
)

pub no-word : (rest : List ℕ) → AllPass (is_other 32) rest → ¬ (IsOpenTarget rest)
no-word rest all o =
    run_unstopped (is_other 32) o.method (32 ∷ o.target) (subst (λ (t : List ℕ). AllPass (is_other 32) t) o.cut all) refl

pub both-tests : {rest word more : List ℕ} {r : Bool} → IsCut rest word more → is_token word ≡ true
    → r ≡ list_all is_uri_byte more → IsTrue r ↔ IsOpenTarget rest
both-tests {rest} {word} {more} {r} x t e =
    subst (λ (b : Bool). IsTrue b ↔ IsOpenTarget rest) (ap (λ (b : Bool). b && list_all is_uri_byte more) t ∙ sym e) (word-decides x)

pub one-test : {rest word more : List ℕ} {r : Bool} → IsCut rest word more → r ≡ is_token word → r ≡ false
    → IsTrue r ↔ IsOpenTarget rest
one-test {rest} {word} {more} {r} x e f =
    subst (λ (b : Bool). IsTrue b ↔ IsOpenTarget rest)
    (ap (λ (b : Bool). b && list_all is_uri_byte more) (sym e ∙ f) ∙ sym f) (word-decides x)
