-- Whether a stream ends inside a target.
use Rattle.std.proofs.Common.{◌≡◌, ℕ, ◌⊎◌, inl, inr, true, List, [], ◌∷◌, ◌++◌, length, take, refl, sym, ap, ◌∙◌, subst, arith, append_assoc, codes}
use Rattle.std.proofs.lemmas.List.{take_at}
use Rattle.std.proofs.lemmas.List.Elements.{All-nil, All-cons, All-take}
use Rattle.std.proofs.lemmas.Str.{IsUtf8-from_ascii}
use Rattle.std.proofs.lemmas.Str.Ascii.{IsAscii-cons, IsAscii-nil}
use Rattle.httparse.proofs.OpenLemmas.{letter_is_token}
use Rattle.httparse.specs.Grammar.{is_token_byte, is_uri_byte, AllPass, IsToken, LineEnd, lf, print_blank, RequestHead, ReadsRequest, NeverHasRequest, EndsInTarget}
use Rattle.httparse.proofs.GrammarLemmas.{print_request-append}

-- two ways to cut one text
pub meet : (f t s m : List ℕ) → f ++ t ≡ s ++ m
    → ((x : List ℕ) × (s ≡ f ++ x) × (t ≡ x ++ m)) ⊎ ((x : List ℕ) × (f ≡ s ++ x) × (m ≡ x ++ t))
meet [] t s m e = inl (s, refl, e)
meet (b ∷ f) t [] m e = inr (b ∷ f, refl, sym e)
meet (b ∷ f) t (c ∷ s) m e =
    let first : b ≡ c = cc in
    let rest : f ++ t ≡ s ++ m = cc in
    elim (meet f t s m rest) [
      | inl h ↦ inl (h.0, let x = h.1 in cc, h.2)
      | inr h ↦ inr (h.0, let x = h.1 in cc, h.2)
    ]

-- the shortest head with these blank lines and this method, and how it ends
abbrev shortest : List LineEnd → List ℕ → RequestHead
shortest blank method = record {
  blank = blank;
  method = method;
  target = 47 ∷ [];
  minor = 0;
  line_end = lf;
  fields = [];
  last = lf;
}

abbrev shortest_end : List ℕ
shortest_end = codes "/ HTTP/1.0" ++ (10 ∷ 10 ∷ [])

shortest-reads : (blank : List LineEnd) (method : List ℕ) → IsToken method
    → ReadsRequest ((print_blank blank ++ method ++ 32 ∷ []) ++ shortest_end) (shortest blank method) []
shortest-reads blank method token = (
  record {
    method = token;
    target = (omega arith, All-cons (λ b. is_uri_byte b ≡ true) 47 [] refl (All-nil (λ b. is_uri_byte b ≡ true)));
    target_text = IsUtf8-from_ascii (47 ∷ []) (IsAscii-cons 47 [] (omega arith) IsAscii-nil);
    minor = omega arith;
    fields = All-nil _;
  },
  append_assoc (print_blank blank ++ method) (32 ∷ []) shortest_end
      ∙ append_assoc (print_blank blank) method (32 ∷ shortest_end)
      ∙ sym (print_request-append (shortest blank method) []),
)

front-passes : (x m t : List ℕ) → t ≡ x ++ m → AllPass is_uri_byte t → AllPass is_uri_byte x
front-passes x m t e all =
    subst (λ (y : List ℕ). AllPass is_uri_byte y) (ap (λ (y : List ℕ). take (length x) y) e ∙ take_at x m (length x) refl)
    (All-take (λ b. is_uri_byte b ≡ true) (length x) t all)

-- where a target is open now, it was open before, or the bytes before could become a head
pub target-grows : (s m : List ℕ) → NeverHasRequest s → ¬ (EndsInTarget s) → ¬ (EndsInTarget (s ++ m))
target-grows s m never ended (blank, method, target, token, all, e) =
    let p : List ℕ = print_blank blank ++ method ++ 32 ∷ [] in
    let cut : p ++ target ≡ s ++ m = append_assoc (print_blank blank ++ method) (32 ∷ []) target ∙ sym e in
    elim (meet p target s m cut) [
      | inl h ↦ ended (
        blank,
        method,
        h.0,
        token,
        front-passes h.0 m target h.2 all,
        h.1 ∙ append_assoc (print_blank blank ++ method) (32 ∷ []) h.0,
      )
      | inr h ↦
          let whole : p ++ shortest_end ≡ s ++ (h.0 ++ shortest_end) =
          ap (λ (y : List ℕ). y ++ shortest_end) h.1 ∙ append_assoc s h.0 shortest_end in
          never (h.0 ++ shortest_end) (shortest blank method) []
          (subst (λ (y : List ℕ). ReadsRequest y (shortest blank method) []) whole (shortest-reads blank method token))
    ]

-- some bytes are a head
pub shortest-reads-first : (more : List ℕ) × (h : RequestHead) × ReadsRequest ([] ++ more) h []
shortest-reads-first = (
  (print_blank [] ++ (65 ∷ []) ++ 32 ∷ []) ++ shortest_end,
  shortest [] (65 ∷ []),
  shortest-reads [] (65 ∷ [])
      (omega arith, All-cons (λ b. is_token_byte b ≡ true) 65 [] letter_is_token (All-nil (λ b. is_token_byte b ≡ true))),
)
