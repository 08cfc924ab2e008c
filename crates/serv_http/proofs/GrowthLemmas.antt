-- The bytes by which a head is judged, of a stream that grows.
use Rattle.std.proofs.Common.{◌≡◌, ℕ, ◌+◌, ◌-◌, ◌<◌, ◌⊎◌, inl, inr, true, List, [], ◌++◌, length, take, drop, refl, sym, ap, ◌∙◌, subst, arith, append_assoc, append-nil, length-append, Option, Some, None}
use Rattle.std.specs.Prelude.{is_some}
use Rattle.std.proofs.lemmas.Bool.{cases_lt, cases_Bool, both_ways}
use Rattle.std.proofs.lemmas.List.{take_all, take-append-le, take_at, take-append-drop}
use Rattle.std.proofs.Math.Seq.{take-append-add}
use Rattle.serv_http.specs.Heads.{head_limit, line_limit, line_after, line_too_many, before, few_lines, judged, IsClosed}
use Rattle.serv_http.proofs.LineLemmas.{line-append, line-part, line-some, line-cut}

-- the bytes before the line after n lines
abbrev upto : ℕ → List ℕ → List ℕ
upto n s = before s (line_after n s)

-- what stands before a rest
before-rest : (f r : List ℕ) → take (length (f ++ r) - length r) (f ++ r) ≡ f
before-rest f r = take_at f r (length (f ++ r) - length r) (omega (arith, length-append f r))

-- a line that has begun, with what stands before it
upto-some : (n : ℕ) (s r f : List ℕ) → line_after n s ≡ Some r → s ≡ f ++ r → upto n s ≡ f
upto-some n s r f e p = rw e (subst (λ (x : List ℕ). take (length x - length r) x ≡ f) (sym p) (before-rest f r))

few-some : (n : ℕ) (s m r : List ℕ) → line_after n s ≡ Some r
    → (upto n (s ++ m) ≡ upto n s) × (is_some (line_after n (s ++ m)) ≡ true)
few-some n s m r e =
    let p = line-part n s r e in
    let g = line-append n s m r e in
    let cut : s ++ m ≡ p.0 ++ (r ++ m) = ap (λ (x : List ℕ). x ++ m) p.1 ∙ append_assoc p.0 r m in
    (upto-some n (s ++ m) (r ++ m) p.0 g cut ∙ sym (upto-some n s r p.0 e p.1), ap is_some g)

-- before the line that is too many, the bytes stay
few-closed : (n : ℕ) (s m : List ℕ) → is_some (line_after n s) ≡ true
    → (upto n (s ++ m) ≡ upto n s) × (is_some (line_after n (s ++ m)) ≡ true)
few-closed n s m h = by (line_after n s) refl h
  where
    by : (o : Option (List ℕ)) → line_after n s ≡ o → is_some o ≡ true
        → (upto n (s ++ m) ≡ upto n s) × (is_some (line_after n (s ++ m)) ≡ true)
    by None e h = absurd (cc)
    by (Some r) e h = few-some n s m r e

few-none : (n : ℕ) (s : List ℕ) → line_after n s ≡ None → upto n s ≡ s
few-none n s e = rw e refl

-- while no line is too many, all bytes are looked at
few-open : (n : ℕ) (s m : List ℕ) → line_after n s ≡ None → (k : List ℕ) × (upto n (s ++ m) ≡ s ++ k)
few-open n s m none = by (line_after n (s ++ m)) refl
  where
    by : (o : Option (List ℕ)) → line_after n (s ++ m) ≡ o → (k : List ℕ) × (upto n (s ++ m) ≡ s ++ k)
    by None e = (m, few-none n (s ++ m) e)
    by (Some r) e =
        let p = line-part n (s ++ m) r e in
        elim (cases_lt (length m) (length r)) [
          | inl l ↦ let q = line-cut n s m r e l in absurd (let x = q.2 in cc)
          | inr l ↦
              let sizes : length s + length m ≡ length p.0 + length r =
              sym (length-append s m) ∙ ap length p.1 ∙ length-append p.0 r in
              let at : length p.0 ≡ length s + (length p.0 - length s) = omega arith in
              let front : p.0 ≡ s ++ take (length p.0 - length s) m =
              sym (take_at p.0 r (length p.0) refl)
              ∙ ap (λ (x : List ℕ). take (length p.0) x) (sym p.1)
              ∙ ap (λ (x : ℕ). take x (s ++ m)) at
              ∙ take-append-add s m (length p.0 - length s) in
              (take (length p.0 - length s) m, upto-some n (s ++ m) r p.0 e p.1 ∙ front)
        ]

-- no line of these bytes is too many
few-few : (n : ℕ) (s : List ℕ) → line_after n (upto n s) ≡ None
few-few n s = by (line_after n s) refl
  where
    by : (o : Option (List ℕ)) → line_after n s ≡ o → line_after n (upto n s) ≡ None
    by None e = ap (line_after n) (few-none n s e) ∙ e
    by (Some r) e =
        let p = line-part n s r e in
        ap (line_after n) (upto-some n s r p.0 e p.1) ∙ inner r p.0 e p.1 (line_after n p.0) refl
      where
        inner : (r f : List ℕ) → line_after n s ≡ Some r → s ≡ f ++ r → (o : Option (List ℕ)) → line_after n f ≡ o
            → line_after n f ≡ None
        inner r f e p None g = g
        inner r f e p (Some q) g =
            let whole : Some (q ++ r) ≡ Some r = sym (line-append n f r q g) ∙ ap (line_after n) (sym p) ∙ e in
            let same : q ++ r ≡ r = cc in
            absurd (omega (arith, ap length same, length-append q r, line-some n f q g))

pub few_lines-none : (s : List ℕ) → line_too_many s ≡ None → few_lines s ≡ s
few_lines-none s = few-none (line_limit + 1) s

pub judged-few : (s : List ℕ) → line_too_many (judged s) ≡ None
judged-few s = few-few (line_limit + 1) (take head_limit s)

pub judged-part : (s : List ℕ) → (x : List ℕ) × (s ≡ judged s ++ x)
judged-part s =
    let f = front (line_limit + 1) (take head_limit s) in (
      f.0 ++ drop head_limit s,
      sym (take-append-drop head_limit s) ∙ ap (λ (x : List ℕ). x ++ drop head_limit s) f.1
          ∙ append_assoc (judged s) f.0 (drop head_limit s),
    )
  where
    front : (n : ℕ) (s : List ℕ) → (x : List ℕ) × (s ≡ upto n s ++ x)
    front n s = by (line_after n s) refl
      where
        by : (o : Option (List ℕ)) → line_after n s ≡ o → (x : List ℕ) × (s ≡ upto n s ++ x)
        by None e = ([], sym (append-nil s) ∙ ap (λ (x : List ℕ). x ++ []) (sym (few-none n s e)))
        by (Some r) e =
            let p = line-part n s r e in
            (r, p.1 ∙ ap (λ (x : List ℕ). x ++ r) (sym (upto-some n s r p.0 e p.1)))

pub closed-or-not : (s : List ℕ) → IsClosed s ⊎ (¬ (IsClosed s))
closed-or-not s =
    elim (cases_lt (length s) head_limit) [
      | inr l ↦ inl (inl l)
      | inl l ↦ elim (cases_Bool (is_some (line_too_many (take head_limit s)))) [
        | inl t ↦ inl (inr t)
        | inr f ↦ inr (λ h. elim h [ inl g ↦ omega arith | inr g ↦ both_ways _ f g ])
      ]
    ]

taken : (s m : List ℕ) → length s < head_limit → take head_limit (s ++ m) ≡ s ++ take (head_limit - length s) m
taken s m l =
    ap (λ (x : ℕ). take x (s ++ m)) (let e : head_limit ≡ length s + (head_limit - length s) = omega arith in e)
    ∙ take-append-add s m (head_limit - length s)

-- what is not looked at changes nothing
pub judged-closed : (s m : List ℕ) → IsClosed s → (judged (s ++ m) ≡ judged s) × IsClosed (s ++ m)
judged-closed s m (inl l) =
    (ap few_lines (take-append-le head_limit s m l), inl (omega (arith, length-append s m)))
judged-closed s m (inr t) =
    elim (cases_lt (length s) head_limit) [
      | inr l ↦ (ap few_lines (take-append-le head_limit s m l), inl (omega (arith, length-append s m)))
      | inl l ↦
          let here = take_all head_limit s (omega arith) in
          let more = taken s m l in
          let c = few-closed (line_limit + 1) s (take (head_limit - length s) m)
          (subst (λ (x : List ℕ). is_some (line_too_many x) ≡ true) here t) in
          (ap few_lines more ∙ c.0 ∙ ap few_lines (sym here), inr (ap (λ (x : List ℕ). is_some (line_too_many x)) more ∙ c.1))
    ]

-- while bytes are looked at, more of them are
pub judged-open : (s m : List ℕ) → ¬ (IsClosed s) → (judged s ≡ s) × ((k : List ℕ) × (judged (s ++ m) ≡ s ++ k))
judged-open s m not_closed =
    let l : length s < head_limit = elim (cases_lt (length s) head_limit) [ inl l ↦ l | inr g ↦ absurd (not_closed (inl g)) ] in
    let here = take_all head_limit s (omega arith) in
    let none : line_too_many s ≡ None = by l here (line_too_many s) refl in
    let f = few-open (line_limit + 1) s (take (head_limit - length s) m) none in
    (ap few_lines here ∙ few_lines-none s none, (f.0, ap few_lines (taken s m l) ∙ f.1))
  where
    by : length s < head_limit → take head_limit s ≡ s → (o : Option (List ℕ)) → line_too_many s ≡ o → line_too_many s ≡ None
    by l here None e = e
    by l here (Some r) e =
        absurd (not_closed (inr (ap (λ (x : List ℕ). is_some (line_too_many x)) here ∙ ap is_some e)))
