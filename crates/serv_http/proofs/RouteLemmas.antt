-- A path matches a route exactly where it is one of its paths.
use Rattle.std.proofs.Common.{◌≡◌, ◌≢◌, ℕ, ◌<◌, ◌↔◌, Bool, true, false, not, ◌&&◌, cond, eqb, ltb, List, [], ◌∷◌, ◌++◌, length, codes, refl, sym, ap, ◌∙◌, arith, append-nil, Some, None}
use Rattle.std.specs.Prelude.{All}
use Rattle.std.specs.List.{list_any}
use Rattle.std.proofs.lemmas.Bool.{both_ways, false≢true, and_parts, and_from, eqb-true, eq-eqb, ne_eqb, ltb-true}
use Rattle.std.proofs.lemmas.List.Elements.{All-nil, All-cons, All-head, All-tail}
use Rattle.matchit.specs.Level.{IsText}
use Rattle.serv_http.specs.declared.route.Route.{Route}
use Rattle.serv_http.specs.declared.route.Route.TheVariants as route
use Rattle.serv_http.specs.Paths.{IsPart, HasPart, HasParts, IsPathOf}
use Rattle.serv_http.specs.Routes.{route_of, route_of_path}
use Rattle.serv_http.proofs.MatchLemmas.{part_of, rest_of, fits, at_end, part-same}
use Rattle.serv_http.proofs.TableLemmas.{form_of, matched-form, form-matched}

-- tokens that are all bytes
abbrev is_literal : List ℕ → Bool
is_literal [] = true
is_literal (x ∷ w) = ltb x 256 && is_literal w

no-part : (x : ℕ) → ltb x 256 ≡ true → eqb x 256 ≡ false
no-part x l = ne_eqb x 256 (λ e. let m = ltb-true x 256 l in omega arith)

-- a path that has literal bytes first begins with them
literal-read : (w t p : List ℕ) → is_literal w ≡ true → fits (w ++ t) p ≡ true → (q : List ℕ) × (p ≡ w ++ q) × (fits t q ≡ true)
literal-read [] t p l f = (p, refl, f)
literal-read (x ∷ w) t [] l f = absurd (false≢true f)
literal-read (x ∷ w) t (b ∷ p) l f =
    let parts = and_parts (ltb x 256) (is_literal w) l in
    let g : (eqb x b && fits (w ++ t) p) ≡ true =
    ap (λ (v : Bool). cond v (not (eqb b 47) && fits (w ++ t) (rest_of (b ∷ p))) (eqb x b && fits (w ++ t) p)) (sym (no-part x parts.0)) ∙ f in
    let both = and_parts (eqb x b) (fits (w ++ t) p) g in
    let r = literal-read w t p parts.1 both.1 in
    let same : x ≡ b = eqb-true x b both.0 in
    (r.0, ap (λ (z : ℕ). z ∷ p) (sym same) ∙ ap (λ (z : List ℕ). x ∷ z) r.1, r.2)

literal-made : (w t q : List ℕ) → is_literal w ≡ true → fits t q ≡ true → fits (w ++ t) (w ++ q) ≡ true
literal-made [] t q l f = f
literal-made (x ∷ w) t q l f =
    let parts = and_parts (ltb x 256) (is_literal w) l in
    ap (λ (v : Bool). cond v (not (eqb x 47) && fits (w ++ t) (rest_of (x ∷ (w ++ q)))) (eqb x x && fits (w ++ t) (w ++ q))) (no-part x parts.0)
    ∙ and_from (eqb x x) (fits (w ++ t) (w ++ q)) (eq-eqb x x refl) (literal-made w t q parts.1 f)

-- a path is its first part and the rest
cut : (p : List ℕ) → p ≡ part_of p ++ rest_of p
cut [] = refl
cut (b ∷ p) = elim (eqb b 47) as (λ v. b ∷ p ≡ cond v [] (b ∷ part_of p) ++ cond v (b ∷ p) (rest_of p)) [
  | true ↦ refl
  | false ↦ ap (λ (t : List ℕ). b ∷ t) (cut p)
]

slashless : (p : List ℕ) → All (λ b. b ≢ 47) (part_of p)
slashless [] = All-nil (λ b. b ≢ 47)
slashless (b ∷ p) = by (eqb b 47) refl (slashless p)
  where
    by : (v : Bool) → eqb b 47 ≡ v → All (λ c. c ≢ 47) (part_of p) → All (λ c. c ≢ 47) (cond v [] (b ∷ part_of p))
    by true e x = All-nil (λ c. c ≢ 47)
    by false e x = All-cons (λ c. c ≢ 47) b (part_of p) (λ f. both_ways (eqb b 47) e (eq-eqb b 47 f)) x

part-read : (t p : List ℕ) → fits (256 ∷ t) p ≡ true → IsPart (part_of p) × (p ≡ part_of p ++ rest_of p) × (fits t (rest_of p) ≡ true)
part-read t [] f = absurd (false≢true f)
part-read t (b ∷ p) f =
    let both = and_parts (not (eqb b 47)) (fits t (rest_of (b ∷ p))) f in
    (record { some = by (eqb b 47) both.0; one = slashless (b ∷ p) }, cut (b ∷ p), both.1)
  where
    by : (v : Bool) → not v ≡ true → 0 < length (cond v [] (b ∷ part_of p))
    by true e = absurd (false≢true e)
    by false e = omega arith

rest-made : (part t : List ℕ) → All (λ b. b ≢ 47) part → at_end t ≡ true → rest_of (part ++ t) ≡ t
rest-made [] [] all end = refl
rest-made [] (y ∷ t) all end = ap (λ (v : Bool). cond v (y ∷ t) (rest_of t)) end
rest-made (b ∷ part) t all end =
    ap (λ (v : Bool). cond v (b ∷ (part ++ t)) (rest_of (part ++ t))) (ne_eqb b 47 (All-head (λ c. c ≢ 47) b part all))
    ∙ rest-made part t (All-tail (λ c. c ≢ 47) b part all) end

part-made : (t part q : List ℕ) → IsPart part → at_end q ≡ true → fits t q ≡ true → fits (256 ∷ t) (part ++ q) ≡ true
part-made t [] q x end f = absurd (let l = x.some in omega arith)
part-made t (b ∷ part) q x end f =
    part-same b (part ++ q) t (ne_eqb b 47 (All-head (λ c. c ≢ 47) b part x.one))
    ∙ ap (fits t) (rest-made (b ∷ part) q x.one end) ∙ f

literal-only : (w p : List ℕ) → is_literal w ≡ true → fits w p ≡ true → p ≡ w
literal-only w p l f =
    let r = literal-read w [] p l (ap (λ (t : List ℕ). fits t p) (append-nil w) ∙ f) in
    r.1 ∙ ap (λ (t : List ℕ). w ++ t) (nothing r.0 r.2) ∙ append-nil w
  where
    nothing : (q : List ℕ) → fits [] q ≡ true → q ≡ []
    nothing [] e = refl
    nothing (b ∷ q) e = absurd (false≢true e)

literal-same : (w p : List ℕ) → is_literal w ≡ true → p ≡ w → fits w p ≡ true
literal-same w p l e =
    ap (fits w) (e ∙ sym (append-nil w)) ∙ ap (λ (t : List ℕ). fits t (w ++ [])) (sym (append-nil w))
    ∙ literal-made w [] [] l refl

one-read : (w v p : List ℕ) → is_literal w ≡ true → is_literal v ≡ true → fits (w ++ 256 ∷ v) p ≡ true → HasPart w v p
one-read w v p lw lv f =
    let r = literal-read w (256 ∷ v) p lw f in
    let x = part-read v r.0 r.2 in
    (part_of r.0, x.0, r.1 ∙ ap (λ (t : List ℕ). w ++ t) (x.1 ∙ ap (λ (t : List ℕ). part_of r.0 ++ t) (literal-only v (rest_of r.0) lv x.2)))

one-made : (w v p : List ℕ) → is_literal w ≡ true → is_literal v ≡ true → at_end v ≡ true → HasPart w v p → fits (w ++ 256 ∷ v) p ≡ true
one-made w v p lw lv end (part, is, e) =
    ap (fits (w ++ 256 ∷ v)) e
    ∙ literal-made w (256 ∷ v) (part ++ v) lw (part-made v part v is end (literal-same v v lv refl))

two-read : (w v p : List ℕ) → is_literal w ≡ true → is_literal v ≡ true → fits (w ++ 256 ∷ (v ++ 256 ∷ [])) p ≡ true → HasParts w v p
two-read w v p lw lv f =
    let r = literal-read w (256 ∷ (v ++ 256 ∷ [])) p lw f in
    let x = part-read (v ++ 256 ∷ []) r.0 r.2 in
    let y = one-read v [] (rest_of r.0) lv refl x.2 in (
      part_of r.0,
      y.0,
      x.0,
      y.1,
      r.1 ∙ ap (λ (t : List ℕ). w ++ t) (x.1
          ∙ ap (λ (t : List ℕ). part_of r.0 ++ t) (y.2 ∙ ap (λ (t : List ℕ). v ++ t) (append-nil y.0))),
    )

two-made : (w v p : List ℕ) → is_literal w ≡ true → is_literal v ≡ true → ((q : List ℕ) → at_end (v ++ q) ≡ true) → HasParts w v p
    → fits (w ++ 256 ∷ (v ++ 256 ∷ [])) p ≡ true
two-made w v p lw lv end (part, last, is, other, e) =
    let inner : fits (256 ∷ []) last ≡ true =
    ap (fits (256 ∷ [])) (sym (append-nil last)) ∙ part-made [] last [] other refl refl in
    ap (fits (w ++ 256 ∷ (v ++ 256 ∷ []))) e
    ∙ literal-made w (256 ∷ (v ++ 256 ∷ [])) (part ++ (v ++ last)) lw
    (part-made (v ++ 256 ∷ []) part (v ++ last) is (end last) (literal-made v (256 ∷ []) last lv inner))

form-path : (r : Route) (p : List ℕ) → fits (form_of r) p ≡ true → IsPathOf r p
form-path route.Commands p f = literal-only (codes "/v1/commands") p refl f
form-path route.Books p f = one-read (codes "/v1/loans/") (codes "/books") p refl refl f
form-path route.BooksAt p f = two-read (codes "/v1/loans/") (codes "/books/") p refl refl f
form-path route.Payoff p f = two-read (codes "/v1/loans/") (codes "/payoff/") p refl refl f
form-path route.Escrow p f = one-read (codes "/v1/loans/") (codes "/escrow") p refl refl f
form-path route.Report p f = one-read (codes "/v1/months/") (codes "/report") p refl refl f
form-path route.Trial p f = one-read (codes "/v1/months/") (codes "/trial") p refl refl f
form-path route.Custodial p f = literal-only (codes "/v1/custodial") p refl f
form-path route.Rows p f = one-read (codes "/v1/rows/") (codes "") p refl refl f
form-path route.Loan p f = one-read (codes "/v1/loans/") (codes "") p refl refl f
form-path route.History p f = one-read (codes "/v1/loans/") (codes "/history") p refl refl f
form-path route.Quote p f = two-read (codes "/v1/loans/") (codes "/quote/") p refl refl f
form-path route.Arrears p f = one-read (codes "/v1/loans/") (codes "/arrears") p refl refl f
form-path route.Aging p f = literal-only (codes "/v1/aging") p refl f
form-path route.Status p f = literal-only (codes "/v1/status") p refl f
form-path route.Command p f = one-read (codes "/v1/commands/") (codes "") p refl refl f
form-path route.Key p f = one-read (codes "/v1/keys/") (codes "") p refl refl f

path-form : (r : Route) (p : List ℕ) → IsPathOf r p → fits (form_of r) p ≡ true
path-form route.Commands p x = literal-same (codes "/v1/commands") p refl x
path-form route.Books p x = one-made (codes "/v1/loans/") (codes "/books") p refl refl refl x
path-form route.BooksAt p x = two-made (codes "/v1/loans/") (codes "/books/") p refl refl (λ q. refl) x
path-form route.Payoff p x = two-made (codes "/v1/loans/") (codes "/payoff/") p refl refl (λ q. refl) x
path-form route.Escrow p x = one-made (codes "/v1/loans/") (codes "/escrow") p refl refl refl x
path-form route.Report p x = one-made (codes "/v1/months/") (codes "/report") p refl refl refl x
path-form route.Trial p x = one-made (codes "/v1/months/") (codes "/trial") p refl refl refl x
path-form route.Custodial p x = literal-same (codes "/v1/custodial") p refl x
path-form route.Rows p x = one-made (codes "/v1/rows/") (codes "") p refl refl refl x
path-form route.Loan p x = one-made (codes "/v1/loans/") (codes "") p refl refl refl x
path-form route.History p x = one-made (codes "/v1/loans/") (codes "/history") p refl refl refl x
path-form route.Quote p x = two-made (codes "/v1/loans/") (codes "/quote/") p refl refl (λ q. refl) x
path-form route.Arrears p x = one-made (codes "/v1/loans/") (codes "/arrears") p refl refl refl x
path-form route.Aging p x = literal-same (codes "/v1/aging") p refl x
path-form route.Status p x = literal-same (codes "/v1/status") p refl x
path-form route.Command p x = one-made (codes "/v1/commands/") (codes "") p refl refl refl x
path-form route.Key p x = one-made (codes "/v1/keys/") (codes "") p refl refl refl x

bytes : (p : List ℕ) → All (λ b. b < 256) p → IsText p
bytes [] all = tt
bytes (b ∷ p) all = (All-head (λ c. c < 256) b p all, bytes p (All-tail (λ c. c < 256) b p all))

-- a target of bytes matches a route exactly where it has no '?' and is one of the route's paths
pub route-paths : (r : Route) (target : List ℕ) → All (λ b. b < 256) target
    → (route_of target ≡ Some r) ↔ ((list_any (λ b. eqb b 63) target ≡ false) × IsPathOf r target)
route-paths r target all = by (list_any (λ b. eqb b 63) target) refl
  where
    by : (v : Bool) → list_any (λ b. eqb b 63) target ≡ v
        → (cond v None (route_of_path target) ≡ Some r) ↔ ((v ≡ false) × IsPathOf r target)
    by true e = (λ f. absurd (cc), λ x. absurd (let y = x.0 in cc))
    by false e = (
      λ f. (refl, form-path r target (matched-form r target (bytes target all) f)),
      λ x. form-matched r target (bytes target all) (path-form r target x.1),
    )
