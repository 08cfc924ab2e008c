-- The routes that paths match: each route has its own form, and no path has two.
use Rattle.std.proofs.Common.{◌≡◌, ℕ, inl, inr, Bool, true, false, not, ◌&&◌, cond, eqb, List, [], ◌∷◌, ◌++◌, length, map, codes, refl, sym, ap, ◌∙◌, subst, arith, Option, Some, None}
use Rattle.std.specs.Prelude.{option_map}
use Rattle.std.proofs.lemmas.Bool.{false≢true, and_parts, eqb-true, eq-eqb}
use Rattle.matchit.proofs.OnLiterals.{matchit_on_literals}
use Rattle.matchit.specs.Level.{IsText}
use Rattle.matchit.specs.Rows.{RowsOf}
use Rattle.matchit.specs.Router.{RouteOf}
use Rattle.matchit.specs.Seek.{seek}
use Rattle.serv_http.specs.declared.route.Route.{Route}
use Rattle.serv_http.specs.declared.route.Route.TheVariants as route
use Rattle.serv_http.specs.Routes.{table, route_of_path}
use Rattle.serv_http.proofs.MatchLemmas.{rest_of, fits, is_simple, HasRow, Answers, AreSimple, seek-answers}

-- the tokens of a route
abbrev pub form_of : Route → List ℕ
form_of route.Commands = codes "/v1/commands"
form_of route.Books = codes "/v1/loans/" ++ 256 ∷ codes "/books"
form_of route.BooksAt = codes "/v1/loans/" ++ 256 ∷ (codes "/books/" ++ 256 ∷ [])
form_of route.Payoff = codes "/v1/loans/" ++ 256 ∷ (codes "/payoff/" ++ 256 ∷ [])
form_of route.Escrow = codes "/v1/loans/" ++ 256 ∷ codes "/escrow"
form_of route.Report = codes "/v1/months/" ++ 256 ∷ codes "/report"
form_of route.Trial = codes "/v1/months/" ++ 256 ∷ codes "/trial"
form_of route.Custodial = codes "/v1/custodial"
form_of route.Rows = codes "/v1/rows/" ++ 256 ∷ []
form_of route.Loan = codes "/v1/loans/" ++ 256 ∷ []
form_of route.History = codes "/v1/loans/" ++ 256 ∷ codes "/history"
form_of route.Quote = codes "/v1/loans/" ++ 256 ∷ (codes "/quote/" ++ 256 ∷ [])
form_of route.Arrears = codes "/v1/loans/" ++ 256 ∷ codes "/arrears"
form_of route.Aging = codes "/v1/aging"
form_of route.Status = codes "/v1/status"
form_of route.Command = codes "/v1/commands/" ++ 256 ∷ []
form_of route.Key = codes "/v1/keys/" ++ 256 ∷ []

-- rows with their values alone
abbrev Values : Type 0
Values = List (List ℕ × Route)

abbrev values_of : RowsOf (RouteOf Route) → Values
values_of [] = []
values_of ((t, e) ∷ rows) = (t, e.value) ∷ values_of rows

abbrev forms_of : List Route → Values
forms_of routes = map (λ r. (form_of r, r)) routes

-- all routes, as their forms are ordered
abbrev ordered : List Route
ordered =
    route.Aging ∷ route.Command ∷ route.Commands ∷ route.Custodial ∷ route.Key ∷ route.Arrears ∷ route.BooksAt
    ∷ route.Books ∷ route.Escrow ∷ route.History ∷ route.Payoff ∷ route.Quote ∷ route.Loan ∷ route.Report
    ∷ route.Trial ∷ route.Rows ∷ route.Status ∷ []

table-is : values_of table ≡ forms_of ordered
unfolding matchit_on_literals table
table-is = refl

has-value : (rows : RowsOf (RouteOf Route)) (t : List ℕ) (e : RouteOf Route) → HasRow t e rows → HasRow t e.value (values_of rows)
has-value [] t e h = h
has-value ((u, l) ∷ rows) t e (inl q) = inl (q.0, ap (λ (x : RouteOf Route). x.value) q.1)
has-value ((u, l) ∷ rows) t e (inr m) = inr (has-value rows t e m)

value-has : (rows : RowsOf (RouteOf Route)) (t : List ℕ) (r : Route) → HasRow t r (values_of rows)
    → (e : RouteOf Route) × HasRow t e rows × (e.value ≡ r)
value-has [] t r h = absurd h
value-has ((u, l) ∷ rows) t r (inl q) = (l, inl (q.0, refl), q.1)
value-has ((u, l) ∷ rows) t r (inr m) = let x = value-has rows t r m in (x.0, inr x.1, x.2)

form-is : (routes : List Route) (t : List ℕ) (r : Route) → HasRow t r (forms_of routes) → t ≡ form_of r
form-is [] t r h = absurd h
form-is (s ∷ routes) t r (inl q) = sym q.0 ∙ ap form_of q.1
form-is (s ∷ routes) t r (inr m) = form-is routes t r m

abbrev all_simple : List Route → Bool
all_simple [] = true
all_simple (r ∷ routes) = is_simple (form_of r) && all_simple routes

simple-at : (routes : List Route) (t : List ℕ) (r : Route) → all_simple routes ≡ true → HasRow t r (forms_of routes) → is_simple t ≡ true
simple-at [] t r all h = absurd h
simple-at (s ∷ routes) t r all (inl q) = ap is_simple (sym q.0) ∙ (and_parts (is_simple (form_of s)) (all_simple routes) all).0
simple-at (s ∷ routes) t r all (inr m) = simple-at routes t r (and_parts (is_simple (form_of s)) (all_simple routes) all).1 m

table-row : (t : List ℕ) (e : RouteOf Route) → HasRow t e table → HasRow t e.value (forms_of ordered)
table-row t e h = subst (λ (rows : Values). HasRow t e.value rows) table-is (has-value table t e h)

table-simple : AreSimple table
table-simple t e h = simple-at ordered t e.value refl (table-row t e h)

row-of : (r : Route) → HasRow (form_of r) r (forms_of ordered)
row-of route.Aging = inl (refl, refl)
row-of route.Command = inr (inl (refl, refl))
row-of route.Commands = inr (inr (inl (refl, refl)))
row-of route.Custodial = inr (inr (inr (inl (refl, refl))))
row-of route.Key = inr (inr (inr (inr (inl (refl, refl)))))
row-of route.Arrears = inr (inr (inr (inr (inr (inl (refl, refl))))))
row-of route.BooksAt = inr (inr (inr (inr (inr (inr (inl (refl, refl)))))))
row-of route.Books = inr (inr (inr (inr (inr (inr (inr (inl (refl, refl))))))))
row-of route.Escrow = inr (inr (inr (inr (inr (inr (inr (inr (inl (refl, refl)))))))))
row-of route.History = inr (inr (inr (inr (inr (inr (inr (inr (inr (inl (refl, refl))))))))))
row-of route.Payoff = inr (inr (inr (inr (inr (inr (inr (inr (inr (inr (inl (refl, refl)))))))))))
row-of route.Quote = inr (inr (inr (inr (inr (inr (inr (inr (inr (inr (inr (inl (refl, refl))))))))))))
row-of route.Loan = inr (inr (inr (inr (inr (inr (inr (inr (inr (inr (inr (inr (inl (refl, refl)))))))))))))
row-of route.Report = inr (inr (inr (inr (inr (inr (inr (inr (inr (inr (inr (inr (inr (inl (refl, refl))))))))))))))
row-of route.Trial = inr (inr (inr (inr (inr (inr (inr (inr (inr (inr (inr (inr (inr (inr (inl (refl, refl)))))))))))))))
row-of route.Rows = inr (inr (inr (inr (inr (inr (inr (inr (inr (inr (inr (inr (inr (inr (inr (inl (refl, refl))))))))))))))))
row-of route.Status = inr (inr (inr (inr (inr (inr (inr (inr (inr (inr (inr (inr (inr (inr (inr (inr (inl (refl, refl)))))))))))))))))

-- no path has both forms
abbrev clash : List ℕ → List ℕ → Bool
clash [] [] = false
clash [] (y ∷ u) = true
clash (x ∷ t) [] = true
clash (x ∷ t) (y ∷ u) =
    cond (eqb x 256) (cond (eqb y 256) (clash t u) (eqb y 47))
    (cond (eqb y 256) (eqb x 47) (cond (eqb x y) (clash t u) true))

fits-both : (t u p : List ℕ) → clash t u ≡ true → fits t p ≡ true → fits u p ≡ true → ⊥
fits-both [] [] p c f g = false≢true c
fits-both [] (y ∷ u) [] c f g = false≢true g
fits-both [] (y ∷ u) (b ∷ p) c f g = false≢true f
fits-both (x ∷ t) [] [] c f g = false≢true f
fits-both (x ∷ t) [] (b ∷ p) c f g = false≢true g
fits-both (x ∷ t) (y ∷ u) [] c f g = false≢true f
fits-both (x ∷ t) (y ∷ u) (b ∷ p) c f g =
    by (eqb x 256) (eqb y 256) (λ q d h k. fits-both t u q d h k) c f g
  where
    by : (v w : Bool) → ((q : List ℕ) → clash t u ≡ true → fits t q ≡ true → fits u q ≡ true → ⊥)
        → cond v (cond w (clash t u) (eqb y 47)) (cond w (eqb x 47) (cond (eqb x y) (clash t u) true)) ≡ true
        → cond v (not (eqb b 47) && fits t (rest_of (b ∷ p))) (eqb x b && fits t p) ≡ true
        → cond w (not (eqb b 47) && fits u (rest_of (b ∷ p))) (eqb y b && fits u p) ≡ true → ⊥
    by true true more c f g =
        more (rest_of (b ∷ p)) c (and_parts (not (eqb b 47)) (fits t (rest_of (b ∷ p))) f).1 (and_parts (not (eqb b 47)) (fits u (rest_of (b ∷ p))) g).1
    by true false more c f g =
        let same : y ≡ b = eqb-true y b (and_parts (eqb y b) (fits u p) g).0 in
        let slash : eqb b 47 ≡ true = ap (λ (z : ℕ). eqb z 47) (sym same) ∙ c in
        false≢true (ap not (sym slash) ∙ (and_parts (not (eqb b 47)) (fits t (rest_of (b ∷ p))) f).0)
    by false true more c f g =
        let same : x ≡ b = eqb-true x b (and_parts (eqb x b) (fits t p) f).0 in
        let slash : eqb b 47 ≡ true = ap (λ (z : ℕ). eqb z 47) (sym same) ∙ c in
        false≢true (ap not (sym slash) ∙ (and_parts (not (eqb b 47)) (fits u (rest_of (b ∷ p))) g).0)
    by false false more c f g =
        let left : x ≡ b = eqb-true x b (and_parts (eqb x b) (fits t p) f).0 in
        let right : y ≡ b = eqb-true y b (and_parts (eqb y b) (fits u p) g).0 in
        let same : eqb x y ≡ true = eq-eqb x y (left ∙ sym right) in
        more p (ap (λ (v : Bool). cond v (clash t u) true) (sym same) ∙ c) (and_parts (eqb x b) (fits t p) f).1 (and_parts (eqb y b) (fits u p) g).1

abbrev all_clash : List ℕ → List Route → Bool
all_clash t [] = true
all_clash t (r ∷ routes) = clash t (form_of r) && all_clash t routes

abbrev are_apart : List Route → Bool
are_apart [] = true
are_apart (r ∷ routes) = all_clash (form_of r) routes && are_apart routes

clash-at : (t : List ℕ) (routes : List Route) (u : List ℕ) (r : Route) → all_clash t routes ≡ true → HasRow u r (forms_of routes) → clash t u ≡ true
clash-at t [] u r all h = absurd h
clash-at t (s ∷ routes) u r all (inl q) = ap (clash t) (sym q.0) ∙ (and_parts (clash t (form_of s)) (all_clash t routes) all).0
clash-at t (s ∷ routes) u r all (inr m) = clash-at t routes u r (and_parts (clash t (form_of s)) (all_clash t routes) all).1 m

one-form : (routes : List Route) (t u p : List ℕ) (r s : Route) → are_apart routes ≡ true → HasRow t r (forms_of routes)
    → HasRow u s (forms_of routes) → fits t p ≡ true → fits u p ≡ true → r ≡ s
one-form [] t u p r s apart h k f g = absurd h
one-form (q ∷ routes) t u p r s apart (inl a) (inl b) f g = sym a.1 ∙ b.1
one-form (q ∷ routes) t u p r s apart (inl a) (inr m) f g =
    let c = clash-at (form_of q) routes u s (and_parts (all_clash (form_of q) routes) (are_apart routes) apart).0 m in
    absurd (fits-both (form_of q) u p c (ap (λ (w : List ℕ). fits w p) a.0 ∙ f) g)
one-form (q ∷ routes) t u p r s apart (inr m) (inl b) f g =
    let c = clash-at (form_of q) routes t r (and_parts (all_clash (form_of q) routes) (are_apart routes) apart).0 m in
    absurd (fits-both (form_of q) t p c (ap (λ (w : List ℕ). fits w p) b.0 ∙ g) f)
one-form (q ∷ routes) t u p r s apart (inr m) (inr k) f g =
    one-form routes t u p r s (and_parts (all_clash (form_of q) routes) (are_apart routes) apart).1 m k f g

searched : (p : List ℕ) → IsText p → Answers (λ t. fits t p) table (seek 0 table p)
searched p text = seek-answers (length p) table p (omega arith) text table-simple

-- a path matches a route exactly where it has the route's form
pub matched-form : (r : Route) (p : List ℕ) → IsText p → route_of_path p ≡ Some r → fits (form_of r) p ≡ true
matched-form r p text e = by (seek 0 table p) refl (searched p text)
  where
    by : (o : Option (RouteOf Route)) → seek 0 table p ≡ o → Answers (λ t. fits t p) table o → fits (form_of r) p ≡ true
    by None f x = absurd (let g : option_map (λ (q : RouteOf Route). q.value) (seek 0 table p) ≡ Some r = e in cc)
    by (Some q) f x =
        let value : q.value ≡ r = (let g : option_map (λ (w : RouteOf Route). w.value) (seek 0 table p) ≡ Some r = e in cc) in
        let form : x.0 ≡ form_of q.value = form-is ordered x.0 q.value (table-row x.0 q x.1) in
        ap (λ (w : List ℕ). fits w p) (sym (form ∙ ap form_of value)) ∙ x.2

pub form-matched : (r : Route) (p : List ℕ) → IsText p → fits (form_of r) p ≡ true → route_of_path p ≡ Some r
form-matched r p text f = by (seek 0 table p) refl (searched p text)
  where
    here : HasRow (form_of r) r (values_of table)
    here = subst (λ (rows : Values). HasRow (form_of r) r rows) (sym table-is) (row-of r)

    by : (o : Option (RouteOf Route)) → seek 0 table p ≡ o → Answers (λ t. fits t p) table o → route_of_path p ≡ Some r
    by None e x =
        let row = value-has table (form_of r) r here in
        absurd (false≢true (sym (x (form_of r) row.0 row.1) ∙ f))
    by (Some q) e x =
        let same : q.value ≡ r = one-form ordered x.0 (form_of r) p q.value r refl (table-row x.0 q x.1) (row-of r) x.2 f in
        ap (option_map (λ (w : RouteOf Route). w.value)) e ∙ ap Some same
