-- Texts that stand in a path, and the questions that it spells.
use Rattle.std.proofs.Common.{◌≡◌, ◌≢◌, ℕ, ◌-◌, ◌^◌, ◌<◌, ◌≤◌, List, [], ◌++◌, length, take, drop, refl, sym, ap, ◌∙◌, arith, subst, append_assoc, append-nil, length-append, length-drop, Option, Some, None, codes}
use Rattle.std.specs.Borrow.{Bor}
use Rattle.std.specs.Prelude.{MatchOption, SomeIff, IfSome, IfNone}
use Rattle.std.proofs.lemmas.List.{append_cancel_left, take-append-drop}
use Rattle.svc_base.specs.Calendar.{IsReadDay}
use Rattle.svc_base.specs.Text.{text_of_number, text_of_day, text_of_month, IsReadMonth}
use Rattle.svc_types.specs.Keys.{IsKey}
use Rattle.svc_types.specs.declared.requests.Query.{Query}
use Rattle.svc_types.specs.declared.requests.Query.TheVariants.{Books, At, Payoff, Escrow, Report, Trial, Custodial, Rows, Loan, History, Quote, Arrears, Aging, Status, Command, Key}
use Rattle.serv_http.specs.declared.route.Route.TheVariants as route
use Rattle.serv_http.specs.Routes.{path_of_query, Spells}
use Rattle.serv_http.proofs.QueryLemmas.{between, same-ends, length-day}

pub between-read : (path before after rest : List ℕ) (r : Option (Bor (List ℕ))) → path ≡ before ++ rest
    → MatchOption r ((front : List ℕ) → rest ≢ front ++ after) (λ x. rest ≡ x.now ++ after)
    → IfSome r (λ x. path ≡ before ++ (x.now ++ after))
between-read path before after rest None e h = tt
between-read path before after rest (Some x) e h = e ∙ ap (λ (t : List ℕ). before ++ t) h

pub between-none : (path before after rest : List ℕ) (r : Option (Bor (List ℕ))) → path ≡ before ++ rest
    → MatchOption r ((front : List ℕ) → rest ≢ front ++ after) (λ x. rest ≡ x.now ++ after)
    → IfNone r ((mid : List ℕ) → path ≢ before ++ (mid ++ after))
between-none path before after rest None e h =
    λ mid f. h mid (append_cancel_left before rest (mid ++ after) (sym e ∙ f))
between-none path before after rest (Some x) e h = tt

pub number-none : (path before after text : List ℕ) (r : Option ℕ) → path ≡ before ++ (text ++ after)
    → IfNone r ((n : ℕ) → n < 2 ^ 32 → text ≢ text_of_number n)
    → IfNone r ((n : ℕ) → n < 2 ^ 32 → path ≢ before ++ (text_of_number n ++ after))
number-none path before after text None e h = λ n l f. h n l (between before text (text_of_number n) after (sym e ∙ f))
number-none path before after text (Some x) e h = tt

pub too-short : (path front : List ℕ) (d : ℕ) → length path < 10 → path ≢ front ++ text_of_day d
too-short path front d l e = omega (arith, ap length e, length-append front (text_of_day d), length-day d)

pub day-is : (path front text other : List ℕ) (d : ℕ) → path ≡ front ++ text → length text ≡ 10 → path ≡ other ++ text_of_day d
    → (front ≡ other) × (text ≡ text_of_day d)
day-is path front text other d e l f = same-ends front other text (text_of_day d) (l ∙ sym (length-day d)) (sym e ∙ f)

pub last-ten : (path : List ℕ) → 10 ≤ length path
    → (path ≡ take (length path - 10) path ++ drop (length path - 10) path) × (length (drop (length path - 10) path) ≡ 10)
last-ten path l = (sym (take-append-drop (length path - 10) path), omega (arith, length-drop (length path - 10) path))

pub with-day : (path before number middle day : List ℕ) → path ≡ before ++ (number ++ (middle ++ day))
    → path ≡ (before ++ (number ++ middle)) ++ day
with-day path before number middle day e =
    e ∙ ap (λ (t : List ℕ). before ++ t) (sym (append_assoc number middle day)) ∙ sym (append_assoc before (number ++ middle) day)

pub books-spell : (path : List ℕ) (l : ℕ) → l < 2 ^ 32 → path ≡ codes "/v1/loans/" ++ (text_of_number l ++ codes "/books")
    → Spells route.Books path (Books l)
unfolding path_of_query
books-spell path l small e = record { formed = small; routed = refl; spelled = e }

pub no-books : (path : List ℕ) → ((l : ℕ) → l < 2 ^ 32 → path ≢ codes "/v1/loans/" ++ (text_of_number l ++ codes "/books"))
    → (q : Query) → ¬ (Spells route.Books path q)
unfolding path_of_query
no-books path h (Books l) x = h l x.formed x.spelled
no-books path h q x = absurd (let e = x.routed in cc e)

pub escrow-spell : (path : List ℕ) (l : ℕ) → l < 2 ^ 32 → path ≡ codes "/v1/loans/" ++ (text_of_number l ++ codes "/escrow")
    → Spells route.Escrow path (Escrow l)
unfolding path_of_query
escrow-spell path l small e = record { formed = small; routed = refl; spelled = e }

pub no-escrow : (path : List ℕ) → ((l : ℕ) → l < 2 ^ 32 → path ≢ codes "/v1/loans/" ++ (text_of_number l ++ codes "/escrow"))
    → (q : Query) → ¬ (Spells route.Escrow path q)
unfolding path_of_query
no-escrow path h (Escrow l) x = h l x.formed x.spelled
no-escrow path h q x = absurd (let e = x.routed in cc e)

pub rows-spell : (path : List ℕ) (l : ℕ) → l < 2 ^ 32 → path ≡ codes "/v1/rows/" ++ (text_of_number l ++ [])
    → Spells route.Rows path (Rows l)
unfolding path_of_query
rows-spell path l small e = record {
  formed = small;
  routed = refl;
  spelled = e ∙ ap (λ (t : List ℕ). codes "/v1/rows/" ++ t) (append-nil (text_of_number l));
}

pub no-rows : (path : List ℕ) → ((l : ℕ) → l < 2 ^ 32 → path ≢ codes "/v1/rows/" ++ (text_of_number l ++ []))
    → (q : Query) → ¬ (Spells route.Rows path q)
unfolding path_of_query
no-rows path h (Rows l) x =
    h l x.formed (x.spelled ∙ ap (λ (t : List ℕ). codes "/v1/rows/" ++ t) (sym (append-nil (text_of_number l))))
no-rows path h q x = absurd (let e = x.routed in cc e)

pub report-spells : (path : List ℕ) (m : ℕ) → IsReadMonth m → path ≡ codes "/v1/months/" ++ (text_of_month m ++ codes "/report")
    → Spells route.Report path (Report m)
unfolding path_of_query
report-spells path m is e = record { formed = is; routed = refl; spelled = e }

pub no-report : (path : List ℕ) → ((m : ℕ) → IsReadMonth m → path ≢ codes "/v1/months/" ++ (text_of_month m ++ codes "/report"))
    → (q : Query) → ¬ (Spells route.Report path q)
unfolding path_of_query
no-report path h (Report m) x = h m x.formed x.spelled
no-report path h q x = absurd (let e = x.routed in cc e)

pub trial-spells : (path : List ℕ) (m : ℕ) → IsReadMonth m → path ≡ codes "/v1/months/" ++ (text_of_month m ++ codes "/trial")
    → Spells route.Trial path (Trial m)
unfolding path_of_query
trial-spells path m is e = record { formed = is; routed = refl; spelled = e }

pub no-trial : (path : List ℕ) → ((m : ℕ) → IsReadMonth m → path ≢ codes "/v1/months/" ++ (text_of_month m ++ codes "/trial"))
    → (q : Query) → ¬ (Spells route.Trial path q)
unfolding path_of_query
no-trial path h (Trial m) x = h m x.formed x.spelled
no-trial path h q x = absurd (let e = x.routed in cc e)

pub books-at-spell : (path : List ℕ) (l d : ℕ) → l < 2 ^ 32 → IsReadDay d
    → path ≡ codes "/v1/loans/" ++ (text_of_number l ++ (codes "/books/" ++ text_of_day d)) → Spells route.BooksAt path (At l d)
unfolding path_of_query
books-at-spell path l d small is e = record { formed = (small, is); routed = refl; spelled = e }

pub no-books-at : (path : List ℕ)
    → ((l d : ℕ) → l < 2 ^ 32 → IsReadDay d → path ≢ codes "/v1/loans/" ++ (text_of_number l ++ (codes "/books/" ++ text_of_day d)))
    → (q : Query) → ¬ (Spells route.BooksAt path q)
unfolding path_of_query
no-books-at path h (At l d) x = h l d x.formed.0 x.formed.1 x.spelled
no-books-at path h q x = absurd (let e = x.routed in cc e)

pub payoff-spells : (path : List ℕ) (l d : ℕ) → l < 2 ^ 32 → IsReadDay d
    → path ≡ codes "/v1/loans/" ++ (text_of_number l ++ (codes "/payoff/" ++ text_of_day d)) → Spells route.Payoff path (Payoff l d)
unfolding path_of_query
payoff-spells path l d small is e = record { formed = (small, is); routed = refl; spelled = e }

pub no-payoff : (path : List ℕ)
    → ((l d : ℕ) → l < 2 ^ 32 → IsReadDay d → path ≢ codes "/v1/loans/" ++ (text_of_number l ++ (codes "/payoff/" ++ text_of_day d)))
    → (q : Query) → ¬ (Spells route.Payoff path q)
unfolding path_of_query
no-payoff path h (Payoff l d) x = h l d x.formed.0 x.formed.1 x.spelled
no-payoff path h q x = absurd (let e = x.routed in cc e)

pub custodial-spells : (path : List ℕ) → path ≡ codes "/v1/custodial" → Spells route.Custodial path Custodial
unfolding path_of_query
custodial-spells path e = record { formed = tt; routed = refl; spelled = e }

pub no-custodial : (path : List ℕ) → path ≢ codes "/v1/custodial" → (q : Query) → ¬ (Spells route.Custodial path q)
unfolding path_of_query
no-custodial path h Custodial x = h x.spelled
no-custodial path h q x = absurd (let e = x.routed in cc e)

pub loan-spells : (path : List ℕ) (l : ℕ) → l < 2 ^ 32 → path ≡ codes "/v1/loans/" ++ (text_of_number l ++ [])
    → Spells route.Loan path (Loan l)
unfolding path_of_query
loan-spells path l small e = record {
  formed = small;
  routed = refl;
  spelled = e ∙ ap (λ (t : List ℕ). codes "/v1/loans/" ++ t) (append-nil (text_of_number l));
}

pub no-loan : (path : List ℕ) → ((l : ℕ) → l < 2 ^ 32 → path ≢ codes "/v1/loans/" ++ (text_of_number l ++ []))
    → (q : Query) → ¬ (Spells route.Loan path q)
unfolding path_of_query
no-loan path h (Loan l) x =
    h l x.formed (x.spelled ∙ ap (λ (t : List ℕ). codes "/v1/loans/" ++ t) (sym (append-nil (text_of_number l))))
no-loan path h q x = absurd (let e = x.routed in cc e)

pub history-spells : (path : List ℕ) (l : ℕ) → l < 2 ^ 32 → path ≡ codes "/v1/loans/" ++ (text_of_number l ++ codes "/history")
    → Spells route.History path (History l)
unfolding path_of_query
history-spells path l small e = record { formed = small; routed = refl; spelled = e }

pub no-history : (path : List ℕ) → ((l : ℕ) → l < 2 ^ 32 → path ≢ codes "/v1/loans/" ++ (text_of_number l ++ codes "/history"))
    → (q : Query) → ¬ (Spells route.History path q)
unfolding path_of_query
no-history path h (History l) x = h l x.formed x.spelled
no-history path h q x = absurd (let e = x.routed in cc e)

pub arrears-spells : (path : List ℕ) (l : ℕ) → l < 2 ^ 32 → path ≡ codes "/v1/loans/" ++ (text_of_number l ++ codes "/arrears")
    → Spells route.Arrears path (Arrears l)
unfolding path_of_query
arrears-spells path l small e = record { formed = small; routed = refl; spelled = e }

pub no-arrears : (path : List ℕ) → ((l : ℕ) → l < 2 ^ 32 → path ≢ codes "/v1/loans/" ++ (text_of_number l ++ codes "/arrears"))
    → (q : Query) → ¬ (Spells route.Arrears path q)
unfolding path_of_query
no-arrears path h (Arrears l) x = h l x.formed x.spelled
no-arrears path h q x = absurd (let e = x.routed in cc e)

pub command-spells : (path : List ℕ) (l : ℕ) → l < 2 ^ 32 → path ≡ codes "/v1/commands/" ++ (text_of_number l ++ [])
    → Spells route.Command path (Command l)
unfolding path_of_query
command-spells path l small e = record {
  formed = small;
  routed = refl;
  spelled = e ∙ ap (λ (t : List ℕ). codes "/v1/commands/" ++ t) (append-nil (text_of_number l));
}

pub no-command : (path : List ℕ) → ((l : ℕ) → l < 2 ^ 32 → path ≢ codes "/v1/commands/" ++ (text_of_number l ++ []))
    → (q : Query) → ¬ (Spells route.Command path q)
unfolding path_of_query
no-command path h (Command l) x =
    h l x.formed (x.spelled ∙ ap (λ (t : List ℕ). codes "/v1/commands/" ++ t) (sym (append-nil (text_of_number l))))
no-command path h q x = absurd (let e = x.routed in cc e)

pub quote-spells : (path : List ℕ) (l d : ℕ) → l < 2 ^ 32 → IsReadDay d
    → path ≡ codes "/v1/loans/" ++ (text_of_number l ++ (codes "/quote/" ++ text_of_day d)) → Spells route.Quote path (Quote l d)
unfolding path_of_query
quote-spells path l d small is e = record { formed = (small, is); routed = refl; spelled = e }

pub no-quote : (path : List ℕ)
    → ((l d : ℕ) → l < 2 ^ 32 → IsReadDay d → path ≢ codes "/v1/loans/" ++ (text_of_number l ++ (codes "/quote/" ++ text_of_day d)))
    → (q : Query) → ¬ (Spells route.Quote path q)
unfolding path_of_query
no-quote path h (Quote l d) x = h l d x.formed.0 x.formed.1 x.spelled
no-quote path h q x = absurd (let e = x.routed in cc e)

pub aging-spells : (path : List ℕ) → path ≡ codes "/v1/aging" → Spells route.Aging path Aging
unfolding path_of_query
aging-spells path e = record { formed = tt; routed = refl; spelled = e }

pub no-aging : (path : List ℕ) → path ≢ codes "/v1/aging" → (q : Query) → ¬ (Spells route.Aging path q)
unfolding path_of_query
no-aging path h Aging x = h x.spelled
no-aging path h q x = absurd (let e = x.routed in cc e)

pub status-spells : (path : List ℕ) → path ≡ codes "/v1/status" → Spells route.Status path Status
unfolding path_of_query
status-spells path e = record { formed = tt; routed = refl; spelled = e }

pub no-status : (path : List ℕ) → path ≢ codes "/v1/status" → (q : Query) → ¬ (Spells route.Status path q)
unfolding path_of_query
no-status path h Status x = h x.spelled
no-status path h q x = absurd (let e = x.routed in cc e)

pub key-none : (path before text : List ℕ) (r : Option (List ℕ)) → path ≡ before ++ text → SomeIff r (IsKey text) text
    → IfNone r ((key : List ℕ) → IsKey key → path ≢ before ++ key)
key-none path before text None e h =
    λ key is f. h (subst IsKey (sym (append_cancel_left before text key (sym e ∙ f))) is)
key-none path before text (Some x) e h = tt

pub key-read : (path before text : List ℕ) (r : Option (List ℕ)) → path ≡ before ++ text → SomeIff r (IsKey text) text
    → IfSome r (λ key. path ≡ before ++ key)
key-read path before text None e h = tt
key-read path before text (Some x) e h = e ∙ ap (λ (t : List ℕ). before ++ t) (sym h.1)

pub key-spells : (path key : List ℕ) → IsKey key → path ≡ codes "/v1/keys/" ++ key → Spells route.Key path (Key key)
unfolding path_of_query
key-spells path key is e = record { formed = is; routed = refl; spelled = e }

pub no-key : (path : List ℕ) → ((key : List ℕ) → IsKey key → path ≢ codes "/v1/keys/" ++ key)
    → (q : Query) → ¬ (Spells route.Key path q)
unfolding path_of_query
no-key path h (Key key) x = h key x.formed x.spelled
no-key path h q x = absurd (let e = x.routed in cc e)
