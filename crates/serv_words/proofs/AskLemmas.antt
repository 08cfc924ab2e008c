-- Words that ask a query.
use Rattle.std.proofs.Common.{◌≡◌, ◌≢◌, ℕ, zero, suc, ◌+◌, ◌-◌, ◌<◌, ◌≤◌, List, [], ◌∷◌, ◌++◌, length, take, drop, Option, Some, None, Bool, true, false, refl, sym, ap, subst, ◌∙◌, arith, append_assoc, length-append, length-drop}
use Rattle.std.specs.Prelude.{IfSome, not, map, slice_get, get_or, option_map, codes, ◌==◌}
use Rattle.std.specs.Str.{bytes_eq}
use Rattle.std.specs.Borrow.{Bor}
use Rattle.std.proofs.lemmas.List.{append-nil, drop_more, map-append, nil_from_length, take_all}
use Rattle.std.proofs.lemmas.Slice.Eq.{bytes_eq-Decides}
use Rattle.std.proofs.lemmas.Option.{slice_get-get_or, slice_get-map}
use Rattle.svc_types.specs.Requests.{IsQuery}
use Rattle.svc_types.specs.declared.requests.Query.{Query}
use Rattle.svc_types.specs.declared.requests.Request.TheVariants as request
use Rattle.svc_forms.specs.declared.field.Field.{Field}
use Rattle.svc_forms.specs.declared.field.FieldKind.{FieldKind}
use Rattle.svc_forms.specs.declared.form.Question.{Question}
use Rattle.svc_forms.specs.declared.value.Value.{Value}
use Rattle.svc_forms.specs.Fields.{kind_of_field}
use Rattle.svc_forms.specs.Values.{text_of_value, IsValueOf, FitsField, AreValuesOf, Spells}
use Rattle.svc_forms.specs.Forms.{word_of_question, question_of, values_of_query}
use Rattle.serv_line.specs.Lines.{joined, line_of}
use Rattle.serv_line.proofs.LineLemmas.{same_line}
use Rattle.serv_words.specs.Words.{IsAsking, words_of_query}

-- ---- a query has one spelling

pub one_query : (p q : Query) → IsQuery p → IsQuery q → words_of_query p ≡ words_of_query q → p ≡ q
unfolding line_of
one_query p q a b e =
    let same : request.Ask p ≡ request.Ask q = same_line (request.Ask p) (request.Ask q) a b (ap (λ (ws : List (List ℕ)). joined (codes "?" ∷ ws)) e) in
    cc

-- ---- its values are read one after the other

-- the first i words are read: with values of the fields that are left these are values of all fields
pub record Reads (fields : List Field) (words : List (Bor (List ℕ))) (i : ℕ) (values : List Value) : Type 0 where
  pub text : map text_of_value values ++ map (λ (w : Bor (List ℕ)). w.now) (drop i words) ≡ map (λ (w : Bor (List ℕ)). w.now) words
  pub count : length values ≡ i
  pub fit : (rest : List Value) → AreValuesOf (drop i fields) rest → AreValuesOf fields (values ++ rest)

are_more : (f : Field) (fields : List Field) (v : Value) (values : List Value) → IsValueOf (kind_of_field f) v → AreValuesOf fields values → AreValuesOf (f ∷ fields) (v ∷ values)
are_more f fields v values is are = record { each = each }
  where
    each : (i : ℕ) → FitsField (slice_get (f ∷ fields) i) (slice_get (v ∷ values) i)
    each zero = is
    each (suc i) = are.each i

pub reads_one : (fields : List Field) (words : List (Bor (List ℕ))) (i : ℕ) (values : List Value) (f : Field) (w : Bor (List ℕ)) (k : FieldKind) (text : List ℕ) (v : Value)
    → i < length fields → i < length words → k ≡ kind_of_field (get_or fields i f) → text ≡ (get_or words i w).now → IsValueOf k v → text ≡ text_of_value v
    → Reads fields words i values → Reads fields words (i + 1) (values ++ v ∷ [])
reads_one fields words i values f w k text v few many field word is spelled r =
    let now : Bor (List ℕ) → List ℕ = λ (w : Bor (List ℕ)). w.now in
    let next : drop i words ≡ get_or words i w ∷ drop (i + 1) words = drop_more words i w many in
    let fields_next : drop i fields ≡ get_or fields i f ∷ drop (i + 1) fields = drop_more fields i f few in
    let rest : List (List ℕ) = map now (drop (i + 1) words) in
    record {
      text =
          ap (λ (ts : List (List ℕ)). ts ++ rest) (map-append text_of_value values (v ∷ []))
          ∙ append_assoc (map text_of_value values) (text_of_value v ∷ []) rest
          ∙ ap (λ (t : List ℕ). map text_of_value values ++ t ∷ rest) (sym spelled ∙ word)
          ∙ ap (λ (ws : List (Bor (List ℕ))). map text_of_value values ++ map now ws) (sym next)
          ∙ r.text;
      count = omega (arith, r.count, length-append values (v ∷ []));
      fit = λ more are.
          let first : IsValueOf (kind_of_field (get_or fields i f)) v = subst (λ k. IsValueOf k v) field is in
          subst (AreValuesOf fields) (sym (append_assoc values (v ∷ []) more))
          (r.fit (v ∷ more) (subst (λ fs. AreValuesOf fs (v ∷ more)) (sym fields_next) (are_more (get_or fields i f) (drop (i + 1) fields) v more first are)));
    }

no_values : AreValuesOf [] []
no_values = record { each = λ i. tt }

pub reads_all : (fields : List Field) (words : List (Bor (List ℕ))) (i : ℕ) (values : List Value) → length fields ≡ length words → length words ≤ i → Reads fields words i values
    → AreValuesOf fields values × (map (λ (w : Bor (List ℕ)). w.now) words ≡ map text_of_value values)
reads_all fields words i values same past r =
    let none : drop i words ≡ [] = nil_from_length (drop i words) (omega (arith, past, length-drop i words)) in
    let no_field : drop i fields ≡ [] = nil_from_length (drop i fields) (omega (arith, past, same, length-drop i fields)) in (
      subst (AreValuesOf fields) (append-nil values) (r.fit [] (subst (λ fs. AreValuesOf fs []) (sym no_field) no_values)),
      sym r.text ∙ ap (λ ws. map text_of_value values ++ map (λ (w : Bor (List ℕ)). w.now) ws) none ∙ append-nil (map text_of_value values),
    )

-- a word that spells no value of its field is in no list of values
pub misread : (fields : List Field) (words : List (Bor (List ℕ))) (i : ℕ) (f : Field) (w : Bor (List ℕ)) (k : FieldKind) (text : List ℕ)
    → i < length fields → i < length words → k ≡ kind_of_field (get_or fields i f) → text ≡ (get_or words i w).now → (Spells k text → ⊥)
    → (values : List Value) → AreValuesOf fields values → map (λ (w : Bor (List ℕ)). w.now) words ≡ map text_of_value values → ⊥
misread fields words i f w k text few many field word spells values are texts =
    let now : Bor (List ℕ) → List ℕ = λ (w : Bor (List ℕ)). w.now in
    let at : option_map text_of_value (slice_get values i) ≡ Some text =
    sym (slice_get-map text_of_value values i) ∙ ap (λ (ts : List (List ℕ)). slice_get ts i) (sym texts) ∙ slice_get-map now words i ∙ ap (option_map now) (slice_get-get_or words i w many)
    ∙ ap (λ (t : List ℕ). Some t) (sym word) in
    none_there (slice_get values i) (subst (λ g. FitsField g (slice_get values i)) (slice_get-get_or fields i f few) (are.each i)) at
  where
    none_there : (v : Option Value) → FitsField (Some (get_or fields i f)) v → option_map text_of_value v ≡ Some text → ⊥
    none_there None fits e = absurd (cc)
    none_there (Some v) fits e = spells (record { spelled = v; fits = subst (λ k. IsValueOf k v) (sym field) fits; is = (let e' : text_of_value v ≡ text = cc in sym e') })

-- ---- a query's words

-- the words after the first one
pub first_and_rest : (words : List (Bor (List ℕ))) (w : Bor (List ℕ)) → 1 ≤ length words
    → map (λ (w : Bor (List ℕ)). w.now) words ≡ (get_or words 0 w).now ∷ map (λ (w : Bor (List ℕ)). w.now) (take (length words - 1) (drop 1 words))
first_and_rest [] w some = absurd (omega (arith, some))
first_and_rest (x ∷ words) w some =
    ap (λ (ws : List (Bor (List ℕ))). x.now ∷ map (λ (w : Bor (List ℕ)). w.now) ws) (sym (take_all (length (x ∷ words) - 1) words (omega arith)))

-- the words after the first two
pub two_and_rest : (words : List (Bor (List ℕ))) (v w : Bor (List ℕ)) → 2 ≤ length words
    → map (λ (w : Bor (List ℕ)). w.now) words ≡ (get_or words 0 v).now ∷ (get_or words 1 w).now ∷ map (λ (w : Bor (List ℕ)). w.now) (take (length words - 2) (drop 2 words))
two_and_rest [] v w some = absurd (omega (arith, some))
two_and_rest (x ∷ []) v w some = absurd (omega (arith, some))
two_and_rest (x ∷ y ∷ words) v w some =
    ap (λ (ws : List (Bor (List ℕ))). x.now ∷ y.now ∷ map (λ (w : Bor (List ℕ)). w.now) ws) (sym (take_all (length (x ∷ y ∷ words) - 2) words (omega arith)))

pub is_spelled : (name : List ℕ) (question : Question) (texts : List (List ℕ)) (values : List Value) (q : Query) → name ≡ word_of_question question → texts ≡ map text_of_value values
    → question_of q ≡ question → values_of_query q ≡ values → name ∷ texts ≡ words_of_query q
is_spelled name question texts values q named spelled form are =
    ap (λ (n : List ℕ). n ∷ texts) (named ∙ ap word_of_question (sym form)) ∙ ap (λ (ts : List (List ℕ)). word_of_question (question_of q) ∷ ts) (spelled ∙ ap (map text_of_value) (sym are))

-- ---- words that ask a query

named_by : (journal : List ℕ) → (length journal == 0) ≡ false → journal ≢ []
named_by [] e same = absurd (cc)
named_by (b ∷ journal) e same = absurd (cc)

asked_one : (found : Option Query) (journal word : List ℕ) (texts : List (List ℕ)) → (length journal == 0) ≡ false → word ≡ codes "ask" → IfSome found IsQuery
    → IfSome found (λ q. texts ≡ words_of_query q) → IfSome found (IsAsking (journal ∷ word ∷ texts))
asked_one None journal word texts named asks well read = tt
asked_one (Some q) journal word texts named asks well read = record {
  well = well;
  journal = journal;
  named = named_by journal named;
  words_are = ap (λ (w : List ℕ). journal ∷ w ∷ texts) asks ∙ ap (λ (ts : List (List ℕ)). journal ∷ codes "ask" ∷ ts) read;
}

not_false : (b : Bool) → false ≡ not b → b ≡ true
not_false true e = refl
not_false false e = absurd (cc)

pub are_asked : (words : List (Bor (List ℕ))) (v w : Bor (List ℕ)) (found : Option Query) → 2 ≤ length words → false ≡ (length (get_or words 0 v).now == 0)
    → false ≡ not (bytes_eq (get_or words 1 w).now (codes "ask")) → IfSome found IsQuery → IfSome found (λ q. map (λ (w : Bor (List ℕ)). w.now) (take (length words - 2) (drop 2 words)) ≡ words_of_query q)
    → IfSome found (IsAsking (map (λ (w : Bor (List ℕ)). w.now) words))
are_asked words v w found some named asks well read =
    subst (λ ws. IfSome found (IsAsking ws)) (sym (two_and_rest words v w some))
    (asked_one found (get_or words 0 v).now (get_or words 1 w).now (map (λ (w : Bor (List ℕ)). w.now) (take (length words - 2) (drop 2 words))) (sym named)
    ((bytes_eq-Decides (get_or words 1 w).now (codes "ask")).0 (not_false (bytes_eq (get_or words 1 w).now (codes "ask")) asks)) well read)

-- what they ask
pub asked_words : (words : List (Bor (List ℕ))) (q : Query) → 2 ≤ length words → IsAsking (map (λ (w : Bor (List ℕ)). w.now) words) q
    → map (λ (w : Bor (List ℕ)). w.now) (take (length words - 2) (drop 2 words)) ≡ words_of_query q
asked_words words q some asking =
    let none : Bor (List ℕ) = record { ref_ptr = (0, 0); now = [] } in
    let both : (get_or words 0 none).now ∷ (get_or words 1 none).now ∷ map (λ (w : Bor (List ℕ)). w.now) (take (length words - 2) (drop 2 words)) ≡ asking.journal ∷ codes "ask" ∷ words_of_query q =
    sym (two_and_rest words none none some) ∙ asking.words_are in
    cc

-- they ask one query, or none
pub one_asked : (p q : Query) → Some p ≡ Some q → q ≡ p
one_asked p q e = cc

pub asks_none : (words : List (List ℕ)) → ((q : Query) → IsAsking words q → None ≡ Some q) → (q : Query) → IsAsking words q → ⊥
asks_none words only q asking = let e : None ≡ Some q = only q asking in absurd (cc)
