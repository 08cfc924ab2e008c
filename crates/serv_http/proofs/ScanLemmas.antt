-- One byte more of a count of lines, and what it says of the line that is too many.
use Rattle.std.proofs.Common.{◌≡◌, ◌≢◌, ℕ, zero, suc, ◌+◌, ◌-◌, ◌<◌, ◌≤◌, ◌↔◌, inl, inr, Bool, true, false, eqb, List, [], ◌∷◌, ◌++◌, length, take, drop, get_or, refl, sym, ap, ◌∙◌, subst, arith, append_assoc, append-nil, length-append, length-drop, Option, Some, None}
use Rattle.std.specs.Prelude.{is_some, IsTrue}
use Rattle.std.proofs.lemmas.Bool.{cond-true, cond-false, eq-eqb, eqb-true, ne_eqb, false≢true, ltb-true, lt-ltb, leb-true, le-leb}
use Rattle.std.proofs.lemmas.List.{drop_more, drop_all, take_all, drop-append-le}
use Rattle.httparse.specs.Pieces.{is_newline}
use Rattle.serv_http.specs.declared.lines.LineCount.{LineCount}
use Rattle.serv_http.specs.declared.lines.LineCount.TheVariants.{Blank, Left, Full}
use Rattle.serv_http.specs.Counts.{lines_over, lines_on, IsCounted}
use Rattle.serv_http.specs.Heads.{head_limit, line_limit, from_request_line, after_lines, begun, line_after, line_too_many, few_lines, judged, IsClosed}
use Rattle.serv_http.proofs.GrowthLemmas.{few_lines-none}

from-newline : (b : ℕ) (s : List ℕ) → is_newline b ≡ true → from_request_line (b ∷ s) ≡ from_request_line s
unfolding from_request_line
from-newline b s e = cond-true (is_newline b) (from_request_line s) (b ∷ s) e

from-other : (b : ℕ) (s : List ℕ) → is_newline b ≡ false → from_request_line (b ∷ s) ≡ b ∷ s
unfolding from_request_line
from-other b s e = cond-false (is_newline b) (from_request_line s) (b ∷ s) e

-- a line feed, and another byte
cons-feed : (n b : ℕ) (s : List ℕ) → b ≡ 10 → after_lines (suc n) (b ∷ s) ≡ after_lines n s
unfolding after_lines
cons-feed n b s e = cond-true (eqb b 10) (after_lines n s) (after_lines (suc n) s) (eq-eqb b 10 e)

cons-other : (n b : ℕ) (s : List ℕ) → b ≢ 10 → after_lines (suc n) (b ∷ s) ≡ after_lines (suc n) s
unfolding after_lines
cons-other n b s e = cond-false (eqb b 10) (after_lines n s) (after_lines (suc n) s) (ne_eqb b 10 e)

nil-lines : (n : ℕ) → after_lines (suc n) [] ≡ None
unfolding after_lines
nil-lines n = refl

no-lines : (s : List ℕ) → after_lines 0 s ≡ Some s
unfolding after_lines
no-lines s = refl

nothing-over : lines_over [] ≡ None
unfolding from_request_line after_lines
nothing-over = refl

no-feed : (b : ℕ) → is_newline b ≡ false → b ≢ 10
no-feed b other e = false≢true (sym other ∙ ap is_newline e)

module _ (s : List ℕ) (b : ℕ) where
  more-of : (lines : LineCount) → IsCounted s lines → (more : List ℕ) → lines_over ((s ++ b ∷ []) ++ more) ≡ lines_on lines s (b ∷ more)
  more-of lines x more = ap lines_over (append_assoc s (b ∷ []) more) ∙ x.goes_on (b ∷ more)

  pub counted-newline : (lines : LineCount) → lines ≡ Blank → is_newline b ≡ true → IsCounted s lines → IsCounted (s ++ b ∷ []) lines
  counted-newline lines is e x =
      subst (λ (l : LineCount). IsCounted (s ++ b ∷ []) l) (sym is)
      (let y : IsCounted s Blank = subst (λ (l : LineCount). IsCounted s l) is x in
      record { within = refl; goes_on = λ more. more-of Blank y more ∙ ap (after_lines (line_limit + 1)) (from-newline b more e) })

  pub counted-begun : (lines : LineCount) → lines ≡ Blank → is_newline b ≡ false → IsCounted s lines → IsCounted (s ++ b ∷ []) (Left (line_limit + 1))
  counted-begun lines is e x =
      let y : IsCounted s Blank = subst (λ (l : LineCount). IsCounted s l) is x in
      record {
        within = lt-ltb 0 (line_limit + 1) (omega arith);
        goes_on = λ more. more-of Blank y more ∙ ap (after_lines (line_limit + 1)) (from-other b more e)
            ∙ cons-other line_limit b more (no-feed b e);
      }

  other-at : (n : ℕ) → b ≢ 10 → IsCounted s (Left n) → IsCounted (s ++ b ∷ []) (Left n)
  other-at zero e x = absurd (let w = ltb-true 0 0 x.within in omega arith)
  other-at (suc n) e x = record { within = x.within; goes_on = λ more. more-of (Left (suc n)) x more ∙ cons-other n b more e }

  pub counted-other : (lines : LineCount) (n : ℕ) → lines ≡ Left n → b ≢ 10 → IsCounted s lines → IsCounted (s ++ b ∷ []) (Left n)
  counted-other lines n is e x = other-at n e (subst (λ (l : LineCount). IsCounted s l) is x)

  feed-at : (n : ℕ) → b ≡ 10 → 1 < n → IsCounted s (Left n) → IsCounted (s ++ b ∷ []) (Left (n - 1))
  feed-at zero e l x = absurd (omega arith)
  feed-at (suc n) e l x = record {
    within = lt-ltb 0 (suc n - 1) (omega arith);
    goes_on = λ more. more-of (Left (suc n)) x more ∙ cons-feed n b more e
        ∙ ap (λ (k : ℕ). after_lines k more) (let q : n ≡ suc n - 1 = omega arith in q);
  }

  pub counted-feed : (lines : LineCount) (n : ℕ) → lines ≡ Left n → b ≡ 10 → 1 < n → IsCounted s lines → IsCounted (s ++ b ∷ []) (Left (n - 1))
  counted-feed lines n is e l x = feed-at n e l (subst (λ (l : LineCount). IsCounted s l) is x)

  full-at : (n place : ℕ) → b ≡ 10 → n ≤ 1 → length s + 1 ≡ place → IsCounted s (Left n) → IsCounted (s ++ b ∷ []) (Full place)
  full-at zero place e l at x = absurd (let w = ltb-true 0 0 x.within in omega arith)
  full-at (suc n) place e l at x =
      let zero_left : n ≡ 0 = omega arith in
      let size : length (s ++ b ∷ []) ≡ place = omega (arith, length-append s (b ∷ [])) in
      record {
        within = le-leb place (length (s ++ b ∷ [])) (omega arith);
        goes_on = λ more. more-of (Left (suc n)) x more ∙ cons-feed n b more e
            ∙ ap (λ (k : ℕ). after_lines k more) zero_left ∙ no-lines more
            ∙ ap (λ (t : List ℕ). Some (t ++ more)) (sym (drop_all place (s ++ b ∷ []) (omega arith)));
      }

  pub counted-full : (lines : LineCount) (n place : ℕ) → lines ≡ Left n → b ≡ 10 → n ≤ 1 → length s + 1 ≡ place → IsCounted s lines
      → IsCounted (s ++ b ∷ []) (Full place)
  counted-full lines n place is e l at x = full-at n place e l at (subst (λ (l : LineCount). IsCounted s l) is x)

  on-at : (at : ℕ) → IsCounted s (Full at) → IsCounted (s ++ b ∷ []) (Full at)
  on-at at x =
      let inside : at ≤ length s = leb-true at (length s) x.within in
      record {
        within = le-leb at (length (s ++ b ∷ [])) (omega (arith, length-append s (b ∷ [])));
        goes_on = λ more. more-of (Full at) x more
            ∙ ap Some (sym (append_assoc (drop at s) (b ∷ []) more))
            ∙ ap (λ (t : List ℕ). Some (t ++ more)) (sym (drop-append-le at s (b ∷ []) inside));
      }

  pub counted-on : (lines : LineCount) (at : ℕ) → lines ≡ Full at → IsCounted s lines → IsCounted (s ++ b ∷ []) lines
  counted-on lines at is x =
      subst (λ (l : LineCount). IsCounted (s ++ b ∷ []) l) (sym is) (on-at at (subst (λ (l : LineCount). IsCounted s l) is x))

-- the count says where the line that is too many begins
lines-here : (buf : List ℕ) (lines : LineCount) → IsCounted buf lines → lines_over buf ≡ lines_on lines buf []
lines-here buf lines x = ap lines_over (sym (append-nil buf)) ∙ x.goes_on []

many-at : (buf : List ℕ) (o : Option (List ℕ)) → lines_over buf ≡ o → line_too_many buf ≡ begun o
unfolding line_after
many-at buf o e = ap begun e

pub many-none : (buf : List ℕ) (lines : LineCount) → IsCounted buf lines → ((at : ℕ) → lines ≡ Full at → ⊥) → line_too_many buf ≡ None
many-none buf Blank x other = many-at buf None (lines-here buf Blank x ∙ nothing-over)
many-none buf (Left zero) x other = absurd (let w = ltb-true 0 0 x.within in omega arith)
many-none buf (Left (suc n)) x other = many-at buf None (lines-here buf (Left (suc n)) x ∙ nil-lines n)
many-none buf (Full at) x other = absurd (other at refl)

full-here : (buf : List ℕ) (lines : LineCount) (at : ℕ) → lines ≡ Full at → IsCounted buf lines
    → (at ≤ length buf) × (line_too_many buf ≡ begun (Some (drop at buf)))
full-here buf lines at is x =
    let y : IsCounted buf (Full at) = subst (λ (l : LineCount). IsCounted buf l) is x in
    (leb-true at (length buf) y.within, many-at buf (Some (drop at buf)) (lines-here buf (Full at) y ∙ ap Some (append-nil (drop at buf))))

pub many-end : (buf : List ℕ) (lines : LineCount) (at : ℕ) → lines ≡ Full at → IsCounted buf lines → at ≡ length buf → line_too_many buf ≡ None
many-end buf lines at is x end =
    (full-here buf lines at is x).1 ∙ ap (λ (t : List ℕ). begun (Some t)) (drop_all at buf (omega arith))

pub many-newline : (buf : List ℕ) (lines : LineCount) (at : ℕ) → lines ≡ Full at → IsCounted buf lines → at < length buf
    → is_newline (get_or buf at 0) ≡ true → line_too_many buf ≡ None
many-newline buf lines at is x inside newline =
    (full-here buf lines at is x).1 ∙ ap (λ (t : List ℕ). begun (Some t)) (drop_more buf at 0 inside)
    ∙ cond-true (is_newline (get_or buf at 0)) None (Some (get_or buf at 0 ∷ drop (at + 1) buf)) newline

pub many-begun : (buf : List ℕ) (lines : LineCount) (at : ℕ) → lines ≡ Full at → IsCounted buf lines → at < length buf
    → is_newline (get_or buf at 0) ≡ false → line_too_many buf ≡ Some (drop at buf)
many-begun buf lines at is x inside other =
    (full-here buf lines at is x).1 ∙ ap (λ (t : List ℕ). begun (Some t)) (drop_more buf at 0 inside)
    ∙ cond-false (is_newline (get_or buf at 0)) None (Some (get_or buf at 0 ∷ drop (at + 1) buf)) other
    ∙ ap Some (sym (drop_more buf at 0 inside))

pub full-within : (buf : List ℕ) (lines : LineCount) (at : ℕ) → lines ≡ Full at → IsCounted buf lines → at ≤ length buf
full-within buf lines at is x = (full-here buf lines at is x).0

-- what is looked at, and whether no byte that follows is
pub record IsWindow (buf : List ℕ) (count : ℕ) (closed : Bool) : Type 0 where
  pub looked : take count buf ≡ judged buf
  pub is_closed : IsTrue closed ↔ IsClosed buf

pub window-some : (buf : List ℕ) (at : ℕ) → length buf ≤ head_limit → at ≤ length buf
    → line_too_many buf ≡ Some (drop at buf) → IsWindow buf at true
window-some buf at short inside many =
    let all = take_all head_limit buf short in
    let size : length buf - length (drop at buf) ≡ at = omega (arith, length-drop at buf) in
    let few : few_lines buf ≡ take at buf = rw many (ap (λ (n : ℕ). take n buf) size) in
    let closed : IsClosed buf = inr (ap (λ (x : List ℕ). is_some (line_too_many x)) all ∙ ap is_some many) in
    record { looked = sym (ap few_lines all ∙ few); is_closed = (λ t. closed, λ c. refl) }

pub window-none : (buf : List ℕ) (closed : Bool) → length buf ≤ head_limit → line_too_many buf ≡ None
    → closed ≡ eqb (length buf) head_limit → IsWindow buf (length buf) closed
window-none buf closed short none is =
    let all = take_all head_limit buf short in
    record {
      looked = take_all (length buf) buf (omega arith) ∙ sym (ap few_lines all ∙ few_lines-none buf none);
      is_closed = (
        λ t. inl (let e : length buf ≡ head_limit = eqb-true _ _ (sym is ∙ t) in omega arith),
        λ c. elim c [
          | inl l ↦ is ∙ eq-eqb (length buf) head_limit (omega arith)
          | inr s ↦ absurd (false≢true (ap is_some (sym none) ∙ ap (λ (x : List ℕ). is_some (line_too_many x)) (sym all) ∙ s))
        ],
      );
    }
