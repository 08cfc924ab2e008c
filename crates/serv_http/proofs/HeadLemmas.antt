-- The answers on a head: one at most, and the same for a stream that grows.
use Rattle.std.proofs.Common.{◌≡◌, ℕ, ◌≤◌, inl, inr, List, [], ◌++◌, length, drop, refl, sym, ap, ◌∙◌, subst, arith, append_assoc, length-append}
use Rattle.std.proofs.lemmas.List.{drop_at, drop-append-le}
use Rattle.httparse.specs.Grammar.{RequestHead, print_request, ReadsRequest, HasNoRequest, MayBecomeRequest, EndsInTarget}
use Rattle.httparse.proofs.GrammarLemmas.{request_unique, ReadsRequest-append}
use Rattle.serv_http.specs.Heads.{judged, IsClosed, HasHead, IsRefused, IsOpen}
use Rattle.serv_http.specs.Streams.{after_head}
use Rattle.serv_http.proofs.GrowthLemmas.{closed-or-not, judged-closed, judged-open, judged-part}
use Rattle.serv_http.proofs.TargetLemmas.{target-grows}

pub head-unique : (s : List ℕ) (h k : RequestHead) → HasHead s h → HasHead s k → h ≡ k
head-unique s h k x y = (request_unique (judged s) h k x.rest y.rest x.reads y.reads).0

pub head-not-refused : (s : List ℕ) (h : RequestHead) → HasHead s h → IsRefused s → ⊥
head-not-refused s h x y = y.never [] h (x.rest ++ []) (ReadsRequest-append (judged s) h x.rest [] x.reads)

pub head-not-open : (s : List ℕ) (h : RequestHead) → HasHead s h → IsOpen s → ⊥
head-not-open s h x y = y.none h x.rest x.reads

pub refused-not-open : (s : List ℕ) → IsRefused s → IsOpen s → ⊥
refused-not-open s x y = elim y.may [ inl m ↦ x.never m.0 m.1 [] m.2 | inr e ↦ x.ended e ]

-- what is looked at of a stream that grows, where it is not closed
grown : (s m : List ℕ) → ¬ (IsClosed s) → (k : List ℕ) × (judged s ++ k ≡ judged (s ++ m))
grown s m not_closed =
    let j = judged-open s m not_closed in (j.1.0, ap (λ (x : List ℕ). x ++ j.1.0) j.0 ∙ sym j.1.1)

pub head-grows : (s m : List ℕ) (h : RequestHead) → HasHead s h → HasHead (s ++ m) h
head-grows s m h x = elim (closed-or-not s) [
  | inl c ↦ record {
    rest = x.rest;
    reads = subst (λ (t : List ℕ). ReadsRequest t h x.rest) (sym (judged-closed s m c).0) x.reads;
    lines = x.lines;
  }
  | inr o ↦ let g = grown s m o in record {
    rest = x.rest ++ g.0;
    reads = subst (λ (t : List ℕ). ReadsRequest t h (x.rest ++ g.0)) g.1 (ReadsRequest-append (judged s) h x.rest g.0 x.reads);
    lines = x.lines;
  }
]

pub refused-grows : (s m : List ℕ) → IsRefused s → IsRefused (s ++ m)
refused-grows s m x = elim (closed-or-not s) [
  | inl c ↦ let e = sym (judged-closed s m c).0 in record {
    never = λ more. subst (λ (t : List ℕ). HasNoRequest (t ++ more)) e (x.never more);
    ended = subst (λ (t : List ℕ). ¬ (EndsInTarget t)) e x.ended;
  }
  | inr o ↦ let g = grown s m o in record {
    never = λ more. subst (λ (t : List ℕ). HasNoRequest t)
        (sym (append_assoc (judged s) g.0 more) ∙ ap (λ (t : List ℕ). t ++ more) g.1) (x.never (g.0 ++ more));
    ended = subst (λ (t : List ℕ). ¬ (EndsInTarget t)) g.1 (target-grows (judged s) g.0 x.never x.ended);
  }
]

pub closed-grows : (s m : List ℕ) → IsClosed s → IsClosed (s ++ m)
closed-grows s m c = (judged-closed s m c).1

pub open-grows : (s m : List ℕ) → IsClosed s → IsOpen s → IsOpen (s ++ m)
open-grows s m c x = let e = sym (judged-closed s m c).0 in record {
  none = subst (λ (t : List ℕ). HasNoRequest t) e x.none;
  may = subst (λ (t : List ℕ). MayBecomeRequest t) e x.may;
}

-- the head is the first of the bytes
pub head-first : (s : List ℕ) (h : RequestHead) → HasHead s h → s ≡ print_request h ++ after_head s h
head-first s h x =
    let j = judged-part s in
    let e : s ≡ print_request h ++ (x.rest ++ j.0) =
    j.1 ∙ ap (λ (t : List ℕ). t ++ j.0) x.reads.1 ∙ append_assoc (print_request h) x.rest j.0 in
    let d : after_head s h ≡ x.rest ++ j.0 =
    ap (λ (t : List ℕ). drop (length (print_request h)) t) e ∙ drop_at (print_request h) (x.rest ++ j.0) (length (print_request h)) refl in
    e ∙ ap (λ (t : List ℕ). print_request h ++ t) (sym d)

pub head-length : (s : List ℕ) (h : RequestHead) → HasHead s h → length (print_request h) ≤ length s
head-length s h x = omega (arith, ap length (head-first s h x), length-append (print_request h) (after_head s h))

pub after_head-grows : (s m : List ℕ) (h : RequestHead) → HasHead s h → after_head (s ++ m) h ≡ after_head s h ++ m
after_head-grows s m h x = drop-append-le (length (print_request h)) s m (head-length s h x)
