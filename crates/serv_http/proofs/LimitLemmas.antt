-- A head within the limits is never refused.
use Rattle.std.proofs.Common.{◌≡◌, ℕ, zero, suc, ◌+◌, ◌-◌, ◌≤◌, List, [], ◌++◌, length, refl, sym, ap, ◌∙◌, subst, arith, append-nil, flat_map, None}
use Rattle.std.proofs.lemmas.List.{take_all}
use Rattle.httparse.specs.Grammar.{LineEnd, crlf, lf, print_end, print_field, print_section, RequestHead, IsRequestHead, print_request, ReadsRequest}
use Rattle.httparse.proofs.GrammarLemmas.{print_request-append}
use Rattle.serv_http.specs.Heads.{head_limit, line_limit, from_request_line, after_lines, begun, line_after, line_too_many, few_lines, judged, HasHead, IsRefused, IsTooLong}
use Rattle.serv_http.proofs.GrowthLemmas.{few_lines-none}
use Rattle.serv_http.proofs.HeadLemmas.{head-grows, head-not-refused, head-not-open, refused-grows, open-grows}
use Rattle.serv_http.proofs.CountLemmas.{with_front, after-front, after-fields}

-- after the line that ends a head no line has begun
last-line : (k : ℕ) (end : LineEnd) → begun (after_lines k (print_end end)) ≡ None
unfolding after_lines
last-line zero crlf = refl
last-line zero lf = refl
last-line (suc zero) crlf = refl
last-line (suc zero) lf = refl
last-line (suc (suc k)) crlf = refl
last-line (suc (suc k)) lf = refl

no-more-lines : (h : RequestHead) → IsRequestHead h → length h.fields ≤ line_limit → line_too_many (print_request h) ≡ None
unfolding line_after
no-more-lines h is few =
    let whole : print_request h ≡ with_front h (flat_map print_field h.fields ++ print_end h.last) =
    sym (append-nil (print_request h)) ∙ print_request-append h []
    ∙ ap (with_front h) (append-nil (print_section h.fields h.last)) in
    let size : line_limit ≡ length h.fields + (line_limit - length h.fields) = omega arith in
    ap (λ (x : List ℕ). begun (after_lines (line_limit + 1) (from_request_line x))) whole
    ∙ ap begun (after-front line_limit h (flat_map print_field h.fields ++ print_end h.last) is
    ∙ ap (λ (k : ℕ). after_lines k (flat_map print_field h.fields ++ print_end h.last)) size
    ∙ after-fields h.fields (line_limit - length h.fields) (print_end h.last) is.fields)
    ∙ last-line (line_limit - length h.fields) h.last

pub head-in-limits : (h : RequestHead) → IsRequestHead h → length h.fields ≤ line_limit
    → length (print_request h) ≤ head_limit → HasHead (print_request h) h
head-in-limits h is few short =
    let all : judged (print_request h) ≡ print_request h =
    ap few_lines (take_all head_limit (print_request h) short)
    ∙ few_lines-none (print_request h) (no-more-lines h is few) in
    record { rest = []; reads = (is, all ∙ sym (append-nil (print_request h))); lines = few }

-- bytes that hold such a head, or that some bytes can make one, are neither refused nor too long
pub not-refused : (s more : List ℕ) (h : RequestHead) (rest : List ℕ) → ReadsRequest (s ++ more) h rest
    → length h.fields ≤ line_limit → length (print_request h) ≤ head_limit → (¬ (IsRefused s)) × (¬ (IsTooLong s))
not-refused s more h rest reads few short =
    let head : HasHead (s ++ more) h =
    subst (λ (x : List ℕ). HasHead x h) (sym reads.1)
    (head-grows (print_request h) rest h (head-in-limits h reads.0 few short)) in (
      λ refused. head-not-refused (s ++ more) h head (refused-grows s more refused),
      λ long. head-not-open (s ++ more) h head (open-grows s more long.0 long.1),
    )
