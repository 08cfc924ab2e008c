-- From the clauses of the parser to what the bytes so far are, as a head.
use Rattle.std.proofs.Common.{◌≡◌, ◌≢◌, ℕ, ◌≤◌, ◌↔◌, inr, Bool, true, false, List, [], length, map, take, drop, refl, sym, ap, ◌∙◌, subst, arith, append-nil, length-take, None}
use Rattle.std.specs.Prelude.{IsTrue, is_some}
use Rattle.std.proofs.lemmas.Bool.{false≢true}
use Rattle.std.proofs.lemmas.List.{length-map}
use Rattle.httparse.specs.declared.Error.{Error}
use Rattle.httparse.specs.declared.Error.TheVariants as error
use Rattle.httparse.specs.declared.spans.HeaderSpan.{HeaderSpan}
use Rattle.httparse.specs.declared.spans.RequestSpans.{RequestSpans}
use Rattle.httparse.specs.Grammar.{RequestHead, ReadsRequest, HasNoRequest, NeverHasRequest, MayBecomeRequest, EndsInTarget}
use Rattle.httparse.specs.Spans.{header_bytes, name_and_value, IsRequestWithin, IsRequestAt, IsRequestOf, RequestExceeds}
use Rattle.serv_http.specs.declared.ask.Plan.{Plan}
use Rattle.serv_http.specs.declared.found.Found.{Found}
use Rattle.serv_http.specs.Fields.{Line}
use Rattle.serv_http.specs.Heads.{line_limit, line_too_many, judged, IsClosed, IsRefused, IsOpen}
use Rattle.serv_http.specs.Judging.{IsWholeHead, IsFound, OpenAnswer}
use Rattle.serv_http.specs.Plans.{IsPlan, IsPlanOf, PlanFits, method_at, target_at}
use Rattle.serv_http.proofs.GrowthLemmas.{judged-few}
use Rattle.serv_http.proofs.CountLemmas.{exceeds-many}

-- a head that the parser found has no more fields than it had room for
fields-fit : (s : List ℕ) (headers : List HeaderSpan) (spans : RequestSpans) (h : RequestHead)
    → IsRequestWithin s headers spans → IsRequestAt s headers spans h → length h.fields ≤ length headers
fields-fit s headers spans h w x =
    omega (
      arith,
      ap length x.fields,
      length-map (take spans.headers headers) (header_bytes s),
      length-map h.fields name_and_value,
      length-take spans.headers headers,
      w.section.count_fits,
    )

plan-is : (s : List ℕ) (headers : List HeaderSpan) (spans : RequestSpans) (h : RequestHead) (p : Plan) → IsRequestAt s headers spans h
    → IsPlanOf (map (header_bytes s) (take spans.headers headers)) spans.version (method_at s spans) (target_at s spans) p → IsPlan h p
plan-is s headers spans h p x y =
    subst (λ (l : List Line). IsPlanOf l h.minor h.method h.target p) x.fields
    (subst (λ (v : ℕ). IsPlanOf (map (header_bytes s) (take spans.headers headers)) v h.method h.target p) x.version
    (subst (λ (m : List ℕ). IsPlanOf (map (header_bytes s) (take spans.headers headers)) spans.version m h.target p) x.method
    (subst (λ (t : List ℕ). IsPlanOf (map (header_bytes s) (take spans.headers headers)) spans.version (method_at s spans) t p) x.path y)))

pub whole-head : (s few : List ℕ) (headers : List HeaderSpan) (spans : RequestSpans) (plan : Plan) → few ≡ judged s
    → length headers ≡ line_limit → IsRequestOf few headers spans → IsRequestWithin few headers spans → PlanFits plan
    → IsPlanOf (map (header_bytes few) (take spans.headers headers)) spans.version (method_at few spans) (target_at few spans) plan
    → IsWholeHead s spans.len plan
whole-head s few headers spans plan e room x w fits planned = record {
  head = x.0;
  here = record {
    rest = drop spans.len few;
    reads = subst (λ (t : List ℕ). ReadsRequest t x.0 (drop spans.len few)) e x.1.reads;
    lines = omega (arith, fields-fit few headers spans x.0 w x.1, room);
  };
  size = x.1.len;
  planned = plan-is few headers spans x.0 plan x.1 planned;
  fits = fits;
}

no-request : (s : List ℕ) → NeverHasRequest s → HasNoRequest s
no-request s never h rest = subst (λ (t : List ℕ). HasNoRequest t) (append-nil s) (never []) h rest

pub open-head : (s few : List ℕ) (closed : Bool) (found : Found) → few ≡ judged s → IsTrue closed ↔ IsClosed s
    → HasNoRequest few → MayBecomeRequest few → OpenAnswer closed found → IsFound s found
open-head s few true found e c none may answer =
    subst (λ (f : Found). IsFound s f) (sym answer) (c.0 refl, is)
  where
    is : IsOpen s
    is = record { none = subst (λ (t : List ℕ). HasNoRequest t) e none; may = subst (λ (t : List ℕ). MayBecomeRequest t) e may }
open-head s few false found e c none may answer =
    subst (λ (f : Found). IsFound s f) (sym answer) (λ closed. false≢true (c.1 closed), is)
  where
    is : IsOpen s
    is = record { none = subst (λ (t : List ℕ). HasNoRequest t) e none; may = subst (λ (t : List ℕ). MayBecomeRequest t) e may }

-- with few lines no error is one of room
pub error-never : (s few : List ℕ) (e : Error) → few ≡ judged s → (e ≢ error.TooManyHeaders → NeverHasRequest few)
    → (e ≡ error.TooManyHeaders → RequestExceeds line_limit few) → NeverHasRequest few
error-never s few error.TooManyHeaders same invalid many =
    let none : line_too_many few ≡ None = ap line_too_many same ∙ judged-few s in
    absurd (false≢true (ap is_some (sym none) ∙ exceeds-many few (many refl)))
error-never s few e same invalid many = invalid (λ is. cc is)

pub refused-head : (s few : List ℕ) → few ≡ judged s → NeverHasRequest few → ¬ (EndsInTarget few) → IsRefused s
refused-head s few e never ended = record {
  never = subst (λ (t : List ℕ). NeverHasRequest t) e never;
  ended = subst (λ (t : List ℕ). ¬ (EndsInTarget t)) e ended;
}

pub target-head : (s few : List ℕ) (closed : Bool) (found : Found) → few ≡ judged s → IsTrue closed ↔ IsClosed s
    → NeverHasRequest few → EndsInTarget few → OpenAnswer closed found → IsFound s found
target-head s few closed found e c never ends answer =
    open-head s few closed found e c (no-request few never) (inr ends) answer
