-- What connections ask is of the form that can be answered.
use Rattle.std.proofs.Common.{ℕ, inl, inr, Bool, true, false, List, [], ◌∷◌, refl, sym, subst}
use Rattle.std.specs.Prelude.{Option, Some, None, All, codes, map}
use Rattle.std.proofs.lemmas.List.Elements.{All-nil, All-cons}
use Rattle.serv_http.specs.declared.ask.Ask.{Ask}
use Rattle.serv_http.specs.declared.ask.Plan.{Plan}
use Rattle.serv_http.specs.declared.ask.Plan.TheVariants.{Now, Pass, Keep}
use Rattle.serv_http.specs.declared.route.ContentLength.{ContentLength}
use Rattle.serv_http.specs.declared.route.Route.{Route}
use Rattle.httparse.specs.Grammar.{RequestHead}
use Rattle.httparse.specs.Spans.{name_and_value}
use Rattle.serv_http.specs.Fields.{Line, has_line, values_of, content_length}
use Rattle.serv_http.specs.Routes.{route_of}
use Rattle.serv_http.specs.Plans.{Step, FirstOf, IsPlan, IsRouted, IsQuestion, is_last, length_steps, route_steps, body_length}
use Rattle.serv_http.specs.Streams.{ask_of, Completes, IsFirst, AsksTo}
use Rattle.serv_links.specs.Meanings.{IsAsk}

-- what a plan makes due
abbrev IsPlanned : Plan → Type 0
IsPlanned (Now d) = IsAsk (ask_of d)
IsPlanned (Pass n d) = IsAsk (ask_of d)
IsPlanned (Keep n last) = Unit {0}

abbrev ArePlanned : List Step → Type 0
ArePlanned [] = Unit {0}
ArePlanned (step ∷ steps) = IsPlanned step.1 × ArePlanned steps

first_planned : (steps : List Step) (otherwise : Plan → Type 0) (plan : Plan) → ArePlanned steps → ((p : Plan) → otherwise p → IsPlanned p) → FirstOf steps otherwise plan → IsPlanned plan
first_planned [] otherwise plan all last first = last plan first
first_planned ((true, answer) ∷ steps) otherwise plan all last first = subst IsPlanned (sym first) all.0
first_planned ((false, answer) ∷ steps) otherwise plan all last first = first_planned steps otherwise plan all.1 last first

question_planned : (r : Route) (path : List ℕ) (size : ℕ) (last : Bool) (plan : Plan) → IsQuestion r path size last plan → IsPlanned plan
question_planned r path size last plan (inl (q, spells, is)) = subst IsPlanned (sym is) spells.formed
question_planned r path size last plan (inr none) = subst IsPlanned (sym none.1) (record { sent = refl; bare = refl; method = refl })

length_planned : (encoded : Bool) (length : ContentLength) → ArePlanned (length_steps encoded length)
length_planned encoded length =
    (record { sent = refl; bare = refl; method = refl }, (record { sent = refl; bare = refl; method = refl }, (record { sent = refl; bare = refl; method = refl }, tt)))

route_planned : (r : Route) (length : ContentLength) (method : List ℕ) (last : Bool) → ArePlanned (route_steps r length method last)
route_planned r length method last = (record { sent = refl; bare = refl; method = refl }, (record { sent = refl; bare = refl; method = refl }, (tt, tt)))

routed_planned : (r : Option Route) (length : ContentLength) (method path : List ℕ) (last : Bool) (plan : Plan) → IsRouted r length method path last plan → IsPlanned plan
routed_planned None length method path last plan is = subst IsPlanned (sym is) (record { sent = refl; bare = refl; method = refl })
routed_planned (Some r) length method path last plan is =
    first_planned (route_steps r length method last) (IsQuestion r path (body_length length) last) plan (route_planned r length method last)
    (λ p question. question_planned r path (body_length length) last p question) is

parts_planned : (encoded : Bool) (length : ContentLength) (r : Option Route) (method target : List ℕ) (last : Bool) (plan : Plan)
    → FirstOf (length_steps encoded length) (IsRouted r length method target last) plan → IsPlanned plan
parts_planned encoded length r method target last plan is =
    first_planned (length_steps encoded length) (IsRouted r length method target last) plan (length_planned encoded length)
    (λ p routed. routed_planned r length method target last p routed) is

plan_planned : (h : RequestHead) (plan : Plan) → IsPlan h plan → IsPlanned plan
plan_planned h plan is =
    let lines : List Line = map name_and_value h.fields in
    parts_planned (has_line (codes "transfer-encoding") lines) (content_length (values_of (codes "content-length") lines)) (route_of h.target) h.method h.target (is_last h.minor lines) plan is

completed : (plan : Plan) (t : List ℕ) (a : Ask) (rest : List ℕ) → IsPlanned plan → Completes plan t a rest → IsAsk a
completed (Now d) t a rest planned is = subst IsAsk (sym is.0) planned
completed (Pass n d) t a rest planned is = subst IsAsk (sym is.1) planned
completed (Keep n last) t a rest planned is = subst IsAsk (sym is.1) tt

first_ask : (s : List ℕ) (a : Ask) (t : List ℕ) → IsFirst s a t → IsAsk a
first_ask s a t (inl refused) = subst IsAsk (sym refused.1) (record { sent = refl; bare = refl; method = refl })
first_ask s a t (inr (inl long)) = subst IsAsk (sym long.1) (record { sent = refl; bare = refl; method = refl })
first_ask s a t (inr (inr request)) = completed request.plan _ a t (plan_planned request.head request.plan request.planned) request.whole

pub asks_are : (s : List ℕ) (asks : List Ask) (left : Option (List ℕ)) → AsksTo s asks left → All IsAsk asks
asks_are s [] left asked = All-nil IsAsk
asks_are s (a ∷ asks) left (t, first, inl over) = All-cons IsAsk a asks (first_ask s a t first) (subst (All IsAsk) (sym over.1) (All-nil IsAsk))
asks_are s (a ∷ asks) left (t, first, inr on) = All-cons IsAsk a asks (first_ask s a t first) (asks_are t asks left on.1)
