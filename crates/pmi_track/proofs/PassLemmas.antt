-- The terms of a loan over the first commands of a history, and over one more.
use Rattle.std.proofs.Common.{◌≡◌, ℕ, ◌+◌, List, take, refl, ap, ◌∙◌}
use Rattle.std.specs.Prelude.{fold, Option, Some, None}
use Rattle.std.proofs.lemmas.List.Sums.{fold-append}
use Rattle.svc_types.specs.declared.terms.Terms.{Terms}
use Rattle.svc_world.proofs.TakenLemmas.{listed, taken}
use Rattle.svc_world.specs.World.{Accepted}
use Rattle.svc_world.specs.Judging.{nth_accepted}
use Rattle.pmi_track.specs.Boardings.{with_terms, with_nth, boarded_terms}

abbrev step : ℕ → Option Terms → Accepted → Option Terms
step id terms a = with_terms id terms a.command

with_listed : (id : ℕ) (terms : Option Terms) (o : Option Accepted) → fold (step id) terms (listed o) ≡ with_nth id terms o
unfolding listed
with_listed id terms None = refl
with_listed id terms (Some a) = refl

pub terms_more : (id : ℕ) (h : List Accepted) (n : ℕ) → boarded_terms id (take (n + 1) h) ≡ with_nth id (boarded_terms id (take n h)) (nth_accepted h (n + 1))
terms_more id h n =
    ap (boarded_terms id) (taken h n)
    ∙ fold-append (step id) None (take n h) (listed (nth_accepted h (n + 1)))
    ∙ with_listed id (boarded_terms id (take n h)) (nth_accepted h (n + 1))
