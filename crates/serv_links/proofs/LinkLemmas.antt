-- How a link ends where nothing fails.
use Rattle.std.proofs.Common.{◌≡◌, ◌⊎◌, ℕ, ◌<◌, ◌≤◌, List, length, refl, sym, ap, ◌∙◌, inl, inr, ⊎_elim, arith, length-append}
use Rattle.std.specs.Prelude.{Option, Some, None}
use Rattle.std.specs.Io.KnownBytes.{Consumes}
use Rattle.svc_world.specs.World.{Accepted}
use Rattle.serv_machine.specs.History.{Stand}
use Rattle.serv_links.specs.declared.link_end.LinkEnd.{LinkEnd}
use Rattle.serv_links.specs.declared.link_end.LinkEnd.TheVariants as link_end
use Rattle.serv_links.specs.Links.{IsDiskEnd, Serves, link_limit}

-- no more is taken than is there
pub few_taken : (left left' : Option (List ℕ)) (input taken : List ℕ) → left ≡ Some input → Consumes left left' taken → length taken ≤ length input
few_taken None left' input taken is took = absurd (cc)
few_taken (Some xs) None input taken is took = absurd took
few_taken (Some xs) (Some ys) input taken is took =
    let same : xs ≡ input = cc in
    omega (arith, ap length (sym same ∙ took), length-append taken ys)

-- no count has risen, and the limit was not reached
pub complete_link : (end : LinkEnd) (reads writes : Type 0) (U : (ℕ → List Accepted → Type 0) → Type 0) (left left' : Option (List ℕ)) (s s' : Stand) (pending : List Accepted) (added input : List ℕ)
    → left ≡ Some input → length input < link_limit → (reads → ⊥) → (writes → ⊥) → (IsDiskEnd end → ⊥) → Serves end reads writes U left left' s s' pending added
    → ((n : ℕ) × (end ≡ link_end.Ended n)) ⊎ ((n : ℕ) × (end ≡ link_end.NoMemory n))
complete_link (link_end.Ended n) reads writes U left left' s s' pending added input is short read write disk serves = inl (n, refl)
complete_link (link_end.NoMemory n) reads writes U left left' s s' pending added input is short read write disk serves = inr (n, refl)
complete_link (link_end.Disk n) reads writes U left left' s s' pending added input is short read write disk serves = absurd (disk tt)
complete_link (link_end.Cut n) reads writes U left left' s s' pending added input is short read write disk serves =
    absurd (omega (arith, few_taken left left' input serves.taken is serves.took, short, serves.says.1))
complete_link (link_end.Broken n) reads writes U left left' s s' pending added input is short read write disk serves =
    absurd (⊎_elim (λ failed. read failed.0) (λ failed. write failed.0) serves.says)
