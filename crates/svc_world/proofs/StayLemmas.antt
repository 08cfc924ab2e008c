-- Reports stay, and books are sound, over every history.
use Rattle.std.proofs.Common.{ℕ, ◌+◌, List, [], ◌∷◌, ◌++◌, get_or, sym, ap, ◌∙◌, append-nil, append_assoc}
use Rattle.std.specs.List.{All}
use Rattle.svc_spec.proofs.AccountLemmas.{account_books}
use Rattle.svc_world.specs.World.{World, Accepted, after, first_world, world, world_from}
use Rattle.svc_world.specs.Judging.{IsHistory}
use Rattle.svc_world.specs.Laws.{ReportsGrow, HasSoundBooks}
use Rattle.svc_world.proofs.HistoryLemmas.{is_world}
use Rattle.svc_world.proofs.LawLemmas.{grows}

grow_on : (u v w : World) → ReportsGrow u v → ReportsGrow v w → ReportsGrow u w
grow_on u v w first second = record {
  more = first.more ++ second.more;
  grown = second.grown ∙ ap (λ xs. xs ++ second.more) first.grown ∙ append_assoc u.seals.reports first.more second.more;
}

grown_from : (n : ℕ) (w : World) (more : List Accepted) → ReportsGrow w (world_from n w more)
unfolding world_from
grown_from n w [] = record { more = []; grown = sym (append-nil w.seals.reports) }
grown_from n w (a ∷ more) = grow_on w (after (n + 1) w a.command) (world_from (n + 1) (after (n + 1) w a.command) more) (grows (n + 1) w a.command) (grown_from (n + 1) (after (n + 1) w a.command) more)

-- what comes first leaves a world from which what comes after goes on
goes_on : (n : ℕ) (w : World) (h more : List Accepted) → ReportsGrow (world_from n w h) (world_from n w (h ++ more))
unfolding world_from
goes_on n w [] more = grown_from n w more
goes_on n w (a ∷ h) more = goes_on (n + 1) (after (n + 1) w a.command) h more

pub reports_grow : (h more : List Accepted) → ReportsGrow (world h) (world (h ++ more))
reports_grow h more = goes_on 0 first_world h more

pub sound_books : (h : List Accepted) → IsHistory h → All HasSoundBooks (world h).loans
sound_books h is = let w = is_world h is in λ k l lt d. account_books (get_or (world h).loans k l).account d (w.held k l lt).limited.account
