-- What holds of a loan's live entries, whatever commands brought them.
use Rattle.std.specs.Prelude.{◌≤◌, List}
use Rattle.std.specs.List.{All, AllPairs}
use Rattle.svc_types.specs.declared.terms.Terms.{Terms}
use Rattle.svc_types.specs.declared.account.Entry.{Entry}
use Rattle.svc_spec.specs.Books.{IsAct}

-- none is before the boarded day, a step takes the amounts of each, and they stand in order of day
pub record AreEntries (t : Terms) (live : List Entry) : Type 0 where
  pub since : All (λ e. t.boarded ≤ e.day) live
  pub acts : All (λ e. IsAct e.act) live
  pub order : AllPairs (λ a b. a.day ≤ b.day) live
