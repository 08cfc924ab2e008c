-- Making room leaves the world as it was, and what a command that is not refused asks for.
use Rattle.std.proofs.Common.{◌≡◌, ℕ, ◌+◌, List, Box, Global, map, length, get_or, max, arith, refl, sym, ap, subst, ◌∙◌}
use Rattle.std.specs.Prelude.{None}
use Rattle.std.specs.List.{All}
use Rattle.std.proofs.Math.ListN.{get_or-map as get_mapped}
use Rattle.std.proofs.lemmas.List.{length-map}
use Rattle.svc_types.specs.declared.terms.Terms.{Terms}
use Rattle.svc_types.specs.declared.requests.Command.{Command}
use Rattle.svc_types.specs.declared.requests.Command.TheVariants as command
use Rattle.svc_types.specs.Requests.{IsCommand}
use Rattle.svc_spec.specs.Accounts.{MayBegin}
use Rattle.period_adjust.specs.Sealed.{State}
use Rattle.period_adjust.specs.Conditions.{last_month}
use Rattle.period_adjust.specs.Kept.{month_after}
use Rattle.svc_world.specs.Held.{Held, boarded_month}
use Rattle.svc_world.specs.World.{World}
use Rattle.svc_world.specs.Refusals.{refusal_of}
use Rattle.svc_world.proofs.BoardWorlds.{boarding}
use Rattle.svc_loan.specs.Kept.{KeptLoan}
use Rattle.svc_loan.specs.declared.place.Place.{Place}
use Rattle.svc_loan.specs.Loans.{KeptLoans, IsThere, held_in}
use Rattle.svc_world.specs.Custody.{remitted_for}
use Rattle.svc_custody.specs.Cash.{IsKeptIn}
use Rattle.svc_core.specs.Preparing.{HaveStayed}
use Rattle.svc_world.specs.Scope.{scope_of}
use Rattle.svc_core.specs.State.{world_of, IsState}
use Rattle.svc_world.specs.declared.scope.Scope.{Scope}
use Rattle.svc_world.specs.declared.scope.Scope.TheVariants.{One, New, Every}
use Rattle.svc_rules.specs.declared.target.Target.TheVariants as target
use Rattle.svc_rules.specs.Targets.{IsTarget}
use Rattle.svc_core.specs.declared.ready.Ready.TheVariants as ready
use Rattle.svc_core.specs.Ready.{HasRoomForOne, HasRoomForNew, HasRoomForAll, IsBoarding, IsReadyFor}
use Rattle.svc_rules.proofs.RefusingLemmas.{new_is_board}

-- ---- the world stays

pub world_stays : (today : ℕ) (loans later : KeptLoans) (seals sealed : State) → HaveStayed loans later seals sealed → world_of today later sealed ≡ world_of today loans seals
world_stays today loans later seals sealed h = rw (h.held, h.reporting, h.remitted_month) refl

-- a loan of the same books, closed months and cents is kept as well
kept_same : (w : World) (j k : KeptLoan) → j.held ≡ k.held → j.closed ≡ k.closed → j.remitted ≡ k.remitted → IsKeptIn w k → IsKeptIn w j
kept_same w j k held closed remitted h = record {
  remitted = remitted ∙ h.remitted ∙ ap (λ (l : Held). remitted_for w l.id) (sym held);
  closed =
      ap (λ (l : Held). boarded_month l + j.closed) held
      ∙ ap (λ n. boarded_month k.held + n) closed
      ∙ h.closed
      ∙ ap (λ (l : Held). max (boarded_month l) (month_after (last_month w.seals.reports))) (sym held);
}

same_at : {X : Type 0} (f : KeptLoan → X) (js ks : List KeptLoan) (i : ℕ) (d : KeptLoan) → map f js ≡ map f ks → f (get_or js i d) ≡ f (get_or ks i d)
same_at f js ks i d e = sym (get_mapped f js i d) ∙ ap (λ xs. get_or xs i (f d)) e ∙ get_mapped f ks i d

pub same_count : (js ks : List KeptLoan) → held_in js ≡ held_in ks → length js ≡ length ks
same_count js ks e = sym (length-map js (λ (k : KeptLoan). k.held)) ∙ ap length e ∙ length-map ks (λ (k : KeptLoan). k.held)

pub kept_stay : (w v : World) (loans later : KeptLoans) (seals sealed : State) → HaveStayed loans later seals sealed → v ≡ w → All (IsKeptIn w) loans.loans → All (IsKeptIn v) later.loans
kept_stay w v loans later seals sealed h same kept = λ i d lt.
    let count = same_count later.loans loans.loans h.held in
    subst (λ u. IsKeptIn u (get_or later.loans i d)) (sym same)
    (kept_same w (get_or later.loans i d) (get_or loans.loans i d)
    (same_at (λ (k : KeptLoan). k.held) later.loans loans.loans i d h.held)
    (same_at (λ (k : KeptLoan). k.closed) later.loans loans.loans i d h.closed_months)
    (same_at (λ (k : KeptLoan). k.remitted) later.loans loans.loans i d h.remitted_cents)
    (kept i d (omega (arith, lt, count))))

-- ---- what a command changes, by its target

pub target_one : (s : Scope) (ks : List KeptLoan) (place : Place) → IsTarget s ks (target.One place) → (s ≡ One place.id) × IsThere place ks
target_one (One id) ks place h = (ap One (sym h.0), h.1)
target_one (New id t) ks place h = absurd h
target_one Every ks place h = absurd h

pub target_new : (s : Scope) (ks : List KeptLoan) (id : ℕ) (t : Terms) → IsTarget s ks (target.New id t) → s ≡ New id t
target_new (One i) ks id t h = absurd h
target_new (New i u) ks id t h = rw (sym h.0, sym h.1) refl
target_new Every ks id t h = absurd h

pub target_every : (s : Scope) (ks : List KeptLoan) → IsTarget s ks target.Every → s ≡ Every
target_every (One i) ks h = absurd h
target_every (New i u) ks h = absurd h
target_every Every ks h = refl

-- ---- what is ready

pub ready_one : (B : Type 0) (s : Scope) (today later : ℕ) (loans : KeptLoans) (seals : State) (rows dues places lines : ℕ) (place : Place) → s ≡ One place.id → IsThere place loans.loans → HasRoomForOne place.id today loans seals rows dues → IsReadyFor {B = B} s today later loans seals rows dues places lines (ready.One place)
ready_one B s today later loans seals rows dues places lines place is there room = rw is (refl, there, room)

pub ready_new : (B : Type 0) (s : Scope) (today later : ℕ) (loans : KeptLoans) (seals : State) (rows dues places lines id : ℕ) (t : Terms) (loan : Box KeptLoan Global) → s ≡ New id t → HasRoomForNew loans rows places → IsBoarding id t today loan.value → IsReadyFor {B = B} s today later loans seals rows dues places lines (ready.New id t loan)
ready_new B s today later loans seals rows dues places lines id t loan is room it = rw is (refl, refl, room, it)

pub ready_every : (B : Type 0) (s : Scope) (today later : ℕ) (loans : KeptLoans) (seals : State) (rows dues places lines : ℕ) → s ≡ Every → HasRoomForAll later loans seals rows lines → IsReadyFor {B = B} s today later loans seals rows dues places lines ready.Every
ready_every B s today later loans seals rows dues places lines is room = rw is room

-- ---- the loan that a command takes on

pub may_begin : (n id : ℕ) (t : Terms) (w : World) (c : Command) → scope_of c ≡ New id t → IsCommand c → refusal_of n w c ≡ None → MayBegin t w.today
may_begin n id t w c is formed none =
    let same = new_is_board id t c is in
    let read : IsCommand (command.Board id t) = subst IsCommand same formed in
    let b = boarding n id t w (ap (refusal_of n w) (sym same) ∙ none) in
    record { terms = b.terms; boarded = read.1.boarded; after = b.until }

-- ---- all of it, as the calls give it

pub kept_later : (n today day : ℕ) (loans later : KeptLoans) (seals sealed : State) → IsState n today loans seals → HaveStayed loans later seals sealed → day ≡ today → All (IsKeptIn (world_of day later sealed)) later.loans
kept_later n today day loans later seals sealed s h same =
    kept_stay (world_of today loans seals) (world_of day later sealed) loans later seals sealed h
    (ap (λ d. world_of d later sealed) same ∙ world_stays today loans later seals sealed h) s.kept

pub may_begin_on : (n id today day : ℕ) (t : Terms) (loans : KeptLoans) (seals : State) (c : Command) → scope_of c ≡ New id t → IsCommand c → refusal_of n (world_of today loans seals) c ≡ None → day ≡ today → MayBegin t day
may_begin_on n id today day t loans seals c is formed none same =
    subst (MayBegin t) (sym same) (may_begin n id t (world_of today loans seals) c is formed none)
