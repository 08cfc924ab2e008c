-- What custody holds for each loan while all loans are gone over in turn.
use Rattle.std.proofs.Common.{◌≡◌, ℕ, ◌+◌, ◌≤◌, ◌<◌, List, [], ◌∷◌, ◌++◌, map, length, take, get_or, arith, refl, sym, ap, ◌∙◌}
use Rattle.std.proofs.Math.ListN.{set}
use Rattle.std.proofs.Math.ListN.{get_or-map as get_mapped}
use Rattle.std.proofs.lemmas.List.{get_or_default, get_or-set_other, length-map, length-set, map-append, take_all, take_more, take_more_set}
use Rattle.custodial_book.specs.declared.row.Totals.{Totals}
use Rattle.svc_world.specs.Held.{Held}
use Rattle.svc_world.specs.World.{World}
use Rattle.svc_world.specs.Custody.{totals_of}
use Rattle.svc_loan.specs.Kept.{KeptLoan}
use Rattle.svc_loan.specs.Loans.{held_in}
use Rattle.svc_custody.specs.declared.position.Position.{Position}
use Rattle.svc_custody.specs.Positions.{position_of, totals_in}
use Rattle.svc_custody.proofs.PositionLemmas.{at_place}

-- up to a place they are those of the world, and from it on as they were
pub record AreMoved (w : World) (ls : List Held) (olds news : List Position) (i : ℕ) : Type 0 where
  pub done : take i news ≡ map (position_of w) (take i ls)
  pub rest : (k : ℕ) (d : Position) → i ≤ k → get_or news k d ≡ get_or olds k d
  pub count : length news ≡ length olds

pub none_moved : (w : World) (ls : List Held) (olds : List Position) → AreMoved w ls olds olds 0
none_moved w ls olds = record { done = refl; rest = λ k d le. refl; count = refl }

pub one_moved : (w : World) (ls : List Held) (olds news : List Position) (i : ℕ) (y : Position) → i < length ls → length olds ≡ length ls → ((d : Held) → y ≡ position_of w (get_or ls i d)) → AreMoved w ls olds news i → AreMoved w ls olds (set news i y) (i + 1)
one_moved w ls olds news i y lt same is h =
    let d = (at_place ls i lt).0 in
    let count = h.count in
    record {
      done =
          take_more_set news i y (omega (arith, lt, same, count))
          ∙ ap (λ xs. xs ++ y ∷ []) h.done
          ∙ ap (λ x. map (position_of w) (take i ls) ++ x ∷ []) (is d)
          ∙ sym (map-append (position_of w) (take i ls) (get_or ls i d ∷ []))
          ∙ ap (map (position_of w)) (sym (take_more ls i d lt));
      rest = λ k d le. get_or-set_other news i k y d (λ e. omega (arith, e, le)) ∙ h.rest k d (omega (arith, le));
      count = length-set news i y ∙ count;
    }

-- while there are more, there is one at the place
pub still_within : (w : World) (ks : List KeptLoan) (olds news : List Position) (i last : ℕ) → last ≡ length ks → i < last → length (totals_in olds) ≡ length (held_in ks) → AreMoved w (held_in ks) olds news i → i < length news
still_within w ks olds news i last end lt same h =
    let count = h.count in
    omega (arith, end, lt, same, count, length-map olds (λ (x : Position). x.totals), length-map ks (λ (k : KeptLoan). k.held))

pub all_moved : (w : World) (ls : List Held) (olds news : List Position) (i : ℕ) → length ls ≤ i → length olds ≡ length ls → AreMoved w ls olds news i → news ≡ map (position_of w) ls
all_moved w ls olds news i le same h =
    let count = h.count in
    sym (take_all i news (omega (arith, le, same, count)))
    ∙ h.done
    ∙ ap (map (position_of w)) (take_all i ls le)

-- the totals at a place that was not passed are those from before
pub totals_before : (w : World) (ls : List Held) (olds news : List Position) (i : ℕ) (x : Position) (t : Totals) → i < length olds → ((d : Position) → x ≡ get_or news i d) → AreMoved w ls olds news i → x.totals ≡ get_or (totals_in olds) i t
totals_before w ls olds news i x t lt is h =
    let totals : Position → Totals = λ y. y.totals in
    ap totals (is x ∙ h.rest i x (omega arith))
    ∙ sym (get_mapped totals olds i x)
    ∙ get_or_default (totals_in olds) i (totals x) t (let count = length-map olds totals in omega (arith, lt, count))

pub totals_are : (w : World) (ls : List Held) → totals_in (map (position_of w) ls) ≡ map (totals_of w) ls
totals_are w [] = refl
totals_are w (l ∷ ls) = ap (λ xs. totals_of w l ∷ xs) (totals_are w ls)
