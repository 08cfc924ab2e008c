-- What custody holds for each loan, kept in the order of numbers: after one loan changed or was taken on.
use Rattle.std.proofs.Common.{◌≡◌, ℕ, zero, suc, ◌+◌, ◌≤◌, ◌<◌, true, false, cond, List, [], ◌∷◌, map, length, get_or, arith, refl, sym, ap, subst, ◌∙◌}
use Rattle.std.proofs.Math.ListN.{set}
use Rattle.std.proofs.Math.ListN.{get_or-map as get_mapped}
use Rattle.std.specs.Prelude.{◌==◌, nat_lt, Some, None, if◌then◌else◌}
use Rattle.std.specs.List.{AllPairs, insert}
use Rattle.std.specs.Option.{option_map}
use Rattle.std.proofs.lemmas.Bool.Decides.{nat_tests}
use Rattle.std.proofs.lemmas.List.{get_or_default, length-map}
use Rattle.svc_types.proofs.OrderLemmas.{pairs_head, pairs_tail}
use Rattle.svc_types.specs.declared.terms.Terms.{Terms}
use Rattle.svc_types.specs.declared.requests.Command.{Command}
use Rattle.svc_types.specs.declared.requests.Command.TheVariants as command
use Rattle.svc_world.specs.Held.{Held, find_loan, with_loan, changed, boarded}
use Rattle.svc_world.specs.World.{World, after}
use Rattle.svc_world.specs.Worlds.{IsWorld}
use Rattle.svc_world.specs.Refusals.{refusal_of}
use Rattle.svc_world.proofs.LoanListLemmas.{rises, found_all, find_boarded, with_loan_length}
use Rattle.svc_loan.specs.Kept.{KeptLoan}
use Rattle.svc_loan.specs.Loans.{IsPlaceIn, find_kept, held_in}
use Rattle.svc_custody.specs.declared.position.Position.{Position}
use Rattle.svc_world.specs.declared.scope.Scope.TheVariants as scope
use Rattle.svc_custody.specs.Positions.{IsPosition, position, position_of, positions_of}
use Rattle.svc_world.specs.Scope.{scope_of}
use Rattle.svc_rules.proofs.RuleLemmas.{find-held}
use Rattle.svc_custody.proofs.SameLemmas.{SameReports, held_same, totals_same}
use Rattle.svc_custody.proofs.PositionLemmas.{at_place, same_position}
use Rattle.svc_core.proofs.AcceptLemmas.{IsOneChange, IsTakenOn, one_changed, one_later, new_later, positions_within, taken_on}

-- ---- where a loan stands

-- a loan is the one of a number, and stands at a place
pub record IsPlaced (id i : ℕ) (ls : List Held) (l : Held) : Type 0 where
  pub within : i < length ls
  pub found : find_loan id ls ≡ Some l
  pub at : (d : Held) → get_or ls i d ≡ l

pub placed : (id i : ℕ) (ks : List KeptLoan) → IsPlaceIn id ks (Some i) → (l : Held) × IsPlaced id i (held_in ks) l
placed id i ks h =
    let held : KeptLoan → Held = λ k. k.held in
    let there = at_place ks i h.0 in
    let k = there.0 in
    let found : find_kept id ks ≡ Some k = h.1 k ∙ ap Some (there.1 k) in
    let bound = h.0 in
    let within : i < length (held_in ks) = omega (arith, bound, length-map ks held) in (
      k.held,
      record {
        within = within;
        found = find-held ks id ∙ ap (option_map held) found;
        at = λ d. get_or_default (held_in ks) i d (held k) within ∙ get_mapped held ks i k ∙ ap held (there.1 k);
      },
    )

number_found : (id : ℕ) (ls : List Held) (l : Held) → find_loan id ls ≡ Some l → l.id ≡ id
number_found id [] l e = absurd (cc)
number_found id (k ∷ ks) l e =
    elim (k.id == id) as (λ b. (k.id == id) ≡ b → cond b (Some k) (find_loan id ks) ≡ Some l → l.id ≡ id) [
      | true ↦ λ is same. (let number : k.id ≡ id = grind (arith, nat_tests) in let one : k ≡ l = cc in sym (ap (λ (x : Held). x.id) one) ∙ number)
      | false ↦ λ is rest. number_found id ks l rest
    ] refl e

-- ---- where reports stay, so does what custody holds for a loan

position_same : (w v : World) (l : Held) → SameReports w v → position_of v l ≡ position_of w l
position_same w v l h = same_position (totals_same w v l h) refl refl (held_same w v l h)

positions_same : (w v : World) (ls : List Held) → SameReports w v → map (position_of w) ls ≡ map (position_of v) ls
positions_same w v [] h = refl
positions_same w v (l ∷ ls) h =
    ap (λ x. x ∷ map (position_of w) ls) (sym (position_same w v l h))
    ∙ ap (λ xs. position_of v l ∷ xs) (positions_same w v ls h)

-- ---- one loan changed

set_in : (id i : ℕ) (w v : World) (f : Held → Held) (ls : List Held) (l : Held) → SameReports w v → AllPairs rises ls → i < length ls → get_or ls i l ≡ l → l.id ≡ id → set (map (position_of w) ls) i (position_of v (f l)) ≡ map (position_of v) (changed id f ls)
set_in id i w v f [] l same h lt at is = absurd (omega arith)
set_in id zero w v f (k ∷ ks) l same h lt at is =
    let number : k.id ≡ id = ap (λ (x : Held). x.id) at ∙ is in
    let here : (k.id == id) ≡ true = grind (arith, nat_tests) in
    rw here (ap (λ x. position_of v (f x) ∷ map (position_of w) ks) (sym at) ∙ ap (λ xs. position_of v (f k) ∷ xs) (positions_same w v ks same))
set_in id (suc i) w v f (k ∷ ks) l same h lt at is =
    let below = pairs_head rises k ks h i l (omega arith) in
    let number : (get_or ks i l).id ≡ id = ap (λ (x : Held). x.id) at ∙ is in
    let other : (k.id == id) ≡ false = grind (arith, nat_tests) in
    rw other
    (ap (λ x. x ∷ set (map (position_of w) ks) i (position_of v (f l))) (sym (position_same w v k same))
    ∙ ap (λ xs. position_of v k ∷ xs) (set_in id i w v f ks l same (pairs_tail rises k ks h) (omega arith) at is))

-- what is kept at the place of a loan is what custody holds for it
pub kept_here : (n id i : ℕ) (w : World) (ks : List KeptLoan) (positions : List Position) (x : Position) → IsWorld n w → w.loans ≡ held_in ks → positions ≡ positions_of w → IsPlaceIn id ks (Some i) → ((d : Position) → x ≡ get_or positions i d) → (x ≡ position w (find_loan id w.loans)) × IsPosition x
kept_here n id i w ks positions x is same kept at read =
    let p = placed id i ks at in
    let l = p.0 in
    let found : find_loan id w.loans ≡ Some l = ap (find_loan id) same ∙ p.1.found in
    let one : x ≡ position_of w l =
    read (position_of w l)
    ∙ ap (λ xs. get_or xs i (position_of w l)) (kept ∙ ap (map (position_of w)) same)
    ∙ get_mapped (position_of w) (held_in ks) i l
    ∙ ap (position_of w) (p.1.at l) in
    (one ∙ sym (ap (position w) found), subst IsPosition (sym one) (found_all (λ (k : Held). IsPosition (position_of w k)) id w.loans l found (positions_within n w is)))

pub place_within : (id i : ℕ) (w : World) (ks : List KeptLoan) (positions : List Position) → w.loans ≡ held_in ks → positions ≡ positions_of w → IsPlaceIn id ks (Some i) → i < length positions
place_within id i w ks positions same kept at =
    let within = (placed id i ks at).1.within in
    let count : length positions ≡ length (held_in ks) = ap length kept ∙ length-map w.loans (position_of w) ∙ ap length same in
    omega (arith, within, count)

pub set_here : (n id i : ℕ) (w v : World) (c : Command) (ks : List KeptLoan) (positions : List Position) (y : Position) → IsWorld n w → scope_of c ≡ scope.One id → w.loans ≡ held_in ks → v ≡ after (n + 1) w c → positions ≡ positions_of w → IsPlaceIn id ks (Some i) → y ≡ position v (find_loan id v.loans) → set positions i y ≡ positions_of v
set_here n id i w v c ks positions y is one same made kept at later =
    let p = placed id i ks at in
    let l = p.0 in
    let found : find_loan id w.loans ≡ Some l = ap (find_loan id) same ∙ p.1.found in
    let change = subst (IsOneChange id w) (sym made) (one_changed (n + 1) id w c l one found) in
    let it = change.found in
    let loan : change.loan ≡ l = cc in
    let within : i < length w.loans = (let lt = p.1.within in let e = ap length same in omega (arith, lt, e)) in
    let here : get_or w.loans i l ≡ l = ap (λ ls. get_or ls i l) same ∙ p.1.at l in
    let now : y ≡ position_of v (change.change l) = later ∙ one_later id w v change ∙ ap (λ k. position_of v (change.change k)) loan in
    ap (λ xs. set xs i y) kept
    ∙ ap (set (positions_of w) i) now
    ∙ set_in id i w v change.change w.loans l change.same is.rising within here (number_found id w.loans l found)
    ∙ ap (map (position_of v)) (sym change.loans)

-- ---- a loan taken on

not_first : (id : ℕ) (j : Held) (js : List Held) → find_loan id (j ∷ js) ≡ None → ((j.id == id) ≡ false) × (find_loan id js ≡ None)
not_first id j js e =
    elim (j.id == id) as (λ b. cond b (Some j) (find_loan id js) ≡ None → (b ≡ false) × (find_loan id js ≡ None)) [
      | true ↦ λ e. absurd (cc)
      | false ↦ λ e. (refl, e)
    ] e

insert_in : (w v : World) (l : Held) (ls : List Held) (i : ℕ) → SameReports w v → find_loan l.id ls ≡ None → AllPairs rises (with_loan l ls) → i < length (with_loan l ls) → get_or (with_loan l ls) i l ≡ l → insert (map (position_of w) ls) i (position_of v l) ≡ map (position_of v) (with_loan l ls)
insert_in w v l [] zero same none h lt at = refl
insert_in w v l [] (suc i) same none h lt at = absurd (omega arith)
insert_in w v l (j ∷ js) i same none h lt at =
    elim (nat_lt l.id j.id) as (λ b. AllPairs rises (if b then l ∷ j ∷ js else j ∷ with_loan l js) → i < length (if b then l ∷ j ∷ js else j ∷ with_loan l js) → get_or (if b then l ∷ j ∷ js else j ∷ with_loan l js) i l ≡ l → insert (map (position_of w) (j ∷ js)) i (position_of v l) ≡ map (position_of v) (if b then l ∷ j ∷ js else j ∷ with_loan l js)) [
      | true ↦ λ h lt at. before i h lt at
      | false ↦ λ h lt at. behind i (λ i h lt at. insert_in w v l js i same (not_first l.id j js none).1 h lt at) h lt at
    ] h lt at
  where
    before : (i : ℕ) → AllPairs rises (l ∷ j ∷ js) → i < length (l ∷ j ∷ js) → get_or (l ∷ j ∷ js) i l ≡ l → insert (map (position_of w) (j ∷ js)) i (position_of v l) ≡ map (position_of v) (l ∷ j ∷ js)
    before zero h lt at = ap (λ xs. position_of v l ∷ xs) (positions_same w v (j ∷ js) same)
    before (suc i) h lt at =
        let below = pairs_head rises l (j ∷ js) h i l (omega arith) in
        let number = ap (λ (x : Held). x.id) at in
        absurd (omega (arith, below, number))

    behind : (i : ℕ) → ((i : ℕ) → AllPairs rises (with_loan l js) → i < length (with_loan l js) → get_or (with_loan l js) i l ≡ l → insert (map (position_of w) js) i (position_of v l) ≡ map (position_of v) (with_loan l js)) → AllPairs rises (j ∷ with_loan l js) → i < length (j ∷ with_loan l js) → get_or (j ∷ with_loan l js) i l ≡ l → insert (map (position_of w) (j ∷ js)) i (position_of v l) ≡ map (position_of v) (j ∷ with_loan l js)
    behind zero more h lt at =
        let number : j.id ≡ l.id = ap (λ (x : Held). x.id) at in
        let here : (j.id == l.id) ≡ true = grind (arith, nat_tests) in
        let other = (not_first l.id j js none).0 in
        absurd (cc)
    behind (suc i) more h lt at =
        ap (λ x. x ∷ insert (map (position_of w) js) i (position_of v l)) (sym (position_same w v j same))
        ∙ ap (λ xs. position_of v j ∷ xs) (more i (pairs_tail rises j (with_loan l js) h) (omega arith) at)

-- it is found then
new_found : (n id : ℕ) (w v : World) (t : Terms) → refusal_of n w (command.Board id t) ≡ None → IsTakenOn n (boarded id t w.today) w v → find_loan id v.loans ≡ Some (boarded id t w.today)
new_found n id w v t fresh new =
    let l = boarded id t w.today in
    ap (find_loan id) new.loans
    ∙ find_boarded id l w.loans new.new
    ∙ (let is : (l.id == id) ≡ true = grind (arith, nat_tests) in ap (λ b. if b then Some l else find_loan id w.loans) is)

pub room_after : (n id i : ℕ) (w v : World) (t : Terms) (ks : List KeptLoan) (positions : List Position) → refusal_of n w (command.Board id t) ≡ None → v ≡ after (n + 1) w (command.Board id t) → v.loans ≡ held_in ks → positions ≡ positions_of w → IsPlaceIn id ks (Some i) → i ≤ length positions
room_after n id i w v t ks positions fresh made same kept at =
    let new = subst (IsTakenOn n (boarded id t w.today) w) (sym made) (taken_on n id w t fresh) in
    let within = (placed id i ks at).1.within in
    let later : length (held_in ks) ≡ length w.loans + 1 = ap length (sym same ∙ new.loans) ∙ with_loan_length (boarded id t w.today) w.loans in
    let count : length positions ≡ length w.loans = ap length kept ∙ length-map w.loans (position_of w) in
    omega (arith, within, later, count)

pub insert_here : (n id i : ℕ) (w v : World) (t : Terms) (ks : List KeptLoan) (positions : List Position) (y : Position) → IsWorld (n + 1) v → refusal_of n w (command.Board id t) ≡ None → v ≡ after (n + 1) w (command.Board id t) → v.loans ≡ held_in ks → positions ≡ positions_of w → IsPlaceIn id ks (Some i) → y ≡ position v (find_loan id v.loans) → insert positions i y ≡ positions_of v
insert_here n id i w v t ks positions y later fresh made same kept at is =
    let l = boarded id t w.today in
    let new = subst (IsTakenOn n l w) (sym made) (taken_on n id w t fresh) in
    let p = placed id i ks at in
    let there : find_loan id v.loans ≡ Some l = new_found n id w v t fresh new in
    let found : find_loan id v.loans ≡ Some p.0 = ap (find_loan id) same ∙ p.1.found in
    let loan : p.0 ≡ l = cc in
    let here : get_or (with_loan l w.loans) i l ≡ l = ap (λ ls. get_or ls i l) (sym new.loans ∙ same) ∙ p.1.at l ∙ loan in
    let within : i < length (with_loan l w.loans) = (let lt = p.1.within in let e = ap length (sym new.loans ∙ same) in omega (arith, lt, e)) in
    ap (λ xs. insert xs i y) kept
    ∙ ap (insert (positions_of w) i) (is ∙ new_later n l w v new)
    ∙ insert_in w v l w.loans i new.same new.new (subst (AllPairs rises) new.loans later.rising) within here
    ∙ ap (map (position_of v)) (sym new.loans)
