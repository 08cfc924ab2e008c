-- A loan's escrow lines stand in the order of the commands that made them.
use Rattle.std.proofs.Common.{◌≡◌, ℕ, Bool, true, false, not, cond, List, [], ◌∷◌, ◌++◌, map, arith, refl, sym, ap, ◌∙◌}
use Rattle.std.specs.Prelude.{◌==◌, ◌||◌, if◌then◌else◌}
use Rattle.std.specs.List.{filter, list_any}
use Rattle.std.proofs.lemmas.Bool.Decides.{nat_tests}
use Rattle.escrow_lines.specs.declared.line.Line.{Line}
use Rattle.escrow_lines.specs.BillLists.{with_line, without_line}
use Rattle.svc_world.specs.Held.{Held}
use Rattle.svc_world.specs.World.{Accepted}
use Rattle.svc_world.specs.Judging.{IsHistory}
use Rattle.svc_world.specs.LoanCommands.{Saying, said_of}
use Rattle.svc_world.specs.LineOrder.{ids_with, ids_after, AreInOrder}
use Rattle.svc_world.proofs.SaidLemmas.{run, Follows, all_run}

abbrev ids_of : List Line → List ℕ
ids_of lines = map (λ (line : Line). line.id) lines

-- the numbers with one that comes last where it is not among them
abbrev ids_set : ℕ → List ℕ → List ℕ
ids_set id ids = if list_any (λ i. i == id) ids then ids else ids ++ id ∷ []

cons_if : (b : Bool) (x : ℕ) (xs ys : List ℕ) → x ∷ (if b then xs else ys) ≡ (if b then x ∷ xs else x ∷ ys)
cons_if true x xs ys = refl
cons_if false x xs ys = refl

set_ids : (line : Line) (lines : List Line) → ids_of (with_line line lines) ≡ ids_set line.id (ids_of lines)
set_ids line [] = refl
set_ids line (x ∷ xs) =
    elim (x.id == line.id) as (λ v. (x.id == line.id) ≡ v → ids_of (if v then line ∷ xs else x ∷ with_line line xs) ≡ (if v || list_any (λ i. i == line.id) (ids_of xs) then x.id ∷ ids_of xs else (x.id ∷ ids_of xs) ++ line.id ∷ [])) [
      | true ↦ λ same. let one : x.id ≡ line.id = grind (arith, nat_tests) in ap (λ i. i ∷ ids_of xs) (sym one)
      | false ↦ λ apart. ap (λ ids. x.id ∷ ids) (set_ids line xs) ∙ cons_if (list_any (λ i. i == line.id) (ids_of xs)) x.id (ids_of xs) (ids_of xs ++ line.id ∷ [])
    ] refl

drop_ids : (dropped : ℕ) (lines : List Line) → ids_of (without_line dropped lines) ≡ filter (λ i. not (i == dropped)) (ids_of lines)
drop_ids dropped [] = refl
drop_ids dropped (x ∷ xs) =
    elim (x.id == dropped) as (λ v. ids_of (cond (not v) (x ∷ without_line dropped xs) (without_line dropped xs)) ≡ cond (not v) (x.id ∷ filter (λ i. not (i == dropped)) (ids_of xs)) (filter (λ i. not (i == dropped)) (ids_of xs))) [
      | true ↦ drop_ids dropped xs
      | false ↦ ap (λ ids. x.id ∷ ids) (drop_ids dropped xs)
    ]

ids_follow : Follows (λ (l : Held). ids_of l.lines) [] ids_with
ids_follow = record {
  begins = λ id today t. refl;
  enters = λ e l. refl;
  reverses = λ number by l. refl;
  sets = λ line l. set_ids line l.lines;
  drops = λ id l. drop_ids id l.lines;
  retypes = λ c l. refl;
  stays = λ d l. refl;
}

ids_run : (ids : List ℕ) (ss : List Saying) → run ids_with ids ss ≡ ids_after ids ss
ids_run ids [] = refl
ids_run ids (s ∷ ss) = ids_run (ids_with ids s) ss

pub lines_in_order : (h : List Accepted) (id : ℕ) → IsHistory h → AreInOrder h id
lines_in_order h id is = all_run (λ (l : Held). ids_of l.lines) [] ids_with ids_follow id h is ∙ ids_run [] (said_of id h)
