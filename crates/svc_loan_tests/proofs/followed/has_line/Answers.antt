use Rattle.std.proofs.Common.{◌≡◌, Bool, true, false, cond, ◌||◌, List, [], ◌∷◌, Option, Some, is_some, refl, ap, sym, subst, ◌∙◌}
use Rattle.escrow_lines.specs.BillLists.{has_id}
use Rattle.std.specs.List.{list_any, find}
use Rattle.svc_loan_tests.proofs.followed.has_line.Goals as goal

any_go : {X : Type 0} (b : Bool) (x : X) (rest : Option X) (any : Bool) → is_some (cond b (Some x) rest) ≡ true → (is_some rest ≡ true → any ≡ true) → (b || any) ≡ true
any_go true x rest any h ih = refl
any_go false x rest any h ih = ih h

-- what is found is there
found_any : {X : Type 0} (p : X → Bool) (xs : List X) → is_some (find p xs) ≡ true → list_any p xs ≡ true
found_any p [] h = h
found_any p (x ∷ xs) h = any_go (p x) x (find p xs) (list_any p xs) h (found_any p xs)

pub returns : goal.returns
returns g c =
    λ there.
    let found = sym (c.is_some.ensures ∙ ap is_some c.find.ensures) ∙ there in
    subst (λ ls. list_any (has_id c.args.id) ls ≡ true) c.lines.ensures (found_any (has_id c.args.id) c.lines.result.now found)
