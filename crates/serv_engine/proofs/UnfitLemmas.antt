-- Where the lines of a file are no history any more: there is one such place.
use Rattle.std.proofs.Common.{◌≡◌, ℕ, List, [], ◌∷◌, ◌++◌, refl, sym, ap, subst, ◌∙◌, ⊎_elim, append_assoc, append-nil}
use Rattle.svc_types.specs.Keys.{IsKey}
use Rattle.svc_types.specs.Requests.{IsCommand}
use Rattle.svc_world.specs.World.{Accepted}
use Rattle.svc_world.specs.Judging.{judged, Fresh, IsHistoryFrom, AreWellFormed}
use Rattle.serv_engine.specs.Histories.{line_of_command, lines_of_history}
use Rattle.serv_engine.specs.Opening.{IsUnfit}
use Rattle.serv_engine.proofs.HistoryLines.{same_command_line, formed_head, formed_tail}

-- a fresh command's line is that of a further command
pub fresh_fits : (h : List Accepted) (a : Accepted) (line : List ℕ) → IsKey a.key → IsCommand a.command → judged h a.key a.command ≡ Fresh → line ≡ line_of_command a → IsUnfit h line → ⊥
fresh_fits h a line k c fresh is unfit =
    ⊎_elim
    (λ none. none a k c is)
    (λ stale.
    let same : stale.command ≡ a = same_command_line stale.command a stale.key_formed stale.formed k c (sym stale.is ∙ is) in
    stale.stale (subst (λ (x : Accepted). judged h x.key x.command ≡ Fresh) (sym same) fresh))
    unfit

cons_both : (a b : List ℕ) (h k : List (List ℕ)) → a ∷ h ≡ b ∷ k → (a ≡ b) × (h ≡ k)
cons_both a b h k is = (cc, cc)

-- the place is one
pub unfit_once : (done h k : List Accepted) (l m : List ℕ) (xs ys : List (List ℕ)) → AreWellFormed h → IsHistoryFrom done h → AreWellFormed k → IsHistoryFrom done k
    → lines_of_history h ++ l ∷ xs ≡ lines_of_history k ++ m ∷ ys → IsUnfit (done ++ h) l → IsUnfit (done ++ k) m → h ≡ k
unfit_once done [] [] l m xs ys fh hh fk hk is ul um = refl
unfit_once done [] (b ∷ k) l m xs ys fh hh fk hk is ul um =
    let parts = cons_both l (line_of_command b) xs (lines_of_history k ++ m ∷ ys) is in
    let here = formed_head b k fk in
    absurd (fresh_fits done b l here.0 here.1 hk.0 parts.0 (subst (λ x. IsUnfit x l) (append-nil done) ul))
unfit_once done (a ∷ h) [] l m xs ys fh hh fk hk is ul um =
    let parts = cons_both (line_of_command a) m (lines_of_history h ++ l ∷ xs) ys is in
    let here = formed_head a h fh in
    absurd (fresh_fits done a m here.0 here.1 hh.0 (sym parts.0) (subst (λ x. IsUnfit x m) (append-nil done) um))
unfit_once done (a ∷ h) (b ∷ k) l m xs ys fh hh fk hk is ul um =
    let parts = cons_both (line_of_command a) (line_of_command b) (lines_of_history h ++ l ∷ xs) (lines_of_history k ++ m ∷ ys) is in
    let ha = formed_head a h fh in
    let hb = formed_head b k fk in
    let first : a ≡ b = same_command_line a b ha.0 ha.1 hb.0 hb.1 parts.0 in
    let rest = unfit_once (done ++ a ∷ []) h k l m xs ys (formed_tail a h fh) hh.1 (formed_tail b k fk)
    (subst (λ (x : Accepted). IsHistoryFrom (done ++ x ∷ []) k) (sym first) hk.1) parts.1
    (subst (λ x. IsUnfit x l) (sym (append_assoc done (a ∷ []) h)) ul)
    (subst (λ x. IsUnfit x m) (sym (append_assoc done (a ∷ []) k)) (subst (λ (x : Accepted). IsUnfit (done ++ x ∷ k) m) (sym first) um)) in
    ap (λ x. x ∷ h) first ∙ ap (λ x. b ∷ x) rest

-- a history has no such place
pub no_unfit : (done h k : List Accepted) (m : List ℕ) (ys : List (List ℕ)) → AreWellFormed h → IsHistoryFrom done h → AreWellFormed k → IsHistoryFrom done k
    → lines_of_history h ≡ lines_of_history k ++ m ∷ ys → IsUnfit (done ++ k) m → ⊥
no_unfit done [] [] m ys fh hh fk hk is um = let e : ⊥ = cc in e
no_unfit done [] (b ∷ k) m ys fh hh fk hk is um = let e : ⊥ = cc in e
no_unfit done (a ∷ h) [] m ys fh hh fk hk is um =
    let parts = cons_both (line_of_command a) m (lines_of_history h) ys is in
    let here = formed_head a h fh in
    fresh_fits done a m here.0 here.1 hh.0 (sym parts.0) (subst (λ x. IsUnfit x m) (append-nil done) um)
no_unfit done (a ∷ h) (b ∷ k) m ys fh hh fk hk is um =
    let parts = cons_both (line_of_command a) (line_of_command b) (lines_of_history h) (lines_of_history k ++ m ∷ ys) is in
    let ha = formed_head a h fh in
    let hb = formed_head b k fk in
    let first : a ≡ b = same_command_line a b ha.0 ha.1 hb.0 hb.1 parts.0 in
    no_unfit (done ++ a ∷ []) h k m ys (formed_tail a h fh) hh.1 (formed_tail b k fk)
    (subst (λ (x : Accepted). IsHistoryFrom (done ++ x ∷ []) k) (sym first) hk.1) parts.1
    (subst (λ x. IsUnfit x m) (sym (append_assoc done (a ∷ []) k)) (subst (λ (x : Accepted). IsUnfit (done ++ x ∷ k) m) (sym first) um))
