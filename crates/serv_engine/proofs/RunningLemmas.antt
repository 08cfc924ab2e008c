-- An engine of whose history the last command may be begun.
use Rattle.std.proofs.Common.{◌≡◌, ℕ, ◌-◌, ◌≤◌, List, [], ◌∷◌, ◌++◌, Option, None, Some, length, sym, ap, subst, ◌∙◌, arith, length-append}
use Rattle.std.proofs.lemmas.List.{append-nil, take_at, drop_at, take-append-drop, map-append}
use Rattle.serv_journal.specs.Format.{Form}
use Rattle.serv_journal.specs.States.{StandsFor}
use Rattle.serv_journal.specs.Disks.{IsKept}
use Rattle.serv_journal.proofs.BegunLemmas.{kept_reaches}
use Rattle.svc_world.specs.World.{Accepted}
use Rattle.serv_engine.specs.Histories.{line_of_command, lines_of_history}
use Rattle.serv_engine.specs.Engines.{EngineState, kept_by, begun_by, kept_of, begun_of, IsRunningIn, IsRunning, IsDurableIn, IsDurable}

-- ---- its history in two parts

both_by : (o : Option ℕ) (h : List Accepted) → kept_by o h ++ begun_by o h ≡ h
both_by None h = append-nil h
both_by (Some gate) h = take-append-drop (length h - 1) h

pub kept_and_begun : (e : EngineState) → kept_of e ++ begun_of e ≡ e.history
kept_and_begun e = both_by e.journal.begun e.history

pub none_kept_of : (e : EngineState) → e.journal.begun ≡ None → kept_of e ≡ e.history
none_kept_of e none = ap (λ (o : Option ℕ). kept_by o e.history) none

pub none_begun_of : (e : EngineState) → e.journal.begun ≡ None → begun_of e ≡ []
none_begun_of e none = ap (λ (o : Option ℕ). begun_by o e.history) none

-- by what they are parts of
pub same_parts_of : (old new : EngineState) → new.history ≡ old.history → new.journal.begun ≡ old.journal.begun → (kept_of new ≡ kept_of old) × (begun_of new ≡ begun_of old)
same_parts_of old new history begun = (
  ap (λ (o : Option ℕ). kept_by o new.history) begun ∙ ap (λ (h : List Accepted). kept_by old.journal.begun h) history,
  ap (λ (o : Option ℕ). begun_by o new.history) begun ∙ ap (λ (h : List Accepted). begun_by old.journal.begun h) history,
)

last_parts : (h : List Accepted) (a : Accepted) (gate : ℕ) → (kept_by (Some gate) (h ++ a ∷ []) ≡ h) × (begun_by (Some gate) (h ++ a ∷ []) ≡ a ∷ [])
last_parts h a gate =
    let n : ℕ = length (h ++ a ∷ []) - 1 in
    let long : length h ≡ n = omega (arith, length-append h (a ∷ [])) in
    (take_at h (a ∷ []) n long, drop_at h (a ∷ []) n long)

-- where the last command is begun, the others are kept
pub last_begun : (e : EngineState) (h : List Accepted) (a : Accepted) (gate : ℕ) → e.history ≡ h ++ a ∷ [] → e.journal.begun ≡ Some gate → (kept_of e ≡ h) × (begun_of e ≡ a ∷ [])
last_begun e h a gate more begun =
    let parts = last_parts h a gate in (
      ap (λ (o : Option ℕ). kept_by o e.history) begun ∙ (ap (λ (x : List Accepted). kept_by (Some gate) x) more ∙ parts.0),
      ap (λ (o : Option ℕ). begun_by o e.history) begun ∙ (ap (λ (x : List Accepted). begun_by (Some gate) x) more ∙ parts.1),
    )

-- ---- what the disk has

pub durable_is_running : (form : Form) (images : List ℕ → Type 0) (e : EngineState) → IsDurableIn form images e → IsRunningIn form images e
durable_is_running form images e d =
    subst (λ (o : Option ℕ). IsKept form images e.journal (lines_of_history (kept_by o e.history)) (lines_of_history (begun_by o e.history))) (sym d.gate) d

pub durable_running : (images : List ℕ → Type 0) (e : EngineState) → IsDurable images e → IsRunning images e
durable_running images e d = record { form = d.form; kept = durable_is_running d.form images e d.kept }

pub running_reaches : (images : List ℕ → Type 0) (e : EngineState) (s : List ℕ) → IsRunning images e → images s → e.journal.size ≤ length s
running_reaches images e s r image = kept_reaches r.form images e.journal (lines_of_history (kept_of e)) (lines_of_history (begun_of e)) s r.kept image

lines_both : (h k : List Accepted) → lines_of_history (h ++ k) ≡ lines_of_history h ++ lines_of_history k
lines_both h k = map-append line_of_command h k

all_lines : (e : EngineState) → lines_of_history (kept_of e) ++ lines_of_history (begun_of e) ≡ lines_of_history e.history
all_lines e = sym (lines_both (kept_of e) (begun_of e)) ∙ ap lines_of_history (kept_and_begun e)

-- the journal has all of the history
pub running_stands : (form : Form) (images : List ℕ → Type 0) (e : EngineState) → IsRunningIn form images e → StandsFor form (lines_of_history e.history) e.journal
running_stands form images e r = subst (λ x. StandsFor form x e.journal) (all_lines e) r.stands

-- a command more is begun
pub begun_running : (form : Form) (images : List ℕ → Type 0) (h begun : List Accepted) (e : EngineState) (a : Accepted) → e.history ≡ (h ++ begun) ++ a ∷ []
    → IsKept form images e.journal (lines_of_history (h ++ begun)) (lines_of_history (a ∷ [])) → IsRunningIn form images e
begun_running form images h begun e a more kept =
    let parts = last_begun e (h ++ begun) a _ more kept.gate in
    subst (λ x. IsKept form images e.journal (lines_of_history x) (lines_of_history (begun_of e))) (sym parts.0)
    (subst (λ x. IsKept form images e.journal (lines_of_history (h ++ begun)) (lines_of_history x)) (sym parts.1) kept)

-- the same of an engine that had this history
pub begin_running : (form : Form) (images : List ℕ → Type 0) (old new : EngineState) (a : Accepted) → new.history ≡ old.history ++ a ∷ []
    → IsKept form images new.journal (lines_of_history (kept_of old ++ begun_of old)) (lines_of_history (a ∷ [])) → IsRunningIn form images new
begin_running form images old new a more kept =
    begun_running form images (kept_of old) (begun_of old) new a (more ∙ ap (λ x. x ++ a ∷ []) (sym (kept_and_begun old))) kept

pub begin_parts : (form : Form) (images : List ℕ → Type 0) (old new : EngineState) (a : Accepted) → new.history ≡ old.history ++ a ∷ []
    → IsKept form images new.journal (lines_of_history (kept_of old ++ begun_of old)) (lines_of_history (a ∷ [])) → (kept_of new ≡ old.history) × (begun_of new ≡ a ∷ [])
begin_parts form images old new a more kept = last_begun new old.history a _ more kept.gate

-- the command that is begun is committed
pub committed_durable : (form : Form) (images : List ℕ → Type 0) (old new : EngineState) → new.history ≡ old.history
    → IsKept form images new.journal (lines_of_history (kept_of old) ++ lines_of_history (begun_of old)) [] → IsDurableIn form images new
committed_durable form images old new same kept =
    subst (λ x. IsKept form images new.journal x []) (all_lines old ∙ sym (ap lines_of_history same)) kept
