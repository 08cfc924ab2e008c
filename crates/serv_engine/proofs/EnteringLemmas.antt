-- A command that is taken so far: begun, or until the disk has it.
use Rattle.std.proofs.Common.{◌≡◌, ℕ, List, [], ◌∷◌, ◌++◌, None, inl, refl, sym, ap, subst, ◌∙◌}
use Rattle.std.proofs.lemmas.List.{map-append}
use Rattle.svc_world.specs.World.{Accepted}
use Rattle.serv_disk.specs.Disks.{Each, LeavesOnly, View}
use Rattle.serv_disk.proofs.Moments.{started}
use Rattle.serv_journal.specs.Format.{Form}
use Rattle.serv_journal.specs.States.{JournalState}
use Rattle.serv_journal.specs.Disks.{IsAround, IsKept, gate_of}
use Rattle.serv_journal.proofs.BegunLemmas.{rest_around}
use Rattle.serv_engine.specs.declared.until.Until.{Until}
use Rattle.serv_engine.specs.declared.until.Until.TheVariants.{Begun, Kept}
use Rattle.serv_engine.specs.Histories.{line_of_command, lines_of_history, IsAroundFor}
use Rattle.serv_engine.specs.Engines.{EngineState, kept_of, begun_of, IsRunningIn, IsDurableIn}
use Rattle.serv_engine.specs.Entering.{risked, kept_after, begun_after}
use Rattle.serv_engine.proofs.RunningLemmas.{kept_and_begun, none_kept_of, none_begun_of, durable_is_running, begin_running, begin_parts}

-- ---- lines and commands

risked_lines : (until : Until) (begun : List Accepted) (a : Accepted) → lines_of_history (risked until begun a) ≡ risked until (lines_of_history begun) (line_of_command a)
risked_lines Begun begun a = refl
risked_lines Kept begun a = refl

kept_lines : (until : Until) (h begun : List Accepted) (a : Accepted)
    → lines_of_history (kept_after until (h ++ begun) a) ≡ kept_after until (lines_of_history h ++ lines_of_history begun) (line_of_command a)
kept_lines Begun h begun a = map-append line_of_command h begun
kept_lines Kept h begun a = map-append line_of_command (h ++ begun) (a ∷ []) ∙ ap (λ x. x ++ line_of_command a ∷ []) (map-append line_of_command h begun)

begun_lines : (until : Until) (a : Accepted) → lines_of_history (begun_after until a) ≡ begun_after until (line_of_command a)
begun_lines Begun a = refl
begun_lines Kept a = refl

-- ---- of a journal

none_begun : (form : Form) (lines begun : List (List ℕ)) → None ≡ gate_of form lines begun → begun ≡ []
none_begun form lines [] is = refl
none_begun form lines (line ∷ more) is = absurd (let no_way : ⊥ = cc in no_way)

-- a journal in which no line is begun
pub alone_is : (form : Form) (images : List ℕ → Type 0) (journal : JournalState) (lines begun : List (List ℕ)) → journal.begun ≡ None → IsKept form images journal lines begun → begun ≡ []
alone_is form images journal lines begun none kept = none_begun form lines begun (sym none ∙ kept.gate)

pub alone_kept : (form : Form) (images : List ℕ → Type 0) (journal : JournalState) (lines begun : List (List ℕ)) → journal.begun ≡ None → IsKept form images journal lines begun
    → IsKept form images journal lines []
alone_kept form images journal lines begun none kept = subst (λ x. IsKept form images journal lines x) (alone_is form images journal lines begun none kept) kept

-- what is at rest is no further at risk
rest_at_risk : (until : Until) (form : Form) (images : List ℕ → Type 0) (journal : JournalState) (lines begun : List (List ℕ)) (line : List ℕ) → (until ≡ Kept → journal.begun ≡ None)
    → IsKept form images journal lines begun → Each images (IsAround form lines (risked until begun line))
rest_at_risk Begun form images journal lines begun line none kept = λ c image. rest_around form lines begun c (kept.each c image)
rest_at_risk Kept form images journal lines begun line none kept = λ c image. inl ((alone_kept form images journal lines begun (none refl) kept).each c image)

-- a line's clauses are those of its command
pub put_with : (until : Until) (images : List ℕ → Type 0) (form : Form) (h begun : List Accepted) (a : Accepted) (line : List ℕ) (journal : JournalState) → line ≡ line_of_command a
    → IsKept form images journal (kept_after until (lines_of_history h ++ lines_of_history begun) line) (begun_after until line)
    → IsKept form images journal (lines_of_history (kept_after until (h ++ begun) a)) (lines_of_history (begun_after until a))
put_with until images form h begun a line journal is kept =
    subst (λ x. IsKept form images journal x (lines_of_history (begun_after until a))) (ap (λ x. kept_after until (lines_of_history h ++ lines_of_history begun) x) is ∙ sym (kept_lines until h begun a))
    (subst (λ x. IsKept form images journal (kept_after until (lines_of_history h ++ lines_of_history begun) line) x) (ap (λ x. begun_after until x) is ∙ sym (begun_lines until a)) kept)

module _ {D : Type 0} (view : D → View) where
  pub moments_with : (until : Until) (old new : D) (form : Form) (h begun : List Accepted) (a : Accepted) (line : List ℕ) → line ≡ line_of_command a
      → LeavesOnly view old new (IsAround form (lines_of_history h) (risked until (lines_of_history begun) line)) → LeavesOnly view old new (IsAroundFor form h (risked until begun a))
  moments_with until old new form h begun a line is run =
      subst (λ x. LeavesOnly view old new (IsAround form (lines_of_history h) x)) (ap (λ x. risked until (lines_of_history begun) x) is ∙ sym (risked_lines until begun a)) run

  -- no call
  pub idle_with : (until : Until) (disk : D) (form : Form) (journal : JournalState) (h begun : List Accepted) (a : Accepted) → (until ≡ Kept → journal.begun ≡ None)
      → ((c : List ℕ) → (view disk).since (view disk).moment c → (view disk).images c) → IsKept form (view disk).images journal (lines_of_history h) (lines_of_history begun)
      → LeavesOnly view disk disk (IsAroundFor form h (risked until begun a))
  idle_with until disk form journal h begun a none only kept =
      moments_with until disk disk form h begun a (line_of_command a) refl
      (started view disk (IsAround form (lines_of_history h) (risked until (lines_of_history begun) (line_of_command a)))
      (λ c left. rest_at_risk until form (view disk).images journal (lines_of_history h) (lines_of_history begun) (line_of_command a) none kept c (only c left)))

  pub idle_risked : (until : Until) (disk : D) (form : Form) (e : EngineState) (a : Accepted) → (until ≡ Kept → e.journal.begun ≡ None)
      → ((c : List ℕ) → (view disk).since (view disk).moment c → (view disk).images c) → IsRunningIn form (view disk).images e
      → LeavesOnly view disk disk (IsAroundFor form (kept_of e) (risked until (begun_of e) a))
  idle_risked until disk form e a none only r = idle_with until disk form e.journal (kept_of e) (begun_of e) a none only r

-- ---- of an engine

pub rest_risked : (until : Until) (images : List ℕ → Type 0) (form : Form) (e : EngineState) (a : Accepted) → (until ≡ Kept → e.journal.begun ≡ None) → IsRunningIn form images e
    → Each images (IsAroundFor form (kept_of e) (risked until (begun_of e) a))
rest_risked until images form e a none r =
    subst (λ x. Each images (IsAround form (lines_of_history (kept_of e)) x)) (sym (risked_lines until (begun_of e) a))
    (rest_at_risk until form images e.journal (lines_of_history (kept_of e)) (lines_of_history (begun_of e)) (line_of_command a) none r)

pub enter_running : (until : Until) (form : Form) (images : List ℕ → Type 0) (old new : EngineState) (a : Accepted) → new.history ≡ old.history ++ a ∷ []
    → IsKept form images new.journal (lines_of_history (kept_after until (kept_of old ++ begun_of old) a)) (lines_of_history (begun_after until a)) → IsRunningIn form images new
enter_running Begun form images old new a more kept = begin_running form images old new a more kept
enter_running Kept form images old new a more kept =
    durable_is_running form images new (subst (λ x. IsKept form images new.journal (lines_of_history x) []) (ap (λ x. x ++ a ∷ []) (kept_and_begun old) ∙ sym more) kept)

pub enter_parts : (until : Until) (form : Form) (images : List ℕ → Type 0) (old new : EngineState) (a : Accepted) → new.history ≡ old.history ++ a ∷ []
    → IsKept form images new.journal (lines_of_history (kept_after until (kept_of old ++ begun_of old) a)) (lines_of_history (begun_after until a))
    → (kept_of new ≡ kept_after until old.history a) × (begun_of new ≡ begun_after until a)
enter_parts Begun form images old new a more kept = begin_parts form images old new a more kept
enter_parts Kept form images old new a more kept = (none_kept_of new kept.gate ∙ more, none_begun_of new kept.gate)

pub enter_none : (until : Until) (form : Form) (images : List ℕ → Type 0) (journal : JournalState) (lines : List (List ℕ)) (a : Accepted)
    → IsKept form images journal lines (lines_of_history (begun_after until a)) → until ≡ Kept → journal.begun ≡ None
enter_none Begun form images journal lines a kept is = absurd (let no_way : ⊥ = cc in no_way)
enter_none Kept form images journal lines a kept is = kept.gate

-- where none is begun the disk has the history
pub running_durable : (form : Form) (images : List ℕ → Type 0) (e : EngineState) → e.journal.begun ≡ None → IsRunningIn form images e → IsDurableIn form images e
running_durable form images e none r =
    subst (λ x. IsKept form images e.journal (lines_of_history x) []) (none_kept_of e none)
    (subst (λ x. IsKept form images e.journal (lines_of_history (kept_of e)) (lines_of_history x)) (none_begun_of e none) r)
