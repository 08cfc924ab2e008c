-- Records accepted one after another.
use Rattle.std.proofs.Common.{◌≡◌, ◌⊎◌, ℕ, ◌+◌, ◌<◌, ◌≤◌, List, [], ◌∷◌, ◌++◌, length, take, drop, inl, inr, ⊎_elim, refl, sym, ap, ◌∙◌, arith, append_assoc, append-nil}
use Rattle.std.specs.Prelude.{slice_index, slice_index_or, Result, Ok, Err, OnOk, OnErr}
use Rattle.std.proofs.lemmas.List.{take_more, take_all, drop_more, take-append-drop, length-take-le, length-map}
use Rattle.svc_types.specs.declared.requests.Command.{Command}
use Rattle.svc_world.specs.World.{Accepted, accepted}
use Rattle.svc_world.specs.Judging.{IsHistory}
use Rattle.svc_core.specs.Bound.{step_bound}
use Rattle.serv_journal.specs.Reading.{lines_in, places_in}
use Rattle.serv_journal.proofs.ScanLemmas.{length_lines_in}
use Rattle.serv_engine.specs.declared.fault.EngineFault.{EngineFault}
use Rattle.serv_engine.specs.declared.fault.EngineFault.TheVariants as fault
use Rattle.serv_engine.specs.Histories.{line_of_command, lines_of_history}
use Rattle.serv_engine.specs.Opening.{IsNext, IsUnfit, IsUnfitFrame, IsReplayFault, IsLineWithin, IsRestWithin, AreLinesWithin, history_bound}
use Rattle.serv_engine.proofs.HistoryLines.{lines_push}

-- ---- steps

bound_from : (done h : List Accepted) (a : Accepted) → history_bound done (h ++ a ∷ []) ≡ history_bound done h + step_bound (done ++ h) a.key a.command
bound_from done [] a =
    let same = ap (λ x. step_bound x a.key a.command) (append-nil done) in
    omega (arith, same)
bound_from done (x ∷ h) a =
    let rest = bound_from (done ++ x ∷ []) h a in
    let same = ap (λ y. step_bound y a.key a.command) (append_assoc done (x ∷ []) h) in
    omega (arith, rest, same)

pub bound_push : (h : List Accepted) (a : Accepted) → history_bound [] (h ++ a ∷ []) ≡ history_bound [] h + step_bound h a.key a.command
bound_push h a = bound_from [] h a

-- ---- one record more

pub next_lines : (frames : List (ℕ × List ℕ)) (i : ℕ) (line : List ℕ) (old new : List Accepted) → lines_of_history old ≡ take i (lines_in frames) → i < length frames
    → line ≡ slice_index_or (lines_in frames) i [] → IsNext line old new → lines_of_history new ≡ take (i + 1) (lines_in frames)
next_lines frames i line old new so_far less line_is n =
    let lines : List (List ℕ) = lines_in frames in
    let within : i < length lines = omega (arith, length_lines_in frames, less) in
    ap lines_of_history n.more ∙ (lines_push old n.command
    ∙ (ap (λ l. l ++ line_of_command n.command ∷ []) so_far
    ∙ (ap (λ x. take i lines ++ x ∷ []) (sym n.is ∙ line_is) ∙ sym (take_more lines i [] within))))

pub unfit_frame : (frames : List (ℕ × List ℕ)) (i place : ℕ) (line : List ℕ) (h : List Accepted) → IsHistory h → lines_of_history h ≡ take i (lines_in frames) → i < length frames
    → place ≡ slice_index (places_in frames) i → line ≡ slice_index_or (lines_in frames) i [] → IsUnfit h line → IsUnfitFrame place frames
unfit_frame frames i place line h is so_far less place_is line_is unfit =
    let lines : List (List ℕ) = lines_in frames in
    let within : i < length lines = omega (arith, length_lines_in frames, less) in
    let count : i ≡ length h = sym (sym (length-map h line_of_command) ∙ (ap length so_far ∙ length-take-le i lines (omega (arith, within)))) in
    record {
      history = h;
      line = line;
      more = drop (i + 1) lines;
      is_history = is;
      are = sym (take-append-drop i lines) ∙ (ap (λ x. x ++ drop i lines) (sym so_far)
          ∙ (ap (λ x. lines_of_history h ++ x) (drop_more lines i [] within) ∙ ap (λ x. lines_of_history h ++ x ∷ drop (i + 1) lines) (sym line_is)));
      at = place_is ∙ ap (slice_index (places_in frames)) count;
      unfit = unfit;
    }

pub all_lines : (frames : List (ℕ × List ℕ)) (i : ℕ) (h : List Accepted) → lines_of_history h ≡ take i (lines_in frames) → length frames ≤ i → lines_of_history h ≡ lines_in frames
all_lines frames i h so_far all = so_far ∙ take_all i (lines_in frames) (omega (arith, length_lines_in frames, all))

pub more_bound : (old new : List Accepted) (key : List ℕ) (c : Command) (s s' : ℕ) → new ≡ old ++ accepted key c ∷ [] → s' ≤ s + step_bound old key c
    → s' + history_bound [] old ≤ s + history_bound [] new
more_bound old new key c s s' more le = omega (arith, le, ap (history_bound []) more, bound_push old (accepted key c))

-- a fact of an Ok gives another
pub on_ok : {T E : Type 0} (r : Result T E) (P Q : Type 0) → OnOk r P → (P → Q) → OnOk r Q
on_ok (Ok x) P Q p then = then p
on_ok (Err e) P Q p then = p

-- the fault of a record is one of reading all
pub replay_fault : (frames : List (ℕ × List ℕ)) (i place : ℕ) (line : List ℕ) (h : List Accepted) (f : EngineFault) → IsHistory h → lines_of_history h ≡ take i (lines_in frames) → i < length frames
    → place ≡ slice_index (places_in frames) i → line ≡ slice_index_or (lines_in frames) i [] → (f ≡ fault.OutOfMemory) ⊎ ((f ≡ fault.Damaged place) × IsUnfit h line) → IsReplayFault frames f
replay_fault frames i place line h f is so_far less place_is line_is which =
    ⊎_elim (λ memory. inl memory) (λ more. inr (place, more.0, unfit_frame frames i place line h is so_far less place_is line_is more.1)) which

-- ---- steps at a fault

pub on_any_err : {T E : Type 0} (r : Result T E) (P : Type 0) → P → OnErr r P
on_any_err (Ok x) P p = tt
on_any_err (Err e) P p = p

rest_within : (h : List Accepted) (line : List ℕ) (more : List (List ℕ)) (base old new : ℕ) → old ≤ base → IsLineWithin h line old new → IsRestWithin h (line ∷ more) base new
rest_within h line more base old new least which =
    ⊎_elim
    (λ none. inl (let le : new ≤ base = omega (arith, none, least) in le))
    (λ next. inr (next.0, next.1, let le : new ≤ base + step_bound h next.0.key next.0.command = omega (arith, next.2, least) in le))
    which

-- a record that is refused
pub lines_within : (frames : List (ℕ × List ℕ)) (i : ℕ) (line : List ℕ) (h : List Accepted) (old mid new : ℕ) → lines_of_history h ≡ take i (lines_in frames) → i < length frames
    → line ≡ slice_index_or (lines_in frames) i [] → mid ≤ old + history_bound [] h → IsLineWithin h line mid new → AreLinesWithin (lines_in frames) old new
lines_within frames i line h old mid new so_far less line_is bound within =
    let lines : List (List ℕ) = lines_in frames in
    let there : i < length lines = omega (arith, length_lines_in frames, less) in
    record {
      history = h;
      more = line ∷ drop (i + 1) lines;
      are = sym (take-append-drop i lines) ∙ (ap (λ x. x ++ drop i lines) (sym so_far)
          ∙ (ap (λ x. lines_of_history h ++ x) (drop_more lines i [] there) ∙ ap (λ x. lines_of_history h ++ x ∷ drop (i + 1) lines) (sym line_is)));
      rest = rest_within h line (drop (i + 1) lines) (old + history_bound [] h) mid new bound within;
    }

-- nothing was read
pub none_within : (lines : List (List ℕ)) (old : ℕ) → AreLinesWithin lines old old
none_within lines old = record { history = []; more = lines; are = refl; rest = first lines }
  where
    first : (lines : List (List ℕ)) → IsRestWithin [] lines (old + history_bound [] []) old
    first [] = omega arith
    first (line ∷ more) = inl (omega arith)

-- all was read
pub all_within : (lines : List (List ℕ)) (h : List Accepted) (old new : ℕ) → lines_of_history h ≡ lines → new ≤ old + history_bound [] h → AreLinesWithin lines old new
all_within lines h old new are bound = record { history = h; more = []; are = sym (append-nil (lines_of_history h) ∙ are); rest = bound }
