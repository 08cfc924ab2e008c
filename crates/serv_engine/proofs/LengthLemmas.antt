-- The length of a journal of version 2, by its history.
use Rattle.std.proofs.Common.{◌≡◌, ℕ, ◌+◌, List, [], ◌∷◌, ◌++◌, length, refl, sym, ap, ◌∙◌, arith, length-append}
use Rattle.std.proofs.lemmas.List.Sums.{sum_by-cons}
use Rattle.svc_world.specs.World.{Accepted}
use Rattle.serv_journal.specs.declared.format.Version.{Version}
use Rattle.serv_journal.specs.declared.format.Version.TheVariants.{One, Two}
use Rattle.serv_journal.specs.Format.{Form, base, body, records, header, upgraded_form}
use Rattle.serv_journal.specs.States.{JournalState, StandsFor}
use Rattle.serv_journal.proofs.FormatLemmas.{length_of_body}
use Rattle.serv_journal.proofs.BegunLemmas.{stands_all}
use Rattle.serv_engine.specs.Histories.{line_of_command, lines_of_history, record_length, lengths_of}
use Rattle.serv_engine.specs.Engines.{EngineState, IsDurable}
use Rattle.serv_engine.specs.Opening.{length_before, base_length}

-- the records of a history in version 2
pub records_long : (number : ℕ) (h : List Accepted) → length (records Two number (lines_of_history h)) ≡ lengths_of h
records_long number [] = refl
records_long number (a ∷ h) =
    let line : List ℕ = line_of_command a in
    let more : List ℕ = records Two (number + 1) (lines_of_history h) in
    let rest : length more ≡ lengths_of h = records_long (number + 1) h in
    let one : length (body Two number line) ≡ 6 + length line = length_of_body Two number line in
    let both : length (body Two number line ++ more) ≡ length (body Two number line) + length more = length-append (body Two number line) more in
    let whole : length (records Two number (lines_of_history (a ∷ h))) ≡ 1 + length (body Two number line ++ more) = omega arith in
    let sums : lengths_of (a ∷ h) ≡ record_length a + lengths_of h = sum_by-cons record_length a h in
    omega (arith, rest, one, both, whole, sums)

pub long_base : (form : Form) (lines : List (List ℕ)) → length (base form lines) ≡ length form.front + length (records form.version 1 lines)
unfolding base
long_base form lines = length-append form.front (records form.version 1 lines)

-- a journal of version 2 that has a history
pub size_of : (form : Form) (h : List Accepted) (j : JournalState) → StandsFor form (lines_of_history h) j → j.version ≡ Two → j.size ≡ (length form.front + 1) + lengths_of h
size_of form h j stands two =
    let version : form.version ≡ Two = sym stands.version ∙ two in
    let recs : length (records form.version 1 (lines_of_history h)) ≡ lengths_of h = ap (λ (v : Version). length (records v 1 (lines_of_history h))) version ∙ records_long 1 h in
    let long = long_base form (lines_of_history h) in
    let size = stands.size in
    omega (arith, size, long, recs)

-- with another history in the same form
pub size_grows : (form : Form) (h k : List Accepted) (old new : JournalState) → StandsFor form (lines_of_history h) old → StandsFor form (lines_of_history k) new → old.version ≡ Two → new.version ≡ Two
    → (place : ℕ) → old.size ≡ place + lengths_of h → new.size ≡ place + lengths_of k
size_grows form h k old new so si two still place is =
    let before = size_of form h old so two in
    let later = size_of form k new si still in
    omega (arith, before, later, is)

-- so a journal of version 2 has a part that does not grow, and the records of its history
pub journal_base : (images : List ℕ → Type 0) (e : EngineState) → IsDurable images e → e.journal.version ≡ Two → (place : ℕ) × (e.journal.size ≡ place + lengths_of e.history)
journal_base images e durable two = (length durable.form.front + 1, size_of durable.form e.history e.journal (stands_all durable.form (lines_of_history e.history) e.journal durable.kept.stands) two)

-- ---- a journal that was found

header_long : length (header Two) ≡ 8
unfolding header
header_long = refl

pub size_upgraded : (form : Form) (lines : List (List ℕ)) (j : JournalState) → form.version ≡ One → StandsFor (upgraded_form form lines) lines j → j.size ≡ base_length form lines + length (records Two 1 lines)
size_upgraded form lines j one stands =
    let before : base_length form lines ≡ length (base form lines) + 10 = ap (λ (v : Version). length_before v form lines) one in
    let long : length (base (upgraded_form form lines) lines) ≡ length (base form lines ++ 2 ∷ header Two) + length (records Two 1 lines) = long_base (upgraded_form form lines) lines in
    let front : length (base form lines ++ 2 ∷ header Two) ≡ length (base form lines) + length (2 ∷ header Two) = length-append (base form lines) (2 ∷ header Two) in
    let nine : length (2 ∷ header Two) ≡ 9 = omega (arith, header_long) in
    let size = stands.size in
    omega (arith, size, before, long, front, nine)

pub size_found : (form : Form) (lines : List (List ℕ)) (j : JournalState) → j.version ≡ Two → StandsFor form lines j → j.size ≡ base_length form lines + length (records Two 1 lines)
size_found form lines j two stands =
    let version : form.version ≡ Two = sym stands.version ∙ two in
    let before : base_length form lines ≡ length form.front + 1 = ap (λ (v : Version). length_before v form lines) version in
    let recs : length (records form.version 1 lines) ≡ length (records Two 1 lines) = ap (λ (v : Version). length (records v 1 lines)) version in
    let long = long_base form lines in
    let size = stands.size in
    omega (arith, size, before, recs, long)
