-- A file is read in one way; and what an engine finds in it.
use Rattle.std.proofs.Common.{◌≡◌, ◌⊎◌, ℕ, ◌+◌, List, [], ◌∷◌, ◌++◌, length, sym, ap, subst, ◌∙◌, inl, inr, ⊎_elim, arith, length-append}
use Rattle.std.specs.Prelude.{slice_index, Option}
use Rattle.std.proofs.lemmas.List.{length-map}
use Rattle.svc_world.specs.World.{Accepted}
use Rattle.svc_world.specs.Judging.{IsHistory}
use Rattle.serv_journal.specs.declared.format.Version.{Version}
use Rattle.serv_journal.specs.declared.format.Version.TheVariants.{One, Two}
use Rattle.serv_journal.specs.Format.{Form, base, body, records, header}
use Rattle.serv_journal.specs.States.{JournalState}
use Rattle.serv_journal.specs.Disks.{IsGood}
use Rattle.serv_journal.specs.Reading.{lines_in, places_in, placed, IsMark, IsRead, IsOpened, IsNoJournal}
use Rattle.serv_journal.proofs.UniqueLemmas.{NoMark, Same, same_found, closed_no_record}
use Rattle.serv_journal.proofs.ExactLemmas.{read_or_damaged, form_or_none, good_lines}
use Rattle.serv_engine.specs.Histories.{line_of_command, lines_of_history}
use Rattle.serv_engine.specs.Opening.{IsUnfitFrame, IsUnfitAt, IsDamagedAt, IsTooLong, IsFound}
use Rattle.serv_engine.proofs.HistoryLines.{are_lines, command_is_line, lines_push, same_history, history_front, history_last}
use Rattle.serv_engine.proofs.LengthLemmas.{long_base}
use Rattle.serv_engine.proofs.UnfitLemmas.{unfit_once, no_unfit}

-- ---- one reading

cons_parts : (a b : ℕ) (r t : List ℕ) → a ∷ r ≡ b ∷ t → (a ≡ b) × (r ≡ t)
cons_parts a b r t is = (cc, cc)

no_mark : (version : Version) (commit : ℕ) (rest : List ℕ) → (version ≡ One → IsMark commit rest → ⊥) → NoMark version (commit ∷ rest)
no_mark version commit rest unmarked mark more one marked is =
    let parts = cons_parts commit mark rest (header Two ++ more) is in
    unmarked one ((λ zero_is. marked (sym parts.0 ∙ zero_is)), record { tail = more; is = parts.1 })

pub read_once : (f g : Form) (xs ys : List (List ℕ)) (c d : ℕ) (r t file : List ℕ) → IsRead f xs c r file → IsRead g ys d t file → Same f g xs ys (c ∷ r) (d ∷ t)
read_once f g xs ys c d r t file a b =
    same_found f g xs ys (c ∷ r) (d ∷ t) a.is_form b.is_form a.fit b.fit
    (closed_no_record f.version (1 + length xs) c r a.closed) (closed_no_record g.version (1 + length ys) d t b.closed)
    (no_mark f.version c r a.unmarked) (no_mark g.version d t b.unmarked) (sym a.is ∙ b.is)

-- ---- the place of a record

place_at : (version : Version) (at number : ℕ) (xs : List (List ℕ)) (line : List ℕ) (more : List (List ℕ))
    → slice_index (places_in (placed version at number (xs ++ line ∷ more))) (length xs) ≡ at + length (records version number xs)
place_at version at number [] line more = omega arith
place_at version at number (x ∷ xs) line more =
    omega (arith, place_at version (at + 1 + length (body version number x)) (number + 1) xs line more, length-append (body version number x) (records version (number + 1) xs))

-- a record that is no further command, in the file
pub unfit_file : (told : Option (List ℕ)) (journal : JournalState) (frames : List (ℕ × List ℕ)) (s : List ℕ) (place : ℕ) → IsOpened told journal frames s → IsUnfitFrame place frames → IsUnfitAt place s
unfit_file told journal frames s place o u =
    let hist : List (List ℕ) = lines_of_history u.history in
    let form : Form = o.form in
    let count : length u.history ≡ length hist = sym (length-map u.history line_of_command) in
    let here = place_at form.version (length form.front) 1 hist u.line u.more in
    let frames_are : frames ≡ placed form.version (length form.front) 1 (hist ++ u.line ∷ u.more) = o.places ∙ ap (placed form.version (length form.front) 1) u.are in
    let found : place ≡ slice_index (places_in (placed form.version (length form.front) 1 (hist ++ u.line ∷ u.more))) (length hist) =
    u.at ∙ (ap (λ f. slice_index (places_in f) (length u.history)) frames_are
    ∙ ap (λ n. slice_index (places_in (placed form.version (length form.front) 1 (hist ++ u.line ∷ u.more))) n) count) in
    record {
      form = form;
      commit = o.commit;
      rest = o.rest;
      history = u.history;
      line = u.line;
      more = u.more;
      is_history = u.is_history;
      read = subst (λ l. IsRead form l o.commit o.rest s) u.are o.read;
      at = found ∙ (here ∙ sym (long_base form hist));
      unfit = u.unfit;
    }

-- ---- a file is found in one way

pub found_or_unfit : (form : Form) (h : List Accepted) (commit : ℕ) (rest s : List ℕ) (place : ℕ) → IsHistory h → IsRead form (lines_of_history h) commit rest s → IsUnfitAt place s → ⊥
found_or_unfit form h commit rest s place is read u =
    let same = read_once form u.form (lines_of_history h) (lines_of_history u.history ++ u.line ∷ u.more) commit u.commit rest u.rest s read u.read in
    no_unfit [] h u.history u.line u.more is.formed is.fresh u.is_history.formed u.is_history.fresh same.lines u.unfit

pub unfit_place : (s : List ℕ) (place other : ℕ) → IsUnfitAt place s → IsUnfitAt other s → place ≡ other
unfit_place s place other u v =
    let same = read_once u.form v.form (lines_of_history u.history ++ u.line ∷ u.more) (lines_of_history v.history ++ v.line ∷ v.more) u.commit v.commit u.rest v.rest s u.read v.read in
    let hist : u.history ≡ v.history = unfit_once [] u.history v.history u.line v.line u.more v.more u.is_history.formed u.is_history.fresh v.is_history.formed v.is_history.fresh same.lines u.unfit v.unfit in
    u.at ∙ (ap (λ (f : Form). length (base f (lines_of_history u.history))) same.form ∙ (ap (λ h. length (base v.form (lines_of_history h))) hist ∙ sym v.at))

-- what is read is not damaged
pub read_or_damage : (form : Form) (h : List Accepted) (commit : ℕ) (rest s : List ℕ) (place : ℕ) → IsHistory h → IsRead form (lines_of_history h) commit rest s → IsDamagedAt place s → ⊥
read_or_damage form h commit rest s place is read damaged =
    ⊎_elim
    (λ journal. read_or_damaged form (lines_of_history h) commit rest s place read journal)
    (λ unfit. found_or_unfit form h commit rest s place is read unfit)
    damaged

pub read_or_none : (form : Form) (lines : List (List ℕ)) (commit : ℕ) (rest s : List ℕ) → IsRead form lines commit rest s → IsNoJournal s → ⊥
read_or_none form lines commit rest s read none = form_or_none form lines (commit ∷ rest) s read.is_form read.is none

-- a file whose version 2 would pass the limit
pub long_or_found : (limit size long_now : ℕ) (s : List ℕ) (h : List Accepted) → IsTooLong limit size s → IsFound limit long_now h s → ⊥
long_or_found limit size long_now s h long found =
    let same = read_once long.form found.form (lines_of_history long.history) (lines_of_history h) long.commit found.commit long.rest found.rest s long.read found.read in
    let version : found.form.version ≡ One = ap (λ (f : Form). f.version) (sym same.form) ∙ long.old in
    let base_is : length (base long.form (lines_of_history long.history)) ≡ length (base found.form (lines_of_history h)) =
    ap (λ (f : Form). length (base f (lines_of_history long.history))) same.form ∙ ap (λ l. length (base found.form l)) same.lines in
    let recs : length (records Two 1 (lines_of_history long.history)) ≡ length (records Two 1 (lines_of_history h)) = ap (λ l. length (records Two 1 l)) same.lines in
    omega (arith, long.past, found.room version, long.size_is, base_is, recs)

-- ---- what a good disk holds

pub which_lines : (told : Option (List ℕ)) (journal : JournalState) (frames : List (ℕ × List ℕ)) (s : List ℕ) (h : List Accepted) (a : Accepted)
    → IsHistory (h ++ a ∷ []) → IsGood (lines_of_history h) (line_of_command a) s → IsOpened told journal frames s
    → (lines_in frames ≡ lines_of_history h) ⊎ (lines_in frames ≡ lines_of_history h ++ line_of_command a ∷ [])
which_lines told journal frames s h a is good o =
    let last = history_last h a is in
    good_lines o.form (lines_of_history h) (lines_in frames) (line_of_command a) o.commit o.rest s
    (are_lines h (history_front h a is).formed) (command_is_line a last.0 last.1) good o.read

pub which_history : (h k : List Accepted) (a : Accepted) → IsHistory (h ++ a ∷ []) → IsHistory k
    → (lines_of_history k ≡ lines_of_history h) ⊎ (lines_of_history k ≡ lines_of_history h ++ line_of_command a ∷ []) → (k ≡ h) ⊎ (k ≡ h ++ a ∷ [])
which_history h k a is ks which =
    ⊎_elim
    (λ same. inl (same_history k h ks.formed (history_front h a is).formed same))
    (λ more. inr (same_history k (h ++ a ∷ []) ks.formed is.formed (more ∙ sym (lines_push h a))))
    which
