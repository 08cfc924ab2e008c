-- Records of version 2, written after a part of version 1.
use Rattle.std.proofs.Common.{◌≡◌, ◌≢◌, ◌⊎◌, ℕ, ◌+◌, ◌<◌, ◌≤◌, List, [], ◌∷◌, ◌++◌, Some, length, get_or, take, refl, sym, ap, subst, ◌∙◌, inl, inr, ⊎_elim, arith, append_assoc, length-append, zero, suc}
use Rattle.std.proofs.lemmas.Bool.Decides.{nat_tests}
use Rattle.std.proofs.lemmas.List.{append-nil, take_more, length-take-le}
use Rattle.serv_disk.specs.Disks.{Holds, Told, Each, LeavesOnly, View}
use Rattle.serv_disk.proofs.Moments.{joined}
use Rattle.serv_journal.specs.declared.format.Version.{Version}
use Rattle.serv_journal.specs.declared.format.Version.TheVariants.{One, Two}
use Rattle.serv_journal.specs.Bytes.{Starts, IsOpening}
use Rattle.serv_journal.specs.Format.{Form, IsForm, IsFront, IsLine, AreLines, base, body, records, header, commit_at, laid, rewritten, upgraded_form}
use Rattle.serv_journal.specs.States.{JournalState, StandsFor}
use Rattle.serv_journal.specs.Disks.{IsWholeIn, IsWhole}
use Rattle.serv_journal.proofs.PutLemmas.{told_after, told_reaches}
use Rattle.serv_journal.proofs.FormatLemmas.{records_push, closed_starts, length_of_body}

pub line_is : (lines : List (List ℕ)) (i : ℕ) → i < length lines → AreLines lines → IsLine (get_or lines i [])
line_is [] i less fit = absurd (omega (arith, less))
line_is (x ∷ xs) zero less fit = fit.0
line_is (x ∷ xs) (suc i) less fit = line_is xs i (omega arith) fit.1

header_long : length (header Two) ≡ 8
unfolding header
header_long = refl

pub laid_long : (lines : List (List ℕ)) (i : ℕ) → length (laid lines i) ≡ 9 + length (records Two 1 (take i lines))
laid_long lines i = omega (arith, header_long, length-append (header Two ++ records Two 1 (take i lines)) (commit_at i (length lines) ∷ []), length-append (header Two) (records Two 1 (take i lines)))

records_more : (lines : List (List ℕ)) (i : ℕ) → i < length lines → records Two 1 (take (i + 1) lines) ≡ records Two 1 (take i lines) ++ 1 ∷ body Two (i + 1) (get_or lines i [])
records_more lines i less =
    let e : 1 + length (take i lines) ≡ i + 1 = omega (arith, length-take-le i lines (omega arith)) in
    ap (records Two 1) (take_more lines i [] less) ∙ (records_push Two 1 (take i lines) (get_or lines i [])
    ∙ ap (λ n. records Two 1 (take i lines) ++ 1 ∷ body Two n (get_or lines i [])) e)

pub records_more_long : (lines : List (List ℕ)) (i : ℕ) → i < length lines
    → length (records Two 1 (take (i + 1) lines)) ≡ length (records Two 1 (take i lines)) + (7 + length (get_or lines i []))
records_more_long lines i less =
    omega (arith, ap length (records_more lines i less), length-append (records Two 1 (take i lines)) (1 ∷ body Two (i + 1) (get_or lines i [])), length_of_body Two (i + 1) (get_or lines i []))

commit_open : (i count : ℕ) → i < count → commit_at i count ≡ 1
commit_open i count less = grind (arith, nat_tests)

-- one record more after an open commit byte
pub laid_more : (lines : List (List ℕ)) (line : List ℕ) (i number next : ℕ) → i < length lines → line ≡ get_or lines i [] → number ≡ i + 1 → next ≡ commit_at (i + 1) (length lines)
    → laid lines i ++ (body Two number line ++ next ∷ []) ≡ laid lines (i + 1)
laid_more lines line i number next less line_at number_at next_at =
    let now : List ℕ = records Two 1 (take i lines) in
    let l : List ℕ = get_or lines i [] in
    let last : ℕ = commit_at (i + 1) (length lines) in
    let content : body Two number line ++ next ∷ [] ≡ body Two (i + 1) l ++ last ∷ [] =
    ap (λ n. body Two n line ++ next ∷ []) number_at ∙ (ap (λ x. body Two (i + 1) x ++ next ∷ []) line_at ∙ ap (λ b. body Two (i + 1) l ++ b ∷ []) next_at) in
    let opened : laid lines i ≡ header Two ++ now ++ 1 ∷ [] = ap (λ b. header Two ++ now ++ b ∷ []) (commit_open i (length lines) less) in
    let spread : (header Two ++ now ++ 1 ∷ []) ++ (body Two (i + 1) l ++ last ∷ []) ≡ header Two ++ (now ++ 1 ∷ body Two (i + 1) l) ++ last ∷ [] =
    simp append_assoc in
    let joined : laid lines i ++ (body Two number line ++ next ∷ []) ≡ laid lines (i + 1) =
    ap (λ x. x ++ (body Two number line ++ next ∷ [])) opened ∙ (ap (λ x. (header Two ++ now ++ 1 ∷ []) ++ x) content ∙ (spread
    ∙ ap (λ x. header Two ++ x ++ last ∷ []) (sym (records_more lines i less)))) in
    joined

pub records_part : (lines : List (List ℕ)) (number i : ℕ) → length (records Two number (take i lines)) ≤ length (records Two number lines)
records_part [] number zero = omega arith
records_part [] number (suc i) = omega arith
records_part (x ∷ xs) number zero = omega arith
records_part (x ∷ xs) number (suc i) =
    let more = records_part xs (number + 1) i in
    omega (arith, more, length-append (body Two number x) (records Two (number + 1) (take i xs)), length-append (body Two number x) (records Two (number + 1) xs))

-- the part of version 1, or the part of version 2 after it
spread_base : (known lines_two : List ℕ) (mark : ℕ) → known ++ mark ∷ (header Two ++ lines_two ++ 0 ∷ []) ≡ (known ++ mark ∷ header Two) ++ lines_two ++ 0 ∷ []
spread_base known lines_two mark =
    sym (ap (λ x. x ++ 0 ∷ []) (append_assoc known (mark ∷ header Two) lines_two) ∙ append_assoc known (mark ∷ (header Two ++ lines_two)) (0 ∷ []))

front_one : (version : Version) (front : List ℕ) → IsFront version front → version ≡ One → front ≡ header One
front_one One front is_front one = is_front
front_one Two front is_front one = absurd (let e : ⊥ = cc in e)

zero_or : (n : ℕ) → (n ≡ 0) ⊎ (n ≢ 0)
zero_or zero = inl refl
zero_or (suc n) = inr (λ e. omega (arith, e))

upgraded_front : (form : Form) (lines : List (List ℕ)) (mark : ℕ) → IsForm form → form.version ≡ One → AreLines lines → mark ≢ 0 → IsForm (record { front = base form lines ++ mark ∷ header Two; version = Two })
unfolding base
upgraded_front form lines mark is_form one fit marked =
    let front : form.front ≡ header One = front_one form.version form.front is_form one in
    inr (record {
      lines = lines;
      mark = mark;
      fit = fit;
      marked = marked;
      is = ap (λ (v : Version). form.front ++ records v 1 lines ++ mark ∷ header Two) one ∙ ap (λ x. x ++ records One 1 lines ++ mark ∷ header Two) front;
    })

whole_two : (form : Form) (lines : List (List ℕ)) (mark : ℕ) (file : List ℕ) → Starts (base form lines ++ mark ∷ rewritten lines) file
    → IsWholeIn (record { front = base form lines ++ mark ∷ header Two; version = Two }) lines file
unfolding base
whole_two form lines mark file starts = subst (λ x. Starts x file) (spread_base (form.front ++ records form.version 1 lines) (records Two 1 lines) mark) starts

pub rewritten_two : (form : Form) (lines : List (List ℕ)) (file : List ℕ) → Starts (base form lines ++ 2 ∷ rewritten lines) file → IsWholeIn (upgraded_form form lines) lines file
rewritten_two form lines file starts = whole_two form lines 2 file starts

pub rewritten_whole : (form : Form) (lines : List (List ℕ)) (file : List ℕ) → IsForm form → form.version ≡ One → AreLines lines → IsOpening (base form lines) (rewritten lines) file → IsWhole lines file
rewritten_whole form lines file is_form one fit opening =
    ⊎_elim
    (λ closed. record { form = form; is_form = is_form; whole = closed })
    (λ between. ⊎_elim
    (λ zero_is. record { form = form; is_form = is_form; whole = closed_starts (base form lines) (rewritten lines) file (subst (λ b. Starts (base form lines ++ b ∷ rewritten lines) file) zero_is between.starts) })
    (λ other. record {
      form = record { front = base form lines ++ between.byte ∷ header Two; version = Two };
      is_form = upgraded_front form lines between.byte is_form one fit other;
      whole = whole_two form lines between.byte file between.starts;
    })
    (zero_or between.byte))
    opening

two_long : (known : List ℕ) (lines : List (List ℕ)) → length (base (record { front = known ++ 2 ∷ header Two; version = Two }) lines) ≡ length known + 9 + length (records Two 1 lines)
unfolding base
two_long known lines = omega (arith, header_long, length-append (known ++ 2 ∷ header Two) (records Two 1 lines), length-append known (2 ∷ header Two))

base_two : (form : Form) (lines : List (List ℕ)) → length (base (upgraded_form form lines) lines) ≡ length (base form lines) + 9 + length (records Two 1 lines)
base_two form lines = two_long (base form lines) lines

pub stands_upgraded : (form : Form) (lines : List (List ℕ)) (old new : JournalState) → StandsFor form lines old → form.version ≡ One → new.version ≡ Two → new.count ≡ length lines
    → new.size ≡ old.size + 9 + length (records Two 1 lines) → StandsFor (upgraded_form form lines) lines new
stands_upgraded form lines old new stands one version count size = record {
  is_form = upgraded_front form lines 2 stands.is_form one stands.fit (λ e. omega (arith, e));
  version = version;
  count = count;
  size = omega (arith, size, stands.size, base_two form lines);
  fit = stands.fit;
}

-- the length as far as records have been counted
pub total_more : (lines : List (List ℕ)) (i total start next : ℕ) → i < length lines → total ≡ start + length (records Two 1 (take i lines))
    → next ≡ total + (7 + length (get_or lines i [])) → next ≡ start + length (records Two 1 (take (i + 1) lines))
total_more lines i total start next less so_far next_is = omega (arith, so_far, next_is, records_more_long lines i less)

pub too_long : (lines : List (List ℕ)) (i total start next limit : ℕ) → i < length lines → total ≡ start + length (records Two 1 (take i lines))
    → next ≡ total + (7 + length (get_or lines i [])) → limit < next → limit < start + length (records Two 1 lines)
too_long lines i total start next limit less so_far next_is past =
    omega (arith, past, total_more lines i total start next less so_far next_is, records_part lines 1 (i + 1))

-- a disk that has so many bytes of a part of version 2 laid, as the loop that lays them keeps it
pub record IsLaying {D : Type 0} (view : D → View) (faults : D → ℕ) (size : ℕ) (old new : D) (at : ℕ) (written : List ℕ) : Type 0 where
  pub told : (front : List ℕ) → length front ≡ size → ((s : List ℕ) → (view old).seen ≡ Some s → Starts front s) → (s : List ℕ) → (view new).seen ≡ Some s → Starts (front ++ written) s
  pub reach : (s : List ℕ) → (view new).seen ≡ Some s → at ≤ length s
  pub crash : (front : List ℕ) → length front ≡ size → Each (view old).images (Starts front) → Each (view new).images (Starts front)
  pub moments : (front : List ℕ) → length front ≡ size → Each (view old).images (Starts front) → LeavesOnly view old new (Starts front)
  pub later : faults old ≤ faults new

module _ {D : Type 0} (view : D → View) (faults : D → ℕ) where
  -- the first piece
  pub laying_first : (size at : ℕ) (old new : D) (bytes : List ℕ) → ((s : List ℕ) → (view old).seen ≡ Some s → size ≤ length s) → Told (view old).seen (view new).seen (Holds size bytes)
      → ((front : List ℕ) → length front ≤ size → Each (view old).images (Starts front) → Each (view new).images (Starts front))
      → ((front : List ℕ) → length front ≤ size → Each (view old).images (Starts front) → LeavesOnly view old new (Starts front))
      → faults old ≤ faults new → at ≤ size + length bytes → IsLaying view faults size old new at bytes
  laying_first size at old new bytes reach told crash moments later less = record {
    told = λ front long starts. told_after (view old).seen (view new).seen front bytes size long starts told;
    reach = told_reaches (view old).seen (view new).seen bytes size at reach told less;
    crash = λ front long each. crash front (omega arith) each;
    moments = λ front long each. moments front (omega arith) each;
    later = later;
  }

  -- a further piece
  pub laying_more : (size at next : ℕ) (old mid new : D) (written bytes : List ℕ) → IsLaying view faults size old mid at written
      → at ≡ size + length written → Told (view mid).seen (view new).seen (Holds at bytes)
      → ((front : List ℕ) → length front ≤ at → Each (view mid).images (Starts front) → Each (view new).images (Starts front))
      → ((front : List ℕ) → length front ≤ at → Each (view mid).images (Starts front) → LeavesOnly view mid new (Starts front))
      → faults mid ≤ faults new → next ≤ at + length bytes → IsLaying view faults size old new next (written ++ bytes)
  laying_more size at next old mid new written bytes so_far place told crash moments later less = record {
    told = λ front long starts s is. subst (λ x. Starts x s) (append_assoc front written bytes)
        (told_after (view mid).seen (view new).seen (front ++ written) bytes at (omega (arith, long, place, length-append front written)) (so_far.told front long starts) told s is);
    reach = told_reaches (view mid).seen (view new).seen bytes at next so_far.reach told less;
    crash = λ front long each. crash front (omega (arith, long, place)) (so_far.crash front long each);
    moments = λ front long each. joined view old mid new (Starts front) (so_far.moments front long each) (moments front (omega (arith, long, place)) (so_far.crash front long each));
    later = omega (arith, so_far.later, later);
  }

-- the first piece is the header and the commit byte after it
pub laid_first : (lines : List (List ℕ)) (next count : ℕ) → next ≡ commit_at 0 count → count ≡ length lines → header Two ++ next ∷ [] ≡ laid lines 0
laid_first lines next count next_is count_is =
    ap (λ x. x ++ next ∷ []) (sym (append-nil (header Two))) ∙ ap (λ b. header Two ++ [] ++ b ∷ []) (next_is ∙ ap (commit_at 0) count_is)
