-- A file is read, or is damaged at one place, or is no journal; and what is read of a file that is good for some lines.
use Rattle.std.proofs.Common.{◌≡◌, ◌≢◌, ◌⊎◌, ℕ, ◌+◌, ◌*◌, ◌<◌, ◌≤◌, List, [], ◌∷◌, ◌++◌, Option, Some, None, length, drop, refl, sym, ap, subst, ◌∙◌, inl, inr, ⊎_elim, arith, append_assoc, length-append}
use Rattle.std.proofs.lemmas.List.{drop_at, append-nil}
use Rattle.serv_images.specs.CutShort.{TornAt}
use Rattle.serv_disk.specs.Disks.{Only, After}
use Rattle.serv_journal.specs.declared.format.Version.{Version}
use Rattle.serv_journal.specs.declared.format.Version.TheVariants.{One, Two}
use Rattle.serv_journal.specs.Bytes.{Starts, Between}
use Rattle.serv_journal.specs.Format.{Form, IsForm, IsFront, IsLine, AreLines, base, body, records, header, two_bytes, four_bytes, head_size}
use Rattle.serv_journal.specs.States.{JournalState, StandsFor}
use Rattle.serv_journal.specs.Disks.{IsWholeIn, IsTornIn, IsWhole, IsGood, IsDurableFor}
use Rattle.serv_journal.specs.Reading.{lines_in, IsMark, IsRead, IsDamaged, IsBadEnd, IsBadRecord, IsBadLine, IsNoJournal, IsOpened}
use Rattle.serv_journal.specs.Finds.{IsFound, HasForm, IsFindFault}
use Rattle.serv_journal.specs.Outcomes.{IsPassing}
use Rattle.serv_journal.specs.declared.faults.JournalFault.{JournalFault}
use Rattle.serv_journal.specs.declared.faults.JournalFault.TheVariants.{NotJournal, Damaged}
use Rattle.serv_journal.proofs.ByteLemmas.{torn_byte, first_starts}
use Rattle.serv_journal.proofs.FormatLemmas.{between_good, lines_push, closed_starts}
use Rattle.serv_journal.proofs.BegunLemmas.{durable_kept, kept_reaches}
use Rattle.serv_journal.proofs.UniqueLemmas.{NoRecord, NoMark, Same, same_found, closed_no_record, not_header, two_same}
use Rattle.serv_journal.proofs.ScanLemmas.{length_lines_in, records_least}

two_long : (bytes : List ℕ) (n : ℕ) (t : List ℕ) → bytes ≡ two_bytes n ++ t → length bytes ≡ 2 + length t
unfolding two_bytes
two_long bytes n t is = omega (arith, ap length is)

-- bytes that are no length and line are not those of a line
bad_line : (bytes line rest : List ℕ) → IsLine line → bytes ≡ two_bytes (length line) ++ (line ++ rest) → IsBadLine bytes → ⊥
bad_line bytes line rest is_line is bad =
    let long : length bytes ≡ 2 + (length line + length rest) = two_long bytes (length line) (line ++ rest) is ∙ ap (λ n. 2 + n) (length-append line rest) in
    ⊎_elim
    (λ few. omega (arith, few, long))
    (λ b.
    let same = (two_same b.size (length line) b.starts.tail (line ++ rest) (sym b.starts.is ∙ is)).0 in
    ⊎_elim (λ none. omega (arith, none, same, is_line.some))
    (λ more. ⊎_elim (λ big. omega (arith, big, same, is_line.fits)) (λ few. omega (arith, few, same, long)) more)
    b.bad)
    bad

length_four : (n : ℕ) → length (four_bytes n) ≡ 4
unfolding four_bytes
length_four n = refl

length_two : (n : ℕ) → length (two_bytes n) ≡ 2
unfolding two_bytes
length_two n = refl

bad_no_record : (version : Version) (number : ℕ) (bytes line rest : List ℕ) → IsBadRecord version number bytes → IsLine line → bytes ≡ body version number line ++ rest → ⊥
bad_no_record One number bytes line rest bad is_line is = bad_line bytes line rest is_line (is ∙ append_assoc (two_bytes (length line)) line rest) bad.1
bad_no_record Two number bytes line rest bad is_line is =
    let spread : bytes ≡ four_bytes number ++ (two_bytes (length line) ++ (line ++ rest)) =
    is ∙ (append_assoc (four_bytes number ++ two_bytes (length line)) line rest ∙ append_assoc (four_bytes number) (two_bytes (length line)) (line ++ rest)) in
    ⊎_elim
    (λ few. omega (
      arith,
      few,
      ap length spread,
      length-append (four_bytes number) (two_bytes (length line) ++ (line ++ rest)),
      length-append (two_bytes (length line)) (line ++ rest),
      length_four number,
      length_two (length line),
    ))
    (λ more. ⊎_elim
    (λ other. other (record { tail = two_bytes (length line) ++ (line ++ rest); is = spread }))
    (λ bad_rest. bad_line (drop 4 bytes) line rest is_line
    (ap (drop 4) spread ∙ drop_at (four_bytes number) (two_bytes (length line) ++ (line ++ rest)) 4 (length_four number)) bad_rest)
    more)
    bad

cons_parts : (a b : ℕ) (r t : List ℕ) → a ∷ r ≡ b ∷ t → (a ≡ b) × (r ≡ t)
cons_parts a b r t is = (cc, cc)

no_cons : (a : ℕ) (r : List ℕ) → [] ≡ a ∷ r → ⊥
no_cons a r is = let e : ⊥ = cc in e

bad_end_no_record : (version : Version) (number : ℕ) (tail : List ℕ) → IsBadEnd version number tail → NoRecord version number tail
bad_end_no_record version number tail bad line rest is_line is =
    ⊎_elim
    (λ none. no_cons 1 (body version number line ++ rest) (sym none ∙ is))
    (λ more. bad_no_record version number more.0 line rest more.2 is_line (cons_parts 1 1 more.0 (body version number line ++ rest) (sym more.1 ∙ is)).1)
    bad

bad_end_no_mark : (version : Version) (number : ℕ) (tail : List ℕ) → IsBadEnd version number tail → NoMark version tail
bad_end_no_mark One number tail bad mark rest one marked is =
    ⊎_elim
    (λ none. no_cons mark (header Two ++ rest) (sym none ∙ is))
    (λ more. more.2.0 (record { tail = rest; is = (cons_parts 1 mark more.0 (header Two ++ rest) (sym more.1 ∙ is)).1 }))
    bad
bad_end_no_mark Two number tail bad mark rest one marked is = let e : ⊥ = cc in e

read_no_mark : (version : Version) (commit : ℕ) (rest : List ℕ) → (version ≡ One → IsMark commit rest → ⊥) → NoMark version (commit ∷ rest)
read_no_mark version commit rest unmarked mark more one marked is =
    let parts = cons_parts commit mark rest (header Two ++ more) is in
    unmarked one ((λ zero_is. marked (sym parts.0 ∙ zero_is)), record { tail = more; is = parts.1 })

number_of : (lines : List (List ℕ)) → length lines + 1 ≡ 1 + length lines
number_of lines = omega arith

-- a file that is read, and one that is damaged
same_damaged : (form : Form) (lines : List (List ℕ)) (tail file : List ℕ) (place : ℕ) → IsForm form → AreLines lines → NoRecord form.version (1 + length lines) tail → NoMark form.version tail
    → file ≡ base form lines ++ tail → (damaged : IsDamaged place file) → Same form damaged.form lines damaged.lines tail damaged.tail
same_damaged form lines tail file place is_form fit no_record no_mark is damaged =
    let bad = subst (λ n. IsBadEnd damaged.form.version n damaged.tail) (number_of damaged.lines) damaged.bad in
    same_found form damaged.form lines damaged.lines tail damaged.tail is_form damaged.is_form fit damaged.fit no_record
    (bad_end_no_record damaged.form.version (1 + length damaged.lines) damaged.tail bad) no_mark (bad_end_no_mark damaged.form.version (1 + length damaged.lines) damaged.tail bad)
    (sym is ∙ damaged.is)

pub read_or_damaged : (form : Form) (lines : List (List ℕ)) (commit : ℕ) (rest file : List ℕ) (place : ℕ) → IsRead form lines commit rest file → IsDamaged place file → ⊥
read_or_damaged form lines commit rest file place read damaged =
    let same = same_damaged form lines (commit ∷ rest) file place read.is_form read.fit (closed_no_record form.version (1 + length lines) commit rest read.closed)
    (read_no_mark form.version commit rest read.unmarked) read.is damaged in
    ⊎_elim
    (λ none. no_cons commit rest (sym none ∙ sym same.rest))
    (λ more. read.closed (cons_parts commit 1 rest more.0 (same.rest ∙ more.1)).0)
    damaged.bad

pub damaged_once : (file : List ℕ) (place other : ℕ) → IsDamaged place file → IsDamaged other file → place ≡ other
damaged_once file place other one two =
    let bad = subst (λ n. IsBadEnd one.form.version n one.tail) (number_of one.lines) one.bad in
    let same = same_damaged one.form one.lines one.tail file other one.is_form one.fit (bad_end_no_record one.form.version (1 + length one.lines) one.tail bad)
    (bad_end_no_mark one.form.version (1 + length one.lines) one.tail bad) one.is two in
    one.at ∙ (ap (λ (f : Form). length (base f one.lines)) same.form ∙ (ap (λ l. length (base two.form l)) same.lines ∙ sym two.at))

front_some : (version : Version) (front rest : List ℕ) → IsFront version front → IsNoJournal (front ++ rest) → ⊥
front_some One front rest is_front none = none.not_one (record { tail = rest; is = ap (λ x. x ++ rest) is_front })
front_some Two front rest is_front none =
    ⊎_elim
    (λ plain. none.not_two (record { tail = rest; is = ap (λ x. x ++ rest) plain }))
    (λ up. none.not_one (first_starts (header One) (records One 1 up.lines) (front ++ rest)
    (first_starts (header One ++ records One 1 up.lines) (up.mark ∷ header Two) (front ++ rest) (record { tail = rest; is = ap (λ x. x ++ rest) up.is }))))
    is_front

pub form_or_none : (form : Form) (lines : List (List ℕ)) (tail file : List ℕ) → IsForm form → file ≡ base form lines ++ tail → IsNoJournal file → ⊥
unfolding base
form_or_none form lines tail file is_form is none =
    front_some form.version form.front (records form.version 1 lines ++ tail) is_form
    (subst IsNoJournal (is ∙ append_assoc form.front (records form.version 1 lines) tail) none)

-- a torn file has no mark after its lines
torn_no_mark : (version : Version) (number commit : ℕ) (line tail : List ℕ) → IsLine line → NoMark version (commit ∷ ((body version number line ++ 0 ∷ []) ++ tail))
torn_no_mark One number commit line tail is_line mark rest one marked is =
    not_header number line (0 ∷ tail) rest is_line
    (sym (append_assoc (body One number line) (0 ∷ []) tail) ∙ (cons_parts commit mark ((body One number line ++ 0 ∷ []) ++ tail) (header Two ++ rest) is).1)
torn_no_mark Two number commit line tail is_line mark rest one marked is = let e : ⊥ = cc in e

zero_no_mark : (version : Version) (tail : List ℕ) → NoMark version (0 ∷ tail)
zero_no_mark version tail mark rest one marked is = marked (sym (cons_parts 0 mark tail (header Two ++ rest) is).0)

zero_no_record : (version : Version) (number : ℕ) (tail : List ℕ) → NoRecord version number (0 ∷ tail)
zero_no_record version number tail = closed_no_record version number 0 tail (λ e. omega (arith, e))

-- a whole file is read with a closed commit byte of 0
whole_zero : (f form : Form) (lines xs : List (List ℕ)) (commit : ℕ) (rest file : List ℕ) → IsForm f → AreLines lines → IsWholeIn f lines file → IsRead form xs commit rest file
    → (xs ≡ lines) × (commit ≡ 0)
whole_zero f form lines xs commit rest file is_f fit whole read =
    let is : file ≡ base f lines ++ 0 ∷ whole.tail = whole.is ∙ append_assoc (base f lines) (0 ∷ []) whole.tail in
    let same = same_found f form lines xs (0 ∷ whole.tail) (commit ∷ rest) is_f read.is_form fit read.fit
    (zero_no_record f.version (1 + length lines) whole.tail) (closed_no_record form.version (1 + length xs) commit rest read.closed)
    (zero_no_mark f.version whole.tail) (read_no_mark form.version commit rest read.unmarked) (sym is ∙ read.is) in
    (sym same.lines, sym (cons_parts 0 commit whole.tail rest same.rest).0)

-- a torn file is read with its lines and its commit byte
torn_same : (f form : Form) (lines xs : List (List ℕ)) (line : List ℕ) (commit : ℕ) (rest file : List ℕ) → IsForm f → AreLines lines → IsLine line
    → (torn : IsTornIn f lines line file) → IsRead form xs commit rest file
    → Same f form lines xs (torn.commit ∷ ((body f.version (length lines + 1) line ++ 0 ∷ []) ++ torn.starts.tail)) (commit ∷ rest)
torn_same f form lines xs line commit rest file is_f fit is_line torn read =
    let more : List ℕ = body f.version (length lines + 1) line ++ 0 ∷ [] in
    let is : file ≡ base f lines ++ torn.commit ∷ (more ++ torn.starts.tail) = torn.starts.is ∙ append_assoc (base f lines) (torn.commit ∷ more) torn.starts.tail in
    same_found f form lines xs (torn.commit ∷ (more ++ torn.starts.tail)) (commit ∷ rest) is_f read.is_form fit read.fit
    (closed_no_record f.version (1 + length lines) torn.commit (more ++ torn.starts.tail) torn.not_open)
    (closed_no_record form.version (1 + length xs) commit rest read.closed)
    (torn_no_mark f.version (length lines + 1) torn.commit line torn.starts.tail is_line) (read_no_mark form.version commit rest read.unmarked) (sym is ∙ read.is)

-- what is read of a file that is good for some lines and one line more: these lines, or these and the one more
pub good_lines : (form : Form) (lines xs : List (List ℕ)) (line : List ℕ) (commit : ℕ) (rest file : List ℕ) → AreLines lines → IsLine line → IsGood lines line file
    → IsRead form xs commit rest file → (xs ≡ lines) ⊎ (xs ≡ lines ++ line ∷ [])
good_lines form lines xs line commit rest file fit is_line good read =
    ⊎_elim
    (λ whole. inl (whole_zero good.form form lines xs commit rest file good.is_form fit whole read).0)
    (λ more. ⊎_elim
    (λ torn. inl (sym (torn_same good.form form lines xs line commit rest file good.is_form fit is_line torn read).lines))
    (λ whole. inr (whole_zero good.form form (lines ++ line ∷ []) xs commit rest file good.is_form (lines_push lines line fit is_line) whole read).0)
    more)
    good.good

-- any byte in the place of a closed commit byte other than 0 leaves the file good
pub closing_good : (form : Form) (lines xs : List (List ℕ)) (line : List ℕ) (commit place : ℕ) (rest file c : List ℕ) → AreLines lines → IsLine line → IsGood lines line file
    → IsRead form xs commit rest file → place ≡ length (base form xs) → commit ≢ 0 → TornAt place 1 file c → IsGood lines line c
closing_good form lines xs line commit place rest file c fit is_line good read end not_zero tear =
    ⊎_elim
    (λ whole. absurd (not_zero (whole_zero good.form form lines xs commit rest file good.is_form fit whole read).1))
    (λ more. ⊎_elim
    (λ torn.
    let same = torn_same good.form form lines xs line commit rest file good.is_form fit is_line torn read in
    let at : length (base good.form lines) ≡ place =
    ap (λ (f : Form). length (base f lines)) same.form ∙ (ap (λ l. length (base form l)) same.lines ∙ sym end) in
    let between : Between (base good.form lines) (body good.form.version (length lines + 1) line ++ 0 ∷ []) file = record { byte = torn.commit; starts = torn.starts } in
    record {
      form = good.form;
      is_form = good.is_form;
      good = between_good good.form lines line c
          (torn_byte (base good.form lines) (body good.form.version (length lines + 1) line ++ 0 ∷ []) file c place between at tear);
    })
    (λ whole. absurd (not_zero (whole_zero good.form form (lines ++ line ∷ []) xs commit rest file good.is_form (lines_push lines line fit is_line) whole read).1))
    more)
    good.good

-- a journal that was opened has its lines in each image
pub durable_for : (seen_old seen_new : Option (List ℕ)) (images : List ℕ → Type 0) (journal : JournalState) (frames : List (ℕ × List ℕ)) (place : ℕ)
    → HasForm journal.version frames place → journal.count ≡ length frames → journal.size ≡ place + 1 → journal.begun ≡ None → journal.laid ≡ None
    → ((s : List ℕ) → seen_old ≡ Some s → IsOpened seen_new journal frames s) → Only seen_new images → (seen_old ≡ None → seen_new ≡ None) → IsDurableFor images journal (lines_in frames)
durable_for None seen_new images journal frames place form count size none_begun no_line opened only untold =
    let stands : StandsFor form.form (lines_in frames) journal = record {
      is_form = form.is_form;
      version = form.same;
      count = count ∙ sym (length_lines_in frames);
      size = omega (arith, size, form.end);
      fit = form.fit;
    } in
    durable_kept form.form images journal (lines_in frames) stands none_begun no_line
    (λ c h. absurd (let none : seen_new ≡ None = untold refl in let some : seen_new ≡ Some c = only c h in let e : ⊥ = cc in e))
durable_for (Some s) seen_new images journal frames place form count size none_begun no_line opened only untold =
    let o = opened s refl in
    durable_kept o.form images journal (lines_in frames) o.stands none_begun no_line
    (λ c h.
    let some : seen_new ≡ Some c = only c h in
    let closes : seen_new ≡ Some (base o.form (lines_in frames) ++ 0 ∷ o.rest) = o.closes in
    let same : base o.form (lines_in frames) ++ 0 ∷ o.rest ≡ c = cc in
    closed_starts (base o.form (lines_in frames)) o.rest c (subst (λ x. Starts (base o.form (lines_in frames) ++ 0 ∷ o.rest) x) same (record { tail = []; is = sym (append-nil (base o.form (lines_in frames) ++ 0 ∷ o.rest)) })))

-- a found part is what opening gives, once its commit byte is closed
pub opened_found : (told : Option (List ℕ)) (version : Version) (frames : List (ℕ × List ℕ)) (place commit : ℕ) (s : List ℕ) (journal : JournalState) → IsFound version frames place commit s
    → journal.version ≡ version → journal.count ≡ length frames → journal.size ≡ place + 1
    → ((front rest : List ℕ) → length front ≡ place → s ≡ front ++ commit ∷ rest → told ≡ Some (front ++ 0 ∷ rest)) → IsOpened told journal frames s
opened_found told version frames place commit s journal found same count size closes = record {
  form = found.form;
  commit = commit;
  rest = found.rest;
  read = found.read;
  places = found.places;
  stands = record {
    is_form = found.read.is_form;
    version = same ∙ found.same;
    count = count ∙ sym (length_lines_in frames);
    size = omega (arith, size, found.end);
    fit = found.read.fit;
  };
  closes = closes (base found.form (lines_in frames)) found.rest (sym found.end) found.read.is;
}

front_long : (version : Version) (front : List ℕ) → IsFront version front → 8 ≤ length front
unfolding header
front_long One front is_front = omega (arith, ap length is_front)
front_long Two front is_front =
    ⊎_elim (λ plain. omega (arith, ap length plain))
    (λ up. omega (arith, ap length up.is, length-append (header One ++ records One 1 up.lines) (up.mark ∷ header Two), length-append (header One) (records One 1 up.lines)))
    is_front

least_sum : (place a b front more : ℕ) → a ≡ b → b ≤ more → 8 ≤ front → place ≡ front + more → 8 + a < place + 1
least_sum place a b front more same least long end = omega arith

-- a journal has room for its records
pub form_least : (version : Version) (frames : List (ℕ × List ℕ)) (place count : ℕ) → HasForm version frames place → count ≡ length frames
    → 8 + (head_size version + 2) * count < place + 1
unfolding base
form_least version frames place count form count_is =
    let lines : List (List ℕ) = lines_in frames in
    let least = records_least form.form.version 1 lines form.fit in
    let same : (head_size version + 2) * count ≡ (head_size form.form.version + 2) * length lines =
    ap (λ (v : Version). (head_size v + 2) * count) form.same ∙ ap (λ n. (head_size form.form.version + 2) * n) (count_is ∙ sym (length_lines_in frames)) in
    least_sum place ((head_size version + 2) * count) ((head_size form.form.version + 2) * length lines) (length form.form.front) (length (records form.form.version 1 lines))
    same least (front_long form.form.version form.form.front form.is_form) (form.end ∙ length-append form.form.front (records form.form.version 1 lines))

-- closing the commit byte of a part that was found leaves a disk as good as it was
pub close_keeps : (told : Option (List ℕ)) (images : List ℕ → Type 0) (version : Version) (frames : List (ℕ × List ℕ)) (place commit : ℕ) (s c : List ℕ) (lines : List (List ℕ)) (line : List ℕ)
    → told ≡ Some s → Only told images → AreLines lines → IsLine line → IsGood lines line s → IsFound version frames place commit s
    → (commit ≢ 0) × After (TornAt place 1) images c → IsGood lines line c
close_keeps told images version frames place commit s c lines line is only fit is_line good found torn =
    let d = torn.1.0 in
    let image : told ≡ Some d = only d torn.1.1 in
    let same : d ≡ s = cc in
    closing_good found.form lines (lines_in frames) line commit place found.rest s c fit is_line good found.read found.end torn.0 (subst (λ x. TornAt place 1 x c) same torn.1.2)

-- faults of opening a file that is damaged, or no journal
pub only_damaged : (told : Option (List ℕ)) (s : List ℕ) (place old new : ℕ) (fault : JournalFault) → told ≡ Some s → IsDamaged place s → IsFindFault told old new fault
    → (fault ≡ Damaged place) ⊎ IsPassing old new fault
only_damaged told s place old new fault is damaged found =
    ⊎_elim
    (λ none. absurd (form_or_none damaged.form damaged.lines damaged.tail s damaged.is_form damaged.is (none.1 s is)))
    (λ more. ⊎_elim (λ other. inl (other.1 ∙ ap Damaged (damaged_once s other.0 place (other.2 s is) damaged))) (λ passing. inr passing) more)
    found

pub only_not_journal : (told : Option (List ℕ)) (s : List ℕ) (old new : ℕ) (fault : JournalFault) → told ≡ Some s → IsNoJournal s → IsFindFault told old new fault
    → (fault ≡ NotJournal) ⊎ IsPassing old new fault
only_not_journal told s old new fault is none found =
    ⊎_elim
    (λ same. inl same.0)
    (λ more. ⊎_elim (λ other. let damaged = other.2 s is in absurd (form_or_none damaged.form damaged.lines damaged.tail s damaged.is_form damaged.is none)) (λ passing. inr passing) more)
    found

-- what reads give reaches the length of a journal that each image has
pub durable_reaches : (images : List ℕ → Type 0) (journal : JournalState) (lines : List (List ℕ)) (s : List ℕ) → IsDurableFor images journal lines → images s → journal.size ≤ length s
durable_reaches images journal lines s durable image =
    kept_reaches durable.form images journal lines [] s durable.kept image

-- a file that is whole for lines is good for them and one line more, and for all of them but the last
pub whole_good : (lines xs : List (List ℕ)) (line file : List ℕ) → (lines ≡ xs) ⊎ (lines ≡ xs ++ line ∷ []) → IsWhole lines file → IsGood xs line file
whole_good lines xs line file which whole = record {
  form = whole.form;
  is_form = whole.is_form;
  good = ⊎_elim (λ same. inl (subst (λ l. IsWholeIn whole.form l file) same whole.whole)) (λ more. inr (inr (subst (λ l. IsWholeIn whole.form l file) more whole.whole))) which;
}
