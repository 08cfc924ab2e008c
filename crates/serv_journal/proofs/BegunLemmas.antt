-- Lines of which the last may be begun.
use Rattle.std.proofs.Common.{◌≡◌, ℕ, ◌+◌, ◌-◌, ◌≤◌, List, [], ◌∷◌, ◌++◌, Option, None, Some, length, refl, sym, ap, subst, ◌∙◌, inl, arith, append_assoc, length-append}
use Rattle.std.proofs.lemmas.List.{append-nil}
use Rattle.serv_disk.specs.Disks.{Each, LeavesOnly, View}
use Rattle.serv_disk.proofs.Moments.{started, weaker, joined}
use Rattle.serv_journal.specs.declared.format.Version.TheVariants.{Two}
use Rattle.serv_journal.specs.Bytes.{Starts, Between}
use Rattle.serv_journal.specs.Format.{Form, IsLine, base, body}
use Rattle.serv_journal.specs.States.{JournalState, StandsFor}
use Rattle.serv_journal.specs.Disks.{IsWholeIn, IsGoodIn, IsBegunIn, IsAtRest, IsAround, HasLaid, IsKept, IsDurableFor, gate_of}
use Rattle.serv_journal.specs.Puts.{IsPut, IsPutting}
use Rattle.serv_journal.proofs.ByteLemmas.{starts_fits, length_closed}
use Rattle.serv_journal.proofs.FormatLemmas.{base_push, whole_push, between_good, closed_starts, stands_push}

-- no line is laid
pub none_laid : (form : Form) (images : List ℕ → Type 0) (lines : List (List ℕ)) (laid : Option (List ℕ)) → laid ≡ None → HasLaid form images lines laid
none_laid form images lines laid none = subst (λ l. HasLaid form images lines l) (sym none) tt

-- none is begun
stands_none : (form : Form) (lines : List (List ℕ)) (journal : JournalState) → StandsFor form lines journal → StandsFor form (lines ++ []) journal
stands_none form lines journal stands = subst (λ x. StandsFor form x journal) (sym (append-nil lines)) stands

pub stands_all : (form : Form) (lines : List (List ℕ)) (journal : JournalState) → StandsFor form (lines ++ []) journal → StandsFor form lines journal
stands_all form lines journal stands = subst (λ x. StandsFor form x journal) (append-nil lines) stands

pub kept_whole : (form : Form) (images : List ℕ → Type 0) (journal : JournalState) (lines : List (List ℕ)) → StandsFor form lines journal → journal.begun ≡ None → journal.laid ≡ None
    → Each images (IsWholeIn form lines) → IsKept form images journal lines []
kept_whole form images journal lines stands none no_line each = record {
  stands = stands_none form lines journal stands;
  at_most_one = omega arith;
  gate = none;
  each = each;
  laid = none_laid form images (lines ++ []) journal.laid no_line;
}

pub durable_kept : (form : Form) (images : List ℕ → Type 0) (journal : JournalState) (lines : List (List ℕ)) → StandsFor form lines journal → journal.begun ≡ None → journal.laid ≡ None
    → Each images (IsWholeIn form lines) → IsDurableFor images journal lines
durable_kept form images journal lines stands none no_line each = record { form = form; kept = kept_whole form images journal lines stands none no_line each }

-- an image at rest reaches the journal's length
rest_long : (form : Form) (lines begun : List (List ℕ)) (s : List ℕ) → length begun ≤ 1 → IsAtRest form lines begun s → length (base form (lines ++ begun)) + 1 ≤ length s
rest_long form lines [] s one rest =
    omega (arith, ap (λ x. length (base form x)) (append-nil lines), starts_fits (base form lines ++ 0 ∷ []) s rest, length-append (base form lines) (0 ∷ []))
rest_long form lines (line ∷ []) s one rest =
    let more : List ℕ = body form.version (length lines + 1) line in
    omega (
      arith,
      ap length (base_push form lines line),
      length-append (base form lines) (1 ∷ more),
      starts_fits (base form lines ++ 0 ∷ (more ++ 0 ∷ [])) s rest,
      length-append (base form lines) (0 ∷ (more ++ 0 ∷ [])),
      length-append more (0 ∷ []),
    )
rest_long form lines (line ∷ other ∷ more) s one rest = absurd (omega (arith, one))

pub kept_reaches : (form : Form) (images : List ℕ → Type 0) (journal : JournalState) (lines begun : List (List ℕ)) (s : List ℕ) → IsKept form images journal lines begun → images s
    → journal.size ≤ length s
kept_reaches form images journal lines begun s kept image = omega (arith, kept.stands.size, rest_long form lines begun s kept.at_most_one (kept.each s image))

-- what is at rest is around
pub rest_around : (form : Form) (lines begun : List (List ℕ)) (file : List ℕ) → IsAtRest form lines begun file → IsAround form lines begun file
rest_around form lines [] file rest = rest
rest_around form lines (line ∷ more) file rest = inl (closed_starts (base form lines) (body form.version (length lines + 1) line ++ 0 ∷ []) file rest)

-- ---- a line more is begun

-- the record of a line, as it is written, is the one after these lines
written_is : (form : Form) (lines : List (List ℕ)) (line : List ℕ) (number : ℕ) → form.version ≡ Two → number ≡ length lines + 1
    → body Two number line ++ 0 ∷ [] ≡ body form.version (length lines + 1) line ++ 0 ∷ []
written_is form lines line number two same = ap (λ n. body Two n line ++ 0 ∷ []) same ∙ ap (λ v. body v (length lines + 1) line ++ 0 ∷ []) (sym two)

rest_length : (form : Form) (lines : List (List ℕ)) (line : List ℕ) (size : ℕ) → size ≡ length (base form (lines ++ line ∷ [])) + 1
    → length (base form lines) + 1 + length (body form.version (length lines + 1) line ++ 0 ∷ []) ≡ size
rest_length form lines line size is =
    let more : List ℕ = body form.version (length lines + 1) line in
    omega (arith, is, ap length (base_push form lines line), length-append (base form lines) (1 ∷ more), length-append more (0 ∷ []))

-- each image has it behind the lines and the one that was begun before
put_rest : (form : Form) (lines begun : List (List ℕ)) (line : List ℕ) (number size : ℕ) (old new : List ℕ → Type 0) → form.version ≡ Two → number ≡ length (lines ++ begun) + 1 → length begun ≤ 1
    → size ≡ length (base form (lines ++ begun)) + 1 → Each old (IsAtRest form lines begun) → IsPut (gate_of form lines begun) size (body Two number line ++ 0 ∷ []) old new
    → Each new (IsBegunIn form (lines ++ begun) line)
put_rest form lines [] line number size old new two same one size_is each put =
    let all = sym (append-nil lines) in
    let at_number : number ≡ length lines + 1 = same ∙ ap (λ x. length x + 1) (sym all) in
    subst (λ x. Each new (IsBegunIn form x line)) all
    (λ c h. subst (λ x. Starts x c) (append_assoc (base form lines) (0 ∷ []) (body form.version (length lines + 1) line ++ 0 ∷ []))
    (subst (λ x. Starts ((base form lines ++ 0 ∷ []) ++ x) c) (written_is form lines line number two at_number)
    (put (base form lines ++ 0 ∷ []) (length_closed (base form lines) size (sym (size_is ∙ ap (λ x. length (base form x) + 1) (sym all)))) each c h)))
put_rest form lines (b ∷ []) line number size old new two same one size_is each put =
    let more : List ℕ = body form.version (length lines + 1) b in
    let next : List ℕ = body form.version (length (lines ++ b ∷ []) + 1) line ++ 0 ∷ [] in
    let joined : base form lines ++ 1 ∷ ((more ++ 0 ∷ []) ++ next) ≡ base form (lines ++ b ∷ []) ++ 0 ∷ next =
    ap (λ x. base form lines ++ 1 ∷ x) (append_assoc more (0 ∷ []) next) ∙ (sym (append_assoc (base form lines) (1 ∷ more) (0 ∷ next)) ∙ ap (λ x. x ++ 0 ∷ next) (sym (base_push form lines b))) in
    λ c h. subst (λ x. Starts x c) joined
    (subst (λ x. Starts (base form lines ++ 1 ∷ ((more ++ 0 ∷ []) ++ x)) c) (written_is form (lines ++ b ∷ []) line number two same)
    (put (base form lines) (more ++ 0 ∷ []) refl (rest_length form lines b size size_is) each c h))
put_rest form lines (b ∷ other ∷ more) line number size old new two same one size_is each put = absurd (omega (arith, one))

pub begin_kept : (form : Form) (images images' : List ℕ → Type 0) (old new : JournalState) (lines begun : List (List ℕ)) (line : List ℕ) → IsLine line → old.version ≡ Two
    → new.version ≡ old.version → new.count ≡ old.count + 1 → new.size ≡ old.size + (7 + length line) → new.begun ≡ Some (old.size - 1) → new.laid ≡ None
    → IsPut old.begun old.size (body Two (old.count + 1) line ++ 0 ∷ []) images images' → IsKept form images old lines begun → IsKept form images' new (lines ++ begun) (line ∷ [])
begin_kept form images images' old new lines begun line is_line two version count size gate no_line put kept =
    let form_two : form.version ≡ Two = sym kept.stands.version ∙ two in
    let place : old.size - 1 ≡ length (base form (lines ++ begun)) = omega (arith, kept.stands.size) in
    record {
      stands = stands_push form (lines ++ begun) line old new is_line kept.stands form_two version count size;
      at_most_one = omega arith;
      gate = gate ∙ ap (λ n. Some n) place;
      each = put_rest form lines begun line (old.count + 1) old.size images images' form_two (ap (λ n. n + 1) kept.stands.count) kept.at_most_one kept.stands.size kept.each
          (subst (λ g. IsPut g old.size (body Two (old.count + 1) line ++ 0 ∷ []) images images') kept.gate put);
      laid = none_laid form images' ((lines ++ begun) ++ line ∷ []) new.laid no_line;
    }

-- the line is laid already
pub laid_kept : (form : Form) (images : List ℕ → Type 0) (old new : JournalState) (lines begun : List (List ℕ)) (line : List ℕ) → old.laid ≡ Some line → old.version ≡ Two
    → new.version ≡ old.version → new.count ≡ old.count + 1 → new.size ≡ old.size + (7 + length line) → new.begun ≡ Some (old.size - 1) → new.laid ≡ None
    → IsKept form images old lines begun → IsKept form images new (lines ++ begun) (line ∷ [])
laid_kept form images old new lines begun line is two version count size gate no_line kept =
    let laid : IsLine line × Each images (IsBegunIn form (lines ++ begun) line) = subst (λ l. HasLaid form images (lines ++ begun) l) is kept.laid in
    let form_two : form.version ≡ Two = sym kept.stands.version ∙ two in
    let place : old.size - 1 ≡ length (base form (lines ++ begun)) = omega (arith, kept.stands.size) in
    record {
      stands = stands_push form (lines ++ begun) line old new laid.0 kept.stands form_two version count size;
      at_most_one = omega arith;
      gate = gate ∙ ap (λ n. Some n) place;
      each = laid.1;
      laid = none_laid form images ((lines ++ begun) ++ line ∷ []) new.laid no_line;
    }

-- ---- moments

module _ {D : Type 0} (view : D → View) where
  putting_around : (form : Form) (lines begun : List (List ℕ)) (size : ℕ) (old new : D) → length begun ≤ 1 → size ≡ length (base form (lines ++ begun)) + 1
      → Each (view old).images (IsAtRest form lines begun) → IsPutting view (gate_of form lines begun) size old new → LeavesOnly view old new (IsAround form lines begun)
  putting_around form lines [] size old new one size_is each putting =
      putting (base form lines ++ 0 ∷ []) (length_closed (base form lines) size (sym (size_is ∙ ap (λ x. length (base form x) + 1) (append-nil lines)))) each
  putting_around form lines (b ∷ []) size old new one size_is each putting =
      weaker view old new _ _ (putting (base form lines) (body form.version (length lines + 1) b ++ 0 ∷ []) refl (rest_length form lines b size size_is) each)
      (λ c h. between_good form lines b c h)
  putting_around form lines (b ∷ other ∷ more) size old new one size_is each putting = absurd (omega (arith, one))

  pub begin_around : (form : Form) (journal : JournalState) (lines begun : List (List ℕ)) (old new : D) → IsPutting view journal.begun journal.size old new
      → IsKept form (view old).images journal lines begun → LeavesOnly view old new (IsAround form lines begun)
  begin_around form journal lines begun old new putting kept =
      putting_around form lines begun journal.size old new kept.at_most_one kept.stands.size kept.each
      (subst (λ g. IsPutting view g journal.size old new) kept.gate putting)

  -- a line is begun, and then committed
  pub push_around : (form : Form) (lines : List (List ℕ)) (line : List ℕ) (old mid new : D)
      → LeavesOnly view old mid (IsWholeIn form lines) → LeavesOnly view mid new (IsGoodIn form (lines ++ []) line)
      → LeavesOnly view old new (IsGoodIn form lines line)
  push_around form lines line old mid new begun committed =
      joined view old mid new _ (weaker view old mid _ _ begun (λ c h. inl h))
      (subst (λ x. LeavesOnly view mid new (IsGoodIn form x line)) (append-nil lines) committed)

  -- no call
  pub idle_around : (form : Form) (images : List ℕ → Type 0) (journal : JournalState) (lines begun : List (List ℕ)) (disk : D) → ((c : List ℕ) → (view disk).since (view disk).moment c → images c)
      → IsKept form images journal lines begun → LeavesOnly view disk disk (IsAround form lines begun)
  idle_around form images journal lines begun disk only kept = started view disk (IsAround form lines begun) (λ c left. rest_around form lines begun c (kept.each c (only c left)))

  -- the commit byte is set
  set_around : (form : Form) (lines begun : List (List ℕ)) (gate : ℕ) (images : List ℕ → Type 0) (old new : D) → Some gate ≡ gate_of form lines begun → Each images (IsAtRest form lines begun)
      → ((front rest : List ℕ) → length front ≡ gate → Each images (Between front rest) → LeavesOnly view old new (Between front rest))
      → LeavesOnly view old new (IsAround form lines begun)
  set_around form lines [] gate images old new at each moments = absurd (let e : ⊥ = cc in e)
  set_around form lines (b ∷ more) gate images old new at each moments =
      let long : length (base form lines) ≡ gate = cc in
      weaker view old new _ _
      (moments (base form lines) (body form.version (length lines + 1) b ++ 0 ∷ []) long (λ c h. record { byte = 0; starts = each c h }))
      (λ c h. between_good form lines b c h)

  pub commit_around : (form : Form) (images : List ℕ → Type 0) (journal : JournalState) (lines begun : List (List ℕ)) (gate : ℕ) (old new : D) → journal.begun ≡ Some gate
      → ((front rest : List ℕ) → length front ≡ gate → Each images (Between front rest) → LeavesOnly view old new (Between front rest))
      → IsKept form images journal lines begun → LeavesOnly view old new (IsAround form lines begun)
  commit_around form images journal lines begun gate old new at moments kept = set_around form lines begun gate images old new (sym at ∙ kept.gate) kept.each moments

-- ---- the line that is begun is committed

set_whole : (form : Form) (lines begun : List (List ℕ)) (gate : ℕ) (images images' : List ℕ → Type 0) → length begun ≤ 1 → Some gate ≡ gate_of form lines begun → Each images (IsAtRest form lines begun)
    → ((front rest : List ℕ) → length front ≡ gate → Each images (Between front rest) → Each images' (Starts (front ++ 1 ∷ rest))) → Each images' (IsWholeIn form (lines ++ begun))
set_whole form lines [] gate images images' one at each durable = absurd (let e : ⊥ = cc in e)
set_whole form lines (b ∷ []) gate images images' one at each durable =
    let long : length (base form lines) ≡ gate = cc in
    λ c h. subst (λ x. Starts x c) (whole_push form lines b)
    (durable (base form lines) (body form.version (length lines + 1) b ++ 0 ∷ []) long (λ d g. record { byte = 0; starts = each d g }) c h)
set_whole form lines (b ∷ other ∷ more) gate images images' one at each durable = absurd (omega (arith, one))

same_stands : (form : Form) (lines : List (List ℕ)) (old new : JournalState) → new.version ≡ old.version → new.count ≡ old.count → new.size ≡ old.size → StandsFor form lines old → StandsFor form lines new
same_stands form lines old new version count size stands = record {
  is_form = stands.is_form;
  version = version ∙ stands.version;
  count = count ∙ stands.count;
  size = size ∙ stands.size;
  fit = stands.fit;
}

pub commit_kept : (form : Form) (images images' : List ℕ → Type 0) (old new : JournalState) (lines begun : List (List ℕ)) (gate : ℕ) → old.begun ≡ Some gate
    → new.version ≡ old.version → new.count ≡ old.count → new.size ≡ old.size → new.begun ≡ None → new.laid ≡ None
    → ((front rest : List ℕ) → length front ≡ gate → Each images (Between front rest) → Each images' (Starts (front ++ 1 ∷ rest)))
    → IsKept form images old lines begun → IsKept form images' new (lines ++ begun) []
commit_kept form images images' old new lines begun gate at version count size none no_line durable kept =
    kept_whole form images' new (lines ++ begun) (same_stands form (lines ++ begun) old new version count size kept.stands) none no_line
    (set_whole form lines begun gate images images' kept.at_most_one (sym at ∙ kept.gate) kept.each durable)

-- ---- a line's record is laid behind the journal

pub rest_whole : (form : Form) (lines begun : List (List ℕ)) (file : List ℕ) → IsAtRest form lines begun file → IsWholeIn form lines file
rest_whole form lines [] file rest = rest
rest_whole form lines (line ∷ more) file rest = closed_starts (base form lines) (body form.version (length lines + 1) line ++ 0 ∷ []) file rest

-- it was begun, and is taken out of the journal again
pub lay_kept : (form : Form) (images images' : List ℕ → Type 0) (old mid new : JournalState) (lines begun : List (List ℕ)) (line : List ℕ) → IsLine line → new.version ≡ old.version
    → new.count ≡ old.count → new.size ≡ old.size → new.begun ≡ None → new.laid ≡ Some line → IsKept form images old lines begun → IsKept form images' mid (lines ++ begun) (line ∷ [])
    → IsKept form images' new (lines ++ begun) []
lay_kept form images images' old mid new lines begun line is_line version count size none is before begun_kept =
    let all : List (List ℕ) = lines ++ begun in
    record {
      stands = stands_none form all new (same_stands form all old new version count size before.stands);
      at_most_one = omega arith;
      gate = none;
      each = λ c image. rest_whole form all (line ∷ []) c (begun_kept.each c image);
      laid = subst (λ l. HasLaid form images' (all ++ []) l) (sym is) (is_line, subst (λ x. Each images' (IsBegunIn form x line)) (sym (append-nil all)) begun_kept.each);
    }

-- and is forgotten
pub forgotten : (form : Form) (images : List ℕ → Type 0) (old new : JournalState) (lines begun : List (List ℕ)) → new.version ≡ old.version → new.count ≡ old.count → new.size ≡ old.size
    → new.begun ≡ old.begun → new.laid ≡ None → IsKept form images old lines begun → IsKept form images new lines begun
forgotten form images old new lines begun version count size gate no_line kept = record {
  stands = same_stands form (lines ++ begun) old new version count size kept.stands;
  at_most_one = kept.at_most_one;
  gate = gate ∙ kept.gate;
  each = kept.each;
  laid = none_laid form images (lines ++ begun) new.laid no_line;
}
