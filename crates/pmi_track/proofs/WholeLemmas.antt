-- The whole text of a file, and its steps, row by row.
use Rattle.std.proofs.Common.{◌≡◌, ℕ, ◌+◌, ◌≤◌, ◌<◌, List, [], ◌∷◌, ◌++◌, take, length, get_or, arith, sym, ap, ◌∙◌, append-nil, append_assoc}
use Rattle.std.specs.Prelude.{Some, None}
use Rattle.std.specs.List.{flat_map, sum_by}
use Rattle.std.proofs.lemmas.List.{take_more}
use Rattle.std.proofs.lemmas.List.Sums.{sum_by-append, sum_by-cons, sum_by_more_le}
use Rattle.std.proofs.lemmas.Grind.{flat_map-append}
use Rattle.svc_spec.specs.Accounts.{Account}
use Rattle.svc_world.specs.World.{Accepted, world}
use Rattle.pmi_track.specs.declared.insured_loan.InsuredRow.{InsuredRow}
use Rattle.pmi_track.specs.declared.output.Output.{Output}
use Rattle.pmi_track.specs.Rows.{insured_in}
use Rattle.pmi_track.specs.Texts.{bad_text, row_text, rows_text, file_text, row_cost, rows_cost, insurance_cost}

-- ---- one row more

-- what is written of the rows so far, and of one more
pub text_more : (f : InsuredRow → List ℕ) (rows : List InsuredRow) (i : ℕ) (row : InsuredRow) (before so_far after : List ℕ) → i < length rows → row ≡ get_or rows i row
    → so_far ≡ before ++ flat_map f (take i rows) → after ≡ so_far ++ f row → after ≡ before ++ flat_map f (take (i + 1) rows)
text_more f rows i row before so_far after lt is so more =
    let taken = take_more rows i row lt in
    let one : flat_map f (take (i + 1) rows) ≡ flat_map f (take i rows) ++ f row =
    ap (flat_map f) taken ∙ flat_map-append f (take i rows) (get_or rows i row ∷ []) ∙ ap (λ x. flat_map f (take i rows) ++ x) (append-nil (f (get_or rows i row)) ∙ ap f (sym is))
    in
    more ∙ ap (λ x. x ++ f row) so ∙ append_assoc before (flat_map f (take i rows)) (f row) ∙ ap (λ x. before ++ x) (sym one)

pub steps_more : (f : InsuredRow → ℕ) (rows : List InsuredRow) (i : ℕ) (row : InsuredRow) (before so_far after : ℕ) → i < length rows → row ≡ get_or rows i row
    → so_far ≤ before + sum_by f (take i rows) → after ≤ so_far + f row → after ≤ before + sum_by f (take (i + 1) rows)
steps_more f rows i row before so_far after lt is so more =
    let taken = ap (sum_by f) (take_more rows i row lt) in
    let both = sum_by-append f (take i rows) (get_or rows i row ∷ []) in
    let one = sum_by-cons f (get_or rows i row) [] in
    let same = ap f is in
    omega (arith, taken, both, one, same)

-- the steps so far and those of one row more are within the whole
pub steps_within : (f : InsuredRow → ℕ) (rows : List InsuredRow) (i : ℕ) (row : InsuredRow) (before so_far after : ℕ) → i < length rows → row ≡ get_or rows i row
    → so_far ≤ before + sum_by f (take i rows) → after ≤ so_far + f row → after ≤ before + sum_by f rows
steps_within f rows i row before so_far after lt is so more =
    let whole = sum_by_more_le f rows i row lt in
    let same = ap f is in
    omega (arith, whole, same)

-- ---- all rows

pub rows_told : (o : Output) (h : List Accepted) (bytes : List ℕ) (rows given : List InsuredRow) (begin out : List ℕ) → insured_in bytes ≡ Some rows → given ≡ rows → begin ≡ []
    → out ≡ begin ++ flat_map (row_text o (world h)) given → out ≡ file_text o h bytes
unfolding file_text
rows_told o h bytes rows given begin out read is empty e =
    e ∙ ap (λ x. x ++ flat_map (row_text o (world h)) given) empty ∙ ap (flat_map (row_text o (world h))) is ∙ sym (ap (rows_text o (world h)) read)

pub no_header_told : (o : Output) (h : List Accepted) (bytes begin out : List ℕ) → insured_in bytes ≡ None → begin ≡ [] → out ≡ begin ++ bad_text o 1 1 → out ≡ file_text o h bytes
unfolding file_text
no_header_told o h bytes begin out read empty e = e ∙ ap (λ x. x ++ bad_text o 1 1) empty ∙ sym (ap (rows_text o (world h)) read)

pub steps_told : (cost : Account → ℕ → ℕ) (h : List Accepted) (bytes : List ℕ) (rows given : List InsuredRow) (old new : ℕ) → insured_in bytes ≡ Some rows → given ≡ rows
    → new ≤ old + sum_by (row_cost cost (world h)) given → new ≤ old + insurance_cost cost h bytes
unfolding insurance_cost
steps_told cost h bytes rows given old new read is le =
    let whole : rows_cost cost (world h) (insured_in bytes) ≡ sum_by (row_cost cost (world h)) given = ap (rows_cost cost (world h)) read ∙ ap (sum_by (row_cost cost (world h))) (sym is) in
    omega (arith, whole)
