-- The rows of a file, as they are taken one after another.
use Rattle.std.proofs.Common.{◌≡◌, ◌≢◌, ◌+◌, ℕ, List, [], ◌∷◌, ◌++◌, length, sym, ap, ◌∙◌, arith, append_assoc}
use Rattle.csv.specs.Reading.{Reached, default_config, strip_bom}
use Rattle.csv.specs.declared.parser.State.{State}
use Rattle.csv.specs.declared.parser.State.TheVariants.{StartRecord}
use Rattle.serv_rows.specs.Files.{records_of, BeginsWith, IsFile}
use Rattle.serv_rows.specs.Taking.{IsTaken}
use Rattle.serv_rows.proofs.RecordLemmas.{rows_begin}

-- a file without rows
pub no_first : (header : List (List ℕ)) (bytes : List ℕ) (rows : List (List (List ℕ))) (number : ℕ) → number ≡ length rows + 1 → number ≡ 1 → rows ≡ records_of bytes
    → BeginsWith header bytes → ⊥
no_first header bytes [] number e one all h = (let x = h.begins in absurd cc)
no_first header bytes (r ∷ rows) number e one all h = omega arith

-- where all rows are taken, and there is one, the file is read
pub all_taken : {T : Type 0} (header : List (List ℕ)) (says : List (List (List ℕ)) → T → Type 0) (bytes : List ℕ) (rows : List (List (List ℕ))) (number : ℕ) (said : T)
    → IsTaken header says rows said → number ≡ length rows + 1 → number ≢ 1 → rows ≡ records_of bytes → IsFile header says bytes said
all_taken header says bytes [] number said taken e some all = absurd (some (omega arith))
all_taken header says bytes (r ∷ rows) number said taken e some all = record {
  rows = rows;
  begins = sym all ∙ ap (λ x. x ∷ rows) taken.0;
  rows_say = taken.1;
}

-- a row that is read is one of the file's
pub row_of_file : (bytes ys : List ℕ) (rows : List (List (List ℕ))) (row : List (List ℕ)) (s : State) → Reached default_config StartRecord (strip_bom bytes) (rows ++ row ∷ []) s ys
    → (after : List (List (List ℕ))) × (records_of bytes ≡ rows ++ row ∷ after)
row_of_file bytes ys rows row s h =
    let begin = rows_begin bytes ys (rows ++ row ∷ []) s h in
    (begin.0, begin.1 ∙ append_assoc rows (row ∷ []) begin.0)
