-- CSV files with a header: which records they have.
use Rattle.std.specs.Prelude.{◌≡◌, ℕ, List, ◌∷◌}
use Rattle.csv.specs.Reading.{records, default_config, strip_bom}

-- the records of a file, as `csv` reads them: without a byte order mark and without blank lines
abbrev pub records_of : List ℕ → List (List (List ℕ))
records_of bytes = records default_config (strip_bom bytes)

-- a file begins with the header
pub record BeginsWith (header : List (List ℕ)) (bytes : List ℕ) : Type 0 where
  pub rows : List (List (List ℕ))
  pub begins : records_of bytes ≡ header ∷ rows

-- a file begins with the header, and this is what the rows after it say
pub record IsFile {T : Type 0} (header : List (List ℕ)) (says : List (List (List ℕ)) → T → Type 0) (bytes : List ℕ) (said : T) : Type 0 where
  pub rows : List (List (List ℕ))
  pub begins : records_of bytes ≡ header ∷ rows
  pub rows_say : says rows said
