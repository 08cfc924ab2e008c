-- What rows are taken for, row by row.
use Rattle.std.proofs.Common.{◌≡◌, ◌+◌, ℕ, suc, List, [], ◌∷◌, ◌++◌, length, sym, subst, arith, Vec, Global}
use Rattle.serv_rows.specs.Files.{IsFile}
use Rattle.serv_import.specs.declared.row.RowRequest.{RowRequest}
use Rattle.serv_import.specs.Rows.{header}
use Rattle.serv_import.specs.Batches.{IsAnswer, AreAnswers, IsBatch}

-- one row more
answers_push : (n k : ℕ) (rows : List (List (List ℕ))) (answers : List RowRequest) (row : List (List ℕ)) (answer : RowRequest) → AreAnswers n rows answers
    → k ≡ n + length rows → IsAnswer k row answer → AreAnswers n (rows ++ (row ∷ [])) (answers ++ (answer ∷ []))
answers_push n k [] [] row answer h e is = (subst (λ (m : ℕ). IsAnswer m row answer) (let f : k ≡ n = omega arith in f) is, tt)
answers_push n k (r ∷ rows) (a ∷ answers) row answer h e is = (h.0, answers_push (suc n) k rows answers row answer h.1 (omega arith) is)
answers_push n k [] (a ∷ answers) row answer h e is = absurd h
answers_push n k (r ∷ rows) [] row answer h e is = absurd h

-- what is asked with a row more
pub asked_more : (number : ℕ) (row : List (List ℕ)) (old new : List RowRequest) → (answer : RowRequest) × IsAnswer number row answer × (new ≡ old ++ (answer ∷ []))
    → (before : List (List (List ℕ))) → number ≡ length before + 2 → AreAnswers 2 before old → AreAnswers 2 (before ++ (row ∷ [])) new
asked_more number row old new h before e asked =
    subst (λ (l : List RowRequest). AreAnswers 2 (before ++ (row ∷ [])) l) (sym h.2) (answers_push 2 number before old row h.0 asked (omega arith) h.1)

-- what a file asks, of what is read of it
pub batch_of : (bytes : List ℕ) (v : Vec RowRequest Global) → IsFile header (λ rows (answers : Vec RowRequest Global). AreAnswers 2 rows answers.items) bytes v → IsBatch bytes v.items
batch_of bytes v h = record { rows = h.rows; begins = h.begins; each = h.rows_say }
