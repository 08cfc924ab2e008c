-- Parts of lists: what a read moves, and what a write leaves.
use Rattle.std.proofs.Common.{◌≡◌, ℕ, ◌+◌, ◌<◌, ◌≤◌, List, ◌++◌, length, take, drop, sym, ap, subst, ◌∙◌, arith, take-add}
use Rattle.std.specs.Prelude.{slice_range}
use Rattle.std.proofs.lemmas.List.{take_at, length-drop, take_all, take-append-drop}
use Rattle.std.specs.Prelude.{Option}
use Rattle.std.specs.Io.KnownBytes.{Appends}
use Rattle.std.proofs.KnownBytes.{Appends-nil, Appends-trans}
use Rattle.serv_disk.specs.Faults.{AppendsPart}
use Rattle.std.proofs.lemmas.List.Folds.{drop_split}
use Rattle.std.proofs.lemmas.List.Edits.{length-between}

-- what is read stands at the front of the buffer, and the rest is left
pub given : (xs back new : List ℕ) (at n : ℕ) → at + n ≤ length xs → new ≡ slice_range xs at (at + n)
    → drop at xs ≡ take n (new ++ back) ++ drop (at + n) xs
given xs back new at n within is =
    let long : length new ≡ n = ap length is ∙ length-between xs at (at + n) within ∙ omega arith in
    let front : take n (new ++ back) ≡ new = take_at new back n long in
    drop_split xs at (at + n) (omega arith) ∙ ap (λ front. front ++ drop (at + n) xs) (sym is ∙ sym front)

-- nothing is written yet
pub nothing_written : (held : Option (List ℕ)) (text : List ℕ) → Appends held held (take 0 text)
nothing_written held text = Appends-nil held

-- a further piece is written
pub written_more : (h0 h1 h2 : Option (List ℕ)) (text : List ℕ) (at n : ℕ) → Appends h0 h1 (take at text) → Appends h1 h2 (take n (drop at text)) → Appends h0 h2 (take (at + n) text)
written_more h0 h1 h2 text at n before piece = subst (Appends h0 h2) (sym (take-add at n text)) (Appends-trans h0 h1 h2 (take at text) (take n (drop at text)) before piece)

-- all of it is written
pub written_all : (h0 h1 : Option (List ℕ)) (text : List ℕ) (at : ℕ) → length text ≤ at → Appends h0 h1 (take at text) → Appends h0 h1 text
written_all h0 h1 text at past front = subst (Appends h0 h1) (take_all at text past) front

-- it stops before the end
pub written_part : (h0 h1 h2 : Option (List ℕ)) (text : List ℕ) (at : ℕ) → at < length text → h2 ≡ h1 → Appends h0 h1 (take at text) → AppendsPart h0 h2 text
written_part h0 h1 h2 text at before same front = record {
  part = take at text;
  wrote = subst (λ h. Appends h0 h (take at text)) (sym same) front;
  partial = record { rest = drop at text; some = simp length-drop (omega arith); joined = sym (take-append-drop at text) };
}
