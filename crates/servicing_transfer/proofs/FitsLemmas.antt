-- Lines that were read fit, and where reading ends is the first that does not.
use Rattle.std.proofs.Common.{◌≡◌, ◌≢◌, ℕ, zero, suc, add-one, ◌+◌, ◌-◌, ◌<◌, ◌≤◌, List, [], ◌∷◌, ◌++◌, length, take, drop, get_or, refl, sym, ap, subst, ◌∙◌, arith, pos, Option, Some, None}
use Rattle.std.specs.Prelude.{map, slice_get, nat_lt, true, false}
use Rattle.std.proofs.lemmas.Bool.Decides.{nat_tests}
use Rattle.svc_base.specs.Calendar.{IsReadDay}
use Rattle.std.specs.List.{All}
use Rattle.std.specs.Option.{option_map}
use Rattle.std.proofs.lemmas.List.Elements.{All-head, All-tail}
use Rattle.std.proofs.lemmas.Option.{slice_get_past}
use Rattle.std.proofs.Math.Seq.{take-append_seam}
use Rattle.serv_line.specs.LineFaults.{IsFirstMisfit}
use Rattle.servicing_transfer.specs.declared.statement_line.StatementLine.{StatementLine}
use Rattle.servicing_transfer.specs.StatementTexts.{t_of, p_of, heading_line, loan_line, total_line, last_line, statement_lines}
use Rattle.servicing_transfer.specs.Stated.{IsStatedBalance, IsStatedNumber, IsStatedLine, rises, text_lines, BeginsWith, IsLoanAt, FitsAfter, first_loan, next_loan, total, last, nothing, Fits, heading, after, IsBadLine, IsStatement, IsConfirmFault}
use Rattle.servicing_transfer.specs.declared.confirm_fault.ConfirmFault.{ConfirmFault}
use Rattle.servicing_transfer.specs.declared.confirm_fault.ConfirmFault.TheVariants as fault
use Rattle.servicing_transfer.specs.StatementReading.{AreLoans, last_loan, rises_from, IsTotalAt, IsBadAfter}
use Rattle.servicing_transfer.proofs.LineWords.{same_line_text, same_count}

no_line : StatementLine
no_line = record { loan = 0; upb = pos 0; next = None; escrow = pos 0; suspense = pos 0; late = pos 0; escrow_advance = pos 0; held = pos 0; pi_advance = pos 0 }

-- ---- lines in places

there : (stated : List StatementLine) (rest : List (List ℕ)) (k : ℕ) → k < length stated → slice_get (map loan_line stated ++ rest) k ≡ Some (loan_line (get_or stated k no_line))
there [] rest k lt = absurd (omega arith)
there (x ∷ xs) rest zero lt = refl
there (x ∷ xs) rest (suc k) lt = there xs rest k (omega arith)

behind : (stated : List StatementLine) (rest : List (List ℕ)) (k i : ℕ) → i ≡ length stated + k → slice_get (map loan_line stated ++ rest) i ≡ slice_get rest k
behind [] rest k i e = let is : i ≡ k = omega arith in ap (slice_get rest) is
behind (x ∷ xs) rest k zero e = absurd (omega arith)
behind (x ∷ xs) rest k (suc i) e = behind xs rest k i (omega arith)

length_lines : (stated : List StatementLine) → length (map loan_line stated) ≡ length stated
length_lines [] = refl
length_lines (x ∷ xs) = ap suc (length_lines xs)

-- as many first lines as there are loans
pub firsts : (n : ℕ) (lines : List (List ℕ)) (stated : List StatementLine) (rest : List (List ℕ)) → lines ≡ map loan_line stated ++ rest → length stated ≡ n → take n lines ≡ map loan_line stated
firsts n lines stated rest cut e =
    ap (λ ls. take n ls) cut ∙ ap (λ k. take k (map loan_line stated ++ rest)) (sym e ∙ sym (length_lines stated)) ∙ take-append_seam (map loan_line stated) rest

pub same_loans : (xs ys : List StatementLine) → All IsStatedLine xs → All IsStatedLine ys → map loan_line xs ≡ map loan_line ys → xs ≡ ys
same_loans [] [] p q e = refl
same_loans [] (y ∷ ys) p q e = absurd cc
same_loans (x ∷ xs) [] p q e = absurd cc
same_loans (x ∷ xs) (y ∷ ys) p q e =
    let line : loan_line x ≡ loan_line y = cc in
    let lines : map loan_line xs ≡ map loan_line ys = cc in
    let one : x ≡ y = same_line_text x y (All-head IsStatedLine x xs p) (All-head IsStatedLine y ys q) line in
    let more : xs ≡ ys = same_loans xs ys (All-tail IsStatedLine x xs p) (All-tail IsStatedLine y ys q) lines in
    cc

pub some_is : {A : Type 0} (o : Option A) (x y : A) → o ≡ Some x → o ≡ Some y → x ≡ y
some_is o x y p q = let e : Some x ≡ Some y = sym p ∙ q in cc

-- ---- loans that were read fit

loan_at : (lines : List (List ℕ)) (stated : List StatementLine) (rest : List (List ℕ)) (k : ℕ) → lines ≡ map loan_line stated ++ rest → AreLoans stated → k < length stated → IsLoanAt lines k (get_or stated k no_line)
loan_at lines stated rest k cut are lt = record { line = ap (λ ls. slice_get ls k) cut ∙ there stated rest k lt; loan = are.each k no_line lt }

pub loans_fit : (n : ℕ) (lines : List (List ℕ)) (stated : List StatementLine) (rest : List (List ℕ)) → lines ≡ map loan_line stated ++ rest → length stated ≤ n → AreLoans stated → (k : ℕ) → k < length stated → FitsAfter n lines k
loans_fit n lines stated rest cut few are zero lt = first_loan (get_or stated 0 no_line) (omega arith) (loan_at lines stated rest 0 cut are lt)
loans_fit n lines stated rest cut few are (suc k) lt =
    let next : k + 1 < length stated = omega arith in
    subst (FitsAfter n lines) (add-one k)
    (next_loan k (get_or stated k no_line) (get_or stated (k + 1) no_line) (omega arith)
    (loan_at lines stated rest k cut are (omega arith)) (loan_at lines stated rest (k + 1) cut are next)
    (are.rising k (k + 1) no_line (omega arith) next))

-- ---- a line that is not that of the next loan

IsNoNext : List StatementLine → List (List ℕ) → Type 0
IsNoNext stated rest = (s : StatementLine) → IsStatedLine s → rises_from (last_loan stated) s → slice_get rest 0 ≢ Some (loan_line s)

last_is : (stated : List StatementLine) (j : ℕ) → j + 1 ≡ length stated → slice_get stated (length stated - 1) ≡ Some (get_or stated j no_line)
last_is stated j e = (let at : length stated - 1 ≡ j = omega arith in ap (slice_get stated) at) ∙ got stated j (omega arith)
  where
    got : (xs : List StatementLine) (i : ℕ) → i < length xs → slice_get xs i ≡ Some (get_or xs i no_line)
    got [] i lt = absurd (omega arith)
    got (x ∷ xs) zero lt = refl
    got (x ∷ xs) (suc i) lt = got xs i (omega arith)

no_loan : (n : ℕ) (lines : List (List ℕ)) (stated : List StatementLine) (rest : List (List ℕ)) (i : ℕ) → i ≡ length stated → lines ≡ map loan_line stated ++ rest → length stated < n → AreLoans stated → IsNoNext stated rest → FitsAfter n lines i → ⊥
unfolding IsNoNext
no_loan n lines stated rest i at cut few are none (first_loan s lt is) =
    none s is.loan (first stated (sym at)) (sym (behind stated rest 0 0 (omega arith)) ∙ ap (λ ls. slice_get ls 0) (sym cut) ∙ is.line)
  where
    first : (st : List StatementLine) → length st ≡ 0 → rises_from (last_loan st) s
    first [] e = tt
    first (x ∷ xs) e = absurd (omega arith)
no_loan n lines stated rest i at cut few are none (next_loan j r s lt is_r is_s up) =
    let before = loan_at lines stated rest j cut are (omega arith) in
    let line : loan_line (get_or stated j no_line) ≡ loan_line r = some_is (slice_get lines j) _ _ before.line is_r.line in
    let same : get_or stated j no_line ≡ r = same_line_text (get_or stated j no_line) r before.loan is_r.loan line in
    let from : rises_from (last_loan stated) s = subst (λ o. rises_from o s) (sym (ap (option_map (λ (x : StatementLine). x.loan)) (last_is stated j at))) (subst (λ x. rises x s) (sym same) up) in
    none s is_s.loan from (sym (behind stated rest 0 (j + 1) (omega arith)) ∙ ap (λ ls. slice_get ls (j + 1)) (sym cut) ∙ is_s.line)
no_loan n lines stated rest i at cut few are none (total st len is) = omega arith
no_loan n lines stated rest i at cut few are none (last is) = omega arith
no_loan n lines stated rest i at cut few are none (nothing k lt is) = omega arith

pub bad_loan : (n : ℕ) (lines : List (List ℕ)) (stated : List StatementLine) (rest : List (List ℕ)) → lines ≡ map loan_line stated ++ rest → length stated < n → AreLoans stated → ((s : StatementLine) → IsStatedLine s → rises_from (last_loan stated) s → slice_get rest 0 ≢ Some (loan_line s)) → IsFirstMisfit (FitsAfter n lines) (length stated)
unfolding IsNoNext
bad_loan n lines stated rest cut few are none = record {
  before = loans_fit n lines stated rest cut (omega arith) are;
  here = no_loan n lines stated rest (length stated) refl cut few are none;
}

-- ---- a line that is not their total

no_total : (n : ℕ) (lines : List (List ℕ)) (stated : List StatementLine) (rest : List (List ℕ)) (i : ℕ) → i ≡ n → lines ≡ map loan_line stated ++ rest → length stated ≡ n → AreLoans stated → (IsTotalAt stated rest 0 → ⊥) → FitsAfter n lines i → ⊥
no_total n lines stated rest i at cut count are none (first_loan s lt is) = omega arith
no_total n lines stated rest i at cut count are none (next_loan j r s lt is_r is_s up) = omega arith
no_total n lines stated rest i at cut count are none (total st len is) =
    let texts : map loan_line st ≡ map loan_line stated = sym is.loans ∙ ap (λ k. take k lines) len ∙ firsts n lines stated rest cut count in
    let same : st ≡ stated = same_loans st stated is.each are.each texts in
    let here : slice_get lines (length stated) ≡ slice_get rest 0 = ap (λ ls. slice_get ls (length stated)) cut ∙ behind stated rest 0 (length stated) (omega arith) in
    none (record {
      total = sym here ∙ subst (λ (x : List StatementLine). slice_get lines (length x) ≡ Some (total_line (t_of x) (p_of x))) same is.total;
      t = subst (λ (x : List StatementLine). IsStatedBalance (t_of x)) same is.t;
      p = subst (λ (x : List StatementLine). IsStatedBalance (p_of x)) same is.p;
    })
no_total n lines stated rest i at cut count are none (last is) = omega arith
no_total n lines stated rest i at cut count are none (nothing k lt is) = omega arith

pub bad_total : (n : ℕ) (lines : List (List ℕ)) (stated : List StatementLine) (rest : List (List ℕ)) → lines ≡ map loan_line stated ++ rest → length stated ≡ n → AreLoans stated → (IsTotalAt stated rest 0 → ⊥) → IsFirstMisfit (FitsAfter n lines) n
bad_total n lines stated rest cut count are none = record {
  before = λ k lt. loans_fit n lines stated rest cut (omega arith) are k (omega arith);
  here = no_total n lines stated rest n refl cut count are none;
}

-- ---- a line that is not the last one, and one behind it

-- loans with their total
pub record AreTotalled (n : ℕ) (lines : List (List ℕ)) (stated : List StatementLine) (rest : List (List ℕ)) : Type 0 where
  pub cut : lines ≡ map loan_line stated ++ (total_line (t_of stated) (p_of stated) ∷ rest)
  pub count : length stated ≡ n
  pub are : AreLoans stated
  pub t : IsStatedBalance (t_of stated)
  pub p : IsStatedBalance (p_of stated)

totalled_fit : (n : ℕ) (lines : List (List ℕ)) (stated : List StatementLine) (rest : List (List ℕ)) → AreTotalled n lines stated rest → (k : ℕ) → k ≤ n → FitsAfter n lines k
totalled_fit n lines stated rest h k le =
    let count : length stated ≡ n = h.count in
    elim (nat_lt k n) as (λ v. nat_lt k n ≡ v → FitsAfter n lines k) [
      | true ↦ λ e. let lt : k < n = grind (arith, nat_tests) in loans_fit n lines stated (total_line (t_of stated) (p_of stated) ∷ rest) h.cut (omega arith) h.are k (omega arith)
      | false ↦ λ e. let is : n ≡ k = grind (arith, nat_tests) in subst (FitsAfter n lines) is (total stated h.count (record {
        loans = ap (λ m. take m lines) h.count ∙ firsts n lines stated (total_line (t_of stated) (p_of stated) ∷ rest) h.cut h.count;
        each = h.are.each;
        total = ap (λ ls. slice_get ls (length stated)) h.cut ∙ behind stated (total_line (t_of stated) (p_of stated) ∷ rest) 0 (length stated) (omega arith);
        t = h.t;
        p = h.p;
      }))
    ] refl

-- the line behind the total
next_is : (n : ℕ) (lines : List (List ℕ)) (stated : List StatementLine) (rest : List (List ℕ)) → AreTotalled n lines stated rest → (k i : ℕ) → i ≡ n + (k + 1) → slice_get lines i ≡ slice_get rest k
next_is n lines stated rest h k i e =
    let count : length stated ≡ n = h.count in
    ap (λ ls. slice_get ls i) h.cut ∙ behind stated (total_line (t_of stated) (p_of stated) ∷ rest) (k + 1) i (omega arith)
    ∙ ap (slice_get (total_line (t_of stated) (p_of stated) ∷ rest)) (add-one k)

no_last : (n : ℕ) (lines : List (List ℕ)) (i : ℕ) → i ≡ n + 1 → slice_get lines (n + 1) ≢ Some last_line → FitsAfter n lines i → ⊥
no_last n lines i at none (first_loan s lt is) = omega arith
no_last n lines i at none (next_loan j r s lt is_r is_s up) = omega arith
no_last n lines i at none (total st len is) = omega arith
no_last n lines i at none (last is) = none is
no_last n lines i at none (nothing k lt is) = omega arith

no_nothing : (n : ℕ) (lines : List (List ℕ)) (i : ℕ) → i ≡ n + 2 → slice_get lines (n + 2) ≢ None → FitsAfter n lines i → ⊥
no_nothing n lines i at none (first_loan s lt is) = omega arith
no_nothing n lines i at none (next_loan j r s lt is_r is_s up) = omega arith
no_nothing n lines i at none (total st len is) = omega arith
no_nothing n lines i at none (last is) = omega arith
no_nothing n lines i at none (nothing k lt is) = none (ap (slice_get lines) (sym at) ∙ is)

pub bad_last : (n : ℕ) (lines : List (List ℕ)) (stated : List StatementLine) (rest : List (List ℕ)) → AreTotalled n lines stated rest → slice_get rest 0 ≢ Some last_line → IsFirstMisfit (FitsAfter n lines) (n + 1)
bad_last n lines stated rest h none = record {
  before = λ k lt. totalled_fit n lines stated rest h k (omega arith);
  here = no_last n lines (n + 1) refl (λ e. none (sym (next_is n lines stated rest h 0 (n + 1) (omega arith)) ∙ e));
}

-- all lines of a statement behind its first
ended_fit : (n : ℕ) (lines : List (List ℕ)) (stated : List StatementLine) (rest : List (List ℕ)) → AreTotalled n lines stated (last_line ∷ rest) → (k : ℕ) → k < n + 2 → FitsAfter n lines k
ended_fit n lines stated rest h k lt =
    elim (nat_lt n k) as (λ v. nat_lt n k ≡ v → FitsAfter n lines k) [
      | true ↦ λ e. let is : n + 1 ≡ k = grind (arith, nat_tests) in subst (FitsAfter n lines) is (last (next_is n lines stated (last_line ∷ rest) h 0 (n + 1) (omega arith)))
      | false ↦ λ e. totalled_fit n lines stated (last_line ∷ rest) h k (grind (arith, nat_tests))
    ] refl

pub bad_end : (n : ℕ) (lines : List (List ℕ)) (stated : List StatementLine) (rest : List (List ℕ)) → AreTotalled n lines stated (last_line ∷ rest) → slice_get rest 0 ≢ None → IsFirstMisfit (FitsAfter n lines) (n + 2)
bad_end n lines stated rest h none = record {
  before = ended_fit n lines stated rest h;
  here = no_nothing n lines (n + 2) refl (λ e. none (sym (next_is n lines stated (last_line ∷ rest) h 1 (n + 2) (omega arith)) ∙ e));
}

-- and where nothing stands behind the last, every place
whole_fit : (n : ℕ) (lines : List (List ℕ)) (stated : List StatementLine) → AreTotalled n lines stated (last_line ∷ []) → (k : ℕ) → FitsAfter n lines k
whole_fit n lines stated h k =
    elim (nat_lt k (n + 2)) as (λ v. nat_lt k (n + 2) ≡ v → FitsAfter n lines k) [
      | true ↦ λ e. ended_fit n lines stated [] h k (grind (arith, nat_tests))
      | false ↦ λ e.
          let past : n + 2 ≤ k = grind (arith, nat_tests) in
          nothing k (omega arith) (next_is n lines stated (last_line ∷ []) h (k - (n + 1)) k (omega arith) ∙ slice_get_past (last_line ∷ []) (k - (n + 1)) (omega arith))
    ] refl

-- ---- the lines behind the first, and the first

begins : (lines rest : List (List ℕ)) (day n : ℕ) → lines ≡ heading_line day n ∷ rest → IsReadDay day → IsStatedNumber n → BeginsWith lines day n
begins lines rest day n e d m = record { line = ap (λ ls. slice_get ls 0) e; dated = d; number = m }

fits_behind : (lines rest : List (List ℕ)) (day n : ℕ) → lines ≡ heading_line day n ∷ rest → IsReadDay day → IsStatedNumber n → (k : ℕ) → FitsAfter n rest k → Fits lines (k + 1)
fits_behind lines rest day n e d m k h = after day n k (begins lines rest day n e d m) (subst (λ ls. FitsAfter n ls k) (sym (ap (drop 1) e)) h)

not_behind : (lines rest : List (List ℕ)) (day n : ℕ) → lines ≡ heading_line day n ∷ rest → IsStatedNumber n → (k i : ℕ) → i ≡ k + 1 → (FitsAfter n rest k → ⊥) → Fits lines i → ⊥
not_behind lines rest day n e m k i at none (heading d c b) = omega arith
not_behind lines rest day n e m k i at none (after d c j b h) =
    let first : heading_line d c ≡ heading_line day n = some_is (slice_get lines 0) (heading_line d c) (heading_line day n) b.line (ap (λ ls. slice_get ls 0) e) in
    let count : c ≡ n = same_count d c day n b.number m first in
    let place : j ≡ k = omega arith in
    none (subst (λ i. FitsAfter n rest i) place (subst (λ c. FitsAfter c rest j) count (subst (λ ls. FitsAfter c ls j) (ap (drop 1) e) h)))

pub bad_behind : (text : List ℕ) (rest : List (List ℕ)) (day n line : ℕ) → text_lines text ≡ heading_line day n ∷ rest → IsReadDay day → IsStatedNumber n → IsBadAfter n rest line → IsBadLine text line
bad_behind text rest day n line e d m b = record {
  place = b.place + 1;
  number = (let is : line ≡ b.place + 2 = b.number in omega arith);
  first = record { before = before; here = not_behind (text_lines text) rest day n e m b.place (b.place + 1) refl b.first.here };
}
  where
    before : (k : ℕ) → k < b.place + 1 → Fits (text_lines text) k
    before zero lt = heading day n (begins (text_lines text) rest day n e d m)
    before (suc k) lt = subst (Fits (text_lines text)) (add-one k) (fits_behind (text_lines text) rest day n e d m k (b.first.before k (omega arith)))

not_first : (lines : List (List ℕ)) (i : ℕ) → i ≡ 0 → ((day n : ℕ) → BeginsWith lines day n → ⊥) → Fits lines i → ⊥
not_first lines i at none (heading d c b) = none d c b
not_first lines i at none (after d c j b h) = omega arith

pub bad_first : (text : List ℕ) → ((day n : ℕ) → BeginsWith (text_lines text) day n → ⊥) → IsBadLine text 1
bad_first text none = record {
  place = 0;
  number = refl;
  first = record { before = λ k lt. absurd (omega arith); here = not_first (text_lines text) 0 refl none };
}

pub all_lines : (lines rest : List (List ℕ)) (day n : ℕ) (stated : List StatementLine) → lines ≡ heading_line day n ∷ rest → rest ≡ map loan_line stated ++ total_line (t_of stated) (p_of stated) ∷ last_line ∷ [] → length stated ≡ n → lines ≡ statement_lines day stated
unfolding statement_lines
all_lines lines rest day n stated e f count = e ∙ ap (λ ls. heading_line day n ∷ ls) f ∙ ap (λ c. heading_line day c ∷ (map loan_line stated ++ total_line (t_of stated) (p_of stated) ∷ last_line ∷ [])) (sym count)

-- ---- no line of a statement is bad

all_fit : (text : List ℕ) (day : ℕ) (stated : List StatementLine) → IsStatement text day stated → (i : ℕ) → Fits (text_lines text) i
unfolding statement_lines
all_fit text day stated h zero = heading day (length stated) (begins (text_lines text) _ day (length stated) h.lines h.dated h.loans.count)
all_fit text day stated h (suc i) =
    subst (Fits (text_lines text)) (add-one i) (fits_behind (text_lines text) _ day (length stated) h.lines h.dated h.loans.count i (whole_fit (length stated) _ stated (record { cut = refl; count = refl; are = record { each = h.loans.each; rising = h.loans.rising }; t = h.loans.t; p = h.loans.p }) i))

pub none_bad : (text : List ℕ) (day : ℕ) (stated : List StatementLine) → IsStatement text day stated → (line : ℕ) → IsBadLine text line → ⊥
none_bad text day stated h line bad = bad.first.here (all_fit text day stated h bad.place)

-- a text that is a statement is not confirmed for want of memory alone
pub only_memory : (text : List ℕ) (f : ConfirmFault) → IsConfirmFault text f → (day : ℕ) (stated : List StatementLine) → IsStatement text day stated → f ≡ fault.OutOfMemory
only_memory text (fault.BadLine line) bad day stated h = absurd (none_bad text day stated h line bad)
only_memory text fault.OutOfMemory bad day stated h = refl
