-- Reading a statement, line by line: what was read so far, and where it ends.
use Rattle.std.proofs.Common.{◌≡◌, ◌≢◌, ℕ, zero, suc, ◌+◌, ◌-◌, ◌<◌, ◌≤◌, List, [], ◌∷◌, ◌++◌, length, get_or, refl, sym, ap, subst, ◌∙◌, arith, append_assoc, length-append, true, false, Option, Some, None, IfSome, IfNone}
use Rattle.std.specs.Prelude.{map, slice_get, nat_lt, Result, Ok, Err, IfErr, IsErrAnd}
use Rattle.std.specs.List.{AllPairs}
use Rattle.std.specs.Option.{option_map}
use Rattle.std.proofs.lemmas.Bool.Decides.{nat_tests}
use Rattle.std.proofs.lemmas.List.Elements.{All-append, All-cons, All-nil}
use Rattle.servicing_transfer.specs.declared.statement_line.StatementLine.{StatementLine}
use Rattle.servicing_transfer.specs.StatementTexts.{t_of, p_of, heading_line, loan_line, total_line, last_line}
use Rattle.svc_base.specs.Calendar.{IsReadDay}
use Rattle.servicing_transfer.specs.declared.confirm_fault.ConfirmFault.{ConfirmFault}
use Rattle.servicing_transfer.specs.declared.confirm_fault.ConfirmFault.TheVariants as fault
use Rattle.servicing_transfer.specs.Stated.{IsStatedNumber, IsStatedLine, rises, text_lines, IsConfirmFault, AreStated}
use Rattle.servicing_transfer.specs.StatementReading.{AreLoans, last_loan, rises_from, IsTotalAt, IsTotalBefore, IsBadAfter, IsFaultAfter, IsEnd, IsEndFault, IsBadEnd, no_total, no_last, more}
use Rattle.servicing_transfer.proofs.LineWords.{same_line_text}
use Rattle.servicing_transfer.proofs.FitsLemmas.{some_is, bad_behind, bad_loan, bad_total, bad_last, bad_end, AreTotalled}

-- ---- the next line

pub no_line_at : (ls : List (List ℕ)) (t : List ℕ) → ls ≡ [] → slice_get ls 0 ≢ Some t
no_line_at ls t e is = let none : slice_get ls 0 ≡ None = ap (λ x. slice_get x 0) e in cc

pub other_line_at : (ls rest : List (List ℕ)) (line t : List ℕ) → ls ≡ line ∷ rest → line ≢ t → slice_get ls 0 ≢ Some t
other_line_at ls rest line t e apart is = apart (some_is (slice_get ls 0) line t (ap (λ x. slice_get x 0) e) is)

-- a loan that does not rise
pub not_above : (ls rest : List (List ℕ)) (line : List ℕ) (before : Option ℕ) (stated : StatementLine) → ls ≡ line ∷ rest → line ≡ loan_line stated → IsStatedLine stated → (rises_from before stated → ⊥) → (s : StatementLine) → IsStatedLine s → rises_from before s → slice_get ls 0 ≢ Some (loan_line s)
not_above ls rest line before stated e text is low s also up at =
    let here : line ≡ loan_line s = some_is (slice_get ls 0) line (loan_line s) (ap (λ x. slice_get x 0) e) at in
    let same : stated ≡ s = same_line_text stated s is also (sym text ∙ here) in
    low (subst (λ x. rises_from before x) (sym same) up)

-- ---- one loan more

pub cut_more : (ls rest left : List (List ℕ)) (xs : List StatementLine) (x : StatementLine) → ls ≡ map loan_line xs ++ rest → rest ≡ loan_line x ∷ left → ls ≡ map loan_line (xs ++ (x ∷ [])) ++ left
cut_more ls rest left xs x e f = e ∙ ap (λ r. map loan_line xs ++ r) f ∙ sym (append_assoc (map loan_line xs) (loan_line x ∷ []) left) ∙ ap (λ ts. ts ++ left) (sym (both xs))
  where
    both : (ys : List StatementLine) → map loan_line (ys ++ (x ∷ [])) ≡ map loan_line ys ++ (loan_line x ∷ [])
    both [] = refl
    both (y ∷ ys) = ap (λ ts. loan_line y ∷ ts) (both ys)

at_left : (xs : List StatementLine) (x : StatementLine) (i : ℕ) (d : StatementLine) → i < length xs → get_or (xs ++ (x ∷ [])) i d ≡ get_or xs i d
at_left [] x i d lt = absurd (omega arith)
at_left (y ∷ ys) x zero d lt = refl
at_left (y ∷ ys) x (suc i) d lt = at_left ys x i d (omega arith)

at_end : (xs : List StatementLine) (x : StatementLine) (i : ℕ) (d : StatementLine) → i ≡ length xs → get_or (xs ++ (x ∷ [])) i d ≡ x
at_end [] x i d e = ap (λ k. get_or (x ∷ []) k d) e
at_end (y ∷ ys) x zero d e = absurd (omega arith)
at_end (y ∷ ys) x (suc i) d e = at_end ys x i d (omega arith)

get_at : (xs : List StatementLine) (i : ℕ) (d : StatementLine) → i < length xs → slice_get xs i ≡ Some (get_or xs i d)
get_at [] i d lt = absurd (omega arith)
get_at (x ∷ xs) zero d lt = refl
get_at (x ∷ xs) (suc i) d lt = get_at xs i d (omega arith)

-- a loan above the last one is above each
above_each : (xs : List StatementLine) (x : StatementLine) (before : Option ℕ) → AllPairs rises xs → before ≡ last_loan xs → rises_from before x → (i : ℕ) (d : StatementLine) → i < length xs → rises (get_or xs i d) x
above_each xs x before up e from i d lt =
    let k = length xs - 1 in
    let at : before ≡ Some (get_or xs k d).loan = e ∙ ap (option_map (λ (s : StatementLine). s.loan)) (get_at xs k d (omega arith)) in
    let last : rises (get_or xs k d) x = subst (λ o. rises_from o x) at from in
    elim (nat_lt i k) as (λ v. nat_lt i k ≡ v → rises (get_or xs i d) x) [
      | true ↦ λ t. let less : i < k = grind (arith, nat_tests) in let below = up i k d less (omega arith) in omega (arith, below, last)
      | false ↦ λ t. let is : i ≡ k = grind (arith, nat_tests) in subst (λ j. rises (get_or xs j d) x) (sym is) last
    ] refl

pub loans_more : (xs : List StatementLine) (x : StatementLine) (before : Option ℕ) → AreLoans xs → before ≡ last_loan xs → rises_from before x → IsStatedLine x → AreLoans (xs ++ (x ∷ []))
loans_more xs x before are e from is = record {
  each = All-append IsStatedLine xs (x ∷ []) are.each (All-cons IsStatedLine x [] is (All-nil IsStatedLine));
  rising = rising;
}
  where
    rising : AllPairs rises (xs ++ (x ∷ []))
    rising i j d lt within =
        let n = length-append xs (x ∷ []) in
        elim (nat_lt j (length xs)) as (λ v. nat_lt j (length xs) ≡ v → rises (get_or (xs ++ (x ∷ [])) i d) (get_or (xs ++ (x ∷ [])) j d)) [
          | true ↦ λ t.
              let low : j < length xs = grind (arith, nat_tests) in
              let a = at_left xs x i d (omega arith) in
              let b = at_left xs x j d low in
              subst (λ s. rises (get_or (xs ++ (x ∷ [])) i d) s) (sym b) (subst (λ r. rises r (get_or xs j d)) (sym a) (are.rising i j d lt low))
          | false ↦ λ t.
              let high : length xs ≤ j = grind (arith, nat_tests) in
              let end : j ≡ length xs = omega (arith, n, within, high) in
              let a = at_left xs x i d (omega arith) in
              let b = at_end xs x j d end in
              subst (λ s. rises (get_or (xs ++ (x ∷ [])) i d) s) (sym b) (subst (λ r. rises r x) (sym a) (above_each xs x before are.rising e from i d (omega arith)))
        ] refl

pub no_loans : AreLoans []
no_loans = record { each = All-nil IsStatedLine; rising = λ i j d lt within. absurd (omega arith) }

-- ---- where it ends

pub loan_fault : (n : ℕ) (lines : List (List ℕ)) (stated : List StatementLine) (rest : List (List ℕ)) (before : Option ℕ) (place line : ℕ) → lines ≡ map loan_line stated ++ rest → length stated ≡ place → place < n → line ≡ place + 2 → AreLoans stated → before ≡ last_loan stated → ((s : StatementLine) → IsStatedLine s → rises_from before s → slice_get rest 0 ≢ Some (loan_line s)) → IsBadAfter n lines line
loan_fault n lines stated rest before place line cut count lt at are e none = record {
  place = length stated;
  number = omega (arith, count, at);
  first = bad_loan n lines stated rest cut (omega (arith, count, lt)) are (λ s is from. none s is (subst (λ o. rises_from o s) (sym e) from));
}

pub total_fault : (n : ℕ) (lines : List (List ℕ)) (stated : List StatementLine) (rest : List (List ℕ)) (line : ℕ) → lines ≡ map loan_line stated ++ rest → length stated ≡ n → AreLoans stated → (IsTotalAt stated rest 0 → ⊥) → line ≡ n + 2 → IsBadAfter n lines line
total_fault n lines stated rest line cut count are none at = record { place = n; number = at; first = bad_total n lines stated rest cut count are none }

pub totalled : (n : ℕ) (lines : List (List ℕ)) (stated : List StatementLine) (behind rest : List (List ℕ)) → lines ≡ map loan_line stated ++ behind → length stated ≡ n → AreLoans stated → IsTotalBefore stated behind rest → AreTotalled n lines stated rest
totalled n lines stated behind rest cut count are total = record {
  cut = cut ∙ ap (λ r. map loan_line stated ++ r) total.begins;
  count = count;
  are = are;
  t = total.t;
  p = total.p;
}

pub last_fault : (n : ℕ) (lines : List (List ℕ)) (stated : List StatementLine) (rest : List (List ℕ)) (line : ℕ) → AreTotalled n lines stated rest → slice_get rest 0 ≢ Some last_line → line ≡ n + 3 → IsBadAfter n lines line
last_fault n lines stated rest line h none at = record { place = n + 1; number = omega (arith, at); first = bad_last n lines stated rest h none }

pub ended : (n : ℕ) (lines : List (List ℕ)) (stated : List StatementLine) (behind rest : List (List ℕ)) → AreTotalled n lines stated behind → behind ≡ last_line ∷ rest → AreTotalled n lines stated (last_line ∷ rest)
ended n lines stated behind rest h e = subst (AreTotalled n lines stated) e h

pub end_fault : (n : ℕ) (lines : List (List ℕ)) (stated : List StatementLine) (rest : List (List ℕ)) (line : ℕ) → AreTotalled n lines stated (last_line ∷ rest) → slice_get rest 0 ≢ None → line ≡ n + 4 → IsBadAfter n lines line
end_fault n lines stated rest line h none at = record { place = n + 2; number = omega (arith, at); first = bad_end n lines stated rest h none }

pub last_more : (xs : List StatementLine) (x : StatementLine) → Some x.loan ≡ last_loan (xs ++ (x ∷ []))
last_more xs x =
    let n = length-append xs (x ∷ []) in
    let at : length (xs ++ (x ∷ [])) - 1 ≡ length xs = omega (arith, n) in
    sym (ap (option_map (λ (s : StatementLine). s.loan)) (ap (slice_get (xs ++ (x ∷ []))) at ∙ end xs))
  where
    end : (ys : List StatementLine) → slice_get (ys ++ (x ∷ [])) (length ys) ≡ Some x
    end [] = refl
    end (y ∷ ys) = end ys

pub count_more : (xs : List StatementLine) (x : StatementLine) → length (xs ++ (x ∷ [])) ≡ length xs + 1
count_more xs x = length-append xs (x ∷ [])

-- a fault behind the first line is one of the text
pub fault_behind : (text : List ℕ) (rest : List (List ℕ)) (day n : ℕ) (f : ConfirmFault) → text_lines text ≡ heading_line day n ∷ rest → IsReadDay day → IsStatedNumber n → IsFaultAfter n rest f → IsConfirmFault text f
fault_behind text rest day n (fault.BadLine line) e d m h = bad_behind text rest day n line e d m h
fault_behind text rest day n fault.OutOfMemory e d m h = tt

pub fault_told : {A E : Type 0} (Q : E → Type 0) (r : Result A E) (x : E) → IsErrAnd r (λ e. e ≡ x) → Q x → IfErr r Q
fault_told Q (Ok a) x h q = tt
fault_told Q (Err e) x h q = subst Q (sym h) q

-- what goes wrong behind the loans goes wrong in the lines behind the first
pub end_faults : (n : ℕ) (lines : List (List ℕ)) (stated : List StatementLine) (rest : List (List ℕ)) (f : ConfirmFault) → lines ≡ map loan_line stated ++ rest → length stated ≡ n → AreLoans stated → IsEndFault stated rest f → IsFaultAfter n lines f
end_faults n lines stated rest (fault.BadLine line) cut count are h = by h
  where
    by : IsBadEnd stated rest line → IsBadAfter n lines line
    by (no_total at none) = total_fault n lines stated rest line cut count are none (omega (arith, at, count))
    by (no_last left at is none) = last_fault n lines stated left line (totalled n lines stated rest left cut count are is) none (omega (arith, at, count))
    by (more behind left at is e some) = end_fault n lines stated left line (ended n lines stated behind left (totalled n lines stated rest behind cut count are is) e) some (omega (arith, at, count))
end_faults n lines stated rest fault.OutOfMemory cut count are h = tt

pub all_behind : (lines : List (List ℕ)) (stated : List StatementLine) (rest : List (List ℕ)) → lines ≡ map loan_line stated ++ rest → IsEnd stated rest → lines ≡ map loan_line stated ++ total_line (t_of stated) (p_of stated) ∷ last_line ∷ []
all_behind lines stated rest cut end = cut ∙ ap (λ r. map loan_line stated ++ r) end.all

pub are_stated : (n : ℕ) (stated : List StatementLine) (rest : List (List ℕ)) → length stated ≡ n → IsStatedNumber n → AreLoans stated → IsEnd stated rest → AreStated stated
are_stated n stated rest count small are end = record { count = omega (arith, count, small); each = are.each; rising = are.rising; t = end.t; p = end.p }

-- ---- what a call found, or did not

pub at_some : {T : Type 0} (P : T → Type 0) (o : Option T) (x : T) → o ≡ Some x → IfSome o P → P x
at_some P o x e h = subst (λ v. IfSome v P) e h

pub at_none : {T P : Type 0} (o : Option T) → o ≡ None → IfNone o P → P
at_none {T} {P} o e h = subst (λ v. IfNone v P) e h

pub some_as : {T : Type 0} (P Q : T → Type 0) (r : Option T) → ((x : T) → P x → Q x) → IfSome r P → IfSome r Q
some_as P Q None f h = tt
some_as P Q (Some x) f h = f x h

pub none_as : {T P Q : Type 0} (r : Option T) → (P → Q) → IfNone r P → IfNone r Q
none_as None f h = f h
none_as (Some x) f h = tt

pub filled : (ls : List (List ℕ)) → (ls ≡ [] → ⊥) → slice_get ls 0 ≢ None
filled [] h e = h refl
filled (x ∷ xs) h e = cc
