-- Two rising lists of loans, gone through together, loan by loan.
use Rattle.std.proofs.Common.{◌≡◌, ℕ, suc, ◌+◌, ◌<◌, ◌≤◌, Bool, true, false, cond, List, [], ◌∷◌, ◌++◌, length, get_or, refl, sym, ap, subst, ◌∙◌, arith, append_assoc, append-nil, Option, Some, None}
use Rattle.std.specs.Prelude.{⊤, codes, nat_lt, ◌==◌, min, if◌then◌else◌}
use Rattle.std.specs.List.{All, AllPairs, flat_map}
use Rattle.std.proofs.lemmas.List.Elements.{All-cons, All-nil, All-head, All-tail}
use Rattle.std.proofs.lemmas.Bool.Decides.{nat_tests}
use Rattle.svc_base.specs.Text.{text_of_number}
use Rattle.svc_types.proofs.OrderLemmas.{pairs_head, pairs_tail}
use Rattle.serv_line.specs.Replies.{ended}
use Rattle.std.specs.Cmp.{IsPartialEquivalence}
use Rattle.servicing_transfer.specs.contracts.statement_line.StatementLinePartialEq.TheImpl.Laws.{laws-law}
use Rattle.servicing_transfer.specs.declared.statement_line.StatementLine.{StatementLine}
use Rattle.servicing_transfer.specs.Stated.{rises}
use Rattle.servicing_transfer.specs.Confirmations.{with_number, together, loan_numbers, stated_of, word_for, word_of_same, line_about, same_line, text_of_differences}
use Rattle.servicing_transfer.specs.Differences.{least_loan, first_for, left_after, lines_about}

-- ---- numbers that rise

abbrev above : ℕ → ℕ → Type 0
above n x = n < x

with_low : (n : ℕ) (xs : List ℕ) → All (above n) xs → with_number n xs ≡ n ∷ xs
with_low n [] h = refl
with_low n (x ∷ xs) h =
    let lt : n < x = All-head (above n) x xs h in
    let test : nat_lt n x ≡ true = grind (arith, nat_tests) in
    ap (λ b. if b then n ∷ x ∷ xs else if n == x then x ∷ xs else x ∷ with_number n xs) test

with_same : (n : ℕ) (xs : List ℕ) → with_number n (n ∷ xs) ≡ n ∷ xs
with_same n xs =
    let low : nat_lt n n ≡ false = grind (arith, nat_tests) in
    let same : (n == n) ≡ true = grind (arith, nat_tests) in
    ap (λ b. if b then n ∷ n ∷ xs else if n == n then n ∷ xs else n ∷ with_number n xs) low
    ∙ ap (λ b. if b then n ∷ xs else n ∷ with_number n xs) same

with_high : (n y : ℕ) (xs : List ℕ) → y < n → with_number n (y ∷ xs) ≡ y ∷ with_number n xs
with_high n y xs lt =
    let low : nat_lt n y ≡ false = grind (arith, nat_tests) in
    let apart : (n == y) ≡ false = grind (arith, nat_tests) in
    ap (λ b. if b then n ∷ y ∷ xs else if n == y then y ∷ xs else y ∷ with_number n xs) low
    ∙ ap (λ b. if b then y ∷ xs else y ∷ with_number n xs) apart

with_all : (P : ℕ → Type 0) (n : ℕ) (xs : List ℕ) → P n → All P xs → All P (with_number n xs)
with_all P n [] p h = All-cons P n [] p h
with_all P n (x ∷ xs) p h =
    elim (nat_lt n x) as (λ b. All P (if b then n ∷ x ∷ xs else if n == x then x ∷ xs else x ∷ with_number n xs)) [
      | true ↦ All-cons P n (x ∷ xs) p h
      | false ↦ elim (n == x) as (λ b. All P (if b then x ∷ xs else x ∷ with_number n xs)) [
        | true ↦ h
        | false ↦ All-cons P x (with_number n xs) (All-head P x xs h) (with_all P n xs p (All-tail P x xs h))
      ]
    ]

together_low : (n : ℕ) (xs ys : List ℕ) → All (above n) xs → together xs (n ∷ ys) ≡ n ∷ together xs ys
together_low n [] ys h = refl
together_low n (x ∷ xs) ys h =
    ap (with_number x) (together_low n xs ys (All-tail (above n) x xs h)) ∙ with_high x n (together xs ys) (All-head (above n) x xs h)

together_above : (n : ℕ) (xs ys : List ℕ) → All (above n) xs → All (above n) ys → All (above n) (together xs ys)
together_above n [] ys p q = q
together_above n (x ∷ xs) ys p q = with_all (above n) x (together xs ys) (All-head (above n) x xs p) (together_above n xs ys (All-tail (above n) x xs p) q)

-- ---- one list

-- no loan of a list is below a number
abbrev pub IsNotAbove : ℕ → List StatementLine → Type 0
IsNotAbove id [] = ⊤
IsNotAbove id (s ∷ ss) = id ≤ s.loan

-- the number is that of the first loan, or of none
pub data IsSplit (id : ℕ) (stated : List StatementLine) : Type 0 where
  front : loan_numbers stated ≡ id ∷ loan_numbers (left_after id stated) → IsSplit id stated
  behind : left_after id stated ≡ stated → All (above id) (loan_numbers stated) → IsSplit id stated

pub record IsTaken (id : ℕ) (stated : List StatementLine) : Type 0 where
  pub split : IsSplit id stated
  pub own : stated_of id stated ≡ first_for id stated
  pub later : (n : ℕ) → id < n → stated_of n stated ≡ stated_of n (left_after id stated)
  pub high : All (above id) (loan_numbers (left_after id stated))
  pub rising : AllPairs rises (left_after id stated)

all_above : (s : StatementLine) (ss : List StatementLine) → AllPairs rises (s ∷ ss) → (ks : List StatementLine) → All (rises s) ks → All (above s.loan) (loan_numbers ks)
all_above s ss h [] up = All-nil (above s.loan)
all_above s ss h (k ∷ ks) up = All-cons (above s.loan) k.loan (loan_numbers ks) (All-head (rises s) k ks up) (all_above s ss h ks (All-tail (rises s) k ks up))

behind_above : (id m : ℕ) (ns : List ℕ) → id < m → All (above m) ns → All (above id) ns
behind_above id m ns lt h = λ k d within. let more : m < get_or ns k d = h k d within in omega arith

none_of : (id : ℕ) (ss : List StatementLine) → All (above id) (loan_numbers ss) → stated_of id ss ≡ None
none_of id [] h = refl
none_of id (s ∷ ss) h =
    let lt : id < s.loan = All-head (above id) s.loan (loan_numbers ss) h in
    let apart : (s.loan == id) ≡ false = grind (arith, nat_tests) in
    ap (λ b. cond b (Some s) (stated_of id ss)) apart ∙ none_of id ss (All-tail (above id) s.loan (loan_numbers ss) h)

pub taken : (id : ℕ) (stated : List StatementLine) → AllPairs rises stated → IsNotAbove id stated → IsTaken id stated
taken id [] up low = record { split = behind refl (All-nil (above id)); own = refl; later = λ n lt. refl; high = All-nil (above id); rising = up }
taken id (s ∷ ss) up low =
    let over : All (above s.loan) (loan_numbers ss) = all_above s ss up ss (pairs_head rises s ss up) in
    elim (s.loan == id) as (λ b. (s.loan == id) ≡ b → IsTaken id (s ∷ ss)) [
      | true ↦ λ e. here e over (ap (λ b. if b then ss else s ∷ ss) e)
      | false ↦ λ e. there e over (ap (λ b. if b then ss else s ∷ ss) e)
    ] refl
  where
    here : (s.loan == id) ≡ true → All (above s.loan) (loan_numbers ss) → left_after id (s ∷ ss) ≡ ss → IsTaken id (s ∷ ss)
    here e over left =
        let same : s.loan ≡ id = grind (arith, nat_tests) in
        record {
          split = front (ap (λ n. n ∷ loan_numbers ss) same ∙ ap (λ (ks : List StatementLine). id ∷ loan_numbers ks) (sym left));
          own = ap (λ b. cond b (Some s) (stated_of id ss)) e ∙ sym (ap (λ b. if b then Some s else None) e);
          later = λ n lt. (let apart : (s.loan == n) ≡ false = grind (arith, nat_tests) in ap (λ b. cond b (Some s) (stated_of n ss)) apart) ∙ ap (stated_of n) (sym left);
          high = subst (λ (ks : List StatementLine). All (above id) (loan_numbers ks)) (sym left) (subst (λ n. All (above n) (loan_numbers ss)) same over);
          rising = subst (AllPairs rises) (sym left) (pairs_tail rises s ss up);
        }

    there : (s.loan == id) ≡ false → All (above s.loan) (loan_numbers ss) → left_after id (s ∷ ss) ≡ s ∷ ss → IsTaken id (s ∷ ss)
    there e over left =
        let lt : id < s.loan = grind (arith, nat_tests) in
        let all : All (above id) (loan_numbers (s ∷ ss)) = All-cons (above id) s.loan (loan_numbers ss) lt (behind_above id s.loan (loan_numbers ss) lt over) in
        record {
          split = behind left all;
          own = none_of id (s ∷ ss) all ∙ sym (ap (λ b. if b then Some s else None) e);
          later = λ n l. ap (stated_of n) (sym left);
          high = subst (λ (ks : List StatementLine). All (above id) (loan_numbers ks)) (sym left) all;
          rising = subst (AllPairs rises) (sym left) up;
        }

-- ---- both

min_left : (a b : ℕ) → min a b ≤ a
min_left a b = grind (arith, nat_tests)

min_right : (a b : ℕ) → min a b ≤ b
min_right a b = grind (arith, nat_tests)

min_one : (a b : ℕ) → min a b < a → min a b < b → ⊥
min_one a b p q = grind (arith, nat_tests)

some_number : (a b : ℕ) → Some a ≡ Some b → a ≡ b
some_number a b e = cc

pub least_left : (text books : List StatementLine) (id : ℕ) → least_loan text books ≡ Some id → IsNotAbove id text
least_left [] books id e = tt
least_left (r ∷ rs) [] id e = let is = some_number r.loan id e in omega arith
least_left (r ∷ rs) (s ∷ ss) id e = let is = some_number (min r.loan s.loan) id e in let low = min_left r.loan s.loan in omega arith

pub least_right : (text books : List StatementLine) (id : ℕ) → least_loan text books ≡ Some id → IsNotAbove id books
least_right text [] id e = tt
least_right [] (s ∷ ss) id e = let is = some_number s.loan id e in omega arith
least_right (r ∷ rs) (s ∷ ss) id e = let is = some_number (min r.loan s.loan) id e in let low = min_right r.loan s.loan in omega arith

not_both : (text books : List StatementLine) (id : ℕ) → least_loan text books ≡ Some id → All (above id) (loan_numbers text) → All (above id) (loan_numbers books) → ⊥
not_both [] [] id e p q = cc
not_both [] (s ∷ ss) id e p q = let is = some_number s.loan id e in let lt : id < s.loan = All-head (above id) s.loan (loan_numbers ss) q in omega arith
not_both (r ∷ rs) [] id e p q = let is = some_number r.loan id e in let lt : id < r.loan = All-head (above id) r.loan (loan_numbers rs) p in omega arith
not_both (r ∷ rs) (s ∷ ss) id e p q =
    let is = some_number (min r.loan s.loan) id e in
    let a : id < r.loan = All-head (above id) r.loan (loan_numbers rs) p in
    let b : id < s.loan = All-head (above id) s.loan (loan_numbers ss) q in
    min_one r.loan s.loan (subst (λ n. n < r.loan) (sym is) a) (subst (λ n. n < s.loan) (sym is) b)

both_numbers : (id : ℕ) (text books : List StatementLine) → least_loan text books ≡ Some id → IsTaken id text → IsTaken id books → together (loan_numbers text) (loan_numbers books) ≡ id ∷ together (loan_numbers (left_after id text)) (loan_numbers (left_after id books))
both_numbers id text books e p q = by p.split q.split
  where
    by : IsSplit id text → IsSplit id books → together (loan_numbers text) (loan_numbers books) ≡ id ∷ together (loan_numbers (left_after id text)) (loan_numbers (left_after id books))
    by (front a) (front b) = ap (λ ns. together ns (loan_numbers books)) a ∙ ap (together (id ∷ loan_numbers (left_after id text))) b ∙ ap (with_number id) (together_low id (loan_numbers (left_after id text)) (loan_numbers (left_after id books)) p.high) ∙ with_same id (together (loan_numbers (left_after id text)) (loan_numbers (left_after id books)))
    by (front a) (behind b high) = ap (λ ns. together ns (loan_numbers books)) a ∙ ap (λ (ks : List StatementLine). together (id ∷ loan_numbers (left_after id text)) (loan_numbers ks)) (sym b) ∙ with_low id (together (loan_numbers (left_after id text)) (loan_numbers (left_after id books))) (together_above id (loan_numbers (left_after id text)) (loan_numbers (left_after id books)) p.high q.high)
    by (behind a high) (front b) = ap (together (loan_numbers text)) b ∙ ap (λ (ks : List StatementLine). together (loan_numbers ks) (id ∷ loan_numbers (left_after id books))) (sym a) ∙ together_low id (loan_numbers (left_after id text)) (loan_numbers (left_after id books)) p.high
    by (behind a high) (behind b over) = absurd (not_both text books id e high over)

-- what is said of loans above a number is said without what is not above it
same_about : (id : ℕ) (text books : List StatementLine) (ns : List ℕ) → IsTaken id text → IsTaken id books → All (above id) ns → flat_map (line_about text books) ns ≡ flat_map (line_about (left_after id text) (left_after id books)) ns
same_about id text books [] p q h = refl
same_about id text books (n ∷ ns) p q h =
    let lt : id < n = All-head (above id) n ns h in
    ap (λ o. ended (word_for o (stated_of n books) ++ (32 ∷ text_of_number n)) ++ flat_map (line_about text books) ns) (p.later n lt)
    ∙ ap (λ o. ended (word_for (stated_of n (left_after id text)) o ++ (32 ∷ text_of_number n)) ++ flat_map (line_about text books) ns) (q.later n lt)
    ∙ ap (λ x. line_about (left_after id text) (left_after id books) n ++ x) (same_about id text books ns p q (All-tail (above id) n ns h))

-- one loan after the other
pub one_about : (id : ℕ) (text books : List StatementLine) → least_loan text books ≡ Some id → IsTaken id text → IsTaken id books →
    lines_about text books ≡ ended (word_for (first_for id text) (first_for id books) ++ (32 ∷ text_of_number id)) ++ lines_about (left_after id text) (left_after id books)
one_about id text books e p q =
    let ns = together (loan_numbers (left_after id text)) (loan_numbers (left_after id books)) in
    ap (flat_map (line_about text books)) (both_numbers id text books e p q)
    ∙ ap (λ o. ended (word_for o (stated_of id books) ++ (32 ∷ text_of_number id)) ++ flat_map (line_about text books) ns) p.own
    ∙ ap (λ o. ended (word_for (first_for id text) o ++ (32 ∷ text_of_number id)) ++ flat_map (line_about text books) ns) q.own
    ∙ ap (λ x. ended (word_for (first_for id text) (first_for id books) ++ (32 ∷ text_of_number id)) ++ x) (same_about id text books ns p q (together_above id (loan_numbers (left_after id text)) (loan_numbers (left_after id books)) p.high q.high))

pub none_about : (text books : List StatementLine) → least_loan text books ≡ None → lines_about text books ≡ []
none_about [] [] e = refl
none_about [] (s ∷ ss) e = absurd cc
none_about (r ∷ rs) [] e = absurd cc
none_about (r ∷ rs) (s ∷ ss) e = absurd cc

count_numbers : (stated : List StatementLine) → length (loan_numbers stated) ≡ length stated
count_numbers [] = refl
count_numbers (s ∷ ss) = ap suc (count_numbers ss)

-- fewer are left
pub fewer : (id : ℕ) (text books : List StatementLine) → least_loan text books ≡ Some id → IsTaken id text → IsTaken id books → length (left_after id text) + length (left_after id books) < length text + length books
fewer id text books e p q = by p.split q.split
  where
    one : (st : List StatementLine) → loan_numbers st ≡ id ∷ loan_numbers (left_after id st) → length (left_after id st) + 1 ≡ length st
    one st h = let same : length (loan_numbers st) ≡ length (id ∷ loan_numbers (left_after id st)) = ap length h in let a = count_numbers st in let b = count_numbers (left_after id st) in omega arith

    by : IsSplit id text → IsSplit id books → length (left_after id text) + length (left_after id books) < length text + length books
    by (front a) (front b) = let x = one text a in let y = one books b in omega arith
    by (front a) (behind b high) = let x = one text a in let y : length (left_after id books) ≡ length books = ap length b in omega arith
    by (behind a high) (front b) = let x : length (left_after id text) ≡ length text = ap length a in let y = one books b in omega arith
    by (behind a high) (behind b over) = absurd (not_both text books id e high over)

-- one loan more is gone through
pub walk_more : (id : ℕ) (text books text2 books2 : List StatementLine) (r s : Option StatementLine) (out out2 word all : List ℕ) → least_loan text books ≡ Some id → AllPairs rises text → AllPairs rises books → r ≡ first_for id text → s ≡ first_for id books → text2 ≡ left_after id text → books2 ≡ left_after id books → word ≡ word_for r s → out2 ≡ out ++ ended (word ++ (32 ∷ text_of_number id)) → out ++ lines_about text books ≡ all → out2 ++ lines_about text2 books2 ≡ all
walk_more id text books text2 books2 r s out out2 word all e up_t up_b r_is s_is t_is b_is word_is out_is whole =
    let p = taken id text up_t (least_left text books id e) in
    let q = taken id books up_b (least_right text books id e) in
    let line = ended (word_for (first_for id text) (first_for id books) ++ (32 ∷ text_of_number id)) in
    let same : word ≡ word_for (first_for id text) (first_for id books) = word_is ∙ ap (λ o. word_for o s) r_is ∙ ap (word_for (first_for id text)) s_is in
    ap (λ o. o ++ lines_about text2 books2) (out_is ∙ ap (λ t. out ++ ended (t ++ (32 ∷ text_of_number id))) same)
    ∙ ap (λ t. (out ++ line) ++ lines_about t books2) t_is ∙ ap (λ b. (out ++ line) ++ lines_about (left_after id text) b) b_is
    ∙ append_assoc out line (lines_about (left_after id text) (left_after id books))
    ∙ ap (λ x. out ++ x) (sym (one_about id text books e p q)) ∙ whole

pub left_rises : (id : ℕ) (text books : List StatementLine) → least_loan text books ≡ Some id → AllPairs rises text → AllPairs rises (left_after id text)
left_rises id text books e up = (taken id text up (least_left text books id e)).rising

pub right_rises : (id : ℕ) (text books : List StatementLine) → least_loan text books ≡ Some id → AllPairs rises books → AllPairs rises (left_after id books)
right_rises id text books e up = (taken id books up (least_right text books id e)).rising

pub fewer_left : (id : ℕ) (text books : List StatementLine) → least_loan text books ≡ Some id → AllPairs rises text → AllPairs rises books → length (left_after id text) + length (left_after id books) < length text + length books
fewer_left id text books e up_t up_b = fewer id text books e (taken id text up_t (least_left text books id e)) (taken id books up_b (least_right text books id e))

-- and all of them
pub walk_done : (text books : List StatementLine) (out all : List ℕ) → least_loan text books ≡ None → out ++ lines_about text books ≡ all → out ≡ all
walk_done text books out all e whole = sym (append-nil out) ∙ ap (λ x. out ++ x) (sym (none_about text books e)) ∙ whole

-- the whole text
pub differences_text : (day today : ℕ) (same : Bool) (text books : List StatementLine) (o1 o2 o3 o4 o5 word : List ℕ) → same ≡ (day == today) → word ≡ word_of_same same → o1 ≡ codes "day " → o2 ≡ o1 ++ word → o3 ≡ o2 ++ (10 ∷ []) → o4 ≡ o3 ++ lines_about text books → o5 ≡ o4 ++ codes "end\n" → o5 ≡ text_of_differences day text today books
unfolding text_of_differences
differences_text day today same text books o1 o2 o3 o4 o5 word same_is word_is e1 e2 e3 e4 e5 =
    let w = word_of_same (day == today) in
    let is : word ≡ w = word_is ∙ ap word_of_same same_is in
    e5 ∙ ap (λ x. x ++ codes "end\n") (e4 ∙ ap (λ x. x ++ lines_about text books) (e3 ∙ ap (λ x. x ++ (10 ∷ [])) (e2 ∙ ap (λ x. x ++ word) e1 ∙ ap (λ x. codes "day " ++ x) is)))

-- ---- what the derived `==` of lines tests

abbrev test_of : {A : Type 0} {E : A → A → Bool} → IsPartialEquivalence E → A → A → Bool
test_of {A} {E} h = E

-- a line with another month
abbrev with_next : StatementLine → Option ℕ → StatementLine
with_next s n = record {
  loan = s.loan;
  upb = s.upb;
  next = n;
  escrow = s.escrow;
  suspense = s.suspense;
  late = s.late;
  escrow_advance = s.escrow_advance;
  held = s.held;
  pi_advance = s.pi_advance;
}

tested_by : (a b : StatementLine) (m n : Option ℕ) → test_of laws-law (with_next a m) (with_next b n) ≡ same_line (with_next a m) (with_next b n)
unfolding same_line
tested_by a b None None = refl
tested_by a b None (Some n) = refl
tested_by a b (Some m) None = refl
tested_by a b (Some m) (Some n) = refl

pub line_tested : (a b : StatementLine) → test_of laws-law a b ≡ same_line a b
line_tested a b = tested_by a b a.next b.next
