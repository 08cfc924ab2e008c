-- The loans by rising number: what is found there, and what a change of one, of all, or one loan more leaves.
use Rattle.std.proofs.Common.{◌≡◌, ℕ, ◌+◌, ◌<◌, true, false, cond, List, [], ◌∷◌, map, length, get_or, arith, refl, sym, ap, subst, ◌∙◌}
use Rattle.std.specs.Prelude.{◌==◌, nat_lt, Some, None, IfSome, if◌then◌else◌}
use Rattle.std.specs.List.{All, AllPairs}
use Rattle.std.proofs.lemmas.Bool.Decides.{nat_tests}
use Rattle.std.proofs.lemmas.List.Elements.{All-cons, All-head, All-tail}
use Rattle.std.proofs.lemmas.List.Kept.{AllPairs-cons}
use Rattle.svc_types.proofs.OrderLemmas.{pairs_head, pairs_tail}
use Rattle.svc_world.specs.Held.{Held, find_loan, with_loan, changed}

-- the numbers of loans rise
abbrev pub rises : Held → Held → Type 0
rises k l = k.id < l.id

-- a loan is what is found under its number
abbrev pub IsFound : List Held → Held → Type 0
IsFound all l = find_loan l.id all ≡ Some l

-- ---- what is found

find_first : (l : Held) (ls : List Held) → find_loan l.id (l ∷ ls) ≡ Some l
find_first l ls = let same : (l.id == l.id) ≡ true = grind (arith, nat_tests) in rw same refl

find_past : (id : ℕ) (l : Held) (ls : List Held) → (l.id == id) ≡ false → find_loan id (l ∷ ls) ≡ find_loan id ls
find_past id l ls h = rw h refl

found_under : (all : List Held) (l k : Held) → l.id < k.id → find_loan k.id all ≡ Some k → find_loan k.id (l ∷ all) ≡ Some k
found_under all l k lt h =
    let other : (l.id == k.id) ≡ false = grind (arith, nat_tests) in
    find_past k.id l all other ∙ h

-- each of the loans is found under its number
pub all_found : (ls : List Held) → AllPairs rises ls → All (IsFound ls) ls
all_found [] h = λ k d lt. absurd (omega arith)
all_found (l ∷ ls) h =
    let rest = all_found ls (pairs_tail rises l ls h) in
    let above = pairs_head rises l ls h in
    All-cons (IsFound (l ∷ ls)) l ls (find_first l ls) (λ k d lt. found_under ls l _ (above k d lt) (rest k d lt))

-- what is found has the number
pub found_id : (id : ℕ) (ls : List Held) (l : Held) → find_loan id ls ≡ Some l → l.id ≡ id
found_id id [] l e = absurd (cc)
found_id id (k ∷ ks) l e =
    elim (k.id == id) as (λ v. (k.id == id) ≡ v → cond v (Some k) (find_loan id ks) ≡ Some l → l.id ≡ id) [
      | true ↦ λ same is. let k_id : k.id ≡ id = grind (arith, nat_tests) in let kl : k ≡ l = cc in ap (λ (x : Held). x.id) (sym kl) ∙ k_id
      | false ↦ λ other is. found_id id ks l is
    ] refl e

-- and what holds of all holds of it
pub found_all : (P : Held → Type 0) (id : ℕ) (ls : List Held) (l : Held) → find_loan id ls ≡ Some l → All P ls → P l
found_all P id [] l e h = absurd (cc)
found_all P id (k ∷ ks) l e h =
    elim (k.id == id) as (λ v. cond v (Some k) (find_loan id ks) ≡ Some l → P l) [
      | true ↦ λ is. let kl : k ≡ l = cc in subst P kl (All-head P k ks h)
      | false ↦ λ is. found_all P id ks l is (All-tail P k ks h)
    ] e

-- so a loan is found where some loan has the number
pub found_some : (P : Held → Type 0) (id : ℕ) (ls : List Held) → All P ls → IfSome (find_loan id ls) P
found_some P id [] h = tt
found_some P id (k ∷ ks) h =
    elim (k.id == id) as (λ v. IfSome (cond v (Some k) (find_loan id ks)) P) [
      | true ↦ All-head P k ks h
      | false ↦ found_some P id ks (All-tail P k ks h)
    ]

-- ---- one loan changed

-- a change keeps a loan's number
abbrev pub KeepsNumber : (Held → Held) → Type 0
KeepsNumber f = (k : Held) → (f k).id ≡ k.id

pub find_changed_other : (id other : ℕ) (f : Held → Held) (ls : List Held) → (id == other) ≡ false → KeepsNumber f → find_loan other (changed id f ls) ≡ find_loan other ls
find_changed_other id other f [] apart keeps = refl
find_changed_other id other f (l ∷ ls) apart keeps =
    elim (l.id == id) as (λ v. (l.id == id) ≡ v → find_loan other (if v then f l ∷ ls else l ∷ changed id f ls) ≡ find_loan other (l ∷ ls)) [
      | true ↦ λ same.
          let is : l.id ≡ id = grind (arith, nat_tests) in
          let no : (l.id == other) ≡ false = ap (λ n. n == other) is ∙ apart in
          let no' : ((f l).id == other) ≡ false = ap (λ n. n == other) (keeps l) ∙ no in
          find_past other (f l) ls no' ∙ sym (find_past other l ls no)
      | false ↦ λ not_this.
          let rest = find_changed_other id other f ls apart keeps in
          ap (λ o. cond (l.id == other) (Some l) o) rest
    ] refl

pub find_changed : (id : ℕ) (f : Held → Held) (ls : List Held) (l : Held) → find_loan id ls ≡ Some l → KeepsNumber f → find_loan id (changed id f ls) ≡ Some (f l)
find_changed id f [] l e keeps = absurd (cc)
find_changed id f (k ∷ ks) l e keeps =
    elim (k.id == id) as (λ v. (k.id == id) ≡ v → cond v (Some k) (find_loan id ks) ≡ Some l → find_loan id (if v then f k ∷ ks else k ∷ changed id f ks) ≡ Some (f l)) [
      | true ↦ λ same is.
          let kl : k ≡ l = cc in
          let yes : ((f k).id == id) ≡ true = ap (λ n. n == id) (keeps k) ∙ same in
          rw yes (ap (λ x. Some (f x)) kl)
      | false ↦ λ other is. find_past id k (changed id f ks) other ∙ find_changed id f ks l is keeps
    ] refl e

-- what holds of all holds after a change of the one that is found, where it holds of that one
pub changed_all : (P Q : Held → Type 0) (id : ℕ) (f : Held → Held) (ls : List Held) (l : Held) → find_loan id ls ≡ Some l → All P ls → ((k : Held) → P k → Q k) → Q (f l) → All Q (changed id f ls)
changed_all P Q id f [] l e h weaken new = absurd (cc)
changed_all P Q id f (k ∷ ks) l e h weaken new =
    let rest : All Q ks = λ i d lt. weaken _ (All-tail P k ks h i d lt) in
    elim (k.id == id) as (λ v. cond v (Some k) (find_loan id ks) ≡ Some l → All Q (if v then f k ∷ ks else k ∷ changed id f ks)) [
      | true ↦ λ is. let kl : k ≡ l = cc in All-cons Q (f k) ks (subst (λ x. Q (f x)) (sym kl) new) rest
      | false ↦ λ is. All-cons Q k (changed id f ks) (weaken k (All-head P k ks h)) (changed_all P Q id f ks l is (All-tail P k ks h) weaken new)
    ] e

-- the numbers of the loans
abbrev pub numbers_of : List Held → List ℕ
numbers_of ls = map (λ (l : Held). l.id) ls

pub changed_numbers : (id : ℕ) (f : Held → Held) (ls : List Held) → KeepsNumber f → numbers_of (changed id f ls) ≡ numbers_of ls
changed_numbers id f [] keeps = refl
changed_numbers id f (l ∷ ls) keeps =
    elim (l.id == id) as (λ v. numbers_of (if v then f l ∷ ls else l ∷ changed id f ls) ≡ l.id ∷ numbers_of ls) [
      | true ↦ ap (λ n. n ∷ numbers_of ls) (keeps l)
      | false ↦ ap (λ ns. l.id ∷ ns) (changed_numbers id f ls keeps)
    ]

pub mapped_numbers : (f : Held → Held) (ls : List Held) → KeepsNumber f → numbers_of (map f ls) ≡ numbers_of ls
mapped_numbers f [] keeps = refl
mapped_numbers f (l ∷ ls) keeps = ap (λ n. n ∷ numbers_of (map f ls)) (keeps l) ∙ ap (λ ns. l.id ∷ ns) (mapped_numbers f ls keeps)

above_by : (n : ℕ) (ks ls : List Held) → numbers_of ks ≡ numbers_of ls → All (λ (l : Held). n < l.id) ls → All (λ (k : Held). n < k.id) ks
above_by n [] ls e h = λ i d lt. absurd (omega arith)
above_by n (k ∷ ks) [] e h = absurd (cc)
above_by n (k ∷ ks) (l ∷ ls) e h =
    let one : k.id ≡ l.id = cc in
    let rest : numbers_of ks ≡ numbers_of ls = cc in
    let first : n < l.id = All-head (λ (x : Held). n < x.id) l ls h in
    All-cons (λ (x : Held). n < x.id) k ks (omega arith) (above_by n ks ls rest (All-tail (λ (x : Held). n < x.id) l ls h))

-- loans with the same numbers rise where these do
pub rises_by : (ks ls : List Held) → numbers_of ks ≡ numbers_of ls → AllPairs rises ls → AllPairs rises ks
rises_by [] ls e h = λ i j d lt len. absurd (omega arith)
rises_by (k ∷ ks) [] e h = absurd (cc)
rises_by (k ∷ ks) (l ∷ ls) e h =
    let one : k.id ≡ l.id = cc in
    let rest : numbers_of ks ≡ numbers_of ls = cc in
    let above = above_by l.id ks ls rest (pairs_head rises l ls h) in
    AllPairs-cons rises k ks (subst (λ n. All (λ (x : Held). n < x.id) ks) (sym one) above) (rises_by ks ls rest (pairs_tail rises l ls h))

pub length_by : (ks ls : List Held) → numbers_of ks ≡ numbers_of ls → length ks ≡ length ls
length_by [] [] e = refl
length_by [] (l ∷ ls) e = absurd (cc)
length_by (k ∷ ks) [] e = absurd (cc)
length_by (k ∷ ks) (l ∷ ls) e = let rest : numbers_of ks ≡ numbers_of ls = cc in omega (arith, length_by ks ls rest)

-- ---- all loans changed

pub find_mapped : (id : ℕ) (f : Held → Held) (ls : List Held) (l : Held) → find_loan id ls ≡ Some l → KeepsNumber f → find_loan id (map f ls) ≡ Some (f l)
find_mapped id f [] l e keeps = absurd (cc)
find_mapped id f (k ∷ ks) l e keeps =
    elim (k.id == id) as (λ v. (k.id == id) ≡ v → cond v (Some k) (find_loan id ks) ≡ Some l → find_loan id (f k ∷ map f ks) ≡ Some (f l)) [
      | true ↦ λ same is.
          let kl : k ≡ l = cc in
          let yes : ((f k).id == id) ≡ true = ap (λ n. n == id) (keeps k) ∙ same in
          rw yes (ap (λ x. Some (f x)) kl)
      | false ↦ λ other is.
          let no : ((f k).id == id) ≡ false = ap (λ n. n == id) (keeps k) ∙ other in
          find_past id (f k) (map f ks) no ∙ find_mapped id f ks l is keeps
    ] refl e

pub find_mapped_none : (id : ℕ) (f : Held → Held) (ls : List Held) → find_loan id ls ≡ None → KeepsNumber f → find_loan id (map f ls) ≡ None
find_mapped_none id f [] e keeps = refl
find_mapped_none id f (k ∷ ks) e keeps =
    elim (k.id == id) as (λ v. (k.id == id) ≡ v → cond v (Some k) (find_loan id ks) ≡ None → find_loan id (f k ∷ map f ks) ≡ None) [
      | true ↦ λ same is. absurd (cc)
      | false ↦ λ other is.
          let no : ((f k).id == id) ≡ false = ap (λ n. n == id) (keeps k) ∙ other in
          find_past id (f k) (map f ks) no ∙ find_mapped_none id f ks is keeps
    ] refl e

-- ---- one loan more

pub find_boarded : (id : ℕ) (l : Held) (ls : List Held) → find_loan l.id ls ≡ None → find_loan id (with_loan l ls) ≡ (if l.id == id then Some l else find_loan id ls)
find_boarded id l [] none = elim (l.id == id) as (λ v. cond v (Some l) None ≡ (if v then Some l else None)) [ true ↦ refl | false ↦ refl ]
find_boarded id l (k ∷ ks) none =
    elim (nat_lt l.id k.id) as (λ v. find_loan id (if v then l ∷ k ∷ ks else k ∷ with_loan l ks) ≡ (if l.id == id then Some l else find_loan id (k ∷ ks))) [
      | true ↦ elim (l.id == id) as (λ v. cond v (Some l) (find_loan id (k ∷ ks)) ≡ (if v then Some l else find_loan id (k ∷ ks))) [ true ↦ refl | false ↦ refl ]
      | false ↦
          elim (k.id == l.id) as (λ v. (k.id == l.id) ≡ v → cond v (Some k) (find_loan l.id ks) ≡ None → find_loan id (k ∷ with_loan l ks) ≡ (if l.id == id then Some l else find_loan id (k ∷ ks))) [
            | true ↦ λ same is. absurd (cc)
            | false ↦ λ apart is.
                let rest = find_boarded id l ks is in
                elim (k.id == id) as (λ v. (k.id == id) ≡ v → cond v (Some k) (find_loan id (with_loan l ks)) ≡ (if l.id == id then Some l else cond v (Some k) (find_loan id ks))) [
                  | true ↦ λ this.
                      let no : (l.id == id) ≡ false = grind (arith, nat_tests) in
                      rw no refl
                  | false ↦ λ not_this. rest
                ] refl
          ] refl none
    ]

pub with_loan_all : (P : Held → Type 0) (l : Held) (ls : List Held) → P l → All P ls → All P (with_loan l ls)
with_loan_all P l [] here h = All-cons P l [] here h
with_loan_all P l (k ∷ ks) here h =
    elim (nat_lt l.id k.id) as (λ v. All P (if v then l ∷ k ∷ ks else k ∷ with_loan l ks)) [
      | true ↦ All-cons P l (k ∷ ks) here h
      | false ↦ All-cons P k (with_loan l ks) (All-head P k ks h) (with_loan_all P l ks here (All-tail P k ks h))
    ]

pub with_loan_length : (l : Held) (ls : List Held) → length (with_loan l ls) ≡ length ls + 1
with_loan_length l [] = refl
with_loan_length l (k ∷ ks) =
    elim (nat_lt l.id k.id) as (λ v. length (if v then l ∷ k ∷ ks else k ∷ with_loan l ks) ≡ length (k ∷ ks) + 1) [
      | true ↦ omega arith
      | false ↦ omega (arith, with_loan_length l ks)
    ]

pub with_loan_rises : (l : Held) (ls : List Held) → find_loan l.id ls ≡ None → AllPairs rises ls → AllPairs rises (with_loan l ls)
with_loan_rises l [] none h = AllPairs-cons rises l [] (λ i d lt. absurd (omega arith)) h
with_loan_rises l (k ∷ ks) none h =
    elim (nat_lt l.id k.id) as (λ v. nat_lt l.id k.id ≡ v → AllPairs rises (if v then l ∷ k ∷ ks else k ∷ with_loan l ks)) [
      | true ↦ λ lt.
          let less : l.id < k.id = grind (arith, nat_tests) in
          let above = pairs_head rises k ks h in
          let all : All (rises l) (k ∷ ks) = All-cons (rises l) k ks less (λ i d len. let more : k.id < (get_or ks i d).id = above i d len in omega arith) in
          AllPairs-cons rises l (k ∷ ks) all h
      | false ↦ λ ge.
          elim (k.id == l.id) as (λ v. (k.id == l.id) ≡ v → cond v (Some k) (find_loan l.id ks) ≡ None → AllPairs rises (k ∷ with_loan l ks)) [
            | true ↦ λ same is. absurd (cc)
            | false ↦ λ apart is.
                let less : k.id < l.id = grind (arith, nat_tests) in
                AllPairs-cons rises k (with_loan l ks) (with_loan_all (rises k) l ks less (pairs_head rises k ks h)) (with_loan_rises l ks is (pairs_tail rises k ks h))
          ] refl none
    ] refl
