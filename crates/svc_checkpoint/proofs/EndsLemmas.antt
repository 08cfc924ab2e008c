-- The books at the ends of months, and what folds between them count.
use Rattle.std.proofs.Common.{◌≡◌, ℕ, suc, ◌+◌, ◌-◌, ◌≤◌, ◌<◌, ◌≢◌, Bool, true, false, cond, List, [], ◌∷◌, ◌++◌, length, get_or, set, get_or-set_same, get_or-set_other, arith, refl, sym, ap, subst, ◌∙◌}
use Rattle.std.specs.List.{All, find}
use Rattle.std.specs.Prelude.{◌==◌, nat_lt, Option, Some, None, MatchOption, IfSome, is_some, pos, int_le, if◌then◌else◌}
use Rattle.std.specs.Option.{unwrap_or}
use Rattle.std.proofs.lemmas.Int.{ints}
use Rattle.std.proofs.Math.Seq.{get_or-append_seam}
use Rattle.std.proofs.lemmas.List.{get_or_append_left}
use Rattle.std.proofs.lemmas.Option.{same_Some}
use Rattle.std.proofs.lemmas.Bool.Decides.{nat_tests}
use Rattle.svc_base.specs.Calendar.{month_of, last_day, IsDay}
use Rattle.svc_base.specs.DayLemmas.{month_length_most, month_length_least}
use Rattle.svc_types.specs.declared.terms.Terms.{Terms}
use Rattle.svc_types.specs.declared.books.Books.{Books}
use Rattle.svc_types.specs.declared.account.Entry.{Entry}
use Rattle.svc_spec.specs.Books.{AreBooks, boarding_plan}
use Rattle.svc_spec.specs.Entries.{AreEntries}
use Rattle.svc_spec.specs.Events.{books_at}
use Rattle.svc_spec.specs.Accounts.{Account, posted, reversed_in, advanced_to, live_of, books_of, entry_of, IsAccount, MayPost}
use Rattle.svc_spec.specs.Months.{counted, cost_of_month, books_at_end}
use Rattle.svc_spec.proofs.SettlingLemmas.{nat_le-true, nat_le-false}
use Rattle.svc_spec.proofs.BooksLemmas.{same_books}
use Rattle.svc_spec.proofs.AccountLemmas.{live_few, live_entries_fold, account_books, advanced_account}
use Rattle.svc_spec.proofs.MonthLemmas.{day_by_end, end_before_next, from_boarded}
use Rattle.svc_spec.proofs.CostLemmas.{refold_within}
use Rattle.svc_spec.proofs.SameLemmas.{posted_same, reversed_same}
use Rattle.svc_spec.proofs.StepsLemmas.{counted_from_end, counted_on, day_within}
use Rattle.svc_replay.specs.declared.cursor.Lates.{Lates}
use Rattle.svc_replay.specs.declared.cursor.Cursor.{Cursor}
use Rattle.svc_replay.specs.Left.{AreLates, IsPlace}
use Rattle.svc_types.specs.declared.books.Collected.{Collected}
use Rattle.svc_checkpoint.specs.declared.month_end.MonthEnd.{MonthEnd}
use Rattle.svc_checkpoint.specs.declared.plans.Plans.{Plans}
use Rattle.svc_types.specs.Collected.{collected_of}
use Rattle.svc_replay.specs.Collected.{AreWithin}
use Rattle.svc_replay.proofs.PlainLemmas.{within_books}
use Rattle.svc_checkpoint.specs.Plans.{plan_by, plan_with, IsNumber, AreNamed}
use Rattle.svc_checkpoint.specs.Ends.{kept_of, books_from, collected_by, IsEnd, AreEnds, AreChecked, counted_before, day_before}
use Rattle.svc_checkpoint.proofs.PlanLemmas.{AreKnown, account_known}

-- ---- what was counted before a month

pub counted_first : (a : Account) (m : ℕ) → m ≤ month_of a.terms.boarded → counted_before a m ≡ 1
counted_first a m le = rw (nat_le-true m (month_of a.terms.boarded) le)

pub counted_later : (a : Account) (m : ℕ) → month_of a.terms.boarded < m → counted_before a m ≡ counted a.terms (live_of a) (last_day (m - 1))
counted_later a m lt = rw (nat_le-false m (month_of a.terms.boarded) lt)

-- a fold up to a day from the end of the month before is within the cost of the month
pub within_day : (a : Account) (m d old new : ℕ) → IsAccount a → month_of a.terms.boarded ≤ m → m ≤ month_of d → a.terms.boarded ≤ d → d ≤ a.today → new + counted_before a m ≡ old + counted a.terms (live_of a) d → new ≤ old + cost_of_month a m
within_day a m d old new h low high since until steps =
    elim (nat_lt (month_of a.terms.boarded) m) as (λ v. nat_lt (month_of a.terms.boarded) m ≡ v → new ≤ old + cost_of_month a m) [
      | true ↦ λ e.
          let later : month_of a.terms.boarded < m = grind (arith, nat_tests) in
          let end = end_before_next (m - 1) d (omega arith) in
          omega (arith, steps, counted_later a m later, counted_from_end a m d h later end until)
      | false ↦ λ e.
          let back : m ≤ month_of a.terms.boarded = grind (arith, nat_tests) in
          let same : month_of a.terms.boarded ≡ m = omega arith in
          omega (arith, steps, counted_first a m back, refold_within a d h since until, ap (cost_of_month a) same)
    ] refl

-- ---- books of a day

books_day : (t : Terms) (live : List Entry) (d : ℕ) → (books_at t live d).day ≡ d
unfolding books_at
books_day t live d = refl

-- they are those of their own day
pub own_day : (t : Terms) (live : List Entry) (d : ℕ) (b : Books) → b ≡ books_at t live d → (b.day ≡ d) × (b ≡ books_at t live b.day)
own_day t live d b h =
    let same : b.day ≡ d = ap (λ (x : Books). x.day) h ∙ books_day t live d in
    (same, h ∙ ap (books_at t live) (sym same))

pub live_count : (a : Account) (live : List Entry) → IsAccount a → live ≡ live_of a → length live ≤ 4_096
live_count a live h is = let few = h.few in omega (arith, ap length is, live_few a)

pub live_fold : (a : Account) (t : Terms) (live : List Entry) → IsAccount a → t ≡ a.terms → live ≡ live_of a → AreEntries t live
live_fold a t live h pt pl = rw (pt, pl) (live_entries_fold a h)

pub of_account : (a : Account) (t : Terms) (live : List Entry) (d : ℕ) → t ≡ a.terms → live ≡ live_of a → books_at t live d ≡ books_of a d
of_account a t live d pt pl = rw (pt, pl)

pub counted_of : (a : Account) (t : Terms) (live : List Entry) (d : ℕ) → t ≡ a.terms → live ≡ live_of a → counted t live d ≡ counted a.terms (live_of a) d
counted_of a t live d pt pl = rw (pt, pl)

-- ---- the ends of months

-- the end of the month before a later one than the boarded
pub at_end : (a : Account) (ends : List MonthEnd) (n i m : ℕ) (e : MonthEnd) → AreEnds a ends n → e ≡ get_or ends i e → i < n → month_of a.terms.boarded + i ≡ m → IsEnd a (last_day m) e
at_end a ends n i m e h is lt same = subst (λ x. IsEnd a (last_day x) e) same (subst (IsEnd a (last_day (month_of a.terms.boarded + i))) (sym is) (h i e lt))

-- it is before a day of the month, and not before boarding
pub end_since : (a : Account) (m : ℕ) → IsAccount a → month_of a.terms.boarded < m → a.terms.boarded ≤ last_day (m - 1)
end_since a m h later = day_by_end a.terms.boarded (m - 1) h.boarded (omega arith)

-- one more end is set in its place
pub ends_set : (a : Account) (ends : List MonthEnd) (n : ℕ) (x : MonthEnd) → AreEnds a ends n → n < length ends → IsEnd a (last_day (month_of a.terms.boarded + n)) x → AreEnds a (set ends n x) (n + 1)
ends_set a ends n x h within is i e lt =
    elim (nat_lt i n) as (λ v. nat_lt i n ≡ v → IsEnd a (last_day (month_of a.terms.boarded + i)) (get_or (set ends n x) i e)) [
      | true ↦ λ test.
          let below : i < n = grind (arith, nat_tests) in
          let other : i ≢ n = omega arith in
          subst (IsEnd a (last_day (month_of a.terms.boarded + i))) (sym (get_or-set_other ends n i x e other)) (h i e below)
      | false ↦ λ test.
          let back : n ≤ i = grind (arith, nat_tests) in
          let same : i ≡ n = omega arith in
          rw same (subst (IsEnd a (last_day (month_of a.terms.boarded + n))) (sym (get_or-set_same ends n x e within)) is)
    ] refl

-- or stands after the others
pub ends_pushed : (a : Account) (ends : List MonthEnd) (n m : ℕ) (x : MonthEnd) → AreEnds a ends n → n ≡ length ends → m ≡ n + 1 → IsEnd a (last_day (month_of a.terms.boarded + n)) x → AreEnds a (ends ++ x ∷ []) m
ends_pushed a ends n m x h all more is i e lt =
    elim (nat_lt i n) as (λ v. nat_lt i n ≡ v → IsEnd a (last_day (month_of a.terms.boarded + i)) (get_or (ends ++ x ∷ []) i e)) [
      | true ↦ λ test.
          let below : i < n = grind (arith, nat_tests) in
          subst (IsEnd a (last_day (month_of a.terms.boarded + i))) (sym (get_or_append_left ends (x ∷ []) e i (omega arith))) (h i e below)
      | false ↦ λ test.
          let back : n ≤ i = grind (arith, nat_tests) in
          let here : i ≡ length ends = omega arith in
          let same : n ≡ i = omega arith in
          subst (IsEnd a (last_day (month_of a.terms.boarded + i))) (sym (ap (λ k. get_or (ends ++ x ∷ []) k e) here ∙ get_or-append_seam ends x [] e)) (subst (λ k. IsEnd a (last_day (month_of a.terms.boarded + k)) x) same is)
    ] refl

pub ends_fewer : (a : Account) (ends : List MonthEnd) (n m : ℕ) → AreEnds a ends n → m ≤ n → AreEnds a ends m
ends_fewer a ends n m h le i e lt = h i e (omega arith)

-- ---- what is kept of books

same_mark : (o : Option ℕ) (d : ℕ) (paid : Bool) → is_some o ≡ paid → (if paid then Some (unwrap_or o d) else None) ≡ o
same_mark None d paid h = rw (← h) refl
same_mark (Some x) d paid h = rw (← h) refl

-- what is kept of books of an account comes to them again
from_kept : (t : Terms) (es : List Entry) (b : Books) (plan earlier : Option ℕ) → AreKnown t es b → AreBooks t b → books_from t b.day b.plan b.earlier (kept_of b plan earlier) ≡ b
from_kept t es b plan earlier known sound =
    let principal = known.principal in
    same_books (books_from t b.day b.plan b.earlier (kept_of b plan earlier)) b refl refl refl refl refl refl refl refl (omega (arith, ints)) refl refl refl refl (same_mark b.satisfied b.day (int_le b.upb (pos 0)) sound.satisfied)

pub end_kept : (a : Account) (b : Books) (plans : Plans) (e : MonthEnd) → IsAccount a → b ≡ books_of a b.day → AreNamed a plans → plans.newest.plan ≡ b.plan → plans.earlier.plan ≡ b.earlier → e ≡ kept_of b plans.newest.number plans.earlier.number → IsEnd a b.day e
end_kept a b plans e h now named newest earlier is =
    let known = account_known a b now in
    let sound : AreBooks a.terms b = subst (AreBooks a.terms) (sym now) (account_books a b.day h) in
    let kept = kept_of b plans.newest.number plans.earlier.number in
    let first : plan_with a plans.newest.number ≡ b.plan = named.newest.plan ∙ newest in
    let last : plan_with a plans.earlier.number ≡ b.earlier = named.earlier.plan ∙ earlier in
    subst (IsEnd a b.day) (sym is) (record {
      books = ap (λ p. books_from a.terms b.day p (plan_with a plans.earlier.number) kept) first ∙ ap (λ p. books_from a.terms b.day b.plan p kept) last ∙ from_kept a.terms (live_of a) b plans.newest.number plans.earlier.number known sound ∙ now;
      plan = named.newest.entry;
      earlier = named.earlier.entry;
    })

-- the balance that is kept lies from 0 to the principal
pub end_books : (a : Account) (d : ℕ) (e : MonthEnd) → IsAccount a → IsEnd a d e → AreBooks a.terms (books_from a.terms d (plan_with a e.plan) (plan_with a e.earlier) e)
end_books a d e h is = subst (AreBooks a.terms) (sym is.books) (account_books a d h)

-- what was collected
pub end_collected : (a : Account) (d : ℕ) (e : MonthEnd) → IsEnd a d e → collected_by e ≡ collected_of (books_of a d)
end_collected a d e is = ap collected_of is.books

pub end_within : (a : Account) (d : ℕ) (e : MonthEnd) (c : Collected) → IsAccount a → IsEnd a d e → c ≡ collected_by e → AreWithin c
end_within a d e c h is same = subst AreWithin (sym (same ∙ end_collected a d e is)) (within_books a.terms (books_of a d) h.terms (account_books a d h))

-- ---- what an entry leaves of them

before_entry : (b i d : ℕ) → i < month_of d - b → last_day (b + i) < d
before_entry b i d lt = omega (arith, month_length_most (b + i))

-- one more entry leaves what was found
find_more : (p : Entry → Bool) (xs ys : List Entry) → is_some (find p xs) ≡ true → find p (xs ++ ys) ≡ find p xs
find_more p [] ys h = absurd (cc)
find_more p (x ∷ xs) ys h =
    elim (p x) as (λ v. is_some (cond v (Some x) (find p xs)) ≡ true → cond v (Some x) (find p (xs ++ ys)) ≡ cond v (Some x) (find p xs)) [
      | true ↦ λ g. refl
      | false ↦ λ g. find_more p xs ys g
    ] h

posted_number : (a : Account) (e : Entry) (number : Option ℕ) → IsNumber a.entries number → IsNumber (posted e a).entries number
posted_number a e None h = tt
posted_number a e (Some n) h = ap is_some (find_more (λ x. x.number == n) a.entries (e ∷ []) h) ∙ h

posted_plan : (a : Account) (e : Entry) (number : Option ℕ) → IsNumber a.entries number → plan_with (posted e a) number ≡ plan_with a number
posted_plan a e None h = refl
posted_plan a e (Some n) h = ap (λ o. unwrap_or (plan_by o) (boarding_plan a.terms)) (find_more (λ x. x.number == n) a.entries (e ∷ []) h)

posted_end : (a : Account) (e : Entry) (d : ℕ) (x : MonthEnd) → IsAccount a → MayPost a e → d < e.day → IsEnd a d x → IsEnd (posted e a) d x
posted_end a e d x h may lt is = record {
  books = ap (λ p. books_from a.terms d p (plan_with (posted e a) x.earlier) x) (posted_plan a e x.plan is.plan) ∙ ap (λ p. books_from a.terms d (plan_with a x.plan) p x) (posted_plan a e x.earlier is.earlier) ∙ is.books ∙ sym (posted_same a e d h may lt);
  plan = posted_number a e x.plan is.plan;
  earlier = posted_number a e x.earlier is.earlier;
}

pub posted_ends : (a a' : Account) (e : Entry) (ends : List MonthEnd) (n : ℕ) → IsAccount a → AreEnds a ends n → MayPost a e → a' ≡ posted e a → month_of e.day - month_of a.terms.boarded ≤ n → AreEnds a' ends (month_of e.day - month_of a'.terms.boarded)
posted_ends a a' e ends n h kept may is le = rw is (λ i x lt. posted_end a e (last_day (month_of a.terms.boarded + i)) (get_or ends i x) h may (before_entry (month_of a.terms.boarded) i e.day lt) (kept i x (omega arith)))

-- the month of an entry, where there is one
pub month_found : (o : Option Entry) (m : ℕ) → MatchOption o (Some m ≡ None) (λ e. Some m ≡ Some (month_of e.day)) → IfSome o (λ e. m ≡ month_of e.day)
month_found None m h = tt
month_found (Some e) m h = same_Some m (month_of e.day) h

if_some : (o : Option Entry) (P Q : Entry → Type 0) → IfSome o P → ((e : Entry) → P e → Q e) → IfSome o Q
if_some None P Q h f = tt
if_some (Some e) P Q h f = f e h

pub reversed_ends : (a a' : Account) (number by m : ℕ) (ends : List MonthEnd) (n : ℕ) → IsAccount a → AreEnds a ends n → IfSome (entry_of a number) (λ e. m ≡ month_of e.day) → a' ≡ reversed_in number by a → m - month_of a.terms.boarded ≤ n → AreEnds a' ends (m - month_of a'.terms.boarded)
reversed_ends a a' number by m ends n h kept found is le = rw is (λ i x lt.
    let d = last_day (month_of a.terms.boarded + i) in
    let after = if_some (entry_of a number) (λ e. m ≡ month_of e.day) (λ e. d < e.day) found (λ e same. before_entry (month_of a.terms.boarded) i e.day (omega arith)) in
    let end = kept i x (omega arith) in
    record { books = end.books ∙ sym (reversed_same a number by d h after); plan = end.plan; earlier = end.earlier })

-- nor is the business day looked at
ends_advanced : (a : Account) (d n : ℕ) (ends : List MonthEnd) → AreEnds a ends n → AreEnds (advanced_to d a) ends n
ends_advanced a d n ends h i x lt = let end = h i x lt in record { books = end.books; plan = end.plan; earlier = end.earlier }

-- ---- facts of months

-- of the business day's month the end so far is that of the business day
pub end_now : (a : Account) (m : ℕ) (b : Books) → IsDay a.today → month_of a.terms.boarded ≤ m → m ≡ month_of a.today → b ≡ books_of a a.today → b ≡ books_at_end a m
end_now a m b is low here now =
    let within = day_within a.today is in
    let end : last_day (month_of a.today) ≡ last_day m = ap last_day (sym here) in
    now ∙ ap (books_of a) (omega arith) ∙ sym (from_boarded a m low)

-- ---- the books from which a month is folded

day_first : (a : Account) (m : ℕ) → m ≤ month_of a.terms.boarded → day_before a m ≡ a.terms.boarded
day_first a m le = rw (nat_le-true m (month_of a.terms.boarded) le)

day_later : (a : Account) (m : ℕ) → month_of a.terms.boarded < m → day_before a m ≡ last_day (m - 1)
day_later a m lt = rw (nat_le-false m (month_of a.terms.boarded) lt)

pub day_next : (a : Account) (m : ℕ) → month_of a.terms.boarded ≤ m → day_before a (m + 1) ≡ last_day m
day_next a m le = let same : m + 1 - 1 ≡ m = omega arith in day_later a (m + 1) (omega arith) ∙ ap last_day same

-- they are of a day from boarding on, up to each day of the month
pub before_since : (a : Account) (m : ℕ) → IsAccount a → a.terms.boarded ≤ day_before a m
before_since a m h =
    elim (nat_lt (month_of a.terms.boarded) m) as (λ v. nat_lt (month_of a.terms.boarded) m ≡ v → a.terms.boarded ≤ day_before a m) [
      | true ↦ λ e.
          let later : month_of a.terms.boarded < m = grind (arith, nat_tests) in
          omega (arith, day_later a m later, end_since a m h later)
      | false ↦ λ e.
          let back : m ≤ month_of a.terms.boarded = grind (arith, nat_tests) in
          omega (arith, day_first a m back)
    ] refl

pub before_until : (a : Account) (m d : ℕ) → m ≤ month_of d → a.terms.boarded ≤ d → day_before a m ≤ d
before_until a m d le since =
    elim (nat_lt (month_of a.terms.boarded) m) as (λ v. nat_lt (month_of a.terms.boarded) m ≡ v → day_before a m ≤ d) [
      | true ↦ λ e.
          let later : month_of a.terms.boarded < m = grind (arith, nat_tests) in
          omega (arith, day_later a m later, end_before_next (m - 1) d (omega arith))
      | false ↦ λ e.
          let back : m ≤ month_of a.terms.boarded = grind (arith, nat_tests) in
          omega (arith, day_first a m back)
    ] refl

pub record IsStart (a : Account) (m old new : ℕ) (e : Books) : Type 0 where
  pub books : e ≡ books_of a e.day
  pub day : e.day ≡ day_before a m
  pub steps : new + counted_before a m ≡ old + counted a.terms (live_of a) e.day

pub start_first : (a : Account) (m d old new : ℕ) (e : Books) → month_of a.terms.boarded ≡ m → d ≡ a.terms.boarded → e ≡ books_of a d → new + 1 ≡ old + counted a.terms (live_of a) d → IsStart a m old new e
start_first a m d old new e first boarded is steps =
    let own = own_day a.terms (live_of a) d e is in
    let here = ap (counted a.terms (live_of a)) own.0 in
    record {
      books = own.1;
      day = own.0 ∙ boarded ∙ sym (day_first a m (omega arith));
      steps = omega (arith, steps, here, counted_first a m (omega arith));
    }

pub start_later : (a : Account) (m old : ℕ) (e : Books) → e ≡ books_of a (last_day (m - 1)) → month_of a.terms.boarded < m → IsStart a m old old e
start_later a m old e is later =
    let own = own_day a.terms (live_of a) (last_day (m - 1)) e is in
    let here = ap (counted a.terms (live_of a)) own.0 in
    record {
      books = own.1;
      day = own.0 ∙ sym (day_later a m later);
      steps = omega (arith, here, counted_later a m later);
    }

-- ---- a cursor among the events of the account

pub place_of : (a : Account) (t : Terms) (live : List Entry) (d d' : ℕ) (c : Cursor) → t ≡ a.terms → live ≡ live_of a → d' ≡ d → IsPlace a.terms (live_of a) d c → IsPlace t live d' c
place_of a t live d d' c pt pl pd h = rw (pt, pl, pd) h

pub place_in : (a : Account) (t : Terms) (live : List Entry) (d d' : ℕ) (c : Cursor) → t ≡ a.terms → live ≡ live_of a → d' ≡ d → IsPlace t live d c → IsPlace a.terms (live_of a) d' c
place_in a t live d d' c pt pl pd h = rw pd (rw (pt, pl) at h)

-- the late marks that it has passed are those up to its day
pub lates_at : (t : Terms) (live : List Entry) (d : ℕ) (c : Cursor) (l : Lates) → IsPlace t live d c → l ≡ c.lates → AreLates t d l
lates_at t live d c l h same = rw same (record { few = h.after.few; over = h.after.over; open_grace = h.after.open_grace; next = h.next })

pub month_of_end : (m : ℕ) → month_of (last_day m) ≡ m
month_of_end m = omega (arith, month_length_most m, month_length_least m)

-- ---- what changes keep

-- late marks are of the terms and the business day alone
lates_same : (t t' : Terms) (d d' : ℕ) (l : Lates) → t' ≡ t → d' ≡ d → AreLates t d l → AreLates t' d' l
lates_same t t' d d' l pt pd h = rw (pt, pd) h

-- an entry came or went: the ends and the books now were made anew
pub checked_change : (a a' : Account) (ends ends' : List MonthEnd) (day day' : Books) (lates : Lates) → AreChecked a ends day lates → a'.terms ≡ a.terms → a'.today ≡ a.today → IsAccount a' → length ends' ≡ length ends → AreEnds a' ends' (length ends') → day' ≡ books_of a' a'.today → AreBooks a'.terms day' → AreChecked a' ends' day' lates
checked_change a a' ends ends' day day' lates h terms today sound count kept now books =
    let b : month_of a'.terms.boarded ≡ month_of a.terms.boarded = ap (λ (t : Terms). month_of t.boarded) terms in
    let m : month_of a'.today ≡ month_of a.today = ap month_of today in
    let before = h.count in
    record { account = sound; today = subst IsDay (sym today) h.today; count = omega arith; ends = kept; now = now; sound = books; lates = lates_same a.terms a'.terms a.today a'.today lates terms today h.lates }

-- the business day went on
pub checked_advance : (a a' : Account) (d : ℕ) (ends : List MonthEnd) (day : Books) (lates : Lates) → IsAccount a → IsDay d → a.today ≤ d → a' ≡ advanced_to d a → month_of a.terms.boarded + length ends ≡ month_of d → AreEnds a ends (length ends) → day ≡ books_of a d → AreBooks a.terms day → AreLates a.terms d lates → AreChecked a' ends day lates
checked_advance a a' d ends day lates h is later same count kept now sound passed = rw same (record { account = advanced_account a d h later; today = is; count = count; ends = ends_advanced a d (length ends) ends kept; now = now; sound = sound; lates = passed })

-- a change up to the business day is within the cost of its month
pub within_change : (a : Account) (m old new : ℕ) → IsAccount a → month_of a.terms.boarded ≤ m → m ≤ month_of a.today → new + counted_before a m ≡ old + counted a.terms (live_of a) a.today → new ≤ old + cost_of_month a m
within_change a m old new h low high steps = let after = h.after in within_day a m a.today old new h low high after (omega arith) steps

-- a new business day is within the cost of the old one's month
pub within_advance : (a a' : Account) (d old new : ℕ) → IsAccount a → a.today ≤ d → a' ≡ advanced_to d a → new + counted a.terms (live_of a) a.today ≡ old + counted a.terms (live_of a) d → new ≤ old + cost_of_month a' (month_of a.today)
within_advance a a' d old new h later same steps = rw same (
    let after = h.after in
    let on = counted_on (advanced_to d a) a.today d (advanced_account a d h later) after later (omega arith) in
    omega (arith, on, steps))

-- from boarding on it is within the cost of the boarded month
pub within_begin : (a : Account) (first old mid new : ℕ) → IsAccount a → first ≡ a.terms.boarded → mid + 1 ≡ old + counted a.terms (live_of a) a.terms.boarded → new + counted a.terms (live_of a) first ≡ mid + counted a.terms (live_of a) a.today → new ≤ old + cost_of_month a (month_of a.terms.boarded)
within_begin a first old mid new h same before after =
    let since = h.after in
    let all = refold_within a a.today h since (omega arith) in
    let here = ap (counted a.terms (live_of a)) same in
    omega (arith, all, here, before, after)

-- ---- what is known of the entry that a reversal names

find_keeps : (P : Entry → Type 0) (p : Entry → Bool) (xs : List Entry) → All P xs → IfSome (find p xs) P
find_keeps P p [] h = tt
find_keeps P p (x ∷ xs) h =
    elim (p x) as (λ v. IfSome (cond v (Some x) (find p xs)) P) [ true ↦ h 0 x (omega arith) | false ↦ find_keeps P p xs (λ k d lt. h (suc k) d (omega arith)) ]

month_low : (o : Option Entry) (m low : ℕ) → MatchOption o (Some m ≡ None) (λ e. Some m ≡ Some (month_of e.day)) → IfSome o (λ e. low ≤ e.day) → month_of low ≤ m
month_low None m low h since = absurd (cc)
month_low (Some e) m low h since = let same = same_Some m (month_of e.day) h in omega arith

month_high : (o : Option Entry) (m high : ℕ) → MatchOption o (Some m ≡ None) (λ e. Some m ≡ Some (month_of e.day)) → IfSome o (λ e. e.day ≤ high) → m ≤ month_of high
month_high None m high h until = absurd (cc)
month_high (Some e) m high h until = let same = same_Some m (month_of e.day) h in omega arith

-- it is of the boarded month or a later one, up to that of the business day
pub entry_since : (a : Account) (number m : ℕ) → IsAccount a → MatchOption (entry_of a number) (Some m ≡ None) (λ e. Some m ≡ Some (month_of e.day)) → month_of a.terms.boarded ≤ m
entry_since a number m h found = month_low (entry_of a number) m a.terms.boarded found (find_keeps (λ e. a.terms.boarded ≤ e.day) (λ e. e.number == number) a.entries h.since)

pub entry_until : (a : Account) (number m : ℕ) → IsAccount a → MatchOption (entry_of a number) (Some m ≡ None) (λ e. Some m ≡ Some (month_of e.day)) → m ≤ month_of a.today
entry_until a number m h found = month_high (entry_of a number) m a.today found (find_keeps (λ e. e.day ≤ a.today) (λ e. e.number == number) a.entries h.until)

pub entry_steps : (o : Option Entry) (m old new : ℕ) (cost : ℕ → ℕ) → MatchOption o (Some m ≡ None) (λ e. Some m ≡ Some (month_of e.day)) → new ≤ old + cost m → MatchOption o (new ≡ old) (λ e. new ≤ old + cost (month_of e.day))
entry_steps None m old new cost h le = absurd (cc)
entry_steps (Some e) m old new cost h le = let same = same_Some m (month_of e.day) h in subst (λ x. new ≤ old + cost x) same le
