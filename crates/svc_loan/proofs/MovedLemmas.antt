-- What entries brought in and paid out: its limits, and what one more entry or reversal adds to it.
use Rattle.std.proofs.Common.{◌≡◌, ℕ, ◌*◌, ◌≤◌, ◌<◌, Bool, true, false, cond, List, [], ◌∷◌, ◌++◌, length, ◌+◌, arith, refl, ap, ◌∙◌}
use Rattle.std.specs.Prelude.{ℤ, pos, ◌+ℤ◌, ◌-ℤ◌, ◌==◌, ◌||◌, Option, Some, None}
use Rattle.std.specs.List.{All, AllPairs, filter, find, list_any}
use Rattle.std.specs.Option.{option_map}
use Rattle.std.proofs.lemmas.Bool.Decides.{nat_tests}
use Rattle.std.proofs.lemmas.Int.{ints}
use Rattle.std.proofs.lemmas.List.Elements.{All-head, All-tail, All-filter}
use Rattle.std.proofs.lemmas.List.Folds.{list_any-append}
use Rattle.svc_base.proofs.SumLemmas.{total_by-push}
use Rattle.svc_types.specs.declared.account.Act.{Act}
use Rattle.svc_types.specs.declared.account.Act.TheVariants.{Pay, Curtail, Payoff, Deposit, Disburse, Refund, Waive, Analyse}
use Rattle.svc_types.specs.declared.account.Entry.{Entry}
use Rattle.svc_types.specs.Live.{is_reversed}
use Rattle.svc_types.proofs.OrderLemmas.{live_all, pairs_head, pairs_tail}
use Rattle.svc_spec.specs.Books.{IsAct}
use Rattle.svc_spec.specs.Step.{brought}
use Rattle.svc_spec.specs.Accounts.{Account, IsAccount, MayPost, live_of, entry_of, reverser_of, posted, reversed_in}
use Rattle.svc_spec.specs.Totals.{sum_over, refunded_by, disbursed_by, reversed_of, received, returned, refunded, disbursed}
use Rattle.svc_spec.proofs.AccountLemmas.{live_few, filter_length, live_after_post}
use Rattle.svc_spec.proofs.TotalLemmas.{sum_placed, sum_live}
use Rattle.svc_loan.specs.declared.moved.Moved.{Moved}
use Rattle.svc_loan.specs.Moved.{moved_of, with_act, with_reversed, AreMoved}
use Rattle.svc_world.proofs.SumsWithin.{IsUpTo, total_up_to}
use Rattle.svc_world.proofs.LimitedLemmas.{received_posted}

-- ---- limits

nothing : IsUpTo 100_000_000_000_000 (pos 0)
nothing = record { low = omega (arith, ints); high = omega (arith, ints) }

pub brought_small : (x : Act) → IsAct x → IsUpTo 100_000_000_000_000 (brought x)
brought_small (Pay c to) h = record { low = h.low; high = h.high }
brought_small (Curtail c) h = record { low = h.low; high = h.high }
brought_small (Payoff c) h = record { low = h.low; high = h.high }
brought_small (Deposit c) h = record { low = h.low; high = h.high }
brought_small (Disburse c line) h = nothing
brought_small (Refund c) h = nothing
brought_small (Waive c) h = nothing
brought_small (Analyse s) h = nothing

pub refunded_small : (x : Act) → IsAct x → IsUpTo 100_000_000_000_000 (refunded_by x)
refunded_small (Pay c to) h = nothing
refunded_small (Curtail c) h = nothing
refunded_small (Payoff c) h = nothing
refunded_small (Deposit c) h = nothing
refunded_small (Disburse c line) h = nothing
refunded_small (Refund c) h = record { low = h.low; high = h.high }
refunded_small (Waive c) h = nothing
refunded_small (Analyse s) h = record { low = h.0.low; high = h.0.high }

pub disbursed_small : (x : Act) → IsAct x → IsUpTo 100_000_000_000_000 (disbursed_by x)
disbursed_small (Pay c to) h = nothing
disbursed_small (Curtail c) h = nothing
disbursed_small (Payoff c) h = nothing
disbursed_small (Deposit c) h = nothing
disbursed_small (Disburse c line) h = record { low = h.low; high = h.high }
disbursed_small (Refund c) h = nothing
disbursed_small (Waive c) h = nothing
disbursed_small (Analyse s) h = nothing

-- 4,096 entries move at most 409,600,000,000,000,000 cents of each kind
pub record AreSmall (a : Account) : Type 0 where
  pub received : IsUpTo 409_600_000_000_000_000 (received a)
  pub returned : IsUpTo 409_600_000_000_000_000 (returned a)
  pub refunded : IsUpTo 409_600_000_000_000_000 (refunded a)
  pub disbursed : IsUpTo 409_600_000_000_000_000 (disbursed a)

up_to_4096 : (n : ℕ) (z : ℤ) → n ≤ 4_096 → IsUpTo (100_000_000_000_000 * n) z → IsUpTo 409_600_000_000_000_000 z
up_to_4096 n z few h = let high = h.high in record { low = h.low; high = omega (arith, ints, high) }

live_sum : (f : Act → ℤ) (a : Account) → IsAccount a → ((x : Act) → IsAct x → IsUpTo 100_000_000_000_000 (f x)) → IsUpTo 409_600_000_000_000_000 (sum_over f (live_of a))
live_sum f a h each =
    let few = h.few in
    up_to_4096 (length (live_of a)) (sum_over f (live_of a)) (omega (arith, live_few a)) (total_up_to 100_000_000_000_000 (λ (e : Entry). f e.act) (live_of a) (live_all (λ e. IsUpTo 100_000_000_000_000 (f e.act)) a.entries a.reversals (λ k d lt. each _ (h.acts k d lt))))

pub sums_small : (a : Account) → IsAccount a → AreSmall a
sums_small a h =
    let few = h.few in
    let back : length (reversed_of a) ≤ 4_096 = omega (arith, filter_length (λ (e : Entry). is_reversed a.reversals e.number) a.entries) in
    let in' : All (λ (e : Entry). IsUpTo 100_000_000_000_000 (brought e.act)) a.entries = λ k d lt. brought_small _ (h.acts k d lt) in
    record {
      received = up_to_4096 (length a.entries) (received a) few (total_up_to 100_000_000_000_000 (λ (e : Entry). brought e.act) a.entries in');
      returned = up_to_4096 (length (reversed_of a)) (returned a) back (total_up_to 100_000_000_000_000 (λ (e : Entry). brought e.act) (reversed_of a) (All-filter (λ (e : Entry). is_reversed a.reversals e.number) (λ (e : Entry). IsUpTo 100_000_000_000_000 (brought e.act)) a.entries in'));
      refunded = live_sum refunded_by a h refunded_small;
      disbursed = live_sum disbursed_by a h disbursed_small;
    }

-- ---- one more entry

pub live_posted_sum : (f : Act → ℤ) (a : Account) (e : Entry) → IsAccount a → MayPost a e → sum_over f (live_of (posted e a)) ≡ sum_over f (live_of a) +ℤ f e.act
live_posted_sum f a e h may =
    let moved = ap (sum_over f) (live_after_post a e h may) in
    omega (arith, ints, moved, sum_placed f e (live_of a))

-- what is returned stays: no reversal names the new entry
pub returned_posted : (a : Account) (e : Entry) → IsAccount a → MayPost a e → returned (posted e a) ≡ returned a
returned_posted a e h may =
    let all = sum_live brought (posted e a) in
    let old = sum_live brought a in
    let more = total_by-push (λ (x : Entry). brought x.act) a.entries e in
    let live = live_posted_sum brought a e h may in
    omega (arith, ints, all, old, more, live)

-- ---- one more reversal

abbrev rises : Entry → Entry → Type 0
rises e f = e.number < f.number

named_more : (rs : List (ℕ × ℕ)) (number by n : ℕ) → is_reversed (rs ++ (number, by) ∷ []) n ≡ (is_reversed rs n || (number == n))
named_more rs number by n =
    let tail : list_any (λ (r : ℕ × ℕ). r.0 == n) ((number, by) ∷ []) ≡ (number == n) = or_false (number == n) in
    list_any-append (λ (r : ℕ × ℕ). r.0 == n) rs ((number, by) ∷ []) ∙ ap (λ v. is_reversed rs n || v) tail
  where
    or_false : (b : Bool) → (b || false) ≡ b
    or_false true = refl
    or_false false = refl

-- entries of other numbers are reversed as before
others_sum : (f : Act → ℤ) (rs : List (ℕ × ℕ)) (number by : ℕ) (es : List Entry) → All (λ (e : Entry). number < e.number) es → sum_over f (filter (λ (e : Entry). is_reversed (rs ++ (number, by) ∷ []) e.number) es) ≡ sum_over f (filter (λ (e : Entry). is_reversed rs e.number) es)
others_sum f rs number by [] h = refl
others_sum f rs number by (e ∷ es) h =
    let above : number < e.number = All-head (λ (x : Entry). number < x.number) e es h in
    let apart : (number == e.number) ≡ false = grind (arith, nat_tests) in
    let rest = others_sum f rs number by es (All-tail (λ (x : Entry). number < x.number) e es h) in
    let test = named_more rs number by e.number ∙ ap (λ v. is_reversed rs e.number || v) apart in
    let test' : is_reversed (rs ++ (number, by) ∷ []) e.number ≡ is_reversed rs e.number = test ∙ or_false (is_reversed rs e.number) in
    ap (λ v. sum_over f (cond v (e ∷ filter (λ (x : Entry). is_reversed (rs ++ (number, by) ∷ []) x.number) es) (filter (λ (x : Entry). is_reversed (rs ++ (number, by) ∷ []) x.number) es))) test'
    ∙ (elim (is_reversed rs e.number) as (λ v. sum_over f (cond v (e ∷ filter (λ (x : Entry). is_reversed (rs ++ (number, by) ∷ []) x.number) es) (filter (λ (x : Entry). is_reversed (rs ++ (number, by) ∷ []) x.number) es)) ≡ sum_over f (cond v (e ∷ filter (λ (x : Entry). is_reversed rs x.number) es) (filter (λ (x : Entry). is_reversed rs x.number) es))) [
      | true ↦ ap (λ z. f e.act +ℤ z) rest
      | false ↦ rest
    ])
  where
    or_false : (b : Bool) → (b || false) ≡ b
    or_false true = refl
    or_false false = refl

one_more : (f : Act → ℤ) (rs : List (ℕ × ℕ)) (number by : ℕ) (es : List Entry) (e : Entry) → AllPairs rises es → find (λ (x : Entry). x.number == number) es ≡ Some e → is_reversed rs number ≡ false → sum_over f (filter (λ (x : Entry). is_reversed (rs ++ (number, by) ∷ []) x.number) es) ≡ sum_over f (filter (λ (x : Entry). is_reversed rs x.number) es) +ℤ f e.act
one_more f rs number by [] e rising found fresh = absurd (cc)
one_more f rs number by (x ∷ xs) e rising found fresh =
    elim (x.number == number) as (λ v. (x.number == number) ≡ v → cond v (Some x) (find (λ (y : Entry). y.number == number) xs) ≡ Some e → sum_over f (filter (λ (y : Entry). is_reversed (rs ++ (number, by) ∷ []) y.number) (x ∷ xs)) ≡ sum_over f (filter (λ (y : Entry). is_reversed rs y.number) (x ∷ xs)) +ℤ f e.act) [
      | true ↦ λ same is.
          let number_is : x.number ≡ number = grind (arith, nat_tests) in
          let xe : x ≡ e = cc in
          let fx : f x.act ≡ f e.act = ap (λ (y : Entry). f y.act) xe in
          let above : All (λ (y : Entry). number < y.number) xs = λ k d lt. (let up = pairs_head rises x xs rising k d lt in omega (arith, up, number_is)) in
          let rest = others_sum f rs number by xs above in
          let here : is_reversed rs x.number ≡ false = ap (is_reversed rs) number_is ∙ fresh in
          let yes : (number == x.number) ≡ true = grind (arith, nat_tests) in
          let now : is_reversed (rs ++ (number, by) ∷ []) x.number ≡ true = named_more rs number by x.number ∙ ap (λ v. v || (number == x.number)) here ∙ yes in
          ap (λ v. sum_over f (cond v (x ∷ filter (λ (y : Entry). is_reversed (rs ++ (number, by) ∷ []) y.number) xs) (filter (λ (y : Entry). is_reversed (rs ++ (number, by) ∷ []) y.number) xs))) now
          ∙ (let old : sum_over f (filter (λ (y : Entry). is_reversed rs y.number) (x ∷ xs)) ≡ sum_over f (filter (λ (y : Entry). is_reversed rs y.number) xs) = ap (λ v. sum_over f (cond v (x ∷ filter (λ (y : Entry). is_reversed rs y.number) xs) (filter (λ (y : Entry). is_reversed rs y.number) xs))) here in omega (arith, ints, old, rest, fx))
      | false ↦ λ other is.
          let rest = one_more f rs number by xs e (pairs_tail rises x xs rising) is fresh in
          let apart : (number == x.number) ≡ false = grind (arith, nat_tests) in
          let same : is_reversed (rs ++ (number, by) ∷ []) x.number ≡ is_reversed rs x.number = named_more rs number by x.number ∙ ap (λ v. is_reversed rs x.number || v) apart ∙ or_false (is_reversed rs x.number) in
          ap (λ v. sum_over f (cond v (x ∷ filter (λ (y : Entry). is_reversed (rs ++ (number, by) ∷ []) y.number) xs) (filter (λ (y : Entry). is_reversed (rs ++ (number, by) ∷ []) y.number) xs))) same
          ∙ (elim (is_reversed rs x.number) as (λ v. sum_over f (cond v (x ∷ filter (λ (y : Entry). is_reversed (rs ++ (number, by) ∷ []) y.number) xs) (filter (λ (y : Entry). is_reversed (rs ++ (number, by) ∷ []) y.number) xs)) ≡ sum_over f (cond v (x ∷ filter (λ (y : Entry). is_reversed rs y.number) xs) (filter (λ (y : Entry). is_reversed rs y.number) xs)) +ℤ f e.act) [
            | true ↦ omega (arith, ints, rest)
            | false ↦ rest
          ])
    ] refl found
  where
    or_false : (b : Bool) → (b || false) ≡ b
    or_false true = refl
    or_false false = refl

-- nothing reversed an entry that has no reverser
unnamed : (rs : List (ℕ × ℕ)) (n : ℕ) → find (λ (r : ℕ × ℕ). r.0 == n) rs ≡ None → is_reversed rs n ≡ false
unnamed [] n e = refl
unnamed (r ∷ rs) n e =
    elim (r.0 == n) as (λ v. cond v (Some r) (find (λ (x : ℕ × ℕ). x.0 == n) rs) ≡ None → (v || is_reversed rs n) ≡ false) [
      | true ↦ λ is. absurd (cc)
      | false ↦ λ is. unnamed rs n is
    ] e

no_reverser : (o : Option (ℕ × ℕ)) → option_map (λ (r : ℕ × ℕ). r.1) o ≡ None → o ≡ None
no_reverser None e = refl
no_reverser (Some r) e = absurd (cc)

-- what is reversed rises by the entry's amount
pub reversed_sum : (f : Act → ℤ) (a : Account) (number by : ℕ) (e : Entry) → IsAccount a → entry_of a number ≡ Some e → reverser_of a number ≡ None → sum_over f (reversed_of (reversed_in number by a)) ≡ sum_over f (reversed_of a) +ℤ f e.act
reversed_sum f a number by e h found none =
    one_more f a.reversals number by a.entries e h.rising found (unnamed a.reversals number (no_reverser (find (λ (r : ℕ × ℕ). r.0 == number) a.reversals) none))

-- and what is live falls by it
pub live_reversed_sum : (f : Act → ℤ) (a : Account) (number by : ℕ) (e : Entry) → IsAccount a → entry_of a number ≡ Some e → reverser_of a number ≡ None → sum_over f (live_of (reversed_in number by a)) ≡ sum_over f (live_of a) -ℤ f e.act
live_reversed_sum f a number by e h found none =
    omega (arith, ints, sum_live f (reversed_in number by a), sum_live f a, reversed_sum f a number by e h found none)

-- ---- the numbers that run along

abbrev pub moved : ℕ → ℤ → ℤ → ℤ → ℤ → Moved
moved n r b f d = record { entries = n; received = r; returned = b; refunded = f; disbursed = d }

pub same_moved : {n m : ℕ} {r r' b b' f f' d d' : ℤ} → n ≡ m → r ≡ r' → b ≡ b' → f ≡ f' → d ≡ d' → moved n r b f d ≡ moved m r' b' f' d'
same_moved entries received returned refunded disbursed = rw (entries, received, returned, refunded, disbursed) refl

pub moved_posted : (a : Account) (e : Entry) → IsAccount a → MayPost a e → moved_of (posted e a) ≡ with_act e.act (moved_of a)
moved_posted a e h may =
    let entries : length (a.entries ++ e ∷ []) ≡ length a.entries + 1 = length_push a.entries in
    same_moved entries (received_posted a e) (returned_posted a e h may) (live_posted_sum refunded_by a e h may) (live_posted_sum disbursed_by a e h may)
  where
    length_push : (xs : List Entry) → length (xs ++ e ∷ []) ≡ length xs + 1
    length_push [] = refl
    length_push (x ∷ xs) = omega (arith, length_push xs)

pub moved_reversed : (a : Account) (number by : ℕ) (e : Entry) → IsAccount a → entry_of a number ≡ Some e → reverser_of a number ≡ None → moved_of (reversed_in number by a) ≡ with_reversed e.act (moved_of a)
moved_reversed a number by e h found none =
    same_moved refl refl (reversed_sum brought a number by e h found none) (live_reversed_sum refunded_by a number by e h found none) (live_reversed_sum disbursed_by a number by e h found none)

pub moved_small : (a : Account) → IsAccount a → AreMoved (moved_of a)
moved_small a h =
    let s = sums_small a h in
    record {
      entries = h.few;
      received = record { low = s.received.low; high = s.received.high };
      returned = record { low = s.returned.low; high = s.returned.high };
      refunded = record { low = s.refunded.low; high = s.refunded.high };
      disbursed = record { low = s.disbursed.low; high = s.disbursed.high };
    }
