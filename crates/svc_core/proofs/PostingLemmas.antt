-- The commands with their replies, as they are kept.
use Rattle.std.proofs.Common.{◌≡◌, ℕ, zero, suc, ◌+◌, ◌-◌, ◌≤◌, true, false, List, [], ◌∷◌, length, arith, refl, sym, ap, ◌∙◌}
use Rattle.std.specs.Prelude.{Option, Some, None, is_some, slice_get, if◌then◌else◌}
use Rattle.svc_types.specs.declared.replies.Reply.{Reply}
use Rattle.svc_world.specs.World.{World, Accepted, first_world, after}
use Rattle.svc_world.specs.Judging.{is_key, nth_accepted, reply_of}
use Rattle.period_adjust.specs.Conditions.{last_month, count_held}
use Rattle.svc_world.specs.declared.desk.BooksStatus.{BooksStatus}
use Rattle.svc_world.specs.Refusals.{expected_close}
use Rattle.svc_world.specs.Desk.{next_remit_of, status_of, Posting, nth_posting, posting_under, postings, postings_from}
use Rattle.svc_core.specs.Posted.{number_from, postings_in, replies_from, replies_to}

abbrev pub posting : Accepted → Reply → Posting
posting a r = record { key = a.key; command = a.command; reply = r }

pub count_in : (h : List Accepted) (rs : List Reply) → length rs ≡ length h → length (postings_in h rs) ≡ length h
count_in [] rs e = refl
count_in (a ∷ h) [] e = absurd (omega (arith, e))
count_in (a ∷ h) (r ∷ rs) e = let rest = count_in h rs (omega (arith, e)) in omega (arith, rest)

at_place : (h : List Accepted) (rs : List Reply) (n : ℕ) (a : Accepted) (r : Reply) → Some a ≡ slice_get h n → Some r ≡ slice_get rs n → slice_get (postings_in h rs) n ≡ Some (posting a r)
at_place [] rs n a r e f = absurd (cc)
at_place (b ∷ h) [] n a r e f = absurd (cc)
at_place (b ∷ h) (q ∷ rs) zero a r e f = let x : a ≡ b = cc in let y : r ≡ q = cc in ap (λ c. Some (posting c q)) (sym x) ∙ ap (λ c. Some (posting a c)) (sym y)
at_place (b ∷ h) (q ∷ rs) (suc n) a r e f = at_place h rs n a r e f

-- the one with a number is the command with it, and the reply
pub posting_at : (h : List Accepted) (rs : List Reply) (n : ℕ) (a : Accepted) (r : Reply) → 1 ≤ n → Some a ≡ nth_accepted h n → Some r ≡ slice_get rs (n - 1) → nth_posting n (postings_in h rs) ≡ Some (posting a r)
posting_at h rs zero a r some e f = absurd (omega (arith, some))
posting_at h rs (suc n) a r some e f =
    let place : suc n - 1 ≡ n = omega arith in
    at_place h rs n a r e (f ∙ ap (slice_get rs) place)

-- what is found by a key is the one with its number
pub record IsUnder (m n : ℕ) (ps : List Posting) (key : List ℕ) : Type 0 where
  pub low : m ≤ n
  pub few : n + 1 ≤ m + length ps
  pub same : posting_under key ps ≡ slice_get ps (n - m)

pub found_from : (m : ℕ) (h : List Accepted) (rs : List Reply) (key : List ℕ) (n : ℕ) → length rs ≡ length h → number_from m h key ≡ Some n → IsUnder m n (postings_in h rs) key
found_from m [] rs key n e found = absurd (cc)
found_from m (a ∷ h) [] key n e found = absurd (omega (arith, e))
found_from m (a ∷ h) (r ∷ rs) key n e found =
    elim (is_key a.key key) as (λ v. is_key a.key key ≡ v → (if v then Some m else number_from (m + 1) h key) ≡ Some n → IsUnder m n (postings_in (a ∷ h) (r ∷ rs)) key) [
      | true ↦ λ is at.
          let here : m ≡ n = cc in
          let place : n - m ≡ 0 = omega (arith, here) in
          record { low = omega (arith, here); few = omega (arith, here); same = rw (is, place) refl }
      | false ↦ λ is at.
          let rest = found_from (m + 1) h rs key n (omega (arith, e)) at in
          let low = rest.low in
          let few = rest.few in
          let place : n - m ≡ suc (n - (m + 1)) = omega (arith, low) in
          record { low = omega (arith, low); few = omega (arith, few); same = rw (is, place) rest.same }
    ] refl found

pub none_from : (m : ℕ) (h : List Accepted) (rs : List Reply) (key : List ℕ) → number_from m h key ≡ None → posting_under key (postings_in h rs) ≡ None
none_from m [] rs key e = refl
none_from m (a ∷ h) [] key e = refl
none_from m (a ∷ h) (r ∷ rs) key e =
    elim (is_key a.key key) as (λ v. is_key a.key key ≡ v → (if v then Some m else number_from (m + 1) h key) ≡ None → posting_under key (postings_in (a ∷ h) (r ∷ rs)) ≡ None) [
      | true ↦ λ is at. absurd (cc)
      | false ↦ λ is at. rw is (none_from (m + 1) h rs key at)
    ] refl e

-- the one with a number, where there is one
pub nth_is : (n : ℕ) (ps : List Posting) → 1 ≤ n → nth_posting n ps ≡ slice_get ps (n - 1)
nth_is zero ps some = absurd (omega (arith, some))
nth_is (suc n) ps some = let place : suc n - 1 ≡ n = omega arith in ap (slice_get ps) (sym place)

-- one that is found is there
some_at : (ps : List Posting) (n : ℕ) → n + 1 ≤ length ps → is_some (slice_get ps n) ≡ true
some_at [] n lt = absurd (omega (arith, lt))
some_at (p ∷ ps) zero lt = refl
some_at (p ∷ ps) (suc n) lt = some_at ps n (omega (arith, lt))

pub is_there : (ps : List Posting) (key : List ℕ) (m n : ℕ) → IsUnder m n ps key → is_some (posting_under key ps) ≡ true
is_there ps key m n h = let low = h.low in let few = h.few in ap is_some h.same ∙ some_at ps (n - m) (omega (arith, low, few))

-- a history's commands with its replies are the definition's
same_from : (n : ℕ) (w : World) (h : List Accepted) → postings_in h (replies_from n w h) ≡ postings_from n w h
unfolding replies_from postings_from
same_from n w [] = refl
same_from n w (a ∷ more) = ap (λ rest. posting a (reply_of (n + 1) w a.command) ∷ rest) (same_from (n + 1) (after (n + 1) w a.command) more)

pub same_postings : (h : List Accepted) (rs : List Reply) → rs ≡ replies_to h → postings_in h rs ≡ postings h
same_postings h rs e = ap (postings_in h) e ∙ same_from 0 first_world h

-- where the books stand, by what is said of each part
abbrev pub status : ℕ → ℕ → ℕ → Option ℕ → Option ℕ → ℕ → Option ℕ → ℕ → ℕ → BooksStatus
status today loans commands closed remitted close remit pending adjustments = record {
  today = today;
  loans = loans;
  commands = commands;
  closed = closed;
  remitted = remitted;
  close = close;
  remit = remit;
  pending = pending;
  adjustments = adjustments;
}

pub same_status : (n : ℕ) (w : World) (today loans commands : ℕ) (closed remitted : Option ℕ) (close : ℕ) (remit : Option ℕ) (pending adjustments : ℕ)
    → loans ≡ length w.loans → commands ≡ n → closed ≡ last_month w.seals.reports → remitted ≡ w.remitted → close ≡ expected_close w → remit ≡ next_remit_of w.remitted w.seals.reports → pending ≡ length w.seals.pending → adjustments ≡ count_held w.seals
    → today ≡ w.today
    → status today loans commands closed remitted close remit pending adjustments ≡ status_of n w
unfolding status_of
same_status n w today loans commands closed remitted close remit pending adjustments e1 e2 e3 e4 e5 e6 e7 e8 e9 =
    ap (λ x. status x loans commands closed remitted close remit pending adjustments) e9
    ∙ ap (λ x. status w.today x commands closed remitted close remit pending adjustments) e1
    ∙ ap (λ x. status w.today (length w.loans) x closed remitted close remit pending adjustments) e2
    ∙ ap (λ x. status w.today (length w.loans) n x remitted close remit pending adjustments) e3
    ∙ ap (λ x. status w.today (length w.loans) n (last_month w.seals.reports) x close remit pending adjustments) e4
    ∙ ap (λ x. status w.today (length w.loans) n (last_month w.seals.reports) w.remitted x remit pending adjustments) e5
    ∙ ap (λ x. status w.today (length w.loans) n (last_month w.seals.reports) w.remitted (expected_close w) x pending adjustments) e6
    ∙ ap (λ x. status w.today (length w.loans) n (last_month w.seals.reports) w.remitted (expected_close w) (next_remit_of w.remitted w.seals.reports) x adjustments) e7
    ∙ ap (λ x. status w.today (length w.loans) n (last_month w.seals.reports) w.remitted (expected_close w) (next_remit_of w.remitted w.seals.reports) (length w.seals.pending) x) e8
