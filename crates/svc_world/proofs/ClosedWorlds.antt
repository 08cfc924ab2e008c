-- A world stays sound where a month is closed.
use Rattle.std.proofs.Common.{◌≡◌, ℕ, ◌+◌, ◌-◌, ◌≤◌, ◌<◌, min, true, false, not, List, [], ◌∷◌, ◌++◌, map, length, get_or, arith, refl, sym, ap, subst, length-append}
use Rattle.std.specs.Prelude.{◌==◌, nat_le, take, Option, Some, None, IfSome}
use Rattle.std.specs.List.{All, AllPairs}
use Rattle.std.specs.Option.{option_map_or}
use Rattle.std.proofs.lemmas.Int.{ints}
use Rattle.std.proofs.lemmas.Bool.Decides.{nat_tests}
use Rattle.std.proofs.lemmas.List.{take_all, take-append-le}
use Rattle.std.proofs.lemmas.List.Elements.{All-map, All-push, All-cons, All-nil}
use Rattle.std.proofs.lemmas.List.Kept.{AllPairs-cons}
use Rattle.svc_base.specs.Calendar.{month_of, last_day}
use Rattle.svc_base.specs.Text.{IsReadMonth}
use Rattle.svc_base.specs.Sums.{total_by}
use Rattle.svc_types.proofs.OrderLemmas.{pairs_head, pairs_tail}
use Rattle.svc_types.specs.declared.requests.Command.TheVariants as command
use Rattle.svc_types.specs.declared.replies.Refusal.TheVariants.{Full, WrongPeriod, NotEnded}
use Rattle.svc_types.specs.declared.replies.Limit.TheVariants.{Months}
use Rattle.period_adjust.specs.declared.adjustment.Adjustment.{Adjustment}
use Rattle.period_adjust.specs.declared.report_line.ReportLine.{ReportLine}
use Rattle.period_adjust.specs.Sealed.{Sealed, Reporting}
use Rattle.period_adjust.specs.Sums.{DuePart, line_with, report_of}
use Rattle.period_adjust.specs.Totals.{Close}
use Rattle.period_adjust.specs.Totals as seals
use Rattle.period_adjust.specs.Conditions.{IsSmallLine, IsClosed, MayClose, first_month, last_month}
use Rattle.period_adjust.specs.Kept.{month_after}
use Rattle.period_adjust.proofs.KeptLemmas.{count_sent-push, last_month-push, closed-push}
use Rattle.period_adjust.proofs.SealedLemmas.{sealed_call}
use Rattle.period_adjust.proofs.SentLemmas.{call_sends}
use Rattle.svc_world.specs.Held.{Held, boarded_month}
use Rattle.svc_world.specs.Reports.{line_of, lines_of}
use Rattle.svc_world.specs.World.{World, loans_after, seals_after, after}
use Rattle.svc_world.specs.Refusals.{case, refusal_of, full_of_commands, least_boarded, first_expected, expected_close, close_cases}
use Rattle.svc_world.specs.Worlds.{IsLimited, IsThere, IsOwned, IsListed, IsPassed, sent_part, AreReports, IsWorld}
use Rattle.svc_world.proofs.CarryLemmas.{carry_at_within, due_small}
use Rattle.svc_world.proofs.CloseLemmas.{lines_all, lines_rise, may_close, close_adds}
use Rattle.svc_world.proofs.SentSumLemmas.{all_passed}
use Rattle.svc_world.proofs.LoanListLemmas.{IsFound, all_found}
use Rattle.svc_world.proofs.CaseLemmas.{past}
use Rattle.svc_world.proofs.ChangedWorlds.{held_more}
use Rattle.svc_world.proofs.NamedLoans.{not_full}

-- ---- the month that is to be closed

pub least_below : (m : ℕ) (ls : List Held) → (least_boarded m ls ≤ m) × All (λ (l : Held). least_boarded m ls ≤ boarded_month l) ls
least_below m [] = (omega arith, All-nil (λ (l : Held). m ≤ boarded_month l))
least_below m (l ∷ ls) =
    let rest = least_below (min m (boarded_month l)) ls in
    let low = rest.0 in
    (omega (arith, low), All-cons (λ (k : Held). least_boarded (min m (boarded_month l)) ls ≤ boarded_month k) l ls (omega (arith, low)) rest.1)

-- the month expected first is not after the boarding of any loan
pub first_below : (m : ℕ) (ls : List Held) → All (λ (l : Held). first_expected m ls ≤ boarded_month l) ls
first_below m [] = All-nil (λ (l : Held). m ≤ boarded_month l)
first_below m (l ∷ ls) =
    let rest = least_below (boarded_month l) ls in
    All-cons (λ (k : Held). least_boarded (boarded_month l) ls ≤ boarded_month k) l ls rest.0 rest.1

-- what the rules of a closing leave
pub record IsClosing (w : World) (p : ℕ) : Type 0 where
  pub few : length w.seals.reports < 600
  pub next : IfSome (last_month w.seals.reports) (λ last. p ≡ last + 1)
  pub first : last_month w.seals.reports ≡ None → All (λ (l : Held). p ≤ boarded_month l) w.loans
  pub ended : last_day p < w.today

pub next_of : (o : Option ℕ) (m p : ℕ) → p ≡ option_map_or (λ last. last + 1) o m → IfSome o (λ last. p ≡ last + 1)
next_of None m p e = tt
next_of (Some last) m p e = e

pub first_of_all : (o : Option ℕ) (m p : ℕ) (loans : List Held) → p ≡ option_map_or (λ last. last + 1) o (first_expected m loans) → o ≡ None → All (λ (l : Held). p ≤ boarded_month l) loans
first_of_all None m p loans e none = subst (λ x. All (λ (l : Held). x ≤ boarded_month l) loans) (sym e) (first_below m loans)
first_of_all (Some last) m p loans e none = absurd (cc)

pub closing : (n p : ℕ) (w : World) → refusal_of n w (command.Close p) ≡ None → IsClosing w p × n < 1_000_000
unfolding refusal_of
closing n p w e =
    let one = past (full_of_commands n) (close_cases w p) e in
    let two = past (case (nat_le 600 (length w.seals.reports)) (Full Months)) (case (not (p == expected_close w)) (WrongPeriod (expected_close w)) ∷ case (nat_le w.today (last_day p)) (NotEnded (last_day p)) ∷ []) one.rest in
    let three = past (case (not (p == expected_close w)) (WrongPeriod (expected_close w))) (case (nat_le w.today (last_day p)) (NotEnded (last_day p)) ∷ []) two.rest in
    let four = past (case (nat_le w.today (last_day p)) (NotEnded (last_day p))) [] three.rest in
    let is = same p (expected_close w) three.no in (
      record {
        few = below (length w.seals.reports) 600 two.no;
        next = next_of (last_month w.seals.reports) (first_expected (month_of w.today) w.loans) p is;
        first = first_of_all (last_month w.seals.reports) (month_of w.today) p w.loans is;
        ended = below (last_day p) w.today four.no;
      },
      not_full n one.no,
    )
  where
    below : (a b : ℕ) → nat_le b a ≡ false → a < b
    below a b e = grind (arith, nat_tests)

    same : (a b : ℕ) → not (a == b) ≡ false → a ≡ b
    same a b e = elim (a == b) as (λ v. (a == b) ≡ v → not v ≡ false → a ≡ b) [
      | true ↦ λ is t. grind (arith, nat_tests)
      | false ↦ λ is t. absurd (cc)
    ] refl e

-- ---- the closing may be made

pub small_line : (p : ℕ) (l : Held) → p < 25_692 → IsLimited l.account → IsSmallLine (line_of p l)
small_line p l lt h =
    let due = due_small l p lt h in
    let carry = (carry_at_within l.account l.types p lt h).within in
    let u0 = carry.upb_low in let u1 = carry.upb_high in
    let b0 = carry.balance_low in let b1 = carry.balance_high in
    let most = h.account.terms.principal_high in
    record {
      interest = due.interest;
      principal = due.principal;
      upb = record { low = omega (arith, ints, u0); high = omega (arith, ints, u1, most) };
      balance = record { low = omega (arith, ints, b0); high = omega (arith, ints, b1, most) };
    }

pub after_last : (o : Option ℕ) (p : ℕ) → IfSome o (λ last. p ≡ last + 1) → month_after o ≤ p
after_last None p e = omega arith
after_last (Some last) p e = omega (arith, e)

pub closing_may : (n p : ℕ) (w : World) → IsWorld n w → IsReadMonth p → IsClosing w p → MayClose w.seals p (lines_of w.seals.pending p w.loans)
closing_may n p w h read c =
    let from = read.first in
    let to = read.last in
    record {
      calendar = record { begin = omega (arith, from); end = omega (arith, to) };
      expected = record { high = omega (arith, to); next = c.next };
      lines = may_close w.seals p w.loans h.reports.sealed (after_last (last_month w.seals.reports) p c.next) h.rising h.reports.owned
          (λ k d lt t. small_line p (get_or w.loans k d) (omega (arith, to)) (h.held k d lt).limited);
    }

-- ---- the reports after it

abbrev pub closed_lines : World → ℕ → List ReportLine
closed_lines w p = lines_of w.seals.pending p w.loans

abbrev pub closed_report : World → ℕ → Sealed
closed_report w p = report_of p (closed_lines w p) w.seals.pending

abbrev pub closed_seals : World → ℕ → Reporting
closed_seals w p = seals.after w.seals (Close p (closed_lines w p))

pub with_rise : (ps : List Adjustment) (ls : List ReportLine) → AllPairs (λ (l m : ReportLine). l.loan < m.loan) ls → AllPairs (λ (l m : ReportLine). l.loan < m.loan) (map (line_with ps) ls)
with_rise ps [] h = λ i j d lt len. absurd (omega arith)
with_rise ps (l ∷ ls) h =
    let R : ReportLine → ReportLine → Type 0 = λ a b. a.loan < b.loan in
    AllPairs-cons R (line_with ps l) (map (line_with ps) ls)
    (All-map (λ (m : ReportLine). l.loan < m.loan) (line_with ps) ls (pairs_head R l ls h))
    (with_rise ps ls (pairs_tail R l ls h))

pub new_listed : (n p : ℕ) (w : World) → IsWorld n w → All (IsListed w.loans p) (closed_report w p).lines
new_listed n p w h =
    All-map (IsListed w.loans p) (line_with w.seals.pending) (closed_lines w p)
    (lines_all (IsListed w.loans p) w.seals.pending p w.loans (λ k d lt t. there (get_or w.loans k d) (all_found w.loans h.rising k d lt) t))
  where
    there : (l : Held) → IsFound w.loans l → nat_le (boarded_month l) p ≡ true → IsThere w.loans l.id p
    there l found t = record { loan = l; found = found; since = grind (arith, nat_tests) }

pub closed_if : (o : Option ℕ) (reports : List Sealed) (r : Sealed) → IfSome o (IsClosed reports) → IfSome o (IsClosed (reports ++ r ∷ []))
closed_if None reports r h = tt
closed_if (Some m) reports r h = closed-push reports r m h

pub first_closed : (p : ℕ) (w : World) → IsClosing w p → IfSome (first_month w.seals.reports) (λ first. All (λ (l : Held). first ≤ boarded_month l) w.loans) → IfSome (first_month (w.seals.reports ++ closed_report w p ∷ [])) (λ first. All (λ (l : Held). first ≤ boarded_month l) w.loans)
first_closed p w c h = pushed w.seals.reports (closed_report w p) w.loans c.first h
  where
    pushed : (rs : List Sealed) (r : Sealed) (loans : List Held) → (last_month rs ≡ None → All (λ (l : Held). r.month ≤ boarded_month l) loans) → IfSome (first_month rs) (λ first. All (λ (l : Held). first ≤ boarded_month l) loans) → IfSome (first_month (rs ++ r ∷ [])) (λ first. All (λ (l : Held). first ≤ boarded_month l) loans)
    pushed [] r loans new h = new refl
    pushed (x ∷ rs) r loans new h = h

pub ended_closed : (p : ℕ) (w : World) → last_day p < w.today → IfSome (last_month (w.seals.reports ++ closed_report w p ∷ [])) (λ last. last_day last < w.today)
ended_closed p w lt = subst (λ o. IfSome o (λ last. last_day last < w.today)) (sym (last_month-push w.seals.reports (closed_report w p))) lt

pub all_sent : (n p : ℕ) (w : World) (part : DuePart) (id : ℕ) → IsWorld n w → IsReadMonth p → IsClosing w p → IsPassed (total_by (sent_part part id) (w.seals.reports ++ closed_report w p ∷ []))
all_sent n p w part id h read c =
    let may = closing_may n p w h read c in
    let from = read.first in
    let to = read.last in
    let end : month_after (last_month (closed_seals w p).reports) ≡ p + 1 = ap month_after (last_month-push w.seals.reports (closed_report w p)) in
    all_passed part id (p + 1 - 23_868) (closed_seals w p) w.loans
    (sealed_call w.seals (Close p (closed_lines w p)) h.reports.sealed may)
    refl
    (call_sends w.seals (Close p (closed_lines w p)) h.reports.sends may)
    (close_adds w.seals p w.loans h.reports.sealed h.add_up may h.rising c.first)
    (λ k d lt. (h.held k d lt).limited)
    (omega (arith, end, from))
    (omega (arith, to))

pub passed_closed : (n p : ℕ) (w : World) (part : DuePart) (k id : ℕ) → IsWorld n w → IsReadMonth p → IsClosing w p → IsPassed (total_by (sent_part part id) (take k (w.seals.reports ++ closed_report w p ∷ [])))
passed_closed n p w part k id h read c =
    elim (nat_le k (length w.seals.reports)) as (λ v. nat_le k (length w.seals.reports) ≡ v → IsPassed (total_by (sent_part part id) (take k (w.seals.reports ++ closed_report w p ∷ [])))) [
      | true ↦ λ e.
          let le : k ≤ length w.seals.reports = grind (arith, nat_tests) in
          subst (λ rs. IsPassed (total_by (sent_part part id) rs)) (sym (take-append-le k w.seals.reports (closed_report w p ∷ []) le)) (h.reports.passed part k id)
      | false ↦ λ e.
          let gt : length w.seals.reports < k = grind (arith, nat_tests) in
          let count = length-append w.seals.reports (closed_report w p ∷ []) in
          subst (λ rs. IsPassed (total_by (sent_part part id) rs)) (sym (take_all k (w.seals.reports ++ closed_report w p ∷ []) (omega (arith, count, gt)))) (all_sent n p w part id h read c)
    ] refl

abbrev pub closed_with : World → Reporting → World
closed_with w s = record { today = w.today; loans = w.loans; seals = s; remitted = w.remitted }

pub closed_reports : (n p : ℕ) (w : World) → IsWorld n w → IsReadMonth p → IsClosing w p → AreReports (closed_with w (closed_seals w p))
closed_reports n p w h read c =
    let r = h.reports in
    let may = closing_may n p w h read c in
    let dues = closed_lines w p in
    let new = closed_report w p in
    record {
      sealed = sealed_call w.seals (Close p dues) r.sealed may;
      few = (let count = length-append w.seals.reports (new ∷ []) in let lt = c.few in omega (arith, count, lt));
      held = (let sent = count_sent-push w.seals.reports new in let most = r.held in omega (arith, sent, most));
      ended = ended_closed p w c.ended;
      from_first = first_closed p w c r.from_first;
      owned = All-nil (IsOwned w.loans);
      listed = All-push (λ (x : Sealed). All (IsListed w.loans x.month) x.lines) w.seals.reports new r.listed (new_listed n p w h);
      remitted = closed_if w.remitted w.seals.reports new r.remitted;
      in_order = All-push (λ (x : Sealed). AllPairs (λ (l m : ReportLine). l.loan < m.loan) x.lines) w.seals.reports new r.in_order (with_rise w.seals.pending dues (lines_rise w.seals.pending p w.loans h.rising));
      sends = call_sends w.seals (Close p dues) r.sends may;
      passed = λ part k id. passed_closed n p w part k id h read c;
    }

pub close_keeps : (n p : ℕ) (w : World) → IsWorld n w → IsReadMonth p → refusal_of n w (command.Close p) ≡ None → IsWorld (n + 1) (after (n + 1) w (command.Close p))
unfolding after loans_after seals_after
close_keeps n p w h read e =
    let both = closing n p w e in
    let c = both.0 in
    let few = both.1 in
    record {
      count = omega (arith, few);
      today = h.today;
      rising = h.rising;
      few = h.few;
      held = λ k d lt. held_more n w.today (get_or w.loans k d) (h.held k d lt);
      reports = closed_reports n p w h read c;
      add_up = close_adds w.seals p w.loans h.reports.sealed h.add_up (closing_may n p w h read c) h.rising c.first;
    }
