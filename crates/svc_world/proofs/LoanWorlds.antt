-- A world stays sound where an entry is reversed, a line is set or dropped, or the type changes.
use Rattle.std.proofs.Common.{◌≡◌, ℕ, suc, ◌+◌, ◌≤◌, ◌<◌, max, Bool, true, false, not, List, [], ◌∷◌, length, get_or, arith, refl, sym, ap, subst, ◌∙◌, length-append, append-nil}
use Rattle.std.specs.Prelude.{◌==◌, nat_le, nat_lt, ◌&&◌, ◌||◌, Option, Some, None, IfSome, pos, int_le, if◌then◌else◌, is_some}
use Rattle.std.specs.List.{All, find, list_any}
use Rattle.std.proofs.lemmas.Bool.Decides.{nat_tests}
use Rattle.std.proofs.lemmas.List.Elements.{All-push, All-head, All-tail}
use Rattle.svc_base.specs.Calendar.{month_of}
use Rattle.svc_base.proofs.CentsRules.{from_int_le}
use Rattle.svc_types.specs.declared.terms.RemitType.{RemitType}
use Rattle.svc_types.specs.declared.account.Entry.{Entry}
use Rattle.svc_types.specs.declared.faults.LineWhy.{LineWhy}
use Rattle.svc_types.specs.declared.faults.LineWhy.TheVariants.{Amount, MonthRange, Every}
use Rattle.svc_types.specs.declared.requests.Command.TheVariants as command
use Rattle.svc_types.specs.declared.requests.TypeChange.{TypeChange}
use Rattle.svc_types.specs.declared.replies.Refusal.TheVariants.{AlreadyReversed, BadLine, ClosedMonth, Full}
use Rattle.svc_types.specs.declared.replies.Limit.TheVariants.{Types, Lines}
use Rattle.svc_types.specs.declared.replies.Refusal.TheVariants as refusal
use Rattle.svc_spec.specs.Accounts.{entry_of, reverser_of}
use Rattle.escrow_lines.specs.declared.line.Line.{Line}
use Rattle.escrow_lines.specs.Bills.{IsBill, is_right, line_fault}
use Rattle.escrow_lines.specs.BillLists.{has_id, with_line, AreLines}
use Rattle.escrow_lines.proofs.LineLemmas.{are_with, are_without}
use Rattle.period_adjust.specs.Conditions.{last_month}
use Rattle.period_adjust.specs.Kept.{month_after}
use Rattle.svc_world.specs.Held.{Held, boarded_month, changed, with_reversal, with_bill, without_bill, with_type}
use Rattle.svc_world.specs.LoanDues.{type_change}
use Rattle.svc_world.specs.Reports.{months_of, changes_of}
use Rattle.svc_world.specs.World.{World, loans_after, seals_after, after}
use Rattle.svc_world.specs.Refusals.{case, case_of, first_of, refusal_of, is_analysis, adjustments_full, entry_reversal_cases, reversal_cases, line_cases, has_line, no_such_line, retype_cases, with_last}
use Rattle.svc_world.specs.Worlds.{IsHeld, IsWorld}
use Rattle.svc_world.specs.Changing.{world_with}
use Rattle.svc_world.specs.Laws.{IsFrom, AdjustsItsOwn}
use Rattle.svc_world.proofs.LimitedLemmas.{reversed_limited}
use Rattle.svc_world.proofs.AgreeLemmas.{AgreeTo, reversal_agrees, type_agrees}
use Rattle.svc_world.proofs.CaseLemmas.{past, past_of, past_last, HasRoom, room_left}
use Rattle.svc_world.proofs.ChangedWorlds.{IsChange, own_changes, change_keeps}
use Rattle.svc_world.proofs.NamedLoans.{named_loan, room_enough, asked}
use Rattle.svc_world.proofs.QuietWorlds.{IsQuiet, quiet_keeps}

-- ---- a reversal

-- the entry is there and was not reversed, and its rules leave room
pub record IsReversible (w : World) (number : ℕ) (l : Held) : Type 0 where
  pub entry : Entry
  pub found : entry_of l.account number ≡ Some entry
  pub live : reverser_of l.account number ≡ None
  pub room : HasRoom w (month_of entry.day)

pub reversible : (w : World) (number : ℕ) (l : Held) → first_of (reversal_cases w number l) ≡ None → IsReversible w number l
reversible w number l e =
    elim (entry_of l.account number) as (λ o. entry_of l.account number ≡ o → first_of (entry_reversal_cases w (reverser_of l.account number) o) ≡ None → IsReversible w number l) [
      | None ↦ λ is none. absurd (cc)
      | Some x ↦ λ is none.
          let one = past_of AlreadyReversed (reverser_of l.account number) (case (is_analysis x.act) refusal.NotReversible ∷ adjustments_full w (month_of x.day) ∷ []) none in
          let two = past (case (is_analysis x.act) refusal.NotReversible) (adjustments_full w (month_of x.day) ∷ []) one.rest in
          record { entry = x; found = is; live = one.no; room = room_left w (month_of x.day) two.rest }
    ] refl e

pub find_all : (P : Entry → Type 0) (p : Entry → Bool) (es : List Entry) (x : Entry) → find p es ≡ Some x → All P es → P x
find_all P p [] x e h = absurd (cc)
find_all P p (y ∷ es) x e h =
    elim (p y) as (λ v. (if v then Some y else find p es) ≡ Some x → P x) [
      | true ↦ λ is. let same : y ≡ x = cc in subst P same (All-head P y es h)
      | false ↦ λ is. find_all P p es x is (All-tail P y es h)
    ] e

pub reversal_change : (n number : ℕ) (w : World) (l : Held) (x : Entry) → IsHeld n w.today l → entry_of l.account number ≡ Some x → IsChange (n + 1) w.today (month_of x.day) (with_reversal number (n + 1)) l
reversal_change n number w l x h found =
    let account = h.limited.account in
    let there : is_some (entry_of l.account number) ≡ true = ap is_some found in
    let since : l.account.terms.boarded ≤ x.day = find_all (λ (e : Entry). l.account.terms.boarded ≤ e.day) (λ (e : Entry). e.number == number) l.account.entries x found account.since in
    record {
      number = λ k. refl;
      boarded = λ k. refl;
      agree = reversal_agrees l number (n + 1) x account found;
      since = omega (arith, since);
      held = record {
        limited = reversed_limited l.account number (n + 1) h.limited there;
        today = h.today;
        numbers = λ k d lt. (let le : (get_or l.account.entries k d).number ≤ n = h.numbers k d lt in omega arith);
        lines = h.lines;
        types = h.types;
        since = h.since;
      };
    }

pub reverse_keeps : (n id number : ℕ) (w : World) → IsWorld n w → refusal_of n w (command.Reverse id number) ≡ None → IsWorld (n + 1) (after (n + 1) w (command.Reverse id number))
unfolding after loans_after seals_after
reverse_keeps n id number w h e =
    let q = asked n w id (reversal_cases w number) (command.Reverse id number) refl e in
    let l = q.loan.loan in
    let is = named_loan n w id l h q.loan.found in
    let it = reversible w number l q.loan.rest in
    let m = month_of it.entry.day in
    let f = with_reversal number (n + 1) in
    let ch = reversal_change n number w l it.entry is.held it.found in
    subst (λ i. IsWorld (n + 1) (world_with w i f (n + 1))) is.number
    (change_keeps n m w f l h q.few is.found ch (room_enough n m w l h is.found ch.since it.room))

-- its adjustments are of its loan, and of months from that of the entry on
pub reverse_own : (n id number : ℕ) (w : World) → IsWorld n w → refusal_of n w (command.Reverse id number) ≡ None → AdjustsItsOwn w (command.Reverse id number) (changes_of (n + 1) (months_of w.seals.reports) w.loans (changed id (with_reversal number (n + 1)) w.loans))
reverse_own n id number w h e =
    let q = asked n w id (reversal_cases w number) (command.Reverse id number) refl e in
    let l = q.loan.loan in
    let is = named_loan n w id l h q.loan.found in
    let it = reversible w number l q.loan.rest in
    let m = month_of it.entry.day in
    let f = with_reversal number (n + 1) in
    let ch = reversal_change n number w l it.entry is.held it.found in
    let own = own_changes n m (n + 1) w f l h is.found ch.number ch.agree ch.since in
    let its = subst (λ i. All (IsFrom i m) (changes_of (n + 1) (months_of w.seals.reports) w.loans (changed i f w.loans))) is.number own in
    rw (q.loan.found, it.found) its

-- ---- changes from a month on that is not closed

-- the first month that is neither closed nor before a loan was boarded
abbrev pub open_month : World → Held → ℕ
open_month w l = max (month_after (last_month w.seals.reports)) (boarded_month l)

pub with_length : (line : Line) (lines : List Line) → length (with_line line lines) ≡ (if list_any (has_id line.id) lines then length lines else length lines + 1)
with_length line [] = refl
with_length line (x ∷ xs) =
    let rest = with_length line xs in
    elim (has_id line.id x) as (λ v. length (if v then line ∷ xs else x ∷ with_line line xs) ≡ (if v || list_any (has_id line.id) xs then suc (length xs) else suc (length xs) + 1)) [
      | true ↦ refl
      | false ↦ counted (list_any (has_id line.id) xs) (length (with_line line xs)) (length xs) rest
    ]
  where
    counted : (b : Bool) (k j : ℕ) → k ≡ (if b then j else j + 1) → suc k ≡ (if b then suc j else suc j + 1)
    counted true k j e = ap suc e
    counted false k j e = omega (arith, e)

pub bill_from : (line : Line) → line_fault line ≡ None → IsBill line
bill_from line e =
    let cents = right line Amount (MonthRange ∷ Every ∷ []) e in
    let month = right line MonthRange (Every ∷ []) cents.1 in
    let every = right line Every [] month.1 in
    let c = both (int_le (pos 1) line.cents) (int_le line.cents (pos 10_000_000_000)) cents.0 in
    let m = both (nat_le 1 line.month) (nat_le line.month 12) month.0 in
    let low = m.0 in
    let high = m.1 in
    record {
      cents_low = from_int_le (pos 1) line.cents c.0;
      cents_high = from_int_le line.cents (pos 10_000_000_000) c.1;
      month_low = grind (arith, nat_tests);
      month_high = grind (arith, nat_tests);
      every = every.0;
    }
  where
    both : (a b : Bool) → a && b ≡ true → (a ≡ true) × (b ≡ true)
    both true true e = (refl, refl)
    both true false e = absurd (cc)
    both false b e = absurd (cc)

    right : (line : Line) (why : LineWhy) (rest : List LineWhy) → find (λ y. not (is_right line y)) (why ∷ rest) ≡ None → (is_right line why ≡ true) × (find (λ y. not (is_right line y)) rest ≡ None)
    right line why rest e =
        elim (is_right line why) as (λ v. is_right line why ≡ v → (if not v then Some why else find (λ y. not (is_right line y)) rest) ≡ None → (is_right line why ≡ true) × (find (λ y. not (is_right line y)) rest ≡ None)) [
          | true ↦ λ is none. (is, none)
          | false ↦ λ is none. absurd (cc)
        ] refl e

pub lines_change : (n : ℕ) (w : World) (f : Held → Held) (l : Held) (lines : List Line) → IsHeld n w.today l → f l ≡ record l { lines = lines } → ((k : Held) → (f k).id ≡ k.id) → ((k : Held) → boarded_month (f k) ≡ boarded_month k) → AgreeTo (open_month w l) l (f l) → AreLines lines → IsChange (n + 1) w.today (open_month w l) f l
lines_change n w f l lines h is number boarded agree are = record {
  number = number;
  boarded = boarded;
  agree = agree;
  since = omega arith;
  held = subst (IsHeld (n + 1) w.today) (sym is) (record {
    limited = h.limited;
    today = h.today;
    numbers = λ k d lt. (let le : (get_or l.account.entries k d).number ≤ n = h.numbers k d lt in omega arith);
    lines = are;
    types = h.types;
    since = h.since;
  });
}

pub same_account : (m : ℕ) (l : Held) (lines : List Line) → AgreeTo m l (record l { lines = lines })
same_account m l lines = record { account = record { terms = refl; ends = λ p lt. refl }; kinds = λ p lt. refl }

pub few_lines : (line : Line) (l : Held) → length l.lines ≤ 16 → (not (has_line line.id l) && nat_le 16 (length l.lines)) ≡ false → length (with_line line l.lines) ≤ 16
few_lines line l most full = few (has_line line.id l) (length (with_line line l.lines)) (length l.lines) (with_length line l.lines) most full
  where
    few : (b : Bool) (k j : ℕ) → k ≡ (if b then j else j + 1) → j ≤ 16 → (not b && nat_le 16 j) ≡ false → k ≤ 16
    few true k j e most full = omega (arith, e)
    few false k j e most full = let lt : j < 16 = grind (arith, nat_tests) in omega (arith, e)

pub line_quiet : (n id : ℕ) (w : World) (line : Line) → IsWorld n w → refusal_of n w (command.Line id line.id line.kind line.month line.every line.cents) ≡ None → IsQuiet n w id (with_bill line)
line_quiet n id w line h e =
    let q = asked n w id (line_cases line) (command.Line id line.id line.kind line.month line.every line.cents) refl e in
    let l = q.loan.loan in
    let is = named_loan n w id l h q.loan.found in
    let one = past (case (not (has_line line.id l) && nat_le 16 (length l.lines)) (Full Lines)) (case_of BadLine (line_fault line)) q.loan.rest in
    let two = no_fault (line_fault line) one.rest in
    let are = are_with line l.lines is.held.lines (bill_from line two) (few_lines line l is.held.lines.few one.no) in
    record { few = q.few; loan = l; found = q.loan.found; month = open_month w l; end = omega arith; change = lines_change n w (with_bill line) l (with_line line l.lines) is.held refl (λ k. refl) (λ k. refl) (same_account (open_month w l) l (with_line line l.lines)) are }
  where
    no_fault : (o : Option LineWhy) → first_of (case_of BadLine o) ≡ None → o ≡ None
    no_fault None e = refl
    no_fault (Some x) e = absurd (cc)

pub line_keeps : (n id : ℕ) (w : World) (line : Line) → IsWorld n w → refusal_of n w (command.Line id line.id line.kind line.month line.every line.cents) ≡ None → IsWorld (n + 1) (after (n + 1) w (command.Line id line.id line.kind line.month line.every line.cents))
unfolding after loans_after seals_after
line_keeps n id w line h e = quiet_keeps n id w (with_bill line) h (line_quiet n id w line h e)

pub drop_quiet : (n id line : ℕ) (w : World) → IsWorld n w → refusal_of n w (command.Drop id line) ≡ None → IsQuiet n w id (without_bill line)
drop_quiet n id line w h e =
    let q = asked n w id (λ l. no_such_line line l ∷ []) (command.Drop id line) refl e in
    let l = q.loan.loan in
    let is = named_loan n w id l h q.loan.found in
    record { few = q.few; loan = l; found = q.loan.found; month = open_month w l; end = omega arith; change = lines_change n w (without_bill line) l (without_bill line l).lines is.held refl (λ k. refl) (λ k. refl) (same_account (open_month w l) l (without_bill line l).lines) (are_without line l.lines is.held.lines) }

pub drop_keeps : (n id line : ℕ) (w : World) → IsWorld n w → refusal_of n w (command.Drop id line) ≡ None → IsWorld (n + 1) (after (n + 1) w (command.Drop id line))
unfolding after loans_after seals_after
drop_keeps n id line w h e = quiet_keeps n id w (without_bill line) h (drop_quiet n id line w h e)

-- ---- a change of type

pub end_by : (o : Option ℕ) (m : ℕ) → IfSome o (λ last. last < m) → month_after o ≤ m
end_by None m lt = omega arith
end_by (Some last) m lt = omega (arith, lt)

pub type_held : (n from : ℕ) (kind : RemitType) (w : World) (l : Held) → IsHeld n w.today l → length l.types < 64 → boarded_month l ≤ from → IsHeld (n + 1) w.today (with_type (type_change from kind) l)
type_held n from kind w l h few since = record {
  limited = h.limited;
  today = h.today;
  numbers = λ k d lt. (let le : (get_or l.account.entries k d).number ≤ n = h.numbers k d lt in omega arith);
  lines = h.lines;
  types = omega (arith, few, length-append l.types (type_change from kind ∷ []));
  since = All-push (λ (c : TypeChange). boarded_month l ≤ c.from) l.types (type_change from kind) h.since since;
}

pub retype_quiet : (n id from : ℕ) (kind : RemitType) (w : World) → IsWorld n w → refusal_of n w (command.Retype id from kind) ≡ None → IsQuiet n w id (with_type (type_change from kind))
retype_quiet n id from kind w h e =
    let q = asked n w id (retype_cases w from) (command.Retype id from kind) refl e in
    let l = q.loan.loan in
    let is = named_loan n w id l h q.loan.found in
    let one = past (case (nat_le 64 (length l.types)) (Full Types)) (case (nat_lt from (boarded_month l)) (refusal.BeforeBoarding l.account.terms.boarded) ∷ with_last ClosedMonth w from) q.loan.rest in
    let two = past (case (nat_lt from (boarded_month l)) (refusal.BeforeBoarding l.account.terms.boarded)) (with_last ClosedMonth w from) one.rest in
    let n1 = one.no in
    let n2 = two.no in
    let few : length l.types < 64 = grind (arith, nat_tests) in
    let since : boarded_month l ≤ from = grind (arith, nat_tests) in
    let later = past_last ClosedMonth w from [] (ap first_of (append-nil (with_last ClosedMonth w from)) ∙ two.rest) in
    record { few = q.few; loan = l; found = q.loan.found; month = from; end = end_by (last_month w.seals.reports) from later.later; change = record { number = λ k. refl; boarded = λ k. refl; agree = type_agrees l (type_change from kind); since = since; held = type_held n from kind w l is.held few since } }

pub retype_keeps : (n id from : ℕ) (kind : RemitType) (w : World) → IsWorld n w → refusal_of n w (command.Retype id from kind) ≡ None → IsWorld (n + 1) (after (n + 1) w (command.Retype id from kind))
unfolding after loans_after seals_after
retype_keeps n id from kind w h e = quiet_keeps n id w (with_type (type_change from kind)) h (retype_quiet n id from kind w h e)
