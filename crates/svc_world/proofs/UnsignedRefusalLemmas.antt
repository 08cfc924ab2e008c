-- An amount that a refusal names is not below 0.
use Rattle.std.proofs.Common.{◌≡◌, ℕ, Bool, true, false, List, [], ◌∷◌, ◌++◌, length, arith, refl, subst}
use Rattle.std.specs.Prelude.{Option, Some, None, nat_le, ℤ, pos, ◌+ℤ◌, ◌≤ℤ◌, int_lt, ⊤, if◌then◌else◌}
use Rattle.std.specs.Int.{int_max}
use Rattle.std.specs.List.{find}
use Rattle.std.specs.Option.{option_map, option_map_or}
use Rattle.std.proofs.lemmas.Int.{ints, clamps}
use Rattle.svc_types.specs.declared.account.Entry.{Entry}
use Rattle.svc_types.specs.declared.books.Books.{Books}
use Rattle.svc_types.specs.declared.requests.Command.{Command}
use Rattle.svc_types.specs.declared.requests.Command.TheVariants as command
use Rattle.svc_types.specs.declared.requests.Query.{Query}
use Rattle.svc_types.specs.declared.requests.Query.TheVariants as query
use Rattle.svc_types.specs.declared.replies.Refusal.{Refusal}
use Rattle.svc_types.specs.declared.replies.Refusal.TheVariants.{NoSuchLoan, BadTerms, BadLine, BadPlan, BoardedLate, AlreadyReversed, ClosedMonth, KeyReused}
use Rattle.svc_types.specs.declared.replies.Reply.{Reply}
use Rattle.svc_types.specs.Same.{is_same}
use Rattle.svc_types.specs.Terms.{term_fault}
use Rattle.svc_spec.specs.Payoff.{available}
use Rattle.svc_spec.specs.Accounts.{IsAccount, books_of, entry_of, reverser_of}
use Rattle.svc_spec.proofs.AccountLemmas.{account_books}
use Rattle.escrow_lines.specs.Bills.{line_fault}
use Rattle.period_adjust.specs.Conditions.{last_month}
use Rattle.svc_world.specs.Held.{Held, find_loan, books_now}
use Rattle.svc_world.specs.Analysing.{loan_plan_fault}
use Rattle.svc_world.specs.World.{World, Accepted, world}
use Rattle.svc_world.specs.Worlds.{IsHeld, IsWorld}
use Rattle.svc_world.specs.Refusals.{Case, case, case_of, first_of, on_loan, full_of_commands, with_last, dated_cases, present_cases, asks_no_more, over_principal, payoff_short, no_such_line, over_refund, over_waiver, entry_reversal_cases, cases_by_command, refusal_of}
use Rattle.svc_world.specs.Judging.{Kept, Refused, by_refusal, by_key, Known, known, judged, IsHistory}
use Rattle.svc_world.specs.Desk.{Posting}
use Rattle.svc_world.specs.Answers.{cases_by_query, refusal_from, query_refusal}
use Rattle.svc_world.specs.UnsignedRefusals.{IsUnsignedRefusal}
use Rattle.svc_world.proofs.LoanListLemmas.{found_all}
use Rattle.svc_world.proofs.HistoryLemmas.{is_world}

-- ---- rules whose causes name no amount below 0

abbrev AreLow : List Case → Type 0
AreLow [] = ⊤
AreLow (c ∷ cs) = IsUnsignedRefusal c.why × AreLow cs

first_low : (cs : List Case) (why : Refusal) → AreLow cs → first_of cs ≡ Some why → IsUnsignedRefusal why
first_low [] why low e = absurd (cc)
first_low (c ∷ cs) why low e =
    elim c.holds as (λ v. option_map (λ (x : Case). x.why) (if v then Some c else find (λ (x : Case). x.holds) cs) ≡ Some why → IsUnsignedRefusal why) [
      | true ↦ λ is. let same : c.why ≡ why = cc in subst IsUnsignedRefusal same low.0
      | false ↦ λ is. first_low cs why low.1 is
    ] e

-- a fault that is named, before other rules
fault_low : {A : Type 0} (why : A → Refusal) (o : Option A) (cs : List Case) → ((x : A) → IsUnsignedRefusal (why x)) → AreLow cs → AreLow (case_of why o ++ cs)
fault_low why None cs all low = low
fault_low why (Some x) cs all low = (all x, low)

last_low : (why : ℕ → Refusal) (w : World) (month : ℕ) (cs : List Case) → ((m : ℕ) → IsUnsignedRefusal (why m)) → AreLow cs → AreLow (with_last why w month ++ cs)
last_low why w month cs all low =
    elim (last_month w.seals.reports) as (λ o. AreLow (option_map_or (λ last. case (nat_le month last) (why last) ∷ []) o [] ++ cs)) [
      | None ↦ low
      | Some last ↦ (all last, low)
    ]

only_fault_low : {A : Type 0} (why : A → Refusal) (o : Option A) → ((x : A) → IsUnsignedRefusal (why x)) → AreLow (case_of why o)
only_fault_low why None all = tt
only_fault_low why (Some x) all = (all x, tt)

only_last_low : (why : ℕ → Refusal) (w : World) (month : ℕ) → ((m : ℕ) → IsUnsignedRefusal (why m)) → AreLow (with_last why w month)
only_last_low why w month all =
    elim (last_month w.seals.reports) as (λ o. AreLow (option_map_or (λ last. case (nat_le month last) (why last) ∷ []) o [])) [
      | None ↦ tt
      | Some last ↦ (all last, tt)
    ]

loan_low : (w : World) (id : ℕ) (rules : Held → List Case) → ((l : Held) → find_loan id w.loans ≡ Some l → AreLow (rules l)) → AreLow (on_loan w id rules)
loan_low w id rules all =
    elim (find_loan id w.loans) as (λ o. find_loan id w.loans ≡ o → AreLow (option_map_or rules o (case true NoSuchLoan ∷ []))) [
      | None ↦ λ is. (tt, tt)
      | Some l ↦ λ is. all l is
    ] refl

-- ---- the amounts

upb_low : (l : Held) (d : ℕ) → IsAccount l.account → pos 0 ≤ℤ (books_of l.account d).upb
upb_low l d h = (account_books l.account d h).signs.upb_low

late_low : (l : Held) → IsAccount l.account → pos 0 ≤ℤ (books_now l).late_owed
late_low l h = (account_books l.account l.account.today h).signs.late_owed

available_low : (b : Books) → pos 0 ≤ℤ available b
unfolding available
available_low b =
    elim (int_lt (pos 0) b.upb) as (λ v. pos 0 ≤ℤ (if v then int_max (pos 0) b.escrow else int_max (pos 0) (b.suspense +ℤ b.escrow))) [
      | true ↦ omega (arith, ints, clamps)
      | false ↦ omega (arith, ints, clamps)
    ]

-- ---- the rules of a command

dated_low : (w : World) (d : ℕ) (c : ℤ) (own : Held → Case) (l : Held) → IsUnsignedRefusal (own l).why → AreLow (dated_cases w d c own l)
dated_low w d c own l low = (tt, (tt, (tt, (tt, (low, (tt, tt))))))

present_low : (w : World) (c : ℤ) (own : Held → Case) (l : Held) → IsUnsignedRefusal (own l).why → AreLow (present_cases w c own l)
present_low w c own l low = (tt, (tt, (low, (tt, tt))))

entry_low : (w : World) (reverser : Option ℕ) (o : Option Entry) → AreLow (entry_reversal_cases w reverser o)
entry_low w reverser None = (tt, tt)
entry_low w reverser (Some e) = fault_low AlreadyReversed reverser _ (λ n. tt) (tt, (tt, tt))

module _ (n : ℕ) (w : World) (h : IsWorld n w) where
  account : (id : ℕ) (l : Held) → find_loan id w.loans ≡ Some l → IsAccount l.account
  account id l found = (found_all (IsHeld n w.today) id w.loans l found h.held).limited.account

  rules_low : (c : Command) → AreLow (cases_by_command w c)
  rules_low (command.Day d) = (tt, tt)
  rules_low (command.Board id t) = (tt, (tt, fault_low BadTerms (term_fault t) _ (λ x. tt) (last_low BoardedLate w _ _ (λ m. tt) (tt, tt))))
  rules_low (command.Pay id d c over) = loan_low w id _ (λ l found. dated_low w d c asks_no_more l tt)
  rules_low (command.Curtail id d c) = loan_low w id _ (λ l found. dated_low w d c (over_principal d c) l (upb_low l d (account id l found)))
  rules_low (command.Payoff id d c) = loan_low w id _ (λ l found. dated_low w d c (payoff_short d c) l (omega (arith, ints, clamps)))
  rules_low (command.Deposit id d c) = loan_low w id _ (λ l found. dated_low w d c asks_no_more l tt)
  rules_low (command.Disburse id d c line) = loan_low w id _ (λ l found. dated_low w d c (no_such_line line) l tt)
  rules_low (command.Refund id c) = loan_low w id _ (λ l found. present_low w c (over_refund c) l (available_low (books_now l)))
  rules_low (command.Waive id c) = loan_low w id _ (λ l found. present_low w c (over_waiver c) l (late_low l (account id l found)))
  rules_low (command.Reverse id number) = loan_low w id _ (λ l found. entry_low w (reverser_of l.account number) (entry_of l.account number))
  rules_low (command.Line id line kind month every c) = loan_low w id _ (λ l found. (tt, only_fault_low BadLine (line_fault (record { id = line; kind = kind; month = month; every = every; cents = c })) (λ x. tt)))
  rules_low (command.Drop id line) = loan_low w id _ (λ l found. (tt, tt))
  rules_low (command.Analyse id plan) = loan_low w id _ (λ l found. (tt, fault_low BadPlan (loan_plan_fault l plan) _ (λ x. tt) (tt, tt)))
  rules_low (command.Close p) = (tt, (tt, (tt, tt)))
  rules_low (command.Remit p) = (tt, (tt, tt))
  rules_low (command.Retype id from kind) = loan_low w id _ (λ l found. (tt, (tt, only_last_low ClosedMonth w from (λ m. tt))))

-- ---- what is judged

by_refusal_low : (o : Option Refusal) (why : Refusal) → by_refusal o ≡ Refused why → o ≡ Some why
by_refusal_low None why e = absurd (cc)
by_refusal_low (Some x) why e = cc

reused_low : (b : Bool) (r : Reply) (why : Refusal) → (if b then Kept r else Refused (KeyReused r.number)) ≡ Refused why → IsUnsignedRefusal why
reused_low true r why e = absurd (cc)
reused_low false r why e = let same : KeyReused r.number ≡ why = cc in subst IsUnsignedRefusal same tt

command_low : (h : List Accepted) (c : Command) (why : Refusal) → IsHistory h → refusal_of (length h) (world h) c ≡ Some why → IsUnsignedRefusal why
unfolding refusal_of
command_low h c why is e = first_low (full_of_commands (length h) ∷ cases_by_command (world h) c) why (tt, rules_low (length h) (world h) (is_world h is) c) e

known_low : (h : List Accepted) (c : Command) (o : Option Known) (why : Refusal) → IsHistory h → by_key h c o ≡ Refused why → IsUnsignedRefusal why
known_low h c None why is e = command_low h c why is (by_refusal_low (refusal_of (length h) (world h) c) why e)
known_low h c (Some k) why is e = reused_low (is_same k.command c) k.reply why e

pub refusal_low : (h : List Accepted) (key : List ℕ) (c : Command) (why : Refusal) → IsHistory h → judged h key c ≡ Refused why → IsUnsignedRefusal why
unfolding judged
refusal_low h key c why is e = known_low h c (known h key) why is e

-- ---- queries: none of their rules names an amount

asked_low : (w : World) (ps : List Posting) (q : Query) → AreLow (cases_by_query w ps q)
asked_low w ps (query.Books id) = loan_low w id _ (λ l found. tt)
asked_low w ps (query.At id d) = loan_low w id _ (λ l found. (tt, (tt, tt)))
asked_low w ps (query.Payoff id d) = loan_low w id _ (λ l found. (tt, (tt, tt)))
asked_low w ps (query.Escrow id) = loan_low w id _ (λ l found. tt)
asked_low w ps (query.Report p) = (tt, (tt, tt))
asked_low w ps (query.Trial p) = (tt, (tt, tt))
asked_low w ps query.Custodial = tt
asked_low w ps (query.Rows number) = (tt, tt)
asked_low w ps (query.Loan id) = loan_low w id _ (λ l found. tt)
asked_low w ps (query.History id) = loan_low w id _ (λ l found. tt)
asked_low w ps (query.Quote id d) = loan_low w id _ (λ l found. (tt, tt))
asked_low w ps (query.Arrears id) = loan_low w id _ (λ l found. tt)
asked_low w ps query.Aging = tt
asked_low w ps query.Status = tt
asked_low w ps (query.Command number) = (tt, tt)
asked_low w ps (query.Key key) = (tt, tt)

pub query_refusal_low : (h : List Accepted) (q : Query) (why : Refusal) → query_refusal h q ≡ Some why → IsUnsignedRefusal why
unfolding refusal_from
query_refusal_low h q why e = first_low (cases_by_query (world h) _ q) why (asked_low (world h) _ q) e
