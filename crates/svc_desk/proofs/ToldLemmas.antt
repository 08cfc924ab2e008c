-- What holds of the desk's answers after a history.
use Rattle.std.proofs.Common.{◌≡◌, ℕ, ◌+◌, ◌↔◌, true, false, List, [], ◌∷◌, ◌++◌, length, arith, refl, sym, ap, subst, ◌∙◌}
use Rattle.std.specs.Prelude.{Some, ℤ, ◌≤ℤ◌}
use Rattle.std.specs.List.{All}
use Rattle.svc_base.specs.Calendar.{IsDay}
use Rattle.svc_types.specs.declared.account.Act.TheVariants as act
use Rattle.svc_types.specs.declared.account.Designation.TheVariants.{Regular}
use Rattle.svc_types.specs.declared.books.Books.{Books}
use Rattle.svc_types.specs.declared.desk.Arrears.{Arrears}
use Rattle.svc_types.specs.declared.desk.HistoryLine.{HistoryLine}
use Rattle.svc_types.specs.declared.requests.Command.TheVariants as command
use Rattle.svc_types.specs.declared.requests.Query.TheVariants as query
use Rattle.svc_types.specs.declared.terms.Terms.{Terms}
use Rattle.svc_spec.specs.Accounts.{IsAccount, MayPost, posted, books_of}
use Rattle.svc_spec.specs.Arrears.{installments_due, arrears_of}
use Rattle.svc_spec.specs.Books.{AreBooks}
use Rattle.svc_spec.specs.History.{history_of}
use Rattle.svc_spec.specs.HistoryLaws.{AddUp, IsBalanced}
use Rattle.svc_spec.specs.Settling.{is_overdue}
use Rattle.svc_spec.proofs.AccountLemmas.{account_books, posted_account}
use Rattle.svc_spec.proofs.ArrearsLemmas.{is_due, due_more, due_none}
use Rattle.svc_spec.proofs.HistoryLemmas.{history_adds_up, history_balanced}
use Rattle.svc_replay.specs.ArrearsLaw.{payment_today, NoneIsOverdue}
use Rattle.svc_replay.proofs.ArrearsLemmas.{least_that_pays}
use Rattle.svc_world.specs.declared.answer.Answer.{Answer}
use Rattle.svc_world.specs.declared.answer.Answer.TheVariants as answer
use Rattle.svc_world.specs.Held.{Held, find_loan, books_now, with_entry, changed}
use Rattle.svc_world.specs.World.{World, Accepted, accepted, entry, after, loans_after, world}
use Rattle.svc_world.specs.Judging.{IsHistory, Fresh, judged}
use Rattle.svc_world.specs.Answers.{books_answer, refusal_from, answer_from, answer_to}
use Rattle.svc_world.specs.Answered.{IsAnswerTo}
use Rattle.svc_world.proofs.LoanListLemmas.{find_changed}
use Rattle.svc_world.proofs.NamedLoans.{named_loan}
use Rattle.svc_world.proofs.EntryWorlds.{pay_enters, entry_may}
use Rattle.svc_world.proofs.HistoryLemmas.{fresh_none, is_world, world-push}
use Rattle.svc_world.proofs.AnswerLemmas.{IsOfLoan, is_of_loan, rules_found, answer_found}
use Rattle.svc_desk.specs.Told.{AddsUpToBooks, IsBroughtCurrent}

-- ---- a history and books

-- the history that is answered of a loan
abbrev told_history : World → ℕ → Held → Answer
told_history w id l = answer.History id w.today (history_of l.account) l.account.reversals

history_found : (h : List Accepted) (id : ℕ) (a : Answer) → answer_to h (query.History id) ≡ Some a → IsOfLoan (world h) id (told_history (world h) id) a
unfolding answer_from
history_found h id a e = is_of_loan (world h) id (told_history (world h) id) a e

books_told : (h : List Accepted) (id : ℕ) (l : Held) → find_loan id (world h).loans ≡ Some l → IsAnswerTo h (query.Books id) (books_answer l (books_now l))
unfolding refusal_from answer_from
books_told h id l found = record {
  not_refused = rules_found (world h) id (λ k. []) l found;
  answer = answer_found (world h) id (λ k. books_answer k (books_now k)) l found;
}

same_lines : (day day2 id id2 : ℕ) (xs ys : List HistoryLine) (rs ss : List (ℕ × ℕ)) → answer.History id day xs rs ≡ answer.History id2 day2 ys ss → xs ≡ ys
same_lines day day2 id id2 xs ys rs ss e = cc

pub history_to_books : (h : List Accepted) (id day : ℕ) (lines : List HistoryLine) (reversed : List (ℕ × ℕ)) → IsHistory h → answer_to h (query.History id) ≡ Some (answer.History id day lines reversed) → AddsUpToBooks h id lines
history_to_books h id day lines reversed is e =
    let w = world h in
    let q = history_found h id (answer.History id day lines reversed) e in
    let l = q.loan in
    let named = named_loan (length h) w id l (is_world h is) q.found in
    let account = named.held.limited.account in
    let same : history_of l.account ≡ lines = same_lines w.today day id id (history_of l.account) lines l.account.reversals reversed q.same in
    let told = books_told h id l q.found in
    record {
      books = books_now l;
      next = _;
      pay = _;
      answered = subst (λ i. IsAnswerTo h (query.Books id) (books_answer (record l { id = i }) (books_now l))) named.number told;
      sums = subst (λ xs. AddUp xs (books_now l)) same (history_adds_up l.account account);
      balanced = subst (λ xs. All IsBalanced xs) same (history_balanced l.account account);
    }

-- ---- arrears

-- the arrears that are answered of a loan
abbrev told_arrears : ℕ → ℕ → Held → Answer
told_arrears day id l = answer.Arrears id day (arrears_of l.account.terms day (books_now l))

arrears_found : (h : List Accepted) (id : ℕ) (a : Answer) → answer_to h (query.Arrears id) ≡ Some a → IsOfLoan (world h) id (told_arrears (world h).today id) a
unfolding answer_from
arrears_found h id a e = is_of_loan (world h) id (told_arrears (world h).today id) a e

arrears_told : (h : List Accepted) (id day : ℕ) (l : Held) → (world h).today ≡ day → find_loan id (world h).loans ≡ Some l → IsAnswerTo h (query.Arrears id) (told_arrears day id l)
unfolding refusal_from answer_from
arrears_told h id day l at found = subst (λ d. IsAnswerTo h (query.Arrears id) (told_arrears d id l)) at (record {
  not_refused = rules_found (world h) id (λ k. []) l found;
  answer = answer_found (world h) id (told_arrears (world h).today id) l found;
})

-- none is due exactly where the open installment is not
none_is_due : (t : Terms) (d : ℕ) (b : Books) → AreBooks t b → (installments_due t d b ≡ 0) ↔ (is_overdue t d b ≡ false)
none_is_due t d b h = (
  (λ none. elim (is_overdue t d b) as (λ v. is_overdue t d b ≡ v → v ≡ false) [
    | true ↦ λ e. let more = due_more t d b (h.signs.next_low (is_due t d b e).owed) e in absurd (omega (arith, none, more))
    | false ↦ λ e. refl
  ] refl),
  due_none t d b,
)

both_ways : {A : Type 0} {B : Type 0} {C : Type 0} → A ↔ B → B ↔ C → A ↔ C
both_ways ab bc = ((λ a. bc.0 (ab.0 a)), (λ c. ab.1 (bc.1 c)))

paid_on : (n id day : ℕ) (x : ℤ) (w : World) → (after n w (command.Pay id day x Regular)).loans ≡ changed id (with_entry (entry n day (act.Pay x Regular))) w.loans
unfolding after loans_after
paid_on n id day x w = refl

paid_today : (n id day : ℕ) (x : ℤ) (w : World) → (after n w (command.Pay id day x Regular)).today ≡ w.today
unfolding after
paid_today n id day x w = refl

same_told : (id id2 day day2 : ℕ) (a b : Arrears) → answer.Arrears id day a ≡ answer.Arrears id2 day2 b → (a ≡ b) × (day ≡ day2)
same_told id id2 day day2 a b e = (cc, cc)

-- what a loan's own answer says after a payment
current_by : (h : List Accepted) (id day : ℕ) (l : Held) → IsAnswerTo h (query.Arrears id) (told_arrears day id l) → IsBroughtCurrent h id day ↔ (installments_due l.account.terms day (books_now l) ≡ 0)
current_by h id day l told = (
  (λ is. (let same = same_told id id day day (arrears_of l.account.terms day (books_now l)) is.left (some_same (sym told.answer ∙ is.answered.answer)) in ap (λ (a : Arrears). a.installments) same.0 ∙ is.none)),
  (λ none. record { left = arrears_of l.account.terms day (books_now l); answered = told; none = none }),
)
  where
    some_same : {a b : Answer} → Some a ≡ Some b → a ≡ b
    some_same e = cc

-- on the business day
paid_now : (l : Held) (n : ℕ) (x : ℤ) (h : List Accepted) (id : ℕ) (asked : Arrears) → IsAccount l.account → MayPost l.account (payment_today l.account n x) → IsAccount (posted (payment_today l.account n x) l.account) → arrears_of l.account.terms l.account.today (books_now l) ≡ asked → IsAnswerTo h (query.Arrears id) (told_arrears l.account.today id (with_entry (payment_today l.account n x) l)) → IsBroughtCurrent h id l.account.today ↔ (asked.pay ≤ℤ x)
paid_now l n x h id asked account may paid same told =
    let p = payment_today l.account n x in
    let after = account_books (posted p l.account) l.account.today paid in
    both_ways (current_by h id l.account.today (with_entry p l) told)
    (both_ways (none_is_due l.account.terms l.account.today (books_of (posted p l.account) l.account.today) after)
    (subst (λ (a : Arrears). NoneIsOverdue (posted p l.account) ↔ (a.pay ≤ℤ x)) same (least_that_pays l.account n x account may)))

paid_at : (l : Held) (day n : ℕ) (x : ℤ) (h : List Accepted) (id : ℕ) (asked : Arrears) → l.account.today ≡ day → IsAccount l.account → MayPost l.account (entry n day (act.Pay x Regular)) → IsAccount (posted (entry n day (act.Pay x Regular)) l.account) → arrears_of l.account.terms day (books_now l) ≡ asked → IsAnswerTo h (query.Arrears id) (told_arrears day id (with_entry (entry n day (act.Pay x Regular)) l)) → IsBroughtCurrent h id day ↔ (asked.pay ≤ℤ x)
paid_at l day n x h id asked on account may paid same told =
    subst (λ d. MayPost l.account (entry n d (act.Pay x Regular)) → IsAccount (posted (entry n d (act.Pay x Regular)) l.account) → arrears_of l.account.terms d (books_now l) ≡ asked → IsAnswerTo h (query.Arrears id) (told_arrears d id (with_entry (entry n d (act.Pay x Regular)) l)) → IsBroughtCurrent h id d ↔ (asked.pay ≤ℤ x)) on
    (paid_now l n x h id asked account) may paid same told

pub least_is_answered : (h : List Accepted) (key : List ℕ) (id day : ℕ) (asked : Arrears) (paid : ℤ) → IsHistory h → answer_to h (query.Arrears id) ≡ Some (answer.Arrears id day asked) → judged h key (command.Pay id day paid Regular) ≡ Fresh → IsBroughtCurrent (h ++ accepted key (command.Pay id day paid Regular) ∷ []) id day ↔ (asked.pay ≤ℤ paid)
least_is_answered h key id day asked paid is e fresh =
    let w = world h in
    let n = length h in
    let c = command.Pay id day paid Regular in
    let last = accepted key c in
    let later = h ++ last ∷ [] in
    let sound = is_world h is in
    let q = arrears_found h id (answer.Arrears id day asked) e in
    let l = q.loan in
    let named = named_loan n w id l sound q.found in
    let account = named.held.limited.account in
    let same = same_told id id w.today day (arrears_of l.account.terms w.today (books_now l)) asked q.same in
    let on : l.account.today ≡ day = named.held.today ∙ same.1 in
    let m = entry (n + 1) day (act.Pay paid Regular) in
    let enters = pay_enters n id day w paid Regular sound (subst IsDay same.1 sound.today.exists) (fresh_none h key c fresh) in
    let may = entry_may n id w m sound enters in
    let one : enters.loan ≡ l = some_held (sym enters.found ∙ q.found) in
    let grown = posted_account enters.loan.account m (named_loan n w id enters.loan sound enters.found).held.limited.account may enters.exists enters.entries in
    let post : MayPost l.account m = subst (λ (k : Held). MayPost k.account m) one may in
    let found : find_loan id (world later).loans ≡ Some (with_entry m l) = ap (λ (x : World). find_loan id x.loans) (world-push h last) ∙ ap (find_loan id) (paid_on (n + 1) id day paid w) ∙ find_changed id (with_entry m) w.loans l q.found (λ k. refl) in
    let today : (world later).today ≡ day = ap (λ (x : World). x.today) (world-push h last) ∙ paid_today (n + 1) id day paid w ∙ same.1 in
    let told = arrears_told later id day (with_entry m l) today found in
    let due = subst (λ d. arrears_of l.account.terms d (books_now l) ≡ asked) same.1 same.0 in
    paid_at l day (n + 1) paid later id asked on account post (subst (λ (k : Held). IsAccount (posted m k.account)) one grown) due told
  where
    some_held : {a b : Held} → Some a ≡ Some b → a ≡ b
    some_held e = cc
