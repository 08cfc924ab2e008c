-- What the statement is made of: the answers that it asks for, and each loan's sums.
use Rattle.std.proofs.Common.{◌≡◌, ℕ, zero, suc, add-one, ◌+◌, ◌<◌, true, List, [], ◌∷◌, length, take, get_or, arith, refl, sym, ap, subst, ◌∙◌}
use Rattle.std.specs.Prelude.{is_some, Option, Some, None, pos}
use Rattle.std.specs.List.{find}
use Rattle.std.specs.Option.{option_map, option_map_or}
use Rattle.svc_types.specs.declared.replies.Refusal.{Refusal}
use Rattle.svc_types.specs.declared.replies.Refusal.TheVariants as why_is
use Rattle.svc_types.specs.declared.requests.Query.TheVariants as query
use Rattle.custodial_book.specs.declared.row.Row.{Row}
use Rattle.svc_world.specs.declared.answer.Answer.{Answer}
use Rattle.svc_world.specs.declared.answer.Answer.TheVariants as answer
use Rattle.svc_world.specs.declared.custody.Custody.{Custody}
use Rattle.svc_world.specs.Held.{Held, find_loan, books_now}
use Rattle.svc_world.specs.World.{Accepted, world}
use Rattle.svc_world.specs.Answers.{books_answer, answer_from, answer_to, query_refusal, refusal_from}
use Rattle.svc_world.specs.Custody.{custody_of}
use Rattle.svc_world.specs.Refusals.{Case}
use Rattle.svc_core.specs.declared.fault.CoreFault.{CoreFault}
use Rattle.svc_core.specs.declared.fault.CoreFault.TheVariants as fault
use Rattle.svc_core.specs.Core.{IsQueryFault}
use Rattle.servicing_transfer.specs.declared.row_sums.RowSums.{RowSums}
use Rattle.servicing_transfer.specs.declared.statement_line.StatementLine.{StatementLine}
use Rattle.servicing_transfer.specs.RowSums.{with_own, with_rows}
use Rattle.servicing_transfer.specs.StatementAnswers.{IsBooks, IsCustodial, IsCustodyOf, IsLineOf, line_found}

-- ---- the custodial accounts

pub custody_not_refused : (h : List Accepted) (f : CoreFault) (why : Refusal) → IsQueryFault (query_refusal h query.Custodial) f → f ≡ fault.Refused why → ⊥
unfolding refusal_from
custody_not_refused h f why fails is = let refused = subst (IsQueryFault (query_refusal h query.Custodial)) is fails in never why refused
  where
    never : (x : Refusal) → None ≡ Some x → ⊥
    never x e = cc

pub is_custodial : (h : List Accepted) (a : Answer) → answer_to h query.Custodial ≡ Some a → IsCustodial a
unfolding answer_from
is_custodial h a e = let is : answer.Custodial (custody_of (world h)) ≡ a = cc in subst IsCustodial is tt

pub custody_is : (h : List Accepted) (a : Answer) (c : Custody) → answer_to h query.Custodial ≡ Some a → IsCustodyOf a c → c ≡ custody_of (world h)
unfolding answer_from
custody_is h a c e of = let is : answer.Custodial (custody_of (world h)) ≡ a = cc in subst (λ x. IsCustodyOf x c) (sym is) of

-- ---- books

pub books_not_refused : (h : List Accepted) (id : ℕ) (f : CoreFault) (why : Refusal) → is_some (find_loan id (world h).loans) ≡ true → IsQueryFault (query_refusal h (query.Books id)) f → f ≡ fault.Refused why → ⊥
unfolding refusal_from
books_not_refused h id f why there fails is =
    let refused = subst (IsQueryFault (query_refusal h (query.Books id))) is fails in
    found (find_loan id (world h).loans) there refused
  where
    found : (o : Option Held) → is_some o ≡ true → option_map (λ (c : Case). c.why) (find (λ (c : Case). c.holds) (option_map_or (λ (l : Held). []) o (record { holds = true; why = why_is.NoSuchLoan } ∷ []))) ≡ Some why → ⊥
    found None some e = absurd (cc)
    found (Some l) some e = cc

is_books_by : (o : Option Held) (a : Answer) → option_map (λ l. books_answer l (books_now l)) o ≡ Some a → IsBooks a
is_books_by None a e = absurd (cc)
is_books_by (Some l) a e = let is : books_answer l (books_now l) ≡ a = cc in subst IsBooks is tt

pub is_books : (h : List Accepted) (id : ℕ) (a : Answer) → answer_to h (query.Books id) ≡ Some a → IsBooks a
unfolding answer_from
is_books h id a e = is_books_by (find_loan id (world h).loans) a e

line_by : (o : Option Held) (a : Answer) (s : RowSums) (line : StatementLine) → option_map (λ l. books_answer l (books_now l)) o ≡ Some a → IsLineOf a s line → line_found o s line
line_by None a s line e h = absurd (cc)
line_by (Some l) a s line e h = let is : books_answer l (books_now l) ≡ a = cc in subst (λ x. IsLineOf x s line) (sym is) h

pub line_is : (h : List Accepted) (id : ℕ) (a : Answer) (s : RowSums) (line : StatementLine) → answer_to h (query.Books id) ≡ Some a → IsLineOf a s line → line_found (find_loan id (world h).loans) s line
unfolding answer_from
line_is h id a s line e of = line_by (find_loan id (world h).loans) a s line e of

-- ---- rows one by one

abbrev pub no_row : Row
no_row = record { number = 0; loan = 0; part = Rattle.custodial_book.specs.declared.part.Part.TheVariants.Received; cents = pos 0 }

pub row_more : (id : ℕ) (rows : List Row) (i : ℕ) (s : RowSums) (d : Row) → i < length rows → with_rows id (take (i + 1) rows) s ≡ with_own id (get_or rows i d) (with_rows id (take i rows) s)
row_more id rows i s d lt = ap (λ k. with_rows id (take k rows) s) (add-one i) ∙ next rows i s lt
  where
    next : (rs : List Row) (k : ℕ) (t : RowSums) → k < length rs → with_rows id (take (suc k) rs) t ≡ with_own id (get_or rs k d) (with_rows id (take k rs) t)
    next [] k t lt = absurd (omega arith)
    next (r ∷ rs) zero t lt = refl
    next (r ∷ rs) (suc k) t lt = next rs k (with_own id r t) (omega arith)
