-- The queries of the summary.
use Rattle.std.proofs.Common.{◌≡◌, ℕ, ◌+◌, List, [], ◌∷◌, true, refl, sym, ap, add-one}
use Rattle.std.specs.Prelude.{Option, Some, None, pos, ◌+ℤ◌}
use Rattle.svc_types.specs.declared.replies.Refusal.{Refusal}
use Rattle.svc_types.specs.declared.requests.Query.TheVariants as query
use Rattle.svc_world.specs.declared.answer.Answer.{Answer}
use Rattle.svc_world.specs.declared.answer.Answer.TheVariants as answer
use Rattle.svc_world.specs.Held.{Held, find_loan, books_now}
use Rattle.svc_world.specs.World.{Accepted, world}
use Rattle.svc_world.specs.Answers.{answer_from, answer_to, books_answer, query_refusal, refusal_from}
use Rattle.svc_world.specs.Refusals.{first_of, case}
use Rattle.svc_types.specs.declared.replies.Refusal.TheVariants.{NoSuchLoan}
use Rattle.std.specs.Option.{option_map, option_map_or}
use Rattle.svc_world.specs.Custody.{custody_of}
use Rattle.serv_report.specs.AnswerTexts.{text_of_answer}
use Rattle.serv_report.specs.Texts.{text_of_custody}
use Rattle.serv_drill.specs.Summary.{late_in, late_of, late_owed}

-- a query on the books of a loan is refused only where the loan is not there
refused_at : (h : List Accepted) (id : ℕ) (why : Refusal) (o : Option Held) → first_of (option_map_or (λ l. []) o (case true NoSuchLoan ∷ [])) ≡ Some why → pos 0 ≡ late_in (option_map (λ l. books_answer l (books_now l)) o)
refused_at h id why None e = refl
refused_at h id why (Some l) e = cc

pub late_refused : (h : List Accepted) (id : ℕ) (why : Refusal) → query_refusal h (query.Books id) ≡ Some why → pos 0 ≡ late_of h id
unfolding refusal_from answer_from
late_refused h id why e = refused_at h id why (find_loan id (world h).loans) e

-- the custodial accounts
custody_is : (h : List Accepted) (a : Answer) → answer_to h query.Custodial ≡ Some a → answer.Custodial (custody_of (world h)) ≡ a
unfolding answer_from
custody_is h a e = cc

pub custody_text : (h : List Accepted) (a : Answer) → answer_to h query.Custodial ≡ Some a → text_of_answer a ≡ text_of_custody (custody_of (world h))
custody_text h a e = sym (ap text_of_answer (custody_is h a e))

pub late_more : (h : List Accepted) (n : ℕ) → late_owed h (n + 1) ≡ late_owed h n +ℤ late_of h (n + 1)
unfolding late_owed
late_more h n = ap (late_owed h) (add-one n)
