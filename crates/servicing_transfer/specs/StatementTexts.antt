-- The statement of all loans: what it says of each of them, its lines, and its text.
use Rattle.std.specs.Prelude.{ℕ, List, [], ◌∷◌, ◌++◌, map, length, codes, ℤ, ◌+ℤ◌}
use Rattle.std.specs.List.{flat_map}
use Rattle.std.specs.Option.{option_map}
use Rattle.svc_base.specs.Calendar.{month_of}
use Rattle.svc_base.specs.Sums.{total_by}
use Rattle.svc_base.specs.Text.{text_of_number, text_of_signed, text_of_day}
use Rattle.svc_types.specs.declared.books.Installment.{Installment}
use Rattle.svc_spec.specs.Installments.{open_installment}
use Rattle.advance_book.specs.Positions.{escrow_advanced}
use Rattle.serv_line.specs.Lines.{joined}
use Rattle.serv_line.specs.Replies.{ended}
use Rattle.svc_world.specs.Held.{Held, books_now}
use Rattle.svc_world.specs.World.{World}
use Rattle.svc_world.specs.Custody.{held_for, advanced_for}
use Rattle.servicing_transfer.specs.declared.statement_line.StatementLine.{StatementLine}
use Rattle.servicing_transfer.specs.LoanFields.{fields, values_of, words_of_fields}

-- what a statement says of a loan: its books now, what the servicer paid out of an escrow account that did not
-- cover it, and what is held and advanced of its principal and interest
abbrev pub line_for : World → Held → StatementLine
line_for w l = record {
  loan = l.id;
  upb = (books_now l).upb;
  next = option_map (λ (i : Installment). month_of i.due) (open_installment l.account.terms (books_now l));
  escrow = (books_now l).escrow;
  suspense = (books_now l).suspense;
  late = (books_now l).late_owed;
  escrow_advance = escrow_advanced (books_now l).escrow;
  held = held_for w l;
  pi_advance = advanced_for w l;
}

-- of all loans, by rising number
abbrev pub stated_loans : World → List StatementLine
stated_loans w = map (line_for w) w.loans

-- what both custodial accounts hold for some loans: in T the borrowers' money and what was advanced there, in P
-- principal and interest
abbrev pub t_of : List StatementLine → ℤ
t_of stated = total_by (λ (s : StatementLine). s.escrow +ℤ s.suspense +ℤ s.escrow_advance) stated

abbrev pub p_of : List StatementLine → ℤ
p_of stated = total_by (λ (s : StatementLine). s.held) stated

-- ---- its lines, each by its words; an amount that is not below zero has no sign

-- the first one: the day, and how many loans there are
unfoldable pub heading_words : ℕ → ℕ → List (List ℕ)
heading_words day n = codes "statement" ∷ text_of_day day ∷ codes "loans" ∷ text_of_number n ∷ []

-- a loan's line: names and what they name
unfoldable pub loan_words : StatementLine → List (List ℕ)
loan_words s = words_of_fields fields (values_of s)

-- what both custodial accounts hold
unfoldable pub total_words : ℤ → ℤ → List (List ℕ)
total_words t p = codes "total" ∷ codes "T" ∷ text_of_signed t ∷ codes "P" ∷ text_of_signed p ∷ []

-- the lines, without their line feeds
unfoldable pub heading_line : ℕ → ℕ → List ℕ
heading_line day n = joined (heading_words day n)

unfoldable pub loan_line : StatementLine → List ℕ
loan_line s = joined (loan_words s)

unfoldable pub total_line : ℤ → ℤ → List ℕ
total_line t p = joined (total_words t p)

abbrev pub last_line : List ℕ
last_line = codes "end"

-- a line for each loan, and what they add up to
unfoldable pub statement_lines : ℕ → List StatementLine → List (List ℕ)
statement_lines day stated =
    heading_line day (length stated) ∷ map loan_line stated
    ++ total_line (t_of stated) (p_of stated) ∷ last_line ∷ []

-- the statement of a servicer
unfoldable pub text_of_statement : World → List ℕ
text_of_statement w = flat_map ended (statement_lines w.today (stated_loans w))
