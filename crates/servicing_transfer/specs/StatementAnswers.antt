-- What the statement is made of: the core's answers on books, and sums of rows.
use Rattle.std.specs.Prelude.{◌≡◌, ⊤, Option, IfSome}
use Rattle.std.specs.Option.{option_map}
use Rattle.svc_base.specs.Calendar.{month_of}
use Rattle.svc_types.specs.declared.books.Installment.{Installment}
use Rattle.svc_spec.specs.Installments.{open_installment}
use Rattle.svc_world.specs.declared.custody.Custody.{Custody}
use Rattle.svc_world.specs.declared.answer.Answer.{Answer}
use Rattle.svc_world.specs.declared.answer.Answer.TheVariants as answer
use Rattle.svc_world.specs.Held.{Held, books_now}
use Rattle.servicing_transfer.specs.declared.row_sums.RowSums.{RowSums}
use Rattle.servicing_transfer.specs.declared.statement_line.StatementLine.{StatementLine}

-- an answer on books
abbrev pub IsBooks : Answer → Type 0
IsBooks (answer.Books loan books next pay) = ⊤
IsBooks a = ⊥

-- an answer on the custodial accounts, and what it says
abbrev pub IsCustodial : Answer → Type 0
IsCustodial (answer.Custodial custody) = ⊤
IsCustodial a = ⊥

abbrev pub IsCustodyOf : Answer → Custody → Type 0
IsCustodyOf (answer.Custodial custody) c = c ≡ custody
IsCustodyOf a c = ⊥

-- a line says what an answer on books says, and these sums
abbrev pub IsLineOf : Answer → RowSums → StatementLine → Type 0
IsLineOf (answer.Books loan books next pay) s line = line ≡ record {
  loan = loan;
  upb = books.upb;
  next = next;
  escrow = books.escrow;
  suspense = books.suspense;
  late = books.late_owed;
  escrow_advance = s.escrow_advance;
  held = s.held;
  pi_advance = s.pi_advance;
}
IsLineOf a s line = ⊥

-- a line says what the books of a loan say, and these sums of its rows
abbrev pub line_with : Held → RowSums → StatementLine
line_with l s = record {
  loan = l.id;
  upb = (books_now l).upb;
  next = option_map (λ (i : Installment). month_of i.due) (open_installment l.account.terms (books_now l));
  escrow = (books_now l).escrow;
  suspense = (books_now l).suspense;
  late = (books_now l).late_owed;
  escrow_advance = s.escrow_advance;
  held = s.held;
  pi_advance = s.pi_advance;
}

abbrev pub line_found : Option Held → RowSums → StatementLine → Type 0
line_found o s line = IfSome o (λ l. line ≡ line_with l s)
