-- The summary of a generated year.
use Rattle.std.specs.Prelude.{ℕ, zero, suc, ◌+◌, ℤ, pos, ◌+ℤ◌, List, ◌++◌, length, codes, Option, Some}
use Rattle.svc_base.specs.Text.{text_of_signed, text_of_amount}
use Rattle.svc_types.specs.declared.requests.Query.TheVariants as query
use Rattle.svc_world.specs.declared.answer.Answer.{Answer}
use Rattle.svc_world.specs.declared.answer.Answer.TheVariants as answer
use Rattle.svc_world.specs.World.{Accepted, world}
use Rattle.svc_world.specs.Answers.{answer_to}
use Rattle.svc_world.specs.Custody.{custody_of}
use Rattle.serv_line.specs.Replies.{ended, number_field}
use Rattle.serv_report.specs.Texts.{text_of_custody}
use Rattle.serv_drill.specs.Works.{year_works}
use Rattle.serv_drill.specs.Machine.{Tally, first_tally, after_works}

-- the late charges owed, as an answer on a loan's books says; nothing where there is none
abbrev pub late_in : Option Answer → ℤ
late_in (Some (answer.Books loan books next pay)) = books.late_owed
late_in o = pos 0

abbrev pub late_of : List Accepted → ℕ → ℤ
late_of h loan = late_in (answer_to h (query.Books loan))

-- the sum over the loans 1 to n
unfoldable pub late_owed : List Accepted → ℕ → ℤ
late_owed h zero = pos 0
late_owed h (suc n) = late_owed h n +ℤ late_of h (n + 1)

-- the two numbers, and how many commands were accepted and kept replies given
unfoldable pub counts_line : ℕ → ℕ → Tally → List ℕ
counts_line loans number t = ended
    (codes "drill" ++ number_field (codes "loans") loans ++ number_field (codes "number") number
    ++ number_field (codes "commands") (length t.history) ++ number_field (codes "repeats") t.repeats)

-- what the investor was sent, and the late charges that all loans owe
unfoldable pub sums_line : ℤ → ℤ → List ℕ
sums_line remitted late = ended (codes "remitted " ++ text_of_signed remitted ++ codes " late " ++ text_of_amount late)

-- after these commands
unfoldable pub summary_of : ℕ → ℕ → Tally → List ℕ
summary_of loans number t =
    counts_line loans number t ++ text_of_custody (custody_of (world t.history))
    ++ sums_line t.remitted (late_owed t.history loans)

-- of the whole year
unfoldable pub summary : ℕ → ℕ → List ℕ
summary loans number = summary_of loans number (after_works first_tally (year_works loans number))
