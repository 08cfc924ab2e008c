-- The text of an escrow analysis: its figures, and the twelve months of its year.
use Rattle.std.specs.Prelude.{ℕ, ◌+◌, ◌-◌, ◌<◌, ℤ, pos, ◌+ℤ◌, ◌-ℤ◌, List, ◌∷◌, ◌++◌, codes, slice_index_or}
use Rattle.std.specs.List.{flat_map}
use Rattle.svc_base.specs.Calendar.{months_end}
use Rattle.svc_base.specs.Text.{text_of_month}
use Rattle.svc_types.specs.declared.escrow.Figures.{Figures}
use Rattle.escrow_analysis.specs.declared.analysis.Analysis.{Analysis}
use Rattle.escrow_analysis.specs.AggregateAnalysis.{months}
use Rattle.serv_line.specs.Replies.{ended, amount_field, signed_field, text_of_found, text_of_parts}
use Rattle.serv_report.specs.Texts.{numbered, end_line}

-- the twelve months of the year that begins with that month have a name
abbrev pub HasYear : ℕ → Type 0
HasYear from = from + 11 < months_end

-- the trial balance at the end of month k, and 0 before the first month
abbrev pub trial_at : Analysis → ℕ → ℤ
trial_at a k = slice_index_or (pos 0 ∷ a.trial) k (pos 0)

-- the target balance at the end of month k
abbrev pub target_at : Analysis → ℕ → ℤ
target_at a k = slice_index_or a.target (k - 1) (pos 0)

-- what month k pays out: the base, and the trial balance of the month before less that of the month
abbrev pub paid_in : Analysis → ℕ → ℤ
paid_in a k = a.base +ℤ trial_at a (k - 1) -ℤ trial_at a k

-- what month k pays out, and its balances
unfoldable pub text_of_balances_in : Analysis → ℕ → List ℕ
text_of_balances_in a k =
    signed_field (codes "paid") (paid_in a k) ++ signed_field (codes "trial") (trial_at a k)
    ++ signed_field (codes "target") (target_at a k)

-- month k of the year that begins with that month
unfoldable pub text_of_month_of : ℕ → Analysis → ℕ → List ℕ
text_of_month_of from a k = ended
    (codes "month " ++ text_of_month (from + (k - 1)) ++ text_of_balances_in a k)

-- what a line begins with that speaks of a loan's year
abbrev pub text_of_year : ℕ → ℕ → List ℕ
text_of_year loan from = numbered (codes "escrow ") loan ++ codes " from " ++ text_of_month from

-- what an analysis on the business day would find; until it is settled a month pays the base
unfoldable pub text_of_figures_of : ℕ → Figures → List ℕ
text_of_figures_of loan f = ended
    (text_of_year loan f.from ++ text_of_found f ++ text_of_parts f ++ amount_field (codes "pay") f.base)

-- these figures, and the months of the year
unfoldable pub text_of_escrow : ℕ → Figures → Analysis → List ℕ
text_of_escrow loan f a = text_of_figures_of loan f ++ flat_map (text_of_month_of f.from a) months ++ end_line
