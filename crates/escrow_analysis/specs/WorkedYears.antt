-- Years whose analysis is worked out by hand.
use Rattle.std.specs.Prelude.{ℤ, pos, List, [], ◌∷◌}

-- bills of 500.00 in July, 360.00 in September and 700.00 in December; the year begins in July
abbrev pub three_bills : List ℤ
three_bills =
    pos 50000 ∷ pos 0 ∷ pos 36000 ∷ pos 0 ∷ pos 0 ∷ pos 70000 ∷ pos 0 ∷ pos 0 ∷ pos 0 ∷ pos 0 ∷ pos 0 ∷
    pos 0 ∷ []

-- one bill of 100.03 in the first month
abbrev pub one_bill : List ℤ
one_bill =
    pos 10003 ∷ pos 0 ∷ pos 0 ∷ pos 0 ∷ pos 0 ∷ pos 0 ∷ pos 0 ∷ pos 0 ∷ pos 0 ∷ pos 0 ∷ pos 0 ∷ pos 0 ∷ []
