-- The texts of replies. Each reply ends with a line feed.
use Rattle.std.specs.Prelude.{ℕ, ℤ, List, [], ◌∷◌, ◌++◌, codes}
use Rattle.svc_base.specs.Text.{text_of_number, text_of_amount, text_of_signed}
use Rattle.svc_types.specs.declared.escrow.Figures.{Figures}
use Rattle.svc_types.specs.declared.replies.Extra.{Extra}
use Rattle.svc_types.specs.declared.replies.Extra.TheVariants as extra
use Rattle.svc_types.specs.declared.replies.Reply.{Reply}

-- a reply: its text and a line feed
abbrev pub ended : List ℕ → List ℕ
ended text = text ++ (10 ∷ [])

-- a name and what it names, a space before each: a number, an amount, and an amount that may be below zero
unfoldable pub number_field : List ℕ → ℕ → List ℕ
number_field name n = (32 ∷ name) ++ (32 ∷ text_of_number n)

unfoldable pub amount_field : List ℕ → ℤ → List ℕ
amount_field name z = (32 ∷ name) ++ (32 ∷ text_of_amount z)

unfoldable pub signed_field : List ℕ → ℤ → List ℕ
signed_field name z = (32 ∷ name) ++ (32 ∷ text_of_signed z)

-- what an analysis found
unfoldable pub text_of_found : Figures → List ℕ
text_of_found f =
    amount_field (codes "base") f.base ++ amount_field (codes "cushion") f.cushion
    ++ amount_field (codes "opening") f.opening ++ signed_field (codes "balance") f.balance

-- the parts that it has
unfoldable pub text_of_parts : Figures → List ℕ
text_of_parts f =
    amount_field (codes "surplus") f.surplus ++ amount_field (codes "short") f.short
    ++ amount_field (codes "deficient") f.deficient

-- what it settled
unfoldable pub text_of_settled : Figures → List ℕ
text_of_settled f =
    amount_field (codes "refund") f.refund ++ amount_field (codes "within30") f.within30
    ++ amount_field (codes "pay") f.pay

-- all of an analysis
abbrev pub text_of_figures : Figures → List ℕ
text_of_figures f = text_of_found f ++ text_of_parts f ++ text_of_settled f

-- what an accepted command found
abbrev pub text_of_extra : Extra → List ℕ
text_of_extra extra.Plain = []
text_of_extra (extra.Analysed f) = text_of_figures f
text_of_extra (extra.Closed lines interest principal) =
    number_field (codes "lines") lines ++ signed_field (codes "interest") interest
    ++ signed_field (codes "principal") principal
text_of_extra (extra.Remitted net) = signed_field (codes "net") net

-- the reply to an accepted command
unfoldable pub text_of_reply : Reply → List ℕ
text_of_reply r = ended (codes "ok " ++ text_of_number r.number ++ text_of_extra r.extra)

-- the same, where there is nothing to say beside the number
abbrev pub text_of_plain : ℕ → List ℕ
text_of_plain number = ended (codes "ok " ++ text_of_number number)

-- the reply to a line that is no request, with the place of its fault
unfoldable pub text_of_bad : ℕ → List ℕ
text_of_bad place = ended (codes "bad " ++ text_of_number place)

-- the reply to a command for which the journal of so many bytes has no more room
unfoldable pub text_of_full : ℕ → List ℕ
text_of_full bytes = ended (codes "no 26 JournalFull " ++ text_of_number bytes)
