-- A line is its first words and its values, a space before each.
use Rattle.std.proofs.Common.{◌≡◌, ℕ, ◌^◌, ◌<◌, ◌≤◌, List, [], ◌∷◌, ◌++◌, length, sym, ap, ◌∙◌, append_assoc, arith}
use Rattle.std.specs.Prelude.{map, codes, decimal}
use Rattle.std.proofs.lemmas.Fmt.{length-decimal-le}
use Rattle.std.proofs.lemmas.List.{append-nil}
use Rattle.svc_forms.specs.declared.value.Value.{Value}
use Rattle.svc_forms.specs.Values.{text_of_value}
use Rattle.svc_base.specs.Text.{text_of_number}
use Rattle.svc_types.specs.declared.replies.Extra.{Extra}
use Rattle.svc_types.specs.declared.replies.Extra.TheVariants.{Plain}
use Rattle.svc_types.specs.declared.replies.Reply.{Reply}
use Rattle.serv_line.specs.Lines.{joined, text_of_values}
use Rattle.serv_line.specs.Replies.{ended, text_of_extra, text_of_plain, text_of_reply}

joined_values : (w : List ℕ) (values : List Value) → joined (w ∷ map text_of_value values) ≡ w ++ text_of_values values
joined_values w [] = sym (append-nil w)
joined_values w (v ∷ values) =
    ap (λ (t : List ℕ). w ++ (32 ∷ t)) (joined_values (text_of_value v) values)

-- what is appended for a line
pub joined_texts : (out first word : List ℕ) (values : List Value) → (out ++ (first ++ (32 ∷ word))) ++ text_of_values values ≡ out ++ joined (first ∷ word ∷ map text_of_value values)
joined_texts out first word values =
    append_assoc out (first ++ (32 ∷ word)) (text_of_values values)
    ∙ ap (λ (t : List ℕ). out ++ t) (append_assoc first (32 ∷ word) (text_of_values values) ∙ ap (λ (t : List ℕ). first ++ (32 ∷ t)) (sym (joined_values word values)))

-- a name with a space on each side, and a text
pub field_pushed : (out name text : List ℕ) → (out ++ ((32 ∷ name) ++ (32 ∷ []))) ++ text ≡ out ++ ((32 ∷ name) ++ (32 ∷ text))
field_pushed out name text =
    append_assoc out ((32 ∷ name) ++ (32 ∷ [])) text ∙ ap (λ (t : List ℕ). out ++ t) (append_assoc (32 ∷ name) (32 ∷ []) text)

-- a number of 32 bits has at most ten digits
pub few_digits : (n : ℕ) → n < 2 ^ 32 → length (decimal n) ≤ 10
few_digits n small = length-decimal-le 10 n (omega arith) (omega (arith, small)) (omega (arith, small))

-- a reply that says no more than its number
pub plain_text : (reply : Reply) → reply.extra ≡ Plain → text_of_plain reply.number ≡ text_of_reply reply
unfolding text_of_reply
plain_text reply is =
    ap (λ (t : List ℕ). ended (codes "ok " ++ t)) (sym (append-nil (text_of_number reply.number)))
    ∙ ap (λ (x : Extra). ended (codes "ok " ++ text_of_number reply.number ++ text_of_extra x)) (sym is)
