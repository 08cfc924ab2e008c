-- The line of a command that drops an escrow line, from what is appended for it.
use Rattle.std.proofs.Common.{◌≡◌, ℕ, List, [], ◌∷◌, ◌++◌, refl, sym, ap, ◌∙◌, append_assoc}
use Rattle.svc_types.specs.declared.requests.Command.TheVariants as command
use Rattle.svc_types.specs.declared.requests.Request.TheVariants as request
use Rattle.serv_line.specs.Lines.{line_of}
use Rattle.serv_line.specs.Replies.{number_field}
use Rattle.pmi_track.specs.Texts.{drop_key, drop_words, text_of_drop}

drop_line_is : (loan line : ℕ) → line_of (request.Do (drop_key loan line) (command.Drop loan line)) ≡ drop_key loan line ++ drop_words loan line
unfolding line_of number_field
drop_line_is loan line = refl

pub drop_joined : (out : List ℕ) (loan line : ℕ) → ((out ++ drop_key loan line) ++ drop_words loan line) ++ (10 ∷ []) ≡ out ++ text_of_drop loan line
unfolding text_of_drop
drop_joined out loan line =
    append_assoc (out ++ drop_key loan line) (drop_words loan line) (10 ∷ [])
    ∙ append_assoc out (drop_key loan line) (drop_words loan line ++ (10 ∷ []))
    ∙ ap (λ x. out ++ x) (sym (append_assoc (drop_key loan line) (drop_words loan line) (10 ∷ [])) ∙ ap (λ x. x ++ (10 ∷ [])) (sym (drop_line_is loan line)))
