use Rattle.std.proofs.Common.{ℕ, ◌↔◌, List, drop, subst}
use Rattle.std.specs.Prelude.{IsTrue}
use Rattle.std.proofs.lemmas.List.{take_rest}
use Rattle.serv_http.specs.Words.{IsOpenTarget}
use Rattle.serv_http.proofs.OpenTargetLemmas.{open-from, open-parts, IsAfterBlank}
use Rattle.serv_http.proofs.target.ends_in_target.Goals as goal

pub returns : goal.returns
returns c =
    let buf = c.args.buf.now in
    let at = c.blank_end.result in
    let after : IsAfterBlank buf (drop at buf) = record {
      blank = c.blank_end.ensures.blank.0;
      cut = c.blank_end.ensures.blank.1;
      ended = c.blank_end.ensures.ended;
    } in
    let open_is = subst (λ (t : List ℕ). IsTrue c.is_open_target.result ↔ IsOpenTarget t) (take_rest buf at) c.is_open_target.ensures in
    (λ t. open-from after (open_is.0 t), λ e. open_is.1 (open-parts after e))
