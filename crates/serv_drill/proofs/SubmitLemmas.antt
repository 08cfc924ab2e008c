-- What a submission was answered, by what was judged of the command.
use Rattle.std.proofs.Common.{◌≡◌, ℕ, List, arith, sym, ap, true}
use Rattle.std.specs.Prelude.{◌==◌}
use Rattle.std.proofs.lemmas.Bool.Decides.{nat_tests}
use Rattle.svc_types.specs.declared.requests.Command.{Command}
use Rattle.svc_types.specs.declared.replies.Refusal.{Refusal}
use Rattle.svc_world.specs.World.{Accepted}
use Rattle.svc_world.specs.Judging.{Refused, judged, history_after}
use Rattle.serv_drill.specs.Machine.{submitted}

same_length : (n m : ℕ) → n ≡ m → (n == m) ≡ true
same_length n m e = grind (arith, nat_tests)

pub submitted_refused : (h : List Accepted) (key : List ℕ) (c : Command) (why : Refusal) → judged h key c ≡ Refused why → h ≡ submitted h key c
unfolding submitted
submitted_refused h key c why e = sym (ap (history_after h key c) e)
