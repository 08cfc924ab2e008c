-- What is known of an error that a result has.
use Rattle.std.proofs.Common.{◌≡◌, sym, subst}
use Rattle.std.specs.Prelude.{Result, Ok, Err, IfErr}
use Rattle.std.specs.Result.{IsErrAnd}

-- what a fault says, said of the result that has it
pub fault_told : {A E : Type 0} (Q : E → Type 0) (r : Result A E) (x : E) → IsErrAnd r (λ e. e ≡ x) → Q x → IfErr r Q
fault_told Q (Ok a) x h q = tt
fault_told Q (Err e) x h q = subst Q (sym h) q
