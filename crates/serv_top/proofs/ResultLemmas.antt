-- What is known of a result.
use Rattle.std.proofs.Common.{◌≢◌, OnOk}
use Rattle.std.specs.Prelude.{Result, Ok, Err}

-- what holds of each result but one fault
pub ok_unless : {T E A : Type 0} (r : Result T E) (fault : E) → (r ≢ Err fault → A) → OnOk r A
ok_unless (Ok x) fault then = then (λ same. cc)
ok_unless (Err e) fault then = tt

pub on_ok_both : {T E : Type 0} (A B : Type 0) (r : Result T E) → OnOk r A → OnOk r B → OnOk r (A × B)
on_ok_both A B (Ok x) one other = (one, other)
on_ok_both A B (Err e) one other = tt
