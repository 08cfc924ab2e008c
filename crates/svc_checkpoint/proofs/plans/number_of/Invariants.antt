use Rattle.std.proofs.Common.{◌≡◌, ℕ, ◌<◌, ◌≤◌, Some, length, get_or}
use Rattle.svc_types.specs.declared.account.Entry.{Entry}
use Rattle.svc_checkpoint.specs.Plans.{plan_of}
use Rattle.svc_checkpoint.proofs.plans.number_of.Given as goal

-- none of the entries that were looked at settled the plan
abbrev pub invariant-loop-place : goal.invariant-loop-place
invariant-loop-place l = record {
  within : l.place ≤ length l.live;
  none : (i : ℕ) (e : Entry) → l.place ≤ i → i < length l.live → plan_of (get_or l.live i e).act ≡ Some l.plan → ⊥;
}

abbrev pub decreases-loop-place : goal.decreases-loop-place
decreases-loop-place l = l.place
