use Rattle.std.proofs.Common.{refl}
use Rattle.svc_base.specs.Calendar.{month_length, day_after}
use Rattle.svc_base.specs.Money.{month_interest, day_interest, share_bp}
use Rattle.svc_types.specs.LevelPayment.{level_principal}
use Rattle.svc_spec.specs.Installments.{principal_part, escrow_part, escrow_of_plan}
use Rattle.svc_spec.specs.Settling.{need, they_exist, moves, moved, moved_one, late_taken, marked, settled_by}
use Rattle.svc_spec.specs.Payoff.{payoff_principal, payoff_sum}
use Rattle.svc_spec.specs.Step.{step, charged, to_principal, to_escrow, rest_applied, paid_off, payoff_tried, deposited, from_suspense, refunded, analysed}
use Rattle.svc_spec.specs.Books.{start}
use Rattle.svc_apply.proofs.rows.worked_payments.Goals as goal

pub returns : goal.returns
unfolding month_length day_after month_interest day_interest share_bp principal_part level_principal escrow_part escrow_of_plan need they_exist moves moved moved_one late_taken marked settled_by payoff_principal payoff_sum step charged to_principal to_escrow rest_applied paid_off payoff_tried deposited from_suspense refunded analysed start
returns c = record { first = refl; cent_short = refl; cent_later = refl; late_payment = refl; curtailment = refl; one_installment = refl; two_at_once = refl }
