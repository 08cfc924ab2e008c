-- Custodial cash is what borrowers, the investor and the servicer are owed.
use Rattle.std.proofs.Common.{◌≡◌, List, arith, refl, ◌∙◌}
use Rattle.std.specs.Prelude.{◌+ℤ◌}
use Rattle.std.proofs.lemmas.Int.{ints}
use Rattle.svc_base.specs.Sums.{total_by}
use Rattle.svc_base.proofs.SumLemmas.{total_by-same, total_by-both}
use Rattle.svc_types.specs.declared.requests.Query.TheVariants as query
use Rattle.svc_world.specs.declared.answer.Answer.TheVariants as answer
use Rattle.svc_world.specs.Held.{Held}
use Rattle.svc_world.specs.World.{World, Accepted, world}
use Rattle.svc_world.specs.Custody.{borrower_cash, held_for, advanced_for, custody_of}
use Rattle.svc_world.specs.Judging.{IsHistory}
use Rattle.svc_world.specs.Answers.{refusal_from, answer_from}
use Rattle.svc_world.specs.Answered.{IsAnswerTo}
use Rattle.svc_world.specs.Owed.{owed_to_borrower, owed_to_investor, advanced_for_escrow, borrowers_are_owed, escrow_advances, investor_is_owed, investor_advances, IsCashOwed}
use Rattle.svc_world.proofs.CashLemmas.{is_held_back}
use Rattle.svc_world.proofs.LawLemmas.{are_lawful}

t_is_owed : (w : World) → total_by borrower_cash w.loans ≡ borrowers_are_owed w +ℤ escrow_advances w
t_is_owed w = total_by-both owed_to_borrower advanced_for_escrow w.loans

-- what is held for a loan is what the investor is owed of it, and what the servicer advanced
p_is_owed : (w : World) → total_by (held_for w) w.loans ≡ investor_is_owed w +ℤ investor_advances w
p_is_owed w =
    total_by-same (held_for w) (λ (l : Held). owed_to_investor w l +ℤ advanced_for w l) w.loans (λ k d lt. is_held_back w _)
    ∙ total_by-both (owed_to_investor w) (advanced_for w) w.loans

custodial_told : (h : List Accepted) → IsAnswerTo h query.Custodial (answer.Custodial (custody_of (world h)))
unfolding refusal_from answer_from
custodial_told h = record { not_refused = refl; answer = refl }

pub cash_is_owed : (h : List Accepted) → IsHistory h → IsCashOwed h
unfolding custody_of
cash_is_owed h is =
    let w = world h in
    let lawful = are_lawful h is in
    let t = t_is_owed w in
    let p = p_is_owed w in
    record {
      t_rows = lawful.t ∙ t;
      p_rows = lawful.p ∙ p;
      line = custody_of w;
      told = custodial_told h;
      t = t;
      p = p;
      cash = omega (arith, ints, t, p);
      net = omega (arith, ints, t, p);
    }
