-- What the text of a command with its reply says without a sign is not below 0, for each command of a history.
use Rattle.std.proofs.Common.{◌≡◌, ℕ, zero, suc, ◌+◌, List, [], ◌∷◌, ◌++◌, length, true, false, cond, arith, refl, subst}
use Rattle.std.specs.Prelude.{Some, None}
use Rattle.std.specs.List.{All}
use Rattle.std.specs.Option.{option_map_or}
use Rattle.std.proofs.lemmas.Int.{ints}
use Rattle.std.proofs.lemmas.List.Elements.{All-nil, All-cons, All-head, All-tail, All-get_or}
use Rattle.std.proofs.lemmas.Option.{get_or_from_slice_get, slice_get_within}
use Rattle.svc_base.specs.Calendar.{month_of}
use Rattle.svc_types.specs.declared.escrow.Plan.{Plan}
use Rattle.svc_types.specs.declared.requests.Command.{Command}
use Rattle.svc_types.specs.declared.requests.Command.TheVariants as command
use Rattle.svc_types.specs.declared.replies.Extra.TheVariants.{Plain, Analysed, Remitted}
use Rattle.svc_types.specs.declared.replies.Refusal.TheVariants.{BadPlan}
use Rattle.svc_spec.proofs.InstallmentLemmas.{escrow_of_plan_bounds}
use Rattle.period_adjust.specs.Sealed.{Sealed}
use Rattle.svc_world.specs.Held.{Held, find_loan}
use Rattle.svc_world.specs.Analysing.{year_begins, loan_plan_fault, settlement_of, settled_figures}
use Rattle.svc_world.specs.World.{World, Accepted, first_world, after, world}
use Rattle.svc_world.specs.Worlds.{IsHeld, IsWorld}
use Rattle.svc_world.specs.Refusals.{case_of, refusal_of, full_of_entries, adjustments_full, analyse_cases}
use Rattle.svc_world.specs.Judging.{report_for, closed_extra, net_of, extra_of, reply_of, next_reply, judged, Fresh, IsHistory}
use Rattle.svc_world.specs.Desk.{Posting, postings_from, postings, has_key, posting_under, nth_posting}
use Rattle.svc_world.proofs.AnalysisLemmas.{is_analysed, is_settlement}
use Rattle.svc_world.proofs.CaseLemmas.{past, past_of}
use Rattle.svc_world.proofs.NamedLoans.{named_loan, asked}
use Rattle.svc_world.proofs.HistoryLemmas.{accepted_keeps, first_is_world, fresh_none, AreAccepted, history_accepted, is_world}
use Rattle.serv_report.specs.PostingSigns.{AreUnsignedResults, IsUnsignedExtra, IsUnsignedReply, IsUnsignedPosting}

-- ---- what an accepted command found

-- what a lawful plan settles
settled_low : (n d : ℕ) (l : Held) (plan : Plan) → IsHeld n d l → loan_plan_fault l plan ≡ None → AreUnsignedResults (settled_figures l plan)
settled_low n d l plan h lawful =
    let it = is_analysed n d l h in
    let parts = it.within.parts in
    let act = (is_settlement n d l plan h lawful).act in
    record {
      found = record {
        base = it.base.low;
        cushion = omega (arith, ints);
        opening = it.opening.low;
        surplus = parts.surplus_low;
        short = parts.short_low;
        deficient = parts.deficient_low;
      };
      refund = act.0.low;
      within30 = act.1.low;
      pay = (escrow_of_plan_bounds (settlement_of l plan).plan (year_begins l) act.2).0;
    }

analysed_low : (n id : ℕ) (plan : Plan) (w : World) → IsWorld n w → refusal_of n w (command.Analyse id plan) ≡ None → IsUnsignedExtra (option_map_or (λ l. Analysed (settled_figures l plan)) (find_loan id w.loans) Plain)
analysed_low n id plan w h e =
    let q = (asked n w id (analyse_cases w plan) (command.Analyse id plan) refl e).loan in
    let l = q.loan in
    let held = (named_loan n w id l h q.found).held in
    let last = adjustments_full w (month_of w.today) ∷ [] in
    let one = past (full_of_entries l) (case_of BadPlan (loan_plan_fault l plan) ++ last) q.rest in
    let lawful = (past_of BadPlan (loan_plan_fault l plan) last one.rest).no in
    rw q.found (settled_low n w.today l plan held lawful)

extra_low : (n : ℕ) (w later : World) (c : Command) → IsWorld n w → refusal_of n w c ≡ None → IsUnsignedExtra (extra_of w later c)
extra_low n w later (command.Day d) h e = tt
extra_low n w later (command.Board id t) h e = tt
extra_low n w later (command.Pay id d c over) h e = tt
extra_low n w later (command.Curtail id d c) h e = tt
extra_low n w later (command.Payoff id d c) h e = tt
extra_low n w later (command.Deposit id d c) h e = tt
extra_low n w later (command.Disburse id d c line) h e = tt
extra_low n w later (command.Refund id c) h e = tt
extra_low n w later (command.Waive id c) h e = tt
extra_low n w later (command.Reverse id number) h e = tt
extra_low n w later (command.Line id line kind month every c) h e = tt
extra_low n w later (command.Drop id line) h e = tt
extra_low n w later (command.Analyse id plan) h e = analysed_low n id plan w h e
extra_low n w later (command.Close p) h e =
    elim (report_for p later.seals.reports) as (λ o. IsUnsignedExtra (option_map_or closed_extra o Plain)) [ None ↦ tt | Some r ↦ tt ]
extra_low n w later (command.Remit p) h e =
    elim (report_for p later.seals.reports) as (λ o. IsUnsignedExtra (option_map_or (λ (r : Sealed). Remitted (net_of r)) o Plain)) [ None ↦ tt | Some r ↦ tt ]
extra_low n w later (command.Retype id from kind) h e = tt

-- the reply to the next command
pub next_low : (h : List Accepted) (key : List ℕ) (c : Command) → IsHistory h → judged h key c ≡ Fresh → IsUnsignedReply (next_reply h c)
unfolding reply_of
next_low h key c is fresh =
    extra_low (length h) (world h) (after (length h + 1) (world h) c) c (is_world h is) (fresh_none h key c fresh)

-- ---- the commands of a history with their replies

abbrev pub IsLow : Posting → Type 0
IsLow p = IsUnsignedPosting p.command p.reply

postings_low : (n : ℕ) (w : World) (h : List Accepted) → IsWorld n w → AreAccepted n w h → All IsLow (postings_from n w h)
unfolding postings_from reply_of
postings_low n w [] is all = All-nil IsLow
postings_low n w (a ∷ more) is all =
    let next = after (n + 1) w a.command in
    All-cons IsLow (record { key = a.key; command = a.command; reply = reply_of (n + 1) w a.command }) (postings_from (n + 1) next more)
    (record { command = all.0.0; reply = extra_low n w next a.command is all.0.1 })
    (postings_low (n + 1) next more (accepted_keeps n w a.command is all.0.0 all.0.1) all.1)

all_low : (h : List Accepted) → IsHistory h → All IsLow (postings h)
all_low h is = postings_low 0 first_world h first_is_world (history_accepted h is)

nth_from : (number : ℕ) (ps : List Posting) (p : Posting) → All IsLow ps → nth_posting number ps ≡ Some p → IsLow p
nth_from zero ps p h e = absurd (cc)
nth_from (suc n) ps p h e = subst IsLow (get_or_from_slice_get ps n p p e) (All-get_or IsLow ps n p (slice_get_within ps n p e) h)

under_from : (key : List ℕ) (ps : List Posting) (p : Posting) → All IsLow ps → posting_under key ps ≡ Some p → IsLow p
under_from key [] p h e = absurd (cc)
under_from key (x ∷ xs) p h e =
    elim (has_key key x) as (λ v. cond v (Some x) (posting_under key xs) ≡ Some p → IsLow p) [
      | true ↦ λ is. let same : x ≡ p = cc in subst IsLow same (All-head IsLow x xs h)
      | false ↦ λ is. under_from key xs p (All-tail IsLow x xs h) is
    ] e

pub nth_low : (h : List Accepted) (number : ℕ) (p : Posting) → IsHistory h → nth_posting number (postings h) ≡ Some p → IsLow p
nth_low h number p is e = nth_from number (postings h) p (all_low h is) e

pub under_low : (h : List Accepted) (key : List ℕ) (p : Posting) → IsHistory h → posting_under key (postings h) ≡ Some p → IsLow p
under_low h key p is e = under_from key (postings h) p (all_low h is) e
