-- Every world of a history is sound: the empty one is, and each accepted command keeps it so.
use Rattle.std.proofs.Common.{◌≡◌, ℕ, zero, suc, ◌+◌, Bool, true, false, List, [], ◌∷◌, ◌++◌, length, take, arith, refl, sym, ap, subst, ◌∙◌, length-append, append-nil, append_assoc}
use Rattle.std.specs.Prelude.{Option, Some, None, if◌then◌else◌}
use Rattle.std.specs.List.{All}
use Rattle.std.proofs.lemmas.Int.{ints}
use Rattle.std.proofs.lemmas.List.Elements.{All-head, All-tail, All-nil}
use Rattle.svc_base.specs.Calendar.{month_length}
use Rattle.svc_base.specs.Sums.{total_by}
use Rattle.svc_types.specs.declared.account.Act.TheVariants as act
use Rattle.svc_types.specs.declared.requests.Command.{Command}
use Rattle.svc_types.specs.declared.requests.Command.TheVariants as command
use Rattle.svc_types.specs.declared.replies.Reply.{Reply}
use Rattle.svc_types.specs.declared.replies.Refusal.{Refusal}
use Rattle.svc_types.specs.declared.replies.Refusal.TheVariants.{KeyReused}
use Rattle.svc_types.specs.Keys.{IsKey}
use Rattle.svc_types.specs.Requests.{IsCommand}
use Rattle.svc_types.specs.Same.{is_same}
use Rattle.period_adjust.specs.Sealed.{Sealed}
use Rattle.period_adjust.specs.Sums.{DuePart}
use Rattle.period_adjust.specs.Totals.{SendsItsSums}
use Rattle.period_adjust.proofs.SealedLemmas.{sealed_start}
use Rattle.svc_world.specs.World.{World, Accepted, first_world, entry, loans_after, seals_after, after, world_from, world}
use Rattle.svc_world.specs.Refusals.{refusal_of}
use Rattle.svc_world.specs.Judging.{Kept, Refused, Fresh, by_refusal, by_key, Known, known, judged, IsHistoryFrom, AreWellFormed, IsHistory}
use Rattle.svc_world.specs.Custody.{rows_made, rows_from, rows_in}
use Rattle.svc_world.specs.Worlds.{IsHeld, IsOwned, IsListed, sent_part, IsPassed, IsWorld, AreWorlds}
use Rattle.svc_world.proofs.EntryWorlds.{entry_keeps, pay_enters, curtail_enters, payoff_enters, deposit_enters, disburse_enters, refund_enters, waive_enters}
use Rattle.svc_world.proofs.LoanWorlds.{reverse_keeps, line_keeps, drop_keeps, retype_keeps}
use Rattle.svc_world.proofs.AnalysedWorlds.{analyse_keeps}
use Rattle.svc_world.proofs.DayWorlds.{day_keeps, remit_keeps}
use Rattle.svc_world.proofs.BoardWorlds.{board_keeps}
use Rattle.svc_world.proofs.ClosedWorlds.{close_keeps}

-- ---- one command

pub accepted_keeps : (n : ℕ) (w : World) (c : Command) → IsWorld n w → IsCommand c → refusal_of n w c ≡ None → IsWorld (n + 1) (after (n + 1) w c)
unfolding after loans_after seals_after
accepted_keeps n w (command.Day d) h formed e = day_keeps n d w h formed e
accepted_keeps n w (command.Board id t) h formed e = board_keeps n id t w h formed.1.boarded e
accepted_keeps n w (command.Pay id d c over) h formed e = entry_keeps n id w (entry (n + 1) d (act.Pay c over)) h (pay_enters n id d w c over h formed.1.exists e)
accepted_keeps n w (command.Curtail id d c) h formed e = entry_keeps n id w (entry (n + 1) d (act.Curtail c)) h (curtail_enters n id d w c h formed.1.exists e)
accepted_keeps n w (command.Payoff id d c) h formed e = entry_keeps n id w (entry (n + 1) d (act.Payoff c)) h (payoff_enters n id d w c h formed.1.exists e)
accepted_keeps n w (command.Deposit id d c) h formed e = entry_keeps n id w (entry (n + 1) d (act.Deposit c)) h (deposit_enters n id d w c h formed.1.exists e)
accepted_keeps n w (command.Disburse id d c line) h formed e = entry_keeps n id w (entry (n + 1) d (act.Disburse c line)) h (disburse_enters n id d line w c h formed.1.exists e)
accepted_keeps n w (command.Refund id c) h formed e = entry_keeps n id w (entry (n + 1) w.today (act.Refund c)) h (refund_enters n id w c h e)
accepted_keeps n w (command.Waive id c) h formed e = entry_keeps n id w (entry (n + 1) w.today (act.Waive c)) h (waive_enters n id w c h e)
accepted_keeps n w (command.Reverse id number) h formed e = reverse_keeps n id number w h e
accepted_keeps n w (command.Line id line kind month every c) h formed e = line_keeps n id w (record { id = line; kind = kind; month = month; every = every; cents = c }) h e
accepted_keeps n w (command.Drop id line) h formed e = drop_keeps n id line w h e
accepted_keeps n w (command.Analyse id plan) h formed e = analyse_keeps n id plan w h e
accepted_keeps n w (command.Close p) h formed e = close_keeps n p w h formed e
accepted_keeps n w (command.Remit p) h formed e = remit_keeps n p w h e
accepted_keeps n w (command.Retype id from kind) h formed e = retype_keeps n id from kind w h e

-- ---- the empty world

first_passed : (part : DuePart) (k id : ℕ) → IsPassed (total_by (sent_part part id) (take k []))
first_passed part zero id = record { low = omega (arith, ints); high = omega (arith, ints) }
first_passed part (suc k) id = record { low = omega (arith, ints); high = omega (arith, ints) }

pub first_is_world : IsWorld 0 first_world
unfolding month_length
first_is_world = record {
  count = omega arith;
  today = record { exists = omega arith; first = omega arith; last = omega arith };
  rising = λ i j d lt len. absurd (omega arith);
  few = omega arith;
  held = All-nil (IsHeld 0 first_world.today);
  reports = record {
    sealed = sealed_start;
    few = omega arith;
    held = omega arith;
    ended = tt;
    from_first = tt;
    owned = All-nil (IsOwned []);
    listed = All-nil (λ (r : Sealed). All (IsListed [] r.month) r.lines);
    remitted = tt;
    in_order = λ k d lt. absurd (omega arith);
    sends = All-nil SendsItsSums;
    passed = first_passed;
  };
  add_up = λ part id p lt. absurd (omega arith);
}

-- ---- a history is a list of commands that are not refused in turn

fresh_by : (o : Option Refusal) → by_refusal o ≡ Fresh → o ≡ None
fresh_by None e = refl
fresh_by (Some why) e = absurd (cc)

not_fresh : (b : Bool) (r : Reply) (why : Refusal) → (if b then Kept r else Refused why) ≡ Fresh → ⊥
not_fresh true r why e = cc
not_fresh false r why e = cc

fresh_known : (h : List Accepted) (c : Command) (o : Option Known) → by_key h c o ≡ Fresh → refusal_of (length h) (world h) c ≡ None
fresh_known h c None e = fresh_by (refusal_of (length h) (world h) c) e
fresh_known h c (Some k) e = absurd (not_fresh (is_same k.command c) k.reply (KeyReused k.reply.number) e)

-- a fresh command is not refused
pub fresh_none : (h : List Accepted) (key : List ℕ) (c : Command) → judged h key c ≡ Fresh → refusal_of (length h) (world h) c ≡ None
unfolding judged
fresh_none h key c e = fresh_known h c (known h key) e

-- commands that are not refused in turn, of which the first has number n + 1
abbrev pub AreAccepted : ℕ → World → List Accepted → Type 0
AreAccepted n w [] = Unit {0}
AreAccepted n w (a ∷ more) = (IsCommand a.command × (refusal_of n w a.command ≡ None)) × AreAccepted (n + 1) (after (n + 1) w a.command) more

-- the world after some commands and one more
pub world_from-push : (n : ℕ) (w : World) (h : List Accepted) (a : Accepted) → world_from n w (h ++ a ∷ []) ≡ after (n + length h + 1) (world_from n w h) a.command
unfolding world_from
world_from-push n w [] a = let same : n + 1 ≡ n + 0 + 1 = omega arith in ap (λ k. after k w a.command) same
world_from-push n w (x ∷ h) a =
    let rest = world_from-push (n + 1) (after (n + 1) w x.command) h a in
    let same : n + 1 + length h + 1 ≡ n + suc (length h) + 1 = omega arith in
    rest ∙ ap (λ k. after k (world_from (n + 1) (after (n + 1) w x.command) h) a.command) same

pub world-push : (h : List Accepted) (a : Accepted) → world (h ++ a ∷ []) ≡ after (length h + 1) (world h) a.command
world-push h a =
    let same : 0 + length h + 1 ≡ length h + 1 = omega arith in
    world_from-push 0 first_world h a ∙ ap (λ k. after k (world h) a.command) same

accepted_from : (done more : List Accepted) → AreWellFormed more → IsHistoryFrom done more → AreAccepted (length done) (world done) more
accepted_from done [] formed fresh = tt
accepted_from done (a ∷ more) formed fresh =
    let here = All-head (λ (x : Accepted). IsKey x.key × IsCommand x.command) a more formed in
    let rest = accepted_from (done ++ a ∷ []) more (All-tail (λ (x : Accepted). IsKey x.key × IsCommand x.command) a more formed) fresh.1 in
    let count : length (done ++ a ∷ []) ≡ length done + 1 = omega (arith, length-append done (a ∷ [])) in (
      (here.1, fresh_none done a.key a.command fresh.0),
      subst (λ k. AreAccepted k (after (length done + 1) (world done) a.command) more) count
          (subst (λ x. AreAccepted (length (done ++ a ∷ [])) x more) (world-push done a) rest),
    )

pub history_accepted : (h : List Accepted) → IsHistory h → AreAccepted 0 first_world h
unfolding world_from
history_accepted h is = accepted_from [] h is.formed is.fresh

-- ---- every world is sound

accepted_worlds : (n : ℕ) (w : World) (h : List Accepted) → IsWorld n w → AreAccepted n w h → AreWorlds n w h
accepted_worlds n w [] is all = is
accepted_worlds n w (a ∷ more) is all = (is, accepted_worlds (n + 1) (after (n + 1) w a.command) more (accepted_keeps n w a.command is all.0.0 all.0.1) all.1)

-- the world after each prefix of a history is sound
pub are_worlds : (h : List Accepted) → IsHistory h → AreWorlds 0 first_world h
are_worlds h is = accepted_worlds 0 first_world h first_is_world (history_accepted h is)

last_world : (n : ℕ) (w : World) (h : List Accepted) → IsWorld n w → AreAccepted n w h → IsWorld (n + length h) (world_from n w h)
unfolding world_from
last_world n w [] is all = let same : n ≡ n + 0 = omega arith in subst (λ k. IsWorld k w) same is
last_world n w (a ∷ more) is all =
    let rest = last_world (n + 1) (after (n + 1) w a.command) more (accepted_keeps n w a.command is all.0.0 all.0.1) all.1 in
    let same : n + 1 + length more ≡ n + suc (length more) = omega arith in
    subst (λ k. IsWorld k (world_from (n + 1) (after (n + 1) w a.command) more)) same rest

pub is_world : (h : List Accepted) → IsHistory h → IsWorld (length h) (world h)
is_world h is =
    let same : 0 + length h ≡ length h = omega arith in
    subst (λ k. IsWorld k (world h)) same (last_world 0 first_world h first_is_world (history_accepted h is))

-- ---- one command more: its rows, and what is known of keys

pub rows_from-push : (n : ℕ) (w : World) (h : List Accepted) (a : Accepted) → rows_from n w (h ++ a ∷ []) ≡ rows_from n w h ++ rows_made (n + length h + 1) (world_from n w h) (after (n + length h + 1) (world_from n w h) a.command)
unfolding rows_from world_from
rows_from-push n w [] a =
    let same : n + 1 ≡ n + 0 + 1 = omega arith in
    append-nil (rows_made (n + 1) w (after (n + 1) w a.command)) ∙ ap (λ k. rows_made k w (after k w a.command)) same
rows_from-push n w (x ∷ h) a =
    let next = after (n + 1) w x.command in
    let made = rows_made (n + 1) w next in
    let rest = rows_from-push (n + 1) next h a in
    let same : n + 1 + length h + 1 ≡ n + suc (length h) + 1 = omega arith in
    ap (λ rows. made ++ rows) (rest ∙ ap (λ k. rows_from (n + 1) next h ++ rows_made k (world_from (n + 1) next h) (after k (world_from (n + 1) next h) a.command)) same)
    ∙ sym (append_assoc made (rows_from (n + 1) next h) (rows_made (n + suc (length h) + 1) (world_from (n + 1) next h) (after (n + suc (length h) + 1) (world_from (n + 1) next h) a.command)))

pub rows-push : (h : List Accepted) (a : Accepted) → rows_in (h ++ a ∷ []) ≡ rows_in h ++ rows_made (length h + 1) (world h) (after (length h + 1) (world h) a.command)
rows-push h a =
    let same : 0 + length h + 1 ≡ length h + 1 = omega arith in
    rows_from-push 0 first_world h a ∙ ap (λ k. rows_in h ++ rows_made k (world h) (after k (world h) a.command)) same
