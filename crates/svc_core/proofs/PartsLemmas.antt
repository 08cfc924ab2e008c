-- The parts of the core follow from the history, before and after one command more.
use Rattle.std.proofs.Common.{arith, suc, ◌-◌, ◌≡◌, ℕ, ◌+◌, ◌≤◌, ◌<◌, Bool, true, false, List, [], ◌∷◌, ◌++◌, length, refl, sym, ap, subst, ◌∙◌}
use Rattle.std.specs.Prelude.{Option, Some, None, MatchOption, ⊤, pos, slice_get, if◌then◌else◌}
use Rattle.std.proofs.lemmas.List.Elements.{All-nil}
use Rattle.std.specs.List.{All}
use Rattle.std.specs.Option.{option_map}
use Rattle.svc_types.specs.declared.requests.Command.{Command}
use Rattle.svc_types.specs.declared.replies.Reply.{Reply}
use Rattle.svc_types.specs.declared.replies.Extra.{Extra}
use Rattle.svc_types.specs.declared.replies.Refusal.{Refusal}
use Rattle.svc_types.specs.declared.replies.Refusal.TheVariants.{KeyReused}
use Rattle.svc_types.specs.Same.{is_same}
use Rattle.svc_types.specs.Keys.{IsKey}
use Rattle.svc_types.specs.Requests.{IsCommand}
use Rattle.period_adjust.specs.Sealed.{State, Reporting, reporting}
use Rattle.custodial_book.specs.declared.row.Row.{Row}
use Rattle.svc_world.specs.declared.custody.Custody.{Custody}
use Rattle.svc_world.specs.World.{World, Accepted, accepted, first_world, after, world_from, world}
use Rattle.svc_world.specs.Worlds.{IsWorld}
use Rattle.svc_world.specs.Refusals.{full_of_commands, cases_by_command, refusal_of}
use Rattle.svc_world.specs.Judging.{Kept, Refused, Fresh, Known, by_refusal, by_key, is_key, known_from, known, judged, extra_of, reply_of, next_reply, IsHistory}
use Rattle.svc_world.specs.Custody.{rows_made, rows_from, rows_in, custody_of}
use Rattle.svc_world.proofs.HistoryLemmas.{is_world, world-push, rows-push, fresh_none}
use Rattle.svc_world.proofs.CaseLemmas.{past}
use Rattle.svc_world.proofs.NamedLoans.{not_full}
use Rattle.svc_loan.specs.Kept.{KeptLoan}
use Rattle.svc_loan.specs.Loans.{KeptLoans, held_in}
use Rattle.svc_custody.specs.Cash.{IsKeptIn}
use Rattle.svc_core.specs.State.{world_of, IsState}
use Rattle.svc_custody.specs.declared.position.Position.{Position}
use Rattle.svc_custody.specs.Positions.{positions_of}
use Rattle.svc_core.specs.Rows.{IsCash}
use Rattle.svc_core.specs.declared.ready.Prepared.{Prepared}
use Rattle.svc_core.specs.Core.{AreParts, IsPrepared, unknown_cost, where_unknown, judging_cost}
use Rattle.svc_core.specs.Costs.{refusing_cost, preparing_cost}
use Rattle.svc_spec.specs.Accounts.{Account}
use Rattle.svc_core.specs.Posted.{PostedCommands, known_among, reply, replies_from, replies_to, number_from, number_of}
use Rattle.svc_core.proofs.PostedLemmas.{known_of, replies_next}
use Rattle.svc_core.proofs.CoreLemmas.{history_more, empty_history, cash_is}

-- ---- how a command is judged

pub judged_new : (h : List Accepted) (key : List ℕ) (c : Command) (o : Option Refusal) → known h key ≡ None → refusal_of (length h) (world h) c ≡ o → judged h key c ≡ by_refusal o
unfolding judged
judged_new h key c o none is = ap (by_key h c) none ∙ ap by_refusal is

pub judged_known : (h : List Accepted) (key : List ℕ) (c : Command) (k : Known) → known h key ≡ Some k → judged h key c ≡ by_key h c (Some k)
unfolding judged
judged_known h key c k is = ap (by_key h c) is

-- ---- what the parts are

pub state_is : (posted : PostedCommands) (n today : ℕ) (loans : KeptLoans) (seals : State) (rows : List Row) (custody : Custody) (positions : List Position) → AreParts posted today loans seals rows custody positions → n ≡ length posted.history → IsState n today loans seals
state_is posted n today loans seals rows custody positions h is =
    let world_is : IsWorld n (world posted.history) = subst (λ k. IsWorld k (world posted.history)) (sym is) (is_world posted.history h.history) in
    record {
      world = subst (λ w. IsWorld n w) (sym h.state) world_is;
      kept = subst (λ w. All (IsKeptIn w) loans.loans) (sym h.state) h.kept;
    }

pub cash_of_parts : (posted : PostedCommands) (n today : ℕ) (loans : KeptLoans) (seals : State) (rows : List Row) (custody : Custody) (positions : List Position) → AreParts posted today loans seals rows custody positions → n ≡ length posted.history → IsCash n (world_of today loans seals) rows custody positions
cash_of_parts posted n today loans seals rows custody positions h is =
    let c = cash_is posted.history h.history in
    let c1 : IsCash n (world posted.history) (rows_in posted.history) (custody_of (world posted.history)) (positions_of (world posted.history)) = subst (λ k. IsCash k (world posted.history) (rows_in posted.history) (custody_of (world posted.history)) (positions_of (world posted.history))) (sym is) c in
    let c2 = subst (λ r. IsCash n (world posted.history) r (custody_of (world posted.history)) (positions_of (world posted.history))) (sym h.book) c1 in
    let c3 = subst (λ x. IsCash n (world posted.history) rows x (positions_of (world posted.history))) (sym h.line) c2 in
    let c4 = subst (λ xs. IsCash n (world posted.history) rows custody xs) (sym h.places) c3 in
    subst (λ w. IsCash n w rows custody positions) (sym h.state) c4

-- ---- one command more

pub record IsMore (posted more : PostedCommands) (today today' : ℕ) (loans loans' : KeptLoans) (seals seals' : State) (rows rows' : List Row) (custody' : Custody) (positions' : List Position) (key : List ℕ) (c : Command) (extra : Extra) : Type 0 where
  pub key_formed : IsKey key
  pub formed : IsCommand c
  pub fresh : judged posted.history key c ≡ Fresh
  pub history : more.history ≡ posted.history ++ accepted key c ∷ []
  pub replies : more.replies ≡ posted.replies ++ reply (length posted.history + 1) extra ∷ []
  pub extra_is : extra ≡ extra_of (world_of today loans seals) (after (length posted.history + 1) (world_of today loans seals) c) c
  pub world_is : world_of today' loans' seals' ≡ after (length posted.history + 1) (world_of today loans seals) c
  pub kept : All (IsKeptIn (world_of today' loans' seals')) loans'.loans
  pub rows_are : rows' ≡ rows ++ rows_made (length posted.history + 1) (world_of today loans seals) (world_of today' loans' seals')
  pub line : custody' ≡ custody_of (world_of today' loans' seals')
  pub places : positions' ≡ positions_of (world_of today' loans' seals')

pub next_is : (posted more : PostedCommands) (today today' : ℕ) (loans loans' : KeptLoans) (seals seals' : State) (rows rows' : List Row) (custody custody' : Custody) (positions positions' : List Position) (key : List ℕ) (c : Command) (extra : Extra) → AreParts posted today loans seals rows custody positions → IsMore posted more today today' loans loans' seals seals' rows rows' custody' positions' key c extra → reply (length posted.history + 1) extra ≡ next_reply posted.history c
unfolding reply_of
next_is posted more today today' loans loans' seals seals' rows rows' custody custody' positions positions' key c extra h m =
    ap (reply (length posted.history + 1)) (m.extra_is ∙ ap (λ w. extra_of w (after (length posted.history + 1) w c) c) h.state)

pub parts_more : (posted more : PostedCommands) (today today' : ℕ) (loans loans' : KeptLoans) (seals seals' : State) (rows rows' : List Row) (custody custody' : Custody) (positions positions' : List Position) (key : List ℕ) (c : Command) (extra : Extra) → AreParts posted today loans seals rows custody positions → IsMore posted more today today' loans loans' seals seals' rows rows' custody' positions' key c extra → AreParts more today' loans' seals' rows' custody' positions'
parts_more posted more today today' loans loans' seals seals' rows rows' custody custody' positions positions' key c extra h m =
    let old = posted.history in
    let n = length old + 1 in
    let w' = world_of today' loans' seals' in
    let made : w' ≡ after n (world old) c = m.world_is ∙ ap (λ w. after n w c) h.state in
    let next : w' ≡ world (old ++ accepted key c ∷ []) = made ∙ sym (world-push old (accepted key c)) in
    let now : w' ≡ world more.history = next ∙ ap world (sym m.history) in
    let said : more.replies ≡ replies_to (old ++ accepted key c ∷ []) =
    m.replies ∙ ap (λ r. posted.replies ++ r ∷ []) (next_is posted more today today' loans loans' seals seals' rows rows' custody custody' positions positions' key c extra h m)
    ∙ ap (λ rs. rs ++ next_reply old c ∷ []) h.replies ∙ sym (replies_next old (accepted key c)) in
    let moved : rows' ≡ rows_in (old ++ accepted key c ∷ []) =
    m.rows_are ∙ ap (λ x. rows ++ rows_made n x w') h.state ∙ ap (λ x. rows ++ rows_made n (world old) x) made
    ∙ ap (λ r. r ++ rows_made n (world old) (after n (world old) c)) h.book ∙ sym (rows-push old (accepted key c)) in
    record {
      history = subst IsHistory (sym m.history) (history_more old key c h.history m.key_formed m.formed m.fresh);
      replies = said ∙ ap replies_to (sym m.history);
      state = now;
      kept = subst (λ w. All (IsKeptIn w) loans'.loans) now m.kept;
      book = moved ∙ ap rows_in (sym m.history);
      line = m.line ∙ ap custody_of now;
      places = m.places ∙ ap positions_of now;
    }

-- ---- before the first command

abbrev pub nothing_held : Custody
nothing_held = record { t = pos 0; p = pos 0; suspense = pos 0; escrow = pos 0; escrow_advance = pos 0; held = pos 0; pi_advance = pos 0 }

abbrev pub world_from_parts : ℕ → List KeptLoan → Reporting → Option ℕ → World
world_from_parts today loans seals remitted = record { today = today; loans = held_in loans; seals = seals; remitted = remitted }

pub parts_first : (posted : PostedCommands) (today : ℕ) (loans : KeptLoans) (seals : State) (rows : List Row) (positions : List Position) → posted.history ≡ [] → posted.replies ≡ [] → today ≡ first_world.today → loans.loans ≡ [] → seals.reporting ≡ reporting [] [] → seals.remitted ≡ None → rows ≡ [] → positions ≡ [] → AreParts posted today loans seals rows nothing_held positions
unfolding world_from replies_from rows_from custody_of
parts_first posted today loans seals rows positions h r d l s m b p =
    record {
      history = subst IsHistory (sym h) empty_history;
      replies = r ∙ ap replies_to (sym h);
      state = ap (λ x. world_from_parts x loans.loans seals.reporting seals.remitted) d ∙ ap (λ x. world_from_parts first_world.today x seals.reporting seals.remitted) l
          ∙ ap (λ x. world_from_parts first_world.today [] x seals.remitted) s ∙ ap (λ x. world_from_parts first_world.today [] (reporting [] []) x) m ∙ ap world (sym h);
      kept = subst (λ ks. All (IsKeptIn (world posted.history)) ks) (sym l) (All-nil (IsKeptIn (world posted.history)));
      book = b ∙ ap rows_in (sym h);
      line = ap (λ x. custody_of (world x)) (sym h);
      places = p ∙ ap (λ x. positions_of (world x)) (sym h);
    }

-- ---- a fresh command has a key that no other has, and there is a number for it

number_none : (n m : ℕ) (w : World) (h : List Accepted) (key : List ℕ) → known_from n w h key ≡ None → number_from m h key ≡ None
unfolding known_from
number_none n m w [] key e = refl
number_none n m w (a ∷ h) key e =
    elim (is_key a.key key) as (λ v. (if v then Some (record { command = a.command; reply = reply_of (n + 1) w a.command }) else known_from (n + 1) (after (n + 1) w a.command) h key) ≡ None → (if v then Some m else number_from (m + 1) h key) ≡ None) [
      | true ↦ λ is. absurd (cc)
      | false ↦ λ is. number_none (n + 1) (m + 1) (after (n + 1) w a.command) h key is
    ] e

not_fresh : (b : Bool) (r : Reply) (why : Refusal) → (if b then Kept r else Refused why) ≡ Fresh → ⊥
not_fresh true r why e = cc
not_fresh false r why e = cc

unknown : (h : List Accepted) (c : Command) (o : Option Known) → by_key h c o ≡ Fresh → o ≡ None
unknown h c None e = refl
unknown h c (Some k) e = absurd (not_fresh (is_same k.command c) k.reply (KeyReused k.reply.number) e)

pub fresh_number : (h : List Accepted) (key : List ℕ) (c : Command) → judged h key c ≡ Fresh → number_of h key ≡ None
unfolding judged
fresh_number h key c e = number_none 0 1 first_world h key (unknown h c (known h key) e)

pub fresh_few : (h : List Accepted) (key : List ℕ) (c : Command) → judged h key c ≡ Fresh → length h < 1_000_000
unfolding refusal_of
fresh_few h key c e = not_full (length h) (past (full_of_commands (length h)) (cases_by_command (world h) c) (fresh_none h key c e)).no

pub count_few : (posted : PostedCommands) (n today : ℕ) (loans : KeptLoans) (seals : State) (rows : List Row) (custody : Custody) (positions : List Position) → AreParts posted today loans seals rows custody positions → n ≡ length posted.history → n ≤ 1_000_000
count_few posted n today loans seals rows custody positions h is = (state_is posted n today loans seals rows custody positions h is).world.count

-- ---- the verdict on a command whose key is new

-- the rules are those of the history
pub judged_here : (posted : PostedCommands) (n today : ℕ) (loans : KeptLoans) (seals : State) (rows : List Row) (custody : Custody) (positions : List Position) (key : List ℕ) (c : Command) (o : Option Refusal) → AreParts posted today loans seals rows custody positions → n ≡ length posted.history → known posted.history key ≡ None → o ≡ refusal_of n (world_of today loans seals) c → judged posted.history key c ≡ by_refusal o
judged_here posted n today loans seals rows custody positions key c o h is none cause =
    judged_new posted.history key c o none (ap (λ k. refusal_of k (world posted.history) c) (sym is) ∙ ap (λ w. refusal_of n w c) (sym h.state) ∙ sym cause)

pub fresh_here : (posted : PostedCommands) (n today : ℕ) (loans : KeptLoans) (seals : State) (rows : List Row) (custody : Custody) (positions : List Position) (key : List ℕ) (c : Command) → AreParts posted today loans seals rows custody positions → n ≡ length posted.history → judged posted.history key c ≡ Fresh → refusal_of n (world_of today loans seals) c ≡ None
fresh_here posted n today loans seals rows custody positions key c h is fresh =
    ap (λ w. refusal_of n w c) h.state ∙ ap (λ k. refusal_of k (world posted.history) c) is ∙ fresh_none posted.history key c fresh

-- what was counted is what it costs
pub refused_steps : (cost : Account → ℕ → ℕ) (posted : PostedCommands) (today : ℕ) (loans : KeptLoans) (seals : State) (rows : List Row) (custody : Custody) (positions : List Position) (key : List ℕ) (c : Command) (why : Refusal) (s s' : ℕ) → AreParts posted today loans seals rows custody positions → judged posted.history key c ≡ Refused why → s' ≤ s + refusing_cost cost (world_of today loans seals) c → s' ≤ s + unknown_cost cost (world posted.history) c (judged posted.history key c)
refused_steps cost posted today loans seals rows custody positions key c why s s' h is le =
    let w : refusing_cost cost (world_of today loans seals) c ≡ refusing_cost cost (world posted.history) c = ap (λ x. refusing_cost cost x c) h.state in
    subst (λ j. s' ≤ s + unknown_cost cost (world posted.history) c j) (sym is) (omega (arith, le, w))

pub fresh_steps : (cost : Account → ℕ → ℕ) (posted : PostedCommands) (today : ℕ) (loans : KeptLoans) (seals : State) (rows : List Row) (custody : Custody) (positions : List Position) (key : List ℕ) (c : Command) (s s' : ℕ) → AreParts posted today loans seals rows custody positions → judged posted.history key c ≡ Fresh → s' ≤ s + refusing_cost cost (world_of today loans seals) c + preparing_cost cost (world_of today loans seals) c → s' ≤ s + unknown_cost cost (world posted.history) c (judged posted.history key c)
fresh_steps cost posted today loans seals rows custody positions key c s s' h is le =
    let w : refusing_cost cost (world_of today loans seals) c ≡ refusing_cost cost (world posted.history) c = ap (λ x. refusing_cost cost x c) h.state in
    let p : preparing_cost cost (world_of today loans seals) c ≡ preparing_cost cost (world posted.history) c = ap (λ x. preparing_cost cost x c) h.state in
    subst (λ j. s' ≤ s + unknown_cost cost (world posted.history) c j) (sym is) (omega (arith, le, w, p))

-- ---- the reply that was put in last

last_of : {X : Type 0} (xs : List X) (x : X) → slice_get (xs ++ x ∷ []) (length xs) ≡ Some x
last_of [] x = refl
last_of (y ∷ ys) x = last_of ys x

replies_length : (n : ℕ) (w : World) (h : List Accepted) → length (replies_from n w h) ≡ length h
unfolding replies_from
replies_length n w [] = refl
replies_length n w (a ∷ h) = ap suc (replies_length (n + 1) (after (n + 1) w a.command) h)

pub replied_last : (posted more : PostedCommands) (today today' : ℕ) (loans loans' : KeptLoans) (seals seals' : State) (rows rows' : List Row) (custody custody' : Custody) (positions positions' : List Position) (key : List ℕ) (c : Command) (extra : Extra) (k : ℕ) (r : Reply) → AreParts posted today loans seals rows custody positions → IsMore posted more today today' loans loans' seals seals' rows rows' custody' positions' key c extra → k ≡ length posted.history → Some r ≡ slice_get more.replies (k + 1 - 1) → r ≡ next_reply posted.history c
replied_last posted more today today' loans loans' seals seals' rows rows' custody custody' positions positions' key c extra k r h m is got =
    let last = reply (length posted.history + 1) extra in
    let place : k + 1 - 1 ≡ length posted.replies = (let l = ap length h.replies ∙ replies_length 0 first_world posted.history in omega (arith, l, is)) in
    let some : Some r ≡ Some last = got ∙ ap (λ i. slice_get more.replies i) place ∙ ap (λ rs. slice_get rs (length posted.replies)) m.replies ∙ last_of posted.replies last in
    let same : r ≡ last = cc in
    same ∙ next_is posted more today today' loans loans' seals seals' rows rows' custody custody' positions positions' key c extra h m

-- ---- what a key finds

pub known_here : (posted : PostedCommands) (today : ℕ) (loans : KeptLoans) (seals : State) (rows : List Row) (custody : Custody) (positions : List Position) (key : List ℕ) (o : Option Known) → AreParts posted today loans seals rows custody positions → o ≡ known_among posted.history posted.replies key → known posted.history key ≡ o
known_here posted today loans seals rows custody positions key o h e =
    known_of 0 first_world posted.history key ∙ ap (λ rs. known_among posted.history rs key) (sym h.replies) ∙ sym e

-- where it finds nothing, what was counted is what it costs
pub unknown_steps : (cost : Account → ℕ → ℕ) (h : List Accepted) (key : List ℕ) (c : Command) (s s' : ℕ) → known h key ≡ None → s' ≤ s + unknown_cost cost (world h) c (judged h key c) → s' ≤ s + judging_cost cost h key c
unknown_steps cost h key c s s' none le = subst (λ o. s' ≤ s + where_unknown o (unknown_cost cost (world h) c (judged h key c))) (sym none) le

-- ---- what is prepared is fresh

pub prepared_is : {B : Type 0} (posted : PostedCommands) (today : ℕ) (loans : KeptLoans) (seals : State) (rows dues places lines : ℕ) (o : Option (Prepared B)) (p : Prepared B) (a : Accepted) → MatchOption o ⊤ (λ (q : Prepared B). IsPrepared posted today loans seals rows dues places lines (accepted q.key q.command) q.ready) → o ≡ Some p → option_map (λ (q : Prepared B). accepted q.key q.command) o ≡ Some a → IsPrepared posted today loans seals rows dues places lines a p.ready
prepared_is posted today loans seals rows dues places lines None p a h e is = absurd (cc)
prepared_is {B = B} posted today loans seals rows dues places lines (Some q) p a h e is =
    let same : q ≡ p = cc in
    let one : accepted q.key q.command ≡ a = cc in
    subst (λ (x : Accepted). IsPrepared posted today loans seals rows dues places lines x p.ready) one (subst (λ (r : Prepared B). IsPrepared posted today loans seals rows dues places lines (accepted q.key q.command) r.ready) same h)

pub prepared_fresh : {B : Type 0} (posted : PostedCommands) (today : ℕ) (loans : KeptLoans) (seals : State) (rows dues places lines : ℕ) (o : Option (Prepared B)) (a : Accepted) → MatchOption o ⊤ (λ (q : Prepared B). IsPrepared posted today loans seals rows dues places lines (accepted q.key q.command) q.ready) → option_map (λ (q : Prepared B). accepted q.key q.command) o ≡ Some a → judged posted.history a.key a.command ≡ Fresh
prepared_fresh posted today loans seals rows dues places lines None a h e = absurd (cc)
prepared_fresh posted today loans seals rows dues places lines (Some p) a h e =
    let same : accepted p.key p.command ≡ a = cc in
    subst (λ (x : Accepted). judged posted.history x.key x.command ≡ Fresh) same h.fresh
