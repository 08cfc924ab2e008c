-- After every history each loan is what the commands on it say, and the business day is the last that was named.
use Rattle.std.proofs.Common.{◌≡◌, ℕ, ◌+◌, true, false, not, cond, List, [], ◌∷◌, ◌++◌, map, length, arith, refl, sym, ap, subst, ◌∙◌, append-nil, append_assoc, flat_map}
use Rattle.std.specs.Prelude.{◌==◌, Option, Some, None, if◌then◌else◌}
use Rattle.std.specs.List.{find}
use Rattle.std.specs.Option.{option_map_or}
use Rattle.std.proofs.lemmas.Bool.Decides.{nat_tests}
use Rattle.svc_types.specs.declared.account.Act.TheVariants as act
use Rattle.svc_types.specs.declared.account.Entry.{Entry}
use Rattle.svc_types.specs.declared.terms.Terms.{Terms}
use Rattle.svc_types.specs.declared.requests.Command.{Command}
use Rattle.svc_types.specs.declared.requests.Command.TheVariants as command
use Rattle.svc_types.specs.declared.requests.TypeChange.{TypeChange}
use Rattle.escrow_lines.specs.declared.line.Line.{Line}
use Rattle.escrow_lines.specs.BillLists.{has_id, with_line, without_line}
use Rattle.svc_world.specs.Held.{Held, find_loan, changed, boarded, with_entry, with_reversal, on_day, with_bill, without_bill, with_type, with_loan}
use Rattle.svc_world.specs.LoanDues.{type_change}
use Rattle.svc_world.specs.Analysing.{settlement_of}
use Rattle.svc_world.specs.World.{World, Accepted, first_world, entry, with_analysis, today_after, loans_after, after, world_from, world}
use Rattle.svc_world.specs.Refusals.{refusal_of, dated_cases, present_cases, asks_no_more, over_principal, payoff_short, no_such_line, over_refund, over_waiver, reversal_cases, line_cases, analyse_cases, retype_cases}
use Rattle.svc_world.specs.Judging.{IsHistoryFrom, IsHistory}
use Rattle.svc_world.specs.LoanCommands.{last_or, day_named, business_day, Saying, Boards, Enters, Reverses, Sets, Drops, Retypes, own, said_by, said_from, said_of, terms_said, entry_said, reversal_said, type_said, line_said, IsAsSaid}
use Rattle.svc_world.proofs.LoanListLemmas.{KeepsNumber, find_changed, find_changed_other, find_mapped, find_mapped_none, find_boarded}
use Rattle.svc_world.proofs.NamedLoans.{asked}
use Rattle.svc_world.proofs.BoardWorlds.{boarding}
use Rattle.svc_world.proofs.HistoryLemmas.{fresh_none, world-push}

-- ---- the business day

day_last : (today : ℕ) (c : Command) (ds : List ℕ) → last_or (today_after today c) ds ≡ last_or today (day_named c ++ ds)
day_last today (command.Day d) ds = refl
day_last today (command.Board id t) ds = refl
day_last today (command.Pay id d c over) ds = refl
day_last today (command.Curtail id d c) ds = refl
day_last today (command.Payoff id d c) ds = refl
day_last today (command.Deposit id d c) ds = refl
day_last today (command.Disburse id d c line) ds = refl
day_last today (command.Refund id c) ds = refl
day_last today (command.Waive id c) ds = refl
day_last today (command.Reverse id number) ds = refl
day_last today (command.Line id line kind month every c) ds = refl
day_last today (command.Drop id line) ds = refl
day_last today (command.Analyse id plan) ds = refl
day_last today (command.Close p) ds = refl
day_last today (command.Remit p) ds = refl
day_last today (command.Retype id from kind) ds = refl

today_from : (n : ℕ) (w : World) (h : List Accepted) → (world_from n w h).today ≡ last_or w.today (flat_map (λ (a : Accepted). day_named a.command) h)
unfolding world_from after
today_from n w [] = refl
today_from n w (a ∷ more) = today_from (n + 1) (after (n + 1) w a.command) more ∙ day_last w.today a.command (flat_map (λ (x : Accepted). day_named x.command) more)

pub today_is : (h : List Accepted) → (world h).today ≡ business_day h
today_is h = today_from 0 first_world h

-- ---- what is said, taken in one after another

abbrev pub run : {S : Type 0} → (S → Saying → S) → S → List Saying → S
run take s [] = s
run take s (x ∷ xs) = run take (take s x) xs

run_append : {S : Type 0} (take : S → Saying → S) (s : S) (xs ys : List Saying) → run take s (xs ++ ys) ≡ run take (run take s xs) ys
run_append take s [] ys = refl
run_append take s (x ∷ xs) ys = run_append take (take s x) xs ys

-- what is kept of a loan follows what is said of it, from nothing on
pub record Follows {S : Type 0} (kept : Held → S) (none : S) (take : S → Saying → S) : Type 0 where
  pub begins : (id today : ℕ) (t : Terms) → kept (boarded id t today) ≡ take none (Boards t)
  pub enters : (e : Entry) (l : Held) → kept (with_entry e l) ≡ take (kept l) (Enters e)
  pub reverses : (number by : ℕ) (l : Held) → kept (with_reversal number by l) ≡ take (kept l) (Reverses number by)
  pub sets : (line : Line) (l : Held) → kept (with_bill line l) ≡ take (kept l) (Sets line)
  pub drops : (id : ℕ) (l : Held) → kept (without_bill id l) ≡ take (kept l) (Drops id)
  pub retypes : (c : TypeChange) (l : Held) → kept (with_type c l) ≡ take (kept l) (Retypes c)
  pub stays : (d : ℕ) (l : Held) → kept (on_day d l) ≡ kept l

module _ {S : Type 0} (kept : Held → S) (none : S) (take : S → Saying → S) (follows : Follows kept none take) where
  abbrev pub kept_of : ℕ → List Held → S
  kept_of id ls = option_map_or kept (find_loan id ls) none

  changed_run : (loan id : ℕ) (f : Held → Held) (ls : List Held) (l : Held) (s : Saying) → find_loan loan ls ≡ Some l → KeepsNumber f → kept (f l) ≡ take (kept l) s → kept_of id (changed loan f ls) ≡ run take (kept_of id ls) (own loan id s)
  changed_run loan id f ls l s found keeps is =
      elim (loan == id) as (λ v. (loan == id) ≡ v → kept_of id (changed loan f ls) ≡ run take (kept_of id ls) (if v then s ∷ [] else [])) [
        | true ↦ λ same.
            let one : loan ≡ id = grind (arith, nat_tests) in
            let before : find_loan id ls ≡ Some l = subst (λ k. find_loan k ls ≡ Some l) one found in
            let later : find_loan id (changed loan f ls) ≡ Some (f l) = subst (λ k. find_loan k (changed loan f ls) ≡ Some (f l)) one (find_changed loan f ls l found keeps) in
            ap (λ o. option_map_or kept o none) later ∙ is ∙ sym (ap (λ o. take (option_map_or kept o none) s) before)
        | false ↦ λ apart. ap (λ o. option_map_or kept o none) (find_changed_other loan id f ls apart keeps)
      ] refl

  entered_run : (loan id : ℕ) (ls : List Held) (l : Held) (e : Entry) → find_loan loan ls ≡ Some l → kept_of id (changed loan (with_entry e) ls) ≡ run take (kept_of id ls) (own loan id (Enters e))
  entered_run loan id ls l e found = changed_run loan id (with_entry e) ls l (Enters e) found (λ k. refl) (follows.enters e l)

  boarded_run : (loan id today : ℕ) (t : Terms) (ls : List Held) → find_loan loan ls ≡ None → kept_of id (with_loan (boarded loan t today) ls) ≡ run take (kept_of id ls) (own loan id (Boards t))
  boarded_run loan id today t ls new =
      ap (λ o. option_map_or kept o none) (find_boarded id (boarded loan t today) ls new)
      ∙ (elim (loan == id) as (λ v. (loan == id) ≡ v → option_map_or kept (if v then Some (boarded loan t today) else find_loan id ls) none ≡ run take (kept_of id ls) (if v then Boards t ∷ [] else [])) [
        | true ↦ λ same.
            let one : loan ≡ id = grind (arith, nat_tests) in
            let before : find_loan id ls ≡ None = subst (λ k. find_loan k ls ≡ None) one new in
            follows.begins loan today t ∙ sym (ap (λ o. take (option_map_or kept o none) (Boards t)) before)
        | false ↦ λ apart. refl
      ] refl)

  day_run : (id d : ℕ) (ls : List Held) → kept_of id (map (on_day d) ls) ≡ kept_of id ls
  day_run id d ls =
      elim (find_loan id ls) as (λ o. find_loan id ls ≡ o → kept_of id (map (on_day d) ls) ≡ option_map_or kept o none) [
        | None ↦ λ is. ap (λ o. option_map_or kept o none) (find_mapped_none id (on_day d) ls is (λ k. refl))
        | Some l ↦ λ is. ap (λ o. option_map_or kept o none) (find_mapped id (on_day d) ls l is (λ k. refl)) ∙ follows.stays d l
      ] refl

  -- one command more
  said_run : (id : ℕ) (h : List Accepted) (c : Command) → refusal_of (length h) (world h) c ≡ None → kept_of id (loans_after (length h + 1) (world h).today (world h).loans c) ≡ run take (kept_of id (world h).loans) (said_by id h c)
  unfolding loans_after
  said_run id h (command.Day d) e = day_run id d (world h).loans
  said_run id h (command.Board loan t) e = boarded_run loan id (world h).today t (world h).loans (boarding (length h) loan t (world h) e).new
  said_run id h (command.Pay loan d c over) e =
      let q = (asked (length h) (world h) loan (dated_cases (world h) d c asks_no_more) (command.Pay loan d c over) refl e).loan in
      entered_run loan id (world h).loans q.loan (entry (length h + 1) d (act.Pay c over)) q.found
  said_run id h (command.Curtail loan d c) e =
      let q = (asked (length h) (world h) loan (dated_cases (world h) d c (over_principal d c)) (command.Curtail loan d c) refl e).loan in
      entered_run loan id (world h).loans q.loan (entry (length h + 1) d (act.Curtail c)) q.found
  said_run id h (command.Payoff loan d c) e =
      let q = (asked (length h) (world h) loan (dated_cases (world h) d c (payoff_short d c)) (command.Payoff loan d c) refl e).loan in
      entered_run loan id (world h).loans q.loan (entry (length h + 1) d (act.Payoff c)) q.found
  said_run id h (command.Deposit loan d c) e =
      let q = (asked (length h) (world h) loan (dated_cases (world h) d c asks_no_more) (command.Deposit loan d c) refl e).loan in
      entered_run loan id (world h).loans q.loan (entry (length h + 1) d (act.Deposit c)) q.found
  said_run id h (command.Disburse loan d c line) e =
      let q = (asked (length h) (world h) loan (dated_cases (world h) d c (no_such_line line)) (command.Disburse loan d c line) refl e).loan in
      entered_run loan id (world h).loans q.loan (entry (length h + 1) d (act.Disburse c line)) q.found
  said_run id h (command.Refund loan c) e =
      let q = (asked (length h) (world h) loan (present_cases (world h) c (over_refund c)) (command.Refund loan c) refl e).loan in
      subst (λ d. kept_of id (changed loan (with_entry (entry (length h + 1) (world h).today (act.Refund c))) (world h).loans) ≡ run take (kept_of id (world h).loans) (own loan id (Enters (entry (length h + 1) d (act.Refund c))))) (today_is h)
      (entered_run loan id (world h).loans q.loan (entry (length h + 1) (world h).today (act.Refund c)) q.found)
  said_run id h (command.Waive loan c) e =
      let q = (asked (length h) (world h) loan (present_cases (world h) c (over_waiver c)) (command.Waive loan c) refl e).loan in
      subst (λ d. kept_of id (changed loan (with_entry (entry (length h + 1) (world h).today (act.Waive c))) (world h).loans) ≡ run take (kept_of id (world h).loans) (own loan id (Enters (entry (length h + 1) d (act.Waive c))))) (today_is h)
      (entered_run loan id (world h).loans q.loan (entry (length h + 1) (world h).today (act.Waive c)) q.found)
  said_run id h (command.Reverse loan number) e =
      let q = (asked (length h) (world h) loan (reversal_cases (world h) number) (command.Reverse loan number) refl e).loan in
      changed_run loan id (with_reversal number (length h + 1)) (world h).loans q.loan (Reverses number (length h + 1)) q.found (λ k. refl) (follows.reverses number (length h + 1) q.loan)
  said_run id h (command.Line loan line kind month every c) e =
      let bill : Line = record { id = line; kind = kind; month = month; every = every; cents = c } in
      let q = (asked (length h) (world h) loan (line_cases bill) (command.Line loan line kind month every c) refl e).loan in
      changed_run loan id (with_bill bill) (world h).loans q.loan (Sets bill) q.found (λ k. refl) (follows.sets bill q.loan)
  said_run id h (command.Drop loan line) e =
      let q = (asked (length h) (world h) loan (λ l. no_such_line line l ∷ []) (command.Drop loan line) refl e).loan in
      changed_run loan id (without_bill line) (world h).loans q.loan (Drops line) q.found (λ k. refl) (follows.drops line q.loan)
  said_run id h (command.Analyse loan plan) e =
      let q = (asked (length h) (world h) loan (analyse_cases (world h) plan) (command.Analyse loan plan) refl e).loan in
      let made = λ (l : Held) (d : ℕ). entry (length h + 1) d (act.Analyse (settlement_of l plan)) in
      let one = changed_run loan id (with_analysis (length h + 1) (world h).today plan) (world h).loans q.loan (Enters (made q.loan (world h).today)) q.found (λ k. refl) (follows.enters (made q.loan (world h).today) q.loan) in
      subst (λ d. kept_of id (changed loan (with_analysis (length h + 1) (world h).today plan) (world h).loans) ≡ run take (kept_of id (world h).loans) (own loan id (Enters (made q.loan d)))) (today_is h) one
      ∙ sym (ap (λ o. run take (kept_of id (world h).loans) (option_map_or (λ (l : Held). own loan id (Enters (made l (business_day h)))) o [])) q.found)
  said_run id h (command.Close p) e = refl
  said_run id h (command.Remit p) e = refl
  said_run id h (command.Retype loan from kind) e =
      let q = (asked (length h) (world h) loan (retype_cases (world h) from) (command.Retype loan from kind) refl e).loan in
      changed_run loan id (with_type (type_change from kind)) (world h).loans q.loan (Retypes (type_change from kind)) q.found (λ k. refl) (follows.retypes (type_change from kind) q.loan)

  -- all commands
  pushed_run : (id : ℕ) (h : List Accepted) (a : Accepted) → refusal_of (length h) (world h) a.command ≡ None → kept_of id (world (h ++ a ∷ [])).loans ≡ run take (kept_of id (world h).loans) (said_by id h a.command)
  unfolding after
  pushed_run id h a e = ap (λ (w : World). kept_of id w.loans) (world-push h a) ∙ said_run id h a.command e

  run_from : (id : ℕ) (h more : List Accepted) → IsHistoryFrom h more → kept_of id (world (h ++ more)).loans ≡ run take (kept_of id (world h).loans) (said_from id h more)
  run_from id h [] fresh = ap (λ x. kept_of id (world x).loans) (append-nil h)
  run_from id h (a ∷ more) fresh =
      ap (λ x. kept_of id (world x).loans) (sym (append_assoc h (a ∷ []) more))
      ∙ run_from id (h ++ a ∷ []) more fresh.1
      ∙ ap (λ s. run take s (said_from id (h ++ a ∷ []) more)) (pushed_run id h a (fresh_none h a.key a.command fresh.0))
      ∙ sym (run_append take (kept_of id (world h).loans) (said_by id h a.command) (said_from id (h ++ a ∷ []) more))

  pub all_run : (id : ℕ) (h : List Accepted) → IsHistory h → kept_of id (world h).loans ≡ run take none (said_of id h)
  unfolding world_from
  all_run id h is = run_from id [] h is.fresh

-- ---- lists to which each saying adds its part

abbrev adds : {X : Type 0} → (Saying → List X) → List X → Saying → List X
adds part xs s = xs ++ part s

adds_run : {X : Type 0} (part : Saying → List X) (xs : List X) (ss : List Saying) → run (adds part) xs ss ≡ xs ++ flat_map part ss
adds_run part xs [] = sym (append-nil xs)
adds_run part xs (s ∷ ss) = adds_run part (xs ++ part s) ss ∙ append_assoc xs (part s) (flat_map part ss)

list_said : {X : Type 0} (kept : Held → List X) (part : Saying → List X) (id : ℕ) (h : List Accepted) → Follows kept [] (adds part) → IsHistory h → option_map_or kept (find_loan id (world h).loans) [] ≡ flat_map part (said_of id h)
list_said kept part id h follows is = all_run kept [] (adds part) follows id h is ∙ adds_run part [] (said_of id h)

terms_follow : Follows (λ (l : Held). l.account.terms ∷ []) [] (adds terms_said)
terms_follow = record {
  begins = λ id today t. refl;
  enters = λ e l. refl;
  reverses = λ number by l. refl;
  sets = λ line l. refl;
  drops = λ id l. refl;
  retypes = λ c l. refl;
  stays = λ d l. refl;
}

entries_follow : Follows (λ (l : Held). l.account.entries) [] (adds entry_said)
entries_follow = record {
  begins = λ id today t. refl;
  enters = λ e l. refl;
  reverses = λ number by l. sym (append-nil l.account.entries);
  sets = λ line l. sym (append-nil l.account.entries);
  drops = λ id l. sym (append-nil l.account.entries);
  retypes = λ c l. sym (append-nil l.account.entries);
  stays = λ d l. refl;
}

reversals_follow : Follows (λ (l : Held). l.account.reversals) [] (adds reversal_said)
reversals_follow = record {
  begins = λ id today t. refl;
  enters = λ e l. sym (append-nil l.account.reversals);
  reverses = λ number by l. refl;
  sets = λ line l. sym (append-nil l.account.reversals);
  drops = λ id l. sym (append-nil l.account.reversals);
  retypes = λ c l. sym (append-nil l.account.reversals);
  stays = λ d l. refl;
}

types_follow : Follows (λ (l : Held). l.types) [] (adds type_said)
types_follow = record {
  begins = λ id today t. refl;
  enters = λ e l. sym (append-nil l.types);
  reverses = λ number by l. sym (append-nil l.types);
  sets = λ line l. sym (append-nil l.types);
  drops = λ id l. sym (append-nil l.types);
  retypes = λ c l. refl;
  stays = λ d l. refl;
}

-- ---- a line is as it was last set or dropped

last_append : {X : Type 0} (x : X) (ys zs : List X) → last_or x (ys ++ zs) ≡ last_or (last_or x ys) zs
last_append x [] zs = refl
last_append x (y ∷ ys) zs = last_append y ys zs

abbrev turns : ℕ → Option Line → Saying → Option Line
turns id o s = last_or o (line_said id s)

turns_run : (id : ℕ) (o : Option Line) (ss : List Saying) → run (turns id) o ss ≡ last_or o (flat_map (line_said id) ss)
turns_run id o [] = refl
turns_run id o (s ∷ ss) = turns_run id (last_or o (line_said id s)) ss ∙ sym (last_append o (line_said id s) (flat_map (line_said id) ss))

set_found : (id : ℕ) (line : Line) (lines : List Line) → find (has_id id) (with_line line lines) ≡ last_or (find (has_id id) lines) (line_said id (Sets line))
set_found id line [] = elim (line.id == id) as (λ v. cond v (Some line) None ≡ last_or None (if v then Some line ∷ [] else [])) [ true ↦ refl | false ↦ refl ]
set_found id line (x ∷ xs) =
    elim (x.id == line.id) as (λ v. (x.id == line.id) ≡ v → find (has_id id) (if v then line ∷ xs else x ∷ with_line line xs) ≡ last_or (find (has_id id) (x ∷ xs)) (line_said id (Sets line))) [
      | true ↦ λ same.
          let one : x.id ≡ line.id = grind (arith, nat_tests) in
          let both : (x.id == id) ≡ (line.id == id) = ap (λ n. n == id) one in
          rw both (elim (line.id == id) as (λ v. cond v (Some line) (find (has_id id) xs) ≡ last_or (cond v (Some x) (find (has_id id) xs)) (if v then Some line ∷ [] else [])) [ true ↦ refl | false ↦ refl ])
      | false ↦ λ apart.
          elim (x.id == id) as (λ v. (x.id == id) ≡ v → cond v (Some x) (find (has_id id) (with_line line xs)) ≡ last_or (cond v (Some x) (find (has_id id) xs)) (line_said id (Sets line))) [
            | true ↦ λ this.
                let no : (line.id == id) ≡ false = grind (arith, nat_tests) in
                rw no refl
            | false ↦ λ other. set_found id line xs
          ] refl
    ] refl

drop_found : (id dropped : ℕ) (lines : List Line) → find (has_id id) (without_line dropped lines) ≡ last_or (find (has_id id) lines) (line_said id (Drops dropped))
drop_found id dropped [] = elim (dropped == id) as (λ v. None ≡ last_or {X = Option Line} None (if v then None ∷ [] else [])) [ true ↦ refl | false ↦ refl ]
drop_found id dropped (x ∷ xs) =
    elim (x.id == dropped) as (λ v. (x.id == dropped) ≡ v → find (has_id id) (cond (not v) (x ∷ without_line dropped xs) (without_line dropped xs)) ≡ last_or (find (has_id id) (x ∷ xs)) (line_said id (Drops dropped))) [
      | true ↦ λ same.
          let one : x.id ≡ dropped = grind (arith, nat_tests) in
          let both : (x.id == id) ≡ (dropped == id) = ap (λ n. n == id) one in
          let turn : last_or (find (has_id id) xs) (line_said id (Drops dropped)) ≡ last_or (find (has_id id) (x ∷ xs)) (line_said id (Drops dropped)) =
          rw both (elim (dropped == id) as (λ v. last_or (find (has_id id) xs) (if v then None ∷ [] else []) ≡ last_or (cond v (Some x) (find (has_id id) xs)) (if v then None ∷ [] else [])) [ true ↦ refl | false ↦ refl ]) in
          drop_found id dropped xs ∙ turn
      | false ↦ λ apart.
          elim (x.id == id) as (λ v. (x.id == id) ≡ v → cond v (Some x) (find (has_id id) (without_line dropped xs)) ≡ last_or (cond v (Some x) (find (has_id id) xs)) (line_said id (Drops dropped))) [
            | true ↦ λ this.
                let no : (dropped == id) ≡ false = grind (arith, nat_tests) in
                rw no refl
            | false ↦ λ other. drop_found id dropped xs
          ] refl
    ] refl

line_follows : (id : ℕ) → Follows (λ (l : Held). find (has_id id) l.lines) None (turns id)
line_follows id = record {
  begins = λ loan today t. refl;
  enters = λ e l. refl;
  reverses = λ number by l. refl;
  sets = λ line l. set_found id line l.lines;
  drops = λ dropped l. drop_found id dropped l.lines;
  retypes = λ c l. refl;
  stays = λ d l. refl;
}

pub is_as_said : (h : List Accepted) (id : ℕ) → IsHistory h → IsAsSaid h id
is_as_said h id is = record {
  terms = list_said (λ (l : Held). l.account.terms ∷ []) terms_said id h terms_follow is;
  entries = list_said (λ (l : Held). l.account.entries) entry_said id h entries_follow is;
  reversals = list_said (λ (l : Held). l.account.reversals) reversal_said id h reversals_follow is;
  lines = λ line. all_run (λ (l : Held). find (has_id line) l.lines) None (turns line) (line_follows line) id h is ∙ turns_run line None (said_of id h);
  types = list_said (λ (l : Held). l.types) type_said id h types_follow is;
}
