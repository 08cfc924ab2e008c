-- An entry is that for which it is kept, also once what more entries settle stands behind.
use Rattle.std.proofs.Common.{◌≡◌, ℕ, zero, suc, ◌<◌, ◌≤◌, true, false, List, [], ◌∷◌, ◌++◌, length, get_or, arith, refl, sym, ap, ◌∙◌}
use Rattle.std.specs.Prelude.{◌≢◌, ◌==◌, nat_lt}
use Rattle.std.specs.List.Sorted.{IsPartitionedBy, IsPartitionPoint}
use Rattle.std.proofs.Math.Seq.{get_or-append_seam}
use Rattle.std.proofs.lemmas.Bool.Decides.{nat_tests}
use Rattle.std.proofs.lemmas.List.{length-map, map-append}
use Rattle.std.proofs.lemmas.List.Elements.{All-head, All-tail}
use Rattle.svc_types.specs.declared.escrow.Settled.{Settled}
use Rattle.svc_types.specs.declared.account.Act.{Act}
use Rattle.svc_types.specs.declared.account.Act.TheVariants as act
use Rattle.svc_types.specs.declared.account.Entry.{Entry}
use Rattle.svc_replay.specs.declared.brief.Brief.{Brief}
use Rattle.svc_replay.specs.declared.brief.BriefAct.{BriefAct}
use Rattle.svc_replay.specs.declared.brief.BriefAct.TheVariants as brief
use Rattle.svc_replay.specs.Briefs.{settled_in, brief_act, none_settled, act_of, entry_of, brief_of, expanded, StandsWithin, AreSettled}

-- ---- one entry

before_more : (ss more : List Settled) (i : ℕ) → i < length ss → get_or (ss ++ more) i none_settled ≡ get_or ss i none_settled
before_more [] more i lt = absurd (omega arith)
before_more (s ∷ ss) more zero lt = refl
before_more (s ∷ ss) more (suc i) lt = before_more ss more i (omega arith)

same_act : (ss more : List Settled) (b : BriefAct) → StandsWithin (length ss) b → act_of (ss ++ more) b ≡ act_of ss b
same_act ss more (brief.Pay over c) h = refl
same_act ss more (brief.Curtail c) h = refl
same_act ss more (brief.Payoff c) h = refl
same_act ss more (brief.Deposit c) h = refl
same_act ss more (brief.Disburse line c) h = refl
same_act ss more (brief.Refund c) h = refl
same_act ss more (brief.Waive c) h = refl
same_act ss more (brief.Analyse place) h = ap act.Analyse (before_more ss more place (h place refl))

stands_for : (ss : List Settled) (a : Act) → act_of (ss ++ settled_in a) (brief_act (length ss) a) ≡ a
stands_for ss (act.Pay c over) = refl
stands_for ss (act.Curtail c) = refl
stands_for ss (act.Payoff c) = refl
stands_for ss (act.Deposit c) = refl
stands_for ss (act.Disburse c line) = refl
stands_for ss (act.Refund c) = refl
stands_for ss (act.Waive c) = refl
stands_for ss (act.Analyse s) = ap act.Analyse (get_or-append_seam ss s [] none_settled)

-- ---- all of them

pub expanded_length : (ss : List Settled) (bs : List Brief) → length (expanded ss bs) ≡ length bs
expanded_length ss bs = length-map bs (entry_of ss)

pub expanded_at : (ss : List Settled) (bs : List Brief) (k : ℕ) (b : Brief) (e : Entry) → k < length bs → get_or (expanded ss bs) k e ≡ entry_of ss (get_or bs k b)
expanded_at ss [] k b e lt = absurd (omega arith)
expanded_at ss (x ∷ bs) zero b e lt = refl
expanded_at ss (x ∷ bs) (suc k) b e lt = expanded_at ss bs k b e (omega arith)

expanded_more : (ss more : List Settled) (bs : List Brief) → AreSettled ss bs → expanded (ss ++ more) bs ≡ expanded ss bs
expanded_more ss more [] h = refl
expanded_more ss more (b ∷ bs) h =
    let P : Brief → Type 0 = λ x. StandsWithin (length ss) x.act in
    let first : Act → Entry = λ a. record { number = b.number; day = b.day; act = a } in
    ap (λ a. first a ∷ expanded (ss ++ more) bs) (same_act ss more b.act (All-head P b bs h))
    ∙ ap (λ es. entry_of ss b ∷ es) (expanded_more ss more bs (All-tail P b bs h))

-- one entry more
pub expanded_push : (ss : List Settled) (bs : List Brief) (e : Entry) → AreSettled ss bs → expanded (ss ++ settled_in e.act) (bs ++ brief_of (length ss) e ∷ []) ≡ expanded ss bs ++ e ∷ []
expanded_push ss bs e h =
    let all = ss ++ settled_in e.act in
    let last : Act → Entry = λ a. record { number = e.number; day = e.day; act = a } in
    map-append (entry_of all) bs (brief_of (length ss) e ∷ [])
    ∙ ap (λ es. es ++ entry_of all (brief_of (length ss) e) ∷ []) (expanded_more ss (settled_in e.act) bs h)
    ∙ ap (λ a. expanded ss bs ++ last a ∷ []) (stands_for ss e.act)

-- ---- where numbers end

numbered : (ss : List Settled) (bs : List Brief) (n k : ℕ) (b : Brief) (e : Entry) → k < length bs → nat_lt (get_or (expanded ss bs) k e).number n ≡ nat_lt (get_or bs k b).number n
numbered ss bs n k b e lt = ap (λ (x : Entry). nat_lt x.number n) (expanded_at ss bs k b e lt)

pub numbers_parted : (ss : List Settled) (bs : List Brief) (n : ℕ) → IsPartitionedBy (λ (e : Entry). nat_lt e.number n) (expanded ss bs) → IsPartitionedBy (λ (b : Brief). nat_lt b.number n) bs
numbers_parted ss bs n parted i j b le lt later =
    let count = expanded_length ss bs in
    let e = entry_of ss b in
    sym (numbered ss bs n i b e (omega arith)) ∙ parted i j e le (omega arith) (numbered ss bs n j b e lt ∙ later)

some_brief : (bs : List Brief) (k : ℕ) → k < length bs → Brief
some_brief [] k lt = absurd (omega arith)
some_brief (b ∷ bs) k lt = b

pub numbers_split : (ss : List Settled) (bs : List Brief) (n i : ℕ) → i ≤ length bs → IsPartitionPoint (λ (b : Brief). nat_lt b.number n ≡ true) (λ (b : Brief). nat_lt b.number n ≡ false) bs i → IsPartitionPoint (λ (e : Entry). nat_lt e.number n ≡ true) (λ (e : Entry). nat_lt e.number n ≡ false) (expanded ss bs) i
numbers_split ss bs n i within point =
    let count = expanded_length ss bs in (
      λ k e low lt. (let b = some_brief bs k (omega arith) in numbered ss bs n k b e (omega arith) ∙ point.0 k b low lt),
      λ k e low lt. (let b = some_brief bs k (omega arith) in numbered ss bs n k b e (omega arith) ∙ point.1 k b low (omega arith)),
    )

pub other_number : (ss : List Settled) (bs : List Brief) (i n : ℕ) (b : Brief) (e : Entry) → i < length bs → (get_or bs i b).number ≢ n → ((get_or (expanded ss bs) i e).number == n) ≡ false
other_number ss [] i n b e lt other = absurd (omega arith)
other_number ss (x ∷ bs) zero n b e lt other = grind (arith, nat_tests)
other_number ss (x ∷ bs) (suc i) n b e lt other = other_number ss bs i n b e (omega arith) other
