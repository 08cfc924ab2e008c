-- What is said in order, and a command that is fresh, which is one more and the next one of a history that goes on.
use Rattle.std.proofs.Common.{◌≡◌, ◌+◌, ◌≤◌, List, [], ◌∷◌, ◌++◌, length, refl, sym, ap, ◌∙◌, ⊎_elim, arith, append-nil, append_assoc}
use Rattle.std.specs.Prelude.{Option, Some, None, option_map, unwrap_or, IsSomeAnd}
use Rattle.svc_types.specs.declared.requests.Request.{Request}
use Rattle.svc_types.specs.declared.requests.Request.TheVariants as request
use Rattle.svc_world.specs.World.{Accepted, accepted}
use Rattle.serv_machine.specs.History.{Store, History, Decision, Kept, Refused, Full, Fresh, after_decision, decided, Stand}
use Rattle.serv_machine.specs.Verdicts.{history_after_request, commands_in, IsAppending}
use Rattle.serv_machine.specs.Sayings.{Saying, Say, SaidFirst, reply_to, history_after, bound_of, commands_of, IsFresh, history_after_all, replies_to, bound_of_all, MovesAll, Starves}
use Rattle.serv_machine.proofs.NextLemmas.{next_is as it_is_next}

-- ---- one list after another

pub history_after_all-append : (h : History) (saids more : List Saying) → history_after_all h (saids ++ more) ≡ history_after_all (history_after_all h saids) more
history_after_all-append h [] more = refl
history_after_all-append h (said ∷ saids) more = history_after_all-append (history_after h said) saids more

pub replies_to-append : (h : History) (saids more : List Saying) → replies_to h (saids ++ more) ≡ replies_to h saids ++ replies_to (history_after_all h saids) more
replies_to-append h [] more = refl
replies_to-append h (said ∷ saids) more = ap (λ text. reply_to h said ++ text) (replies_to-append (history_after h said) saids more) ∙ sym (append_assoc (reply_to h said) _ _)

pub bound_of_all-append : (h : History) (saids more : List Saying) → bound_of_all h (saids ++ more) ≡ bound_of_all h saids + bound_of_all (history_after_all h saids) more
bound_of_all-append h [] more = omega arith
bound_of_all-append h (said ∷ saids) more =
    let rest = bound_of_all-append (history_after h said) saids more in
    omega (arith, rest)

pub moves_all-append : (saids more : List Saying) (s mid s' : Stand) → MovesAll saids s mid → MovesAll more mid s' → MovesAll (saids ++ more) s s'
moves_all-append saids more s mid s' first second = (
  second.0 ∙ (ap (λ h. history_after_all h more) first.0 ∙ sym (history_after_all-append s.history saids more)),
  (let both = bound_of_all-append s.history saids more in
      let same : bound_of_all mid.history more ≡ bound_of_all (history_after_all s.history saids) more = ap (λ h. bound_of_all h more) first.0 in
      let a : mid.steps ≤ s.steps + bound_of_all s.history saids = first.1 in
      let b : s'.steps ≤ mid.steps + bound_of_all mid.history more = second.1 in
      omega arith),
)

-- one thing more
pub replies_to-push : (h : History) (saids : List Saying) (said : Saying) → replies_to h (saids ++ said ∷ []) ≡ replies_to h saids ++ reply_to (history_after_all h saids) said
replies_to-push h saids said = replies_to-append h saids (said ∷ []) ∙ ap (λ text. replies_to h saids ++ text) (append-nil (reply_to (history_after_all h saids) said))

pub bound_of_all-push : (h : History) (saids : List Saying) (said : Saying) → bound_of_all h (saids ++ said ∷ []) ≡ bound_of_all h saids + bound_of (history_after_all h saids) said
bound_of_all-push h saids said =
    let both = bound_of_all-append h saids (said ∷ []) in
    omega (arith, both)

-- ---- where commands are kept stays the same

store_decided : (h : History) (a : Accepted) (d : Decision) → (after_decision h a d).store ≡ h.store
store_decided h a (Kept reply) = refl
store_decided h a (Refused why) = refl
store_decided h a (Full bytes) = refl
store_decided h a Fresh = refl

store_asked : (h : History) (asks : Option Request) → (unwrap_or (option_map (history_after_request h) asks) h).store ≡ h.store
unfolding history_after_request
store_asked h None = refl
store_asked h (Some (request.Do key c)) = store_decided h (accepted key c) (decided h key c)
store_asked h (Some (request.Ask q)) = refl

pub store_after : (h : History) (said : Saying) → (history_after h said).store ≡ h.store
store_after h said = store_asked h said.request

pub store_after_all : (h : History) (saids : List Saying) → (history_after_all h saids).store ≡ h.store
store_after_all h [] = refl
store_after_all h (said ∷ saids) = store_after_all (history_after h said) saids ∙ store_after h said

abbrev store_of : History → Store
store_of h = h.store

pub store_moves : (saids : List Saying) (s s' : Stand) → MovesAll saids s s' → s'.history.store ≡ s.history.store
store_moves saids s s' moved = ap store_of moved.0 ∙ store_after_all s.history saids

pub store_starves : (said : Saying) (s s' : Stand) → Starves said s s' → s'.history.store ≡ s.history.store
store_starves said s s' is = ⊎_elim (λ same. ap store_of same) (λ next. ap store_of next ∙ store_after s.history said) is.near

-- ---- a command that is fresh

appended_grows : (h : History) (asks : Option Request) → IsSomeAnd asks (IsAppending h) → (unwrap_or (option_map (history_after_request h) asks) h).commands ≡ h.commands ++ unwrap_or (option_map commands_in asks) []
unfolding history_after_request
appended_grows h None is = absurd is
appended_grows h (Some (request.Do key c)) is = ap (λ (d : Decision). (after_decision h (accepted key c) d).commands) is
appended_grows h (Some (request.Ask q)) is = absurd is

pub fresh_grows : (h : History) (said : Saying) → IsFresh h said → (history_after h said).commands ≡ h.commands ++ commands_of said
fresh_grows h said is = appended_grows h said.request is

-- it is one command
pub record IsSingle (list : List Accepted) : Type 0 where
  pub one : Accepted
  pub is : list ≡ one ∷ []

appended_one : (h : History) (asks : Option Request) → IsSomeAnd asks (IsAppending h) → IsSingle (unwrap_or (option_map commands_in asks) [])
appended_one h None is = absurd is
appended_one h (Some (request.Do key c)) is = record { one = accepted key c; is = refl }
appended_one h (Some (request.Ask q)) is = absurd is

pub fresh_one : (h : History) (said : Saying) → IsFresh h said → IsSingle (commands_of said)
fresh_one h said is = appended_one h said.request is

-- where one command and others follow, it is the next
pub next_is : (kept list more rest : List Accepted) (next : Accepted) → IsSingle list → (kept ++ list) ++ more ≡ kept ++ next ∷ rest → next ∷ [] ≡ list
next_is kept list more rest next only is =
    let same : next ≡ only.one = it_is_next kept more rest only.one next (ap (λ x. (kept ++ x) ++ more) (sym only.is) ∙ is) in
    ap (λ x. x ∷ []) same ∙ sym only.is

-- where nothing follows
pub next_alone : (kept list rest : List Accepted) (next : Accepted) → IsSingle list → kept ++ list ≡ kept ++ next ∷ rest → next ∷ [] ≡ list
next_alone kept list rest next only is = next_is kept list [] rest next only (append-nil (kept ++ list) ∙ is)

-- ---- what things say

pub say-append : {A : Type 0} (Says : A → Saying → Type 0) (items more : List A) (saids others : List Saying) → Say Says items saids → Say Says more others → Say Says (items ++ more) (saids ++ others)
say-append Says [] more [] others say then = then
say-append Says [] more (said ∷ saids) others say then = absurd say
say-append Says (item ∷ items) more [] others say then = absurd say
say-append Says (item ∷ items) more (said ∷ saids) others say then = (say.0, say-append Says items more saids others say.1 then)

pub say-push : {A : Type 0} (Says : A → Saying → Type 0) (items : List A) (saids : List Saying) (item : A) (said : Saying) → Say Says items saids → Says item said → Say Says (items ++ item ∷ []) (saids ++ said ∷ [])
say-push Says items saids item said say last = say-append Says items (item ∷ []) saids (said ∷ []) say (last, tt)

-- where each says one thing
pub say_one : {A : Type 0} (Says : A → Saying → Type 0) → ((item : A) (said other : Saying) → Says item said → Says item other → said ≡ other) → (items : List A) (saids others : List Saying) → Say Says items saids → Say Says items others → saids ≡ others
say_one Says one [] [] [] p q = refl
say_one Says one [] [] (x ∷ others) p q = absurd q
say_one Says one [] (said ∷ saids) others p q = absurd p
say_one Says one (item ∷ items) [] others p q = absurd p
say_one Says one (item ∷ items) (said ∷ saids) [] p q = absurd q
say_one Says one (item ∷ items) (said ∷ saids) (x ∷ others) p q =
    let first : said ≡ x = one item said x p.0 q.0 in
    let rest : saids ≡ others = say_one Says one items saids others p.1 q.1 in
    cc

pub said_more : {A : Type 0} (Says : A → Saying → Type 0) (items more : List A) (saids : List Saying) → SaidFirst Says items saids → SaidFirst Says (items ++ more) saids
said_more Says items more saids is = record { acted = is.acted; others = is.others ++ more; items_are = ap (λ l. l ++ more) is.items_are ∙ append_assoc is.acted is.others more; say = is.say }

pub said_all : {A : Type 0} (Says : A → Saying → Type 0) (items : List A) (saids : List Saying) → Say Says items saids → SaidFirst Says items saids
said_all Says items saids say = record { acted = items; others = []; items_are = sym (append-nil items); say = say }

module _ {A : Type 0} (Says : A → Saying → Type 0) where
  pub say_length : (xs : List A) (ms : List Saying) → Say Says xs ms → length ms ≡ length xs
  say_length [] [] p = refl
  say_length [] (m ∷ ms) p = absurd p
  say_length (x ∷ xs) [] p = absurd p
  say_length (x ∷ xs) (m ∷ ms) p = let rest = say_length xs ms p.1 in omega (arith, rest)

  -- those of the first things come first
  pub say_parted : (xs ys : List A) (saids : List Saying) → Say Says (xs ++ ys) saids → (front : List Saying) × (back : List Saying) × Say Says xs front × (saids ≡ front ++ back)
  say_parted [] ys saids all = ([], saids, tt, refl)
  say_parted (x ∷ xs) ys [] all = absurd all
  say_parted (x ∷ xs) ys (m ∷ saids) all = let p = say_parted xs ys saids all.1 in (m ∷ p.0, p.1, (all.0, p.2), ap (λ l. m ∷ l) p.3)

  pub said_none : (xs : List A) → SaidFirst Says xs []
  said_none xs = record { acted = []; others = xs; items_are = refl; say = tt }

  pub said_after : (xs ys : List A) (front ms : List Saying) → Say Says xs front → SaidFirst Says ys ms → SaidFirst Says (xs ++ ys) (front ++ ms)
  said_after xs ys front ms first is = record {
    acted = xs ++ is.acted;
    others = is.others;
    items_are = ap (λ l. xs ++ l) is.items_are ∙ sym (append_assoc xs is.acted is.others);
    say = say-append Says xs is.acted front ms first is.say;
  }
