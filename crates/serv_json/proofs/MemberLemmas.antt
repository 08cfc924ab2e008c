-- An object that has exactly some members is the one that is made of them.
use Rattle.std.proofs.Common.{◌≡◌, ℕ, suc, List, [], ◌∷◌, length, Option, Some, None, Bool, true, false, Ordering, Less, Equal, Greater, nat_cmp, refl, sym, ap, subst, ◌∙◌, arith}
use Rattle.std.specs.Cmp.Lexicographic.{slice_cmp}
use Rattle.std.specs.Prelude.{option_map, option_and_then, not, ◌&&◌, bytes_eq}
use Rattle.std.proofs.lemmas.Cmp.{nat_list_cmp_total}
use Rattle.std.proofs.lemmas.Map.Text.{is_eq-slice_cmp}
use Rattle.std.proofs.lemmas.Slice.Eq.{bytes_eq-Decides}
use Rattle.std.specs.Ordering.{match_ordering, is_eq}
use Rattle.json.specs.Json as json
use Rattle.json.specs.Lex.{tokens}
use Rattle.serde_json.specs.Data.{Data, null, boolean, number, string, array, object, Items, Members, no_members, member, put, Num}
use Rattle.serde_json.specs.Events.{members_len}
use Rattle.serde_json.specs.Find.{get_member}
use Rattle.serde_json.specs.Read.{read, of_json, of_items, of_members, number_of, max_depth}
use Rattle.serde_json.proofs.Views.{get_member-put, get_member-put_other}
use Rattle.svc_types.specs.declared.account.Designation.TheVariants as over
use Rattle.svc_types.specs.declared.requests.Command.{Command}
use Rattle.svc_types.specs.declared.requests.Command.TheVariants as command
use Rattle.svc_types.specs.declared.requests.Request.{Request}
use Rattle.svc_types.specs.declared.requests.Request.TheVariants as request
use Rattle.serv_json.specs.Bodies.{Member, members_of, put_all, Asks}
use Rattle.serv_json.specs.FieldsRead.{HasEach, HasExactly, HasBody}

-- ---- members in the order of their names

-- a name stands before each of these
abbrev IsBefore : List ℕ → Members → Type 0
IsBefore k no_members = Unit {0}
IsBefore k (member l e ms) = (slice_cmp nat_cmp k l ≡ Less) × IsBefore k ms

abbrev InOrder : Members → Type 0
InOrder no_members = Unit {0}
InOrder (member l e ms) = IsBefore l ms × InOrder ms

before_too : (k l : List ℕ) (ms : Members) → slice_cmp nat_cmp k l ≡ Less → IsBefore l ms → IsBefore k ms
before_too k l no_members h b = tt
before_too k l (member n e ms) h b = (nat_list_cmp_total.trans k l n h b.0, before_too k l ms h b.1)

not_there : (k : List ℕ) (ms : Members) → IsBefore k ms → get_member k ms ≡ None
not_there k no_members b = refl
not_there k (member l e ms) b = rw b.0 (not_there k ms b.1)

same_name : (k l : List ℕ) → slice_cmp nat_cmp k l ≡ Equal → k ≡ l
same_name k l e = (bytes_eq-Decides k l).0 (sym (is_eq-slice_cmp k l) ∙ ap is_eq e)

turned : (k l : List ℕ) → slice_cmp nat_cmp k l ≡ Greater → slice_cmp nat_cmp l k ≡ Less
turned k l e = nat_list_cmp_total.antisymm l k ∙ rw e refl

-- ---- what is put stays in order, and what is read is in order

put_before_at : (l k n : List ℕ) (d e : Data) (ms : Members) (o : Ordering) → slice_cmp nat_cmp l k ≡ Less → IsBefore l (member n e ms) → IsBefore l (put k d ms)
    → IsBefore l (match_ordering o (member k d (member n e ms)) (member n d ms) (member n e (put k d ms)))
put_before_at l k n d e ms Less h b rest = (h, b)
put_before_at l k n d e ms Equal h b rest = b
put_before_at l k n d e ms Greater h b rest = (b.0, rest)

put_before : (l k : List ℕ) (d : Data) (ms : Members) → slice_cmp nat_cmp l k ≡ Less → IsBefore l ms → IsBefore l (put k d ms)
put_before l k d no_members h b = (h, tt)
put_before l k d (member n e ms) h b = put_before_at l k n d e ms (slice_cmp nat_cmp k n) h b (put_before l k d ms h b.1)

put_order_at : (k n : List ℕ) (d e : Data) (ms : Members) (o : Ordering) → slice_cmp nat_cmp k n ≡ o → InOrder (member n e ms) → InOrder (put k d ms)
    → InOrder (match_ordering o (member k d (member n e ms)) (member n d ms) (member n e (put k d ms)))
put_order_at k n d e ms Less is h rest = ((is, before_too k n ms is h.0), h)
put_order_at k n d e ms Equal is h rest = h
put_order_at k n d e ms Greater is h rest = (put_before n k d ms (turned k n is) h.0, rest)

put_order : (k : List ℕ) (d : Data) (ms : Members) → InOrder ms → InOrder (put k d ms)
put_order k d no_members h = (tt, tt)
put_order k d (member n e ms) h = put_order_at k n d e ms (slice_cmp nat_cmp k n) refl h (put_order k d ms h.1)

members_order_at : (k : List ℕ) (js : json.Members) (found ms : Members) (o : Option Data) → ((d : Data) → of_members js (put k d found) ≡ Some ms → InOrder ms)
    → option_and_then (λ d. of_members js (put k d found)) o ≡ Some ms → InOrder ms
members_order_at k js found ms None rest e = absurd cc
members_order_at k js found ms (Some d) rest e = rest d e

members_order : (js : json.Members) (found ms : Members) → InOrder found → of_members js found ≡ Some ms → InOrder ms
members_order json.no_members found ms h e = let same : found ≡ ms = cc in subst InOrder same h
members_order (json.member k j js) found ms h e =
    members_order_at k js found ms (of_json j) (λ d is. members_order js (put k d found) ms (put_order k d found h) is) e

no_number : (o : Option Num) (ms : Members) → option_map number o ≡ Some (object ms) → InOrder ms
no_number None ms e = absurd cc
no_number (Some n) ms e = absurd cc

no_array : (o : Option Items) (ms : Members) → option_map array o ≡ Some (object ms) → InOrder ms
no_array None ms e = absurd cc
no_array (Some n) ms e = absurd cc

its_members : (o : Option Members) (ms : Members) → option_map object o ≡ Some (object ms) → o ≡ Some ms
its_members None ms e = absurd cc
its_members (Some found) ms e = cc

json_order : (j : json.Json) (ms : Members) → of_json j ≡ Some (object ms) → InOrder ms
json_order json.null ms e = absurd cc
json_order (json.boolean b) ms e = absurd cc
json_order (json.number s) ms e = no_number (number_of s) ms e
json_order (json.string s) ms e = absurd cc
json_order (json.array js) ms e = no_array (of_items js) ms e
json_order (json.object js) ms e = members_order js no_members ms tt (its_members (of_members js no_members) ms e)

read_order_at : (o : Option json.Json) (ms : Members) → option_and_then of_json o ≡ Some (object ms) → InOrder ms
read_order_at None ms e = absurd cc
read_order_at (Some j) ms e = json_order j ms e

read_order : (text : List ℕ) (ms : Members) → read text ≡ Some (object ms) → InOrder ms
read_order text ms e = read_order_at (option_and_then (λ p. json.if_last p.0 p.1) (json.value max_depth (tokens text))) ms e

-- ---- a member taken out, and put back

removed : List ℕ → Members → Members
removed k no_members = no_members
removed k (member l e ms) = match_ordering (slice_cmp nat_cmp k l) (member l e ms) ms (member l e (removed k ms))

put_first : (k : List ℕ) (x : Data) (ms : Members) → IsBefore k ms → put k x ms ≡ member k x ms
put_first k x no_members b = refl
put_first k x (member l e ms) b = rw b.0

removed_back_at : (k l : List ℕ) (x e : Data) (ms : Members) (o : Ordering) → slice_cmp nat_cmp k l ≡ o → InOrder (member l e ms)
    → match_ordering o (get_member k ms) (Some e) (get_member k ms) ≡ Some x → (get_member k ms ≡ Some x → put k x (removed k ms) ≡ ms)
    → put k x (match_ordering o (member l e ms) ms (member l e (removed k ms))) ≡ member l e ms
removed_back_at k l x e ms Less is h found rest = let none = not_there k ms (before_too k l ms is h.0) in absurd cc
removed_back_at k l x e ms Equal is h found rest =
    let name : k ≡ l = same_name k l is in
    let before : IsBefore k ms = let P : List ℕ → Type 0 = λ n. IsBefore n ms in subst P (sym name) h.0 in
    let first = put_first k x ms before in
    let value : e ≡ x = cc in
    cc
removed_back_at k l x e ms Greater is h found rest = rw is (ap (member l e) (rest found))

removed_back : (k : List ℕ) (x : Data) (ms : Members) → InOrder ms → get_member k ms ≡ Some x → put k x (removed k ms) ≡ ms
unfolding removed
removed_back k x no_members h found = absurd cc
removed_back k x (member l e ms) h found = removed_back_at k l x e ms (slice_cmp nat_cmp k l) refl h found (removed_back k x ms h.1)

removed_before_at : (n k l : List ℕ) (e : Data) (ms : Members) (o : Ordering) → IsBefore n (member l e ms) → IsBefore n (removed k ms)
    → IsBefore n (match_ordering o (member l e ms) ms (member l e (removed k ms)))
removed_before_at n k l e ms Less b rest = b
removed_before_at n k l e ms Equal b rest = b.1
removed_before_at n k l e ms Greater b rest = (b.0, rest)

removed_before : (n k : List ℕ) (ms : Members) → IsBefore n ms → IsBefore n (removed k ms)
unfolding removed
removed_before n k no_members b = tt
removed_before n k (member l e ms) b = removed_before_at n k l e ms (slice_cmp nat_cmp k l) b (removed_before n k ms b.1)

removed_order_at : (k l : List ℕ) (e : Data) (ms : Members) (o : Ordering) → InOrder (member l e ms) → InOrder (removed k ms)
    → InOrder (match_ordering o (member l e ms) ms (member l e (removed k ms)))
removed_order_at k l e ms Less h rest = h
removed_order_at k l e ms Equal h rest = h.1
removed_order_at k l e ms Greater h rest = (removed_before l k ms h.0, rest)

removed_order : (k : List ℕ) (ms : Members) → InOrder ms → InOrder (removed k ms)
unfolding removed
removed_order k no_members h = tt
removed_order k (member l e ms) h = removed_order_at k l e ms (slice_cmp nat_cmp k l) h (removed_order k ms h.1)

removed_count_at : (k l : List ℕ) (x e : Data) (ms : Members) (o : Ordering) → slice_cmp nat_cmp k l ≡ o → InOrder (member l e ms)
    → match_ordering o (get_member k ms) (Some e) (get_member k ms) ≡ Some x → (get_member k ms ≡ Some x → suc (members_len (removed k ms)) ≡ members_len ms)
    → suc (members_len (match_ordering o (member l e ms) ms (member l e (removed k ms)))) ≡ suc (members_len ms)
removed_count_at k l x e ms Less is h found rest = let none = not_there k ms (before_too k l ms is h.0) in absurd cc
removed_count_at k l x e ms Equal is h found rest = refl
removed_count_at k l x e ms Greater is h found rest = ap suc (rest found)

removed_count : (k : List ℕ) (x : Data) (ms : Members) → InOrder ms → get_member k ms ≡ Some x → suc (members_len (removed k ms)) ≡ members_len ms
unfolding removed
removed_count k x no_members h found = absurd cc
removed_count k x (member l e ms) h found = removed_count_at k l x e ms (slice_cmp nat_cmp k l) refl h found (removed_count k x ms h.1)

others_stay : (n k : List ℕ) (x : Data) (ms : Members) → InOrder ms → get_member k ms ≡ Some x → (n ≡ k → ⊥) → get_member n (removed k ms) ≡ get_member n ms
others_stay n k x ms h found other = sym (get_member-put_other n k x (removed k ms) other) ∙ ap (get_member n) (removed_back k x ms h found)

-- ---- names that differ

abbrev IsApart : List ℕ → List Member → Type 0
IsApart k [] = Unit {0}
IsApart k (m ∷ members) = (k ≡ m.0 → ⊥) × IsApart k members

abbrev AreApart : List Member → Type 0
AreApart [] = Unit {0}
AreApart (m ∷ members) = IsApart m.0 members × AreApart members

each_left : (k : List ℕ) (x : Data) (ms : Members) (rest : List Member) → InOrder ms → get_member k ms ≡ Some x → IsApart k rest → HasEach (object ms) rest → HasEach (object (removed k ms)) rest
each_left k x ms [] h found a e = tt
each_left k x ms (m ∷ rest) h found a e = (others_stay m.0 k x ms h found (λ same. a.0 (sym same)) ∙ e.0, each_left k x ms rest h found a.1 e.1)

same_members : (members : List Member) (ms : Members) → InOrder ms → AreApart members → HasEach (object ms) members → members_len ms ≡ length members → ms ≡ put_all members
same_members [] no_members h a e n = refl
same_members [] (member l d ms) h a e n = absurd (omega arith)
same_members (m ∷ rest) ms h a e n =
    let count = removed_count m.0 m.1 ms h e.0 in
    let left : removed m.0 ms ≡ put_all rest =
    same_members rest (removed m.0 ms) (removed_order m.0 ms h) a.1 (each_left m.0 m.1 ms rest h e.0 a.0 e.1) (omega arith) in
    sym (removed_back m.0 m.1 ms h e.0) ∙ ap (put m.0 m.1) left

absent : (k : List ℕ) (members : List Member) → IsApart k members → get_member k (put_all members) ≡ None
absent k [] a = refl
absent k (m ∷ members) a = get_member-put_other k m.0 m.1 (put_all members) a.0 ∙ absent k members a.1

put_count_at : (k l : List ℕ) (d e : Data) (ms : Members) (o : Ordering) → match_ordering o (get_member k ms) (Some e) (get_member k ms) ≡ None
    → (get_member k ms ≡ None → members_len (put k d ms) ≡ suc (members_len ms))
    → members_len (match_ordering o (member k d (member l e ms)) (member l d ms) (member l e (put k d ms))) ≡ suc (suc (members_len ms))
put_count_at k l d e ms Less none rest = refl
put_count_at k l d e ms Equal none rest = absurd cc
put_count_at k l d e ms Greater none rest = ap suc (rest none)

put_count : (k : List ℕ) (d : Data) (ms : Members) → get_member k ms ≡ None → members_len (put k d ms) ≡ suc (members_len ms)
put_count k d no_members none = refl
put_count k d (member l e ms) none = put_count_at k l d e ms (slice_cmp nat_cmp k l) none (put_count k d ms)

all_count : (members : List Member) → AreApart members → members_len (put_all members) ≡ length members
all_count [] a = refl
all_count (m ∷ members) a = put_count m.0 m.1 (put_all members) (absent m.0 members a.0) ∙ ap suc (all_count members a.1)

has_more : (k : List ℕ) (d : Data) (ms : Members) (rest : List Member) → IsApart k rest → HasEach (object ms) rest → HasEach (object (put k d ms)) rest
has_more k d ms [] a e = tt
has_more k d ms (m ∷ rest) a e = (get_member-put_other m.0 k d ms (λ same. a.0 (sym same)) ∙ e.0, has_more k d ms rest a.1 e.1)

has_all : (members : List Member) → AreApart members → HasEach (object (put_all members)) members
has_all [] a = tt
has_all (m ∷ members) a = (get_member-put m.0 m.1 (put_all members), has_more m.0 m.1 (put_all members) members a.0 (has_all members a.1))

-- ---- the names of a command's members differ

is_apart : List ℕ → List Member → Bool
is_apart k [] = true
is_apart k (m ∷ members) = not (bytes_eq k m.0) && is_apart k members

are_apart : List Member → Bool
are_apart [] = true
are_apart (m ∷ members) = is_apart m.0 members && are_apart members

both : (a b : Bool) → a && b ≡ true → (a ≡ true) × (b ≡ true)
both true b h = (refl, h)
both false b h = absurd cc

differ : (xs ys : List ℕ) (b : Bool) → bytes_eq xs ys ≡ b → not b ≡ true → xs ≡ ys → ⊥
differ xs ys true e h same = absurd cc
differ xs ys false e h same = let t : bytes_eq xs ys ≡ true = (bytes_eq-Decides xs ys).1 same in absurd cc

is_apart_told : (k : List ℕ) (members : List Member) → is_apart k members ≡ true → IsApart k members
unfolding is_apart
is_apart_told k [] h = tt
is_apart_told k (m ∷ members) h =
    let parts = both (not (bytes_eq k m.0)) (is_apart k members) h in
    (differ k m.0 (bytes_eq k m.0) refl parts.0, is_apart_told k members parts.1)

are_apart_told : (members : List Member) → are_apart members ≡ true → AreApart members
unfolding are_apart
are_apart_told [] h = tt
are_apart_told (m ∷ members) h =
    let parts = both (is_apart m.0 members) (are_apart members) h in
    (is_apart_told m.0 members parts.0, are_apart_told members parts.1)

names_differ : (key : List ℕ) (c : Command) → are_apart (members_of key c) ≡ true
unfolding are_apart is_apart
names_differ key (command.Day d) = refl
names_differ key (command.Board l t) = refl
names_differ key (command.Pay l d c over.Regular) = refl
names_differ key (command.Pay l d c over.Principal) = refl
names_differ key (command.Pay l d c over.Escrow) = refl
names_differ key (command.Curtail l d c) = refl
names_differ key (command.Payoff l d c) = refl
names_differ key (command.Deposit l d c) = refl
names_differ key (command.Disburse l d c line) = refl
names_differ key (command.Refund l c) = refl
names_differ key (command.Waive l c) = refl
names_differ key (command.Reverse l n) = refl
names_differ key (command.Line l line kind month every c) = refl
names_differ key (command.Drop l line) = refl
names_differ key (command.Analyse l p) = refl
names_differ key (command.Close m) = refl
names_differ key (command.Remit m) = refl
names_differ key (command.Retype l m kind) = refl

-- ---- a JSON value that has exactly a command's members is the command's object

whole : (d : Data) (members : List Member) (text : List ℕ) → AreApart members → read text ≡ Some d → HasExactly d members → d ≡ object (put_all members)
whole null members text a e h = let count = h.count in absurd cc
whole (boolean b) members text a e h = let count = h.count in absurd cc
whole (number n) members text a e h = let count = h.count in absurd cc
whole (string s) members text a e h = let count = h.count in absurd cc
whole (array items) members text a e h = let count = h.count in absurd cc
whole (object ms) members text a e h =
    let count = h.count in
    let many : members_len ms ≡ length members = cc in
    ap object (same_members members ms (read_order text ms e) a h.each many)

pub asks : (d : Data) (text : List ℕ) (r : Request) → read text ≡ Some d → HasBody d r → Asks d r
asks d text (request.Do key c) e h = whole d (members_of key c) text (are_apart_told (members_of key c) (names_differ key c)) e h
asks d text (request.Ask q) e h = h

pub asked : (d : Data) (r : Request) → Asks d r → HasBody d r
asked d (request.Do key c) h =
    let members : List Member = members_of key c in
    let apart : AreApart members = are_apart_told members (names_differ key c) in
    let P : Data → Type 0 = λ x. HasExactly x members in
    subst P (sym h) (record { count = ap Some (all_count members apart); each = has_all members apart })
asked d (request.Ask q) h = h
