-- The lines of a history's commands, read back and acted on.
use Rattle.std.proofs.Common.{◌≡◌, ℕ, ◌+◌, ◌≤◌, false, List, [], ◌∷◌, ◌++◌, refl, sym, ap, subst, ◌∙◌, append-nil, append_assoc, arith}
use Rattle.std.specs.Prelude.{◌==◌, nat_lt, map, if◌then◌else◌}
use Rattle.std.specs.List.{All}
use Rattle.std.proofs.lemmas.List.Elements.{All-head, All-tail}
use Rattle.std.proofs.lemmas.List.Sums.{sum_by-append, sum_by-cons}
use Rattle.svc_types.specs.Keys.{IsKey}
use Rattle.svc_types.specs.Requests.{IsCommand}
use Rattle.svc_types.specs.declared.requests.Request.TheVariants as request
use Rattle.svc_world.specs.World.{Accepted, accepted}
use Rattle.svc_world.specs.Judging.{judged, next_reply, IsHistoryFrom, AreWellFormed, IsHistory}
use Rattle.svc_world.specs.Judging as judging
use Rattle.serv_line.specs.Replies.{text_of_reply}
use Rattle.serv_line.proofs.LineLemmas.{line_printed}
use Rattle.serv_engine.specs.Histories.{line_of_command, lines_of_history, record_length, lengths_of}
use Rattle.serv_machine.specs.History.{Store, Memory, Journal, History, Full, Fresh, by_judgement, decided, after_decision, Stand}
use Rattle.serv_machine.specs.Verdicts.{reply_to_request, history_after_request, text_of_verdict, verdict_by, verdict_to}
use Rattle.serv_top.specs.Lines.{IsPlain, onto_first, onto_ended, lines_of, ended_lines, Says, in_words, asks}
use Rattle.serv_machine.specs.Sayings.{Saying, Say, history_after_all, replies_to}
use Rattle.serv_machine.specs.Answering.{Answers}
use Rattle.serv_texts.specs.Extracts.{lines_of_commands}
use Rattle.serv_top.specs.Outcome.{HasRoomFor, replies_after, AreTakenOn}
use Rattle.serv_top.proofs.LineLemmas.{lines_one}

-- ---- the lines of a stream of them

printed_plain : (bytes : List ℕ) → All (λ b. 32 ≤ b) bytes → IsPlain bytes
printed_plain [] h = tt
printed_plain (b ∷ bytes) h =
    let head : 32 ≤ b = All-head (λ b. 32 ≤ b) b bytes h in
    let other : (b == 10) ≡ false = grind arith in
    (other, printed_plain bytes (All-tail (λ b. 32 ≤ b) b bytes h))

ended_first : (line bytes : List ℕ) → IsPlain line → ended_lines ((line ++ 10 ∷ []) ++ bytes) ≡ line ∷ ended_lines bytes
ended_first [] bytes plain = refl
ended_first (b ∷ line) bytes plain =
    ap (λ t. if t then [] ∷ ended_lines ((line ++ 10 ∷ []) ++ bytes) else onto_ended b (ended_lines ((line ++ 10 ∷ []) ++ bytes))) plain.0
    ∙ ap (onto_ended b) (ended_first line bytes plain.1)

lines_first : (line bytes : List ℕ) → IsPlain line → lines_of ((line ++ 10 ∷ []) ++ bytes) ≡ line ∷ lines_of bytes
lines_first [] bytes plain = refl
lines_first (b ∷ line) bytes plain =
    ap (λ t. if t then [] ∷ lines_of ((line ++ 10 ∷ []) ++ bytes) else onto_first b (lines_of ((line ++ 10 ∷ []) ++ bytes))) plain.0
    ∙ ap (onto_first b) (lines_first line bytes plain.1)

-- a key and a command that are well formed
abbrev IsFormed : Accepted → Type 0
IsFormed a = IsKey a.key × IsCommand a.command

line_plain : (a : Accepted) → IsFormed a → IsPlain (line_of_command a)
line_plain a formed = printed_plain (line_of_command a) (line_printed (request.Do a.key a.command) formed)

ended_formed : (h : List Accepted) → AreWellFormed h → ended_lines (lines_of_commands h) ≡ lines_of_history h
ended_formed [] formed = refl
ended_formed (a ∷ h) formed =
    ended_first (line_of_command a) (lines_of_commands h) (line_plain a (All-head IsFormed a h formed))
    ∙ ap (λ ls. line_of_command a ∷ ls) (ended_formed h (All-tail IsFormed a h formed))

lines_formed : (h : List Accepted) → AreWellFormed h → lines_of (lines_of_commands h) ≡ lines_of_history h
lines_formed [] formed = refl
lines_formed (a ∷ h) formed =
    lines_first (line_of_command a) (lines_of_commands h) (line_plain a (All-head IsFormed a h formed))
    ∙ ap (λ ls. line_of_command a ∷ ls) (lines_formed h (All-tail IsFormed a h formed))

pub ended_history : (h : List Accepted) → IsHistory h → ended_lines (lines_of_commands h) ≡ lines_of_history h
ended_history h is = ended_formed h is.formed

pub lines_history : (h : List Accepted) → IsHistory h → lines_of (lines_of_commands h) ≡ lines_of_history h
lines_history h is = lines_formed h is.formed

-- ---- what they say, and what is held after them

asked : List Accepted → List Saying
asked h = map (λ (a : Accepted). in_words (request.Do a.key a.command)) h

say_asked : (h : List Accepted) → AreWellFormed h → Say Says (lines_of_history h) (asked h)
unfolding asked
say_asked [] formed = tt
say_asked (a ∷ h) formed = (
  asks (request.Do a.key a.command) (All-head IsFormed a h formed) refl,
  say_asked h (All-tail IsFormed a h formed),
)

held : List Accepted → Store → History
held commands store = record { commands = commands; store = store }

is_fresh : (store : Store) (before more : List Accepted) (a : Accepted) → judged before a.key a.command ≡ judging.Fresh
    → HasRoomFor store (before ++ a ∷ more) → decided (record { commands = before; store = store }) a.key a.command ≡ Fresh
unfolding decided
is_fresh Memory before more a fresh room = ap (by_judgement Memory before (accepted a.key a.command)) fresh
is_fresh (Journal base limit) before more a fresh room =
    let sum : lengths_of (before ++ a ∷ more) ≡ lengths_of before + lengths_of (a ∷ more) = sum_by-append record_length before (a ∷ more) in
    let first : lengths_of (a ∷ more) ≡ record_length a + lengths_of more = sum_by-cons record_length a more in
    let within : base + lengths_of (before ++ a ∷ more) ≤ limit = room in
    let low : base + lengths_of before + record_length a ≤ limit = omega (arith, sum, first, within) in
    let not_full : nat_lt limit (base + lengths_of before + record_length a) ≡ false = grind arith in
    ap (by_judgement (Journal base limit) before (accepted a.key a.command)) fresh
    ∙ ap (λ t. if t then Full (base + lengths_of before) else Fresh) not_full

after_asked : (more before : List Accepted) (store : Store) → IsHistoryFrom before more → HasRoomFor store (before ++ more)
    → history_after_all (held before store) (asked more) ≡ held (before ++ more) store
unfolding asked held history_after_request
after_asked [] before store h room = ap (λ cs. held cs store) (sym (append-nil before))
after_asked (a ∷ more) before store h room =
    let next = ap (after_decision (held before store) a) (is_fresh store before more a h.0 room) in
    let more_room : HasRoomFor store ((before ++ a ∷ []) ++ more) = subst (HasRoomFor store) (sym (append_assoc before (a ∷ []) more)) room in
    ap (λ s. history_after_all s (asked more)) next
    ∙ after_asked more (before ++ a ∷ []) store h.1 more_room
    ∙ ap (λ cs. held cs store) (append_assoc before (a ∷ []) more)

replies_asked : (more before : List Accepted) (store : Store) → IsHistoryFrom before more → HasRoomFor store (before ++ more)
    → replies_to (held before store) (asked more) ≡ replies_after before more
unfolding asked held history_after_request reply_to_request verdict_to
replies_asked [] before store h room = refl
replies_asked (a ∷ more) before store h room =
    let fresh = is_fresh store before more a h.0 room in
    let next = ap (after_decision (held before store) a) fresh in
    let more_room : HasRoomFor store ((before ++ a ∷ []) ++ more) = subst (HasRoomFor store) (sym (append_assoc before (a ∷ []) more)) room in
    let first = ap (λ d. text_of_verdict (verdict_by (held before store) a.command d)) fresh in
    ap (λ text. text ++ replies_to (after_decision (held before store) a (decided (held before store) a.key a.command)) (asked more)) first
    ∙ ap (λ s. text_of_reply (next_reply before a.command) ++ replies_to s (asked more)) next
    ∙ ap (λ rest. text_of_reply (next_reply before a.command) ++ rest) (replies_asked more (before ++ a ∷ []) store h.1 more_room)

pub taken_on : (h : List Accepted) (s t : Stand) (written : List ℕ) → IsHistory h → s.history.commands ≡ [] → HasRoomFor s.history.store h
    → Answers (Say Says (lines_of_history h)) s t written → AreTakenOn h t written
unfolding held
taken_on h s t written is empty room answers =
    let same : answers.said ≡ asked h = lines_one (lines_of_history h) answers.said (asked h) answers.whole (say_asked h is.formed) in
    let from : s.history ≡ held [] s.history.store = ap (λ cs. held cs s.history.store) empty in
    record {
      commands_are =
          ap (λ (x : History). x.commands) (answers.moved.0 ∙ ap (history_after_all s.history) same ∙ ap (λ x. history_after_all x (asked h)) from ∙ after_asked h [] s.history.store is.fresh room);
      replies =
          answers.text ∙ ap (replies_to s.history) same ∙ ap (λ x. replies_to x (asked h)) from ∙ replies_asked h [] s.history.store is.fresh room;
    }
