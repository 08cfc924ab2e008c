-- What is decided about a request, and the text of it.
use Rattle.std.specs.Prelude.{ℕ, List, [], Option, Some, None, ⊤, ◌≡◌, ◌∷◌}
use Rattle.svc_types.specs.declared.requests.Command.{Command}
use Rattle.svc_types.specs.declared.requests.Request.{Request}
use Rattle.svc_types.specs.declared.requests.Request.TheVariants as request
use Rattle.svc_types.specs.declared.replies.Refusal.{Refusal}
use Rattle.svc_world.specs.declared.answer.Answer.{Answer}
use Rattle.svc_world.specs.Judging.{next_reply}
use Rattle.svc_world.specs.Answers.{answer_to, query_refusal}
use Rattle.serv_line.specs.Replies.{text_of_reply, text_of_full}
use Rattle.serv_line.specs.Refusals.{text_of_refusal}
use Rattle.serv_report.specs.AnswerTexts.{IsSpellable, text_of_answer}
use Rattle.serv_machine.specs.declared.verdict.Verdict.{Verdict}
use Rattle.serv_machine.specs.declared.verdict.Verdict.TheVariants as verdict
use Rattle.serv_machine.specs.History.{History, Decision, Kept, Refused, Full, Fresh, decided, after_decision}
use Rattle.svc_types.specs.declared.replies.Reply.{Reply}
use Rattle.svc_core.specs.Bound.{step_bound, query_bound}
use Rattle.svc_world.specs.World.{Accepted, accepted, world}
use Rattle.serv_disk.specs.Faults.{HasRisen}
use Rattle.serv_machine.specs.declared.faults.ActFault.{ActFault}
use Rattle.serv_machine.specs.declared.faults.ActFault.TheVariants as fault

-- on a command: the reply that was given to it, the first rule that refuses it, that the journal is full, or the reply to
-- the next command
abbrev pub verdict_by : History → Command → Decision → Verdict
verdict_by h c (Kept reply) = verdict.Reply reply
verdict_by h c (Refused why) = verdict.Refused why
verdict_by h c (Full bytes) = verdict.Full bytes
verdict_by h c Fresh = verdict.Reply (next_reply h.commands c)

-- on a query: the first rule that refuses it, or its answer; one that is not refused has an answer
abbrev pub verdict_on : Option Refusal → Option Answer → Option Verdict
verdict_on (Some why) answer = Some (verdict.Refused why)
verdict_on None (Some answer) = Some (verdict.Answer answer)
verdict_on None None = None

unfoldable pub verdict_to : History → Request → Option Verdict
verdict_to h (request.Do key c) = Some (verdict_by h c (decided h key c))
verdict_to h (request.Ask q) = verdict_on (query_refusal h.commands q) (answer_to h.commands q)

-- ---- the text of it

abbrev pub text_of_verdict : Verdict → List ℕ
text_of_verdict (verdict.Reply reply) = text_of_reply reply
text_of_verdict (verdict.Refused why) = text_of_refusal why
text_of_verdict (verdict.Full bytes) = text_of_full bytes
text_of_verdict (verdict.Answer answer) = text_of_answer answer

abbrev pub text_in : Option Verdict → List ℕ
text_in None = []
text_in (Some v) = text_of_verdict v

-- an answer can be spelled
abbrev pub IsFit : Verdict → Type 0
IsFit (verdict.Answer answer) = IsSpellable answer
IsFit other = ⊤

-- ---- What a machine says to a request, what it holds after it, and how many steps it may take.

-- ---- a command

-- the reply by what is decided; one that is not accepted, and was not before, has none
abbrev pub IsReplyBy : History → Command → Decision → Reply → Type 0
IsReplyBy h c (Kept reply) r = r ≡ reply
IsReplyBy h c Fresh r = r ≡ next_reply h.commands c
IsReplyBy h c other r = ⊥

-- nothing was said of the command before, and no rule refuses it: there is room for it, or there is none
abbrev pub IsUnsaid : Decision → Type 0
IsUnsaid (Full bytes) = ⊤
IsUnsaid Fresh = ⊤
IsUnsaid other = ⊥

-- a fault by what is decided; of the disk only where its count has risen, want of memory only of a command of which nothing
-- was said
abbrev pub IsFaultBy : Decision → ℕ → ℕ → ActFault → Type 0
IsFaultBy d old new (fault.Refused why) = d ≡ Refused why
IsFaultBy d old new (fault.Full bytes) = d ≡ Full bytes
IsFaultBy d old new fault.DiskFault = (d ≡ Fresh) × HasRisen old new
IsFaultBy d old new fault.OutOfMemory = IsUnsaid d

-- ---- the text of the reply

unfoldable pub reply_to_request : History → Request → List ℕ
reply_to_request h r = text_in (verdict_to h r)

-- ---- what is held after it

unfoldable pub history_after_request : History → Request → History
history_after_request h (request.Do key c) = after_decision h (accepted key c) (decided h key c)
history_after_request h (request.Ask q) = h

-- ---- the steps of it

-- at most those of the month that is asked for, and of those after it
unfoldable pub bound_of_request : History → Request → ℕ
bound_of_request h (request.Do key c) = step_bound h.commands key c
bound_of_request h (request.Ask q) = query_bound (world h.commands) q

-- ---- where it stops

-- the command that a request brings, if it is one
abbrev pub commands_in : Request → List Accepted
commands_in (request.Do key c) = accepted key c ∷ []
commands_in (request.Ask q) = []

-- a command that is fresh, and for which there is room, is appended to a journal, and a query is not
abbrev pub IsAppending : History → Request → Type 0
IsAppending h (request.Do key c) = decided h key c ≡ Fresh
IsAppending h (request.Ask q) = ⊥
