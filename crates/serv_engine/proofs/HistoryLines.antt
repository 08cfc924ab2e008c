-- The lines of histories.
use Rattle.std.proofs.Common.{◌≡◌, ℕ, ◌≤◌, List, [], ◌∷◌, ◌++◌, length, refl, sym, ap, subst, ◌∙◌, arith, length-append}
use Rattle.std.specs.Prelude.{map, Some}
use Rattle.std.proofs.lemmas.List.{map_push}
use Rattle.std.proofs.lemmas.List.Elements.{All-head, All-tail, All-pop}
use Rattle.svc_types.specs.declared.requests.Command.{Command}
use Rattle.svc_types.specs.declared.requests.Request.TheVariants as request
use Rattle.svc_types.specs.Keys.{IsKey}
use Rattle.svc_types.specs.Requests.{IsCommand}
use Rattle.svc_forms.specs.Values.{text_of_value}
use Rattle.svc_forms.specs.Forms.{word_of, form_of, values_of}
use Rattle.svc_world.specs.World.{Accepted, accepted}
use Rattle.svc_world.specs.Judging.{AreWellFormed, IsHistoryFrom, IsHistory}
use Rattle.serv_line.specs.Lines.{joined, line_of}
use Rattle.serv_line.proofs.LineLemmas.{line_short, same_line}
use Rattle.serv_journal.specs.Format.{IsLine, AreLines}
use Rattle.serv_engine.specs.Histories.{line_of_command, lines_of_history}

-- ---- one command

has_some : (key : List ℕ) (c : Command) → IsKey key → 1 ≤ length (line_of (request.Do key c))
unfolding line_of
has_some key c k =
    omega (arith, k.low, length-append key (32 ∷ joined (word_of (form_of c) ∷ map text_of_value (values_of c))))

pub command_is_line : (a : Accepted) → IsKey a.key → IsCommand a.command → IsLine (line_of_command a)
command_is_line a k c = record { some = has_some a.key a.command k; fits = line_short (request.Do a.key a.command) (k, c) }

-- the same of a line that was written
pub written_is_line : (line key key' : List ℕ) (c : Command) → key' ≡ key → IsKey key' → IsCommand c → line ≡ line_of_command (accepted key c) → IsLine line
written_is_line line key key' c same k formed is = subst IsLine (sym is) (command_is_line (accepted key c) (subst IsKey same k) formed)

same_parts : (a b : Accepted) → a.key ≡ b.key → a.command ≡ b.command → a ≡ b
same_parts a b keys commands = ap (λ k. accepted k a.command) keys ∙ ap (λ c. accepted b.key c) commands

pub same_command_line : (a b : Accepted) → IsKey a.key → IsCommand a.command → IsKey b.key → IsCommand b.command → line_of_command a ≡ line_of_command b → a ≡ b
same_command_line a b ka ca kb cb is =
    let same : request.Do a.key a.command ≡ request.Do b.key b.command = same_line (request.Do a.key a.command) (request.Do b.key b.command) (ka, ca) (kb, cb) is in
    let keys : a.key ≡ b.key = cc in
    let commands : a.command ≡ b.command = cc in
    same_parts a b keys commands

-- ---- all of them

abbrev IsWell : Accepted → Type 0
IsWell a = IsKey a.key × IsCommand a.command

pub formed_head : (a : Accepted) (h : List Accepted) → AreWellFormed (a ∷ h) → IsKey a.key × IsCommand a.command
formed_head a h formed = All-head IsWell a h formed

pub formed_tail : (a : Accepted) (h : List Accepted) → AreWellFormed (a ∷ h) → AreWellFormed h
formed_tail a h formed = All-tail IsWell a h formed

pub are_lines : (h : List Accepted) → AreWellFormed h → AreLines (lines_of_history h)
are_lines [] formed = tt
are_lines (a ∷ h) formed = let here = formed_head a h formed in (command_is_line a here.0 here.1, are_lines h (formed_tail a h formed))

pub lines_push : (h : List Accepted) (a : Accepted) → lines_of_history (h ++ a ∷ []) ≡ lines_of_history h ++ line_of_command a ∷ []
lines_push h a = map_push line_of_command h a

cons_both : (a b : List ℕ) (h k : List (List ℕ)) → a ∷ h ≡ b ∷ k → (a ≡ b) × (h ≡ k)
cons_both a b h k is = (cc, cc)

pub same_history : (h k : List Accepted) → AreWellFormed h → AreWellFormed k → lines_of_history h ≡ lines_of_history k → h ≡ k
same_history [] [] fh fk is = refl
same_history [] (b ∷ k) fh fk is = absurd (cc)
same_history (a ∷ h) [] fh fk is = absurd (cc)
same_history (a ∷ h) (b ∷ k) fh fk is =
    let parts = cons_both (line_of_command a) (line_of_command b) (lines_of_history h) (lines_of_history k) is in
    let ha = formed_head a h fh in
    let hb = formed_head b k fk in
    let first = same_command_line a b ha.0 ha.1 hb.0 hb.1 parts.0 in
    let rest = same_history h k (formed_tail a h fh) (formed_tail b k fk) parts.1 in
    ap (λ x. x ∷ h) first ∙ ap (λ x. b ∷ x) rest

-- ---- a history and one command more

from_front : (done h : List Accepted) (a : Accepted) → IsHistoryFrom done (h ++ a ∷ []) → IsHistoryFrom done h
from_front done [] a is = tt
from_front done (x ∷ h) a is = (is.0, from_front (done ++ x ∷ []) h a is.1)

pub history_front : (h : List Accepted) (a : Accepted) → IsHistory (h ++ a ∷ []) → IsHistory h
history_front h a is = record { formed = (All-pop IsWell (h ++ a ∷ []) h (Some a) refl is.formed).0; fresh = from_front [] h a is.fresh }

pub history_last : (h : List Accepted) (a : Accepted) → IsHistory (h ++ a ∷ []) → IsKey a.key × IsCommand a.command
history_last h a is = (All-pop IsWell (h ++ a ∷ []) h (Some a) refl is.formed).1
