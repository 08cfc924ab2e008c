-- A file that is good for a history and a command is a journal, and is not damaged.
use Rattle.std.proofs.Common.{◌≡◌, ℕ, ◌+◌, List, [], ◌∷◌, ◌++◌, length, refl, sym, subst, ◌∙◌, ⊎_elim, arith, append_assoc}
use Rattle.svc_world.specs.World.{Accepted}
use Rattle.svc_world.specs.Judging.{IsHistory}
use Rattle.serv_journal.specs.declared.format.Version.{Version}
use Rattle.serv_journal.specs.declared.format.Version.TheVariants.{One, Two}
use Rattle.serv_journal.specs.Format.{Form, IsForm, IsLine, AreLines, base, body}
use Rattle.serv_journal.specs.Disks.{IsWholeIn, IsTornIn}
use Rattle.serv_journal.specs.Reading.{IsMark, IsRead, IsNoJournal}
use Rattle.serv_journal.proofs.UniqueLemmas.{not_header}
use Rattle.serv_engine.specs.Histories.{line_of_command, lines_of_history, IsGoodFound}
use Rattle.serv_engine.specs.Opening.{IsDamagedAt}
use Rattle.serv_engine.proofs.HistoryLines.{are_lines, command_is_line, lines_push, history_front, history_last}
use Rattle.serv_engine.proofs.FileLemmas.{read_or_damage, read_or_none}

whole_read : (form : Form) (lines : List (List ℕ)) (file : List ℕ) → IsForm form → AreLines lines → (w : IsWholeIn form lines file) → IsRead form lines 0 w.tail file
whole_read form lines file is_form fit w = record {
  is_form = is_form;
  fit = fit;
  closed = λ e. omega (arith, e);
  unmarked = λ one mark. mark.0 refl;
  is = w.is ∙ append_assoc (base form lines) (0 ∷ []) w.tail;
}

torn_unmarked : (version : Version) (number commit : ℕ) (line tail : List ℕ) → IsLine line → version ≡ One → IsMark commit ((body version number line ++ 0 ∷ []) ++ tail) → ⊥
torn_unmarked One number commit line tail is_line one mark =
    not_header number line (0 ∷ tail) mark.1.tail is_line (sym (append_assoc (body One number line) (0 ∷ []) tail) ∙ mark.1.is)
torn_unmarked Two number commit line tail is_line one mark = let no_way : ⊥ = cc in no_way

torn_read : (form : Form) (lines : List (List ℕ)) (line file : List ℕ) → IsForm form → AreLines lines → IsLine line → (t : IsTornIn form lines line file)
    → IsRead form lines t.commit ((body form.version (length lines + 1) line ++ 0 ∷ []) ++ t.starts.tail) file
torn_read form lines line file is_form fit is_line t = record {
  is_form = is_form;
  fit = fit;
  closed = t.not_open;
  unmarked = λ one mark. torn_unmarked form.version (length lines + 1) t.commit line t.starts.tail is_line one mark;
  is = t.starts.is ∙ append_assoc (base form lines) (t.commit ∷ (body form.version (length lines + 1) line ++ 0 ∷ [])) t.starts.tail;
}

-- so it is a journal, and is not damaged
record IsReadAs (file : List ℕ) : Type 0 where
  form : Form
  history : List Accepted
  commit : ℕ
  rest : List ℕ
  is_history : IsHistory history
  read : IsRead form (lines_of_history history) commit rest file

good_read : (h : List Accepted) (a : Accepted) (file : List ℕ) → IsHistory (h ++ a ∷ []) → IsGoodFound h a file → IsReadAs file
good_read h a file is good =
    let front = history_front h a is in
    let last = history_last h a is in
    ⊎_elim
    (λ whole. record { form = good.form; history = h; commit = 0; rest = whole.tail; is_history = front; read = whole_read good.form (lines_of_history h) file good.is_form (are_lines h front.formed) whole })
    (λ more. ⊎_elim
    (λ torn. record {
      form = good.form;
      history = h;
      commit = torn.commit;
      rest = (body good.form.version (length (lines_of_history h) + 1) (line_of_command a) ++ 0 ∷ []) ++ torn.starts.tail;
      is_history = front;
      read = torn_read good.form (lines_of_history h) (line_of_command a) file good.is_form (are_lines h front.formed) (command_is_line a last.0 last.1) torn;
    })
    (λ whole.
    let both = subst (λ l. IsWholeIn good.form l file) (sym (lines_push h a)) whole in
    record { form = good.form; history = h ++ a ∷ []; commit = 0; rest = both.tail; is_history = is; read = whole_read good.form (lines_of_history (h ++ a ∷ [])) file good.is_form (are_lines (h ++ a ∷ []) is.formed) both })
    more)
    good.good

pub good_journal : (h : List Accepted) (a : Accepted) (file : List ℕ) → IsHistory (h ++ a ∷ []) → IsGoodFound h a file → IsNoJournal file → ⊥
good_journal h a file is good none =
    let read = good_read h a file is good in
    read_or_none read.form (lines_of_history read.history) read.commit read.rest file read.read none

pub good_undamaged : (h : List Accepted) (a : Accepted) (file : List ℕ) (place : ℕ) → IsHistory (h ++ a ∷ []) → IsGoodFound h a file → IsDamagedAt place file → ⊥
good_undamaged h a file place is good damaged =
    let read = good_read h a file is good in
    read_or_damage read.form read.history read.commit read.rest file place read.is_history read.read damaged
