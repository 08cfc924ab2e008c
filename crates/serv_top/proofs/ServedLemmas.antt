-- Bytes that are fed one after the other, and the replies to the lines that they end.
use Rattle.std.proofs.Common.{◌≡◌, ℕ, ◌≤◌, ◌⊎◌, List, [], ◌∷◌, ◌++◌, length, take, refl, sym, ap, subst, ◌∙◌, arith, inl, inr, append-nil}
use Rattle.std.specs.Prelude.{Option}
use Rattle.std.proofs.lemmas.List.{length-take-le, take_at, take_all, take-append-le}
use Rattle.std.proofs.lemmas.Bool.{cases_lt}
use Rattle.serv_top.specs.Lines.{IsPlain, Says, lines_of, ended_lines, open_line}
use Rattle.std.specs.Io.KnownBytes.{Appends}
use Rattle.serv_machine.specs.History.{Stand, stand, Running}
use Rattle.serv_machine.specs.Sayings.{Saying, Say, SaidFirst, AreFirst}
use Rattle.serv_machine.specs.Answering.{Gathered, Answers}
use Rattle.serv_machine.proofs.SayingLemmas.{say-push}
use Rattle.serv_machine.proofs.AnsweringLemmas.{first_all, first_more, first_said}
use Rattle.serv_machine.proofs.GatheredLemmas.{all_gathered, gathered_none}
use Rattle.serv_top.specs.Outcome.{Served}
use Rattle.serv_top.proofs.LineLemmas.{says_whole}
use Rattle.serv_top.proofs.PlainLemmas.{ended_plain, open_plain}
use Rattle.serv_top.proofs.Cutting.{unended, ended_from, open_from-push, ended_lines-push, ended_lines-append, lines_of-from}

pub served_none : (waiting : ℕ) (s : Stand) (t : Running) (held : Option (List ℕ)) (line text : List ℕ) → line ≡ [] → text ≡ [] → t.held ≡ s.history → t.kept ≡ t.held → t.steps ≤ s.steps
    → Served waiting [] s t held held line text
served_none waiting s t held line text no_line no_text same kept cost = record {
  said = [];
  say = tt;
  gathers = gathered_none waiting s t held text no_text same kept cost;
  line_is = no_line;
}

-- a line that is cut before a byte is added is cut as if it was added first
take_cut : (n : ℕ) (xs ys : List ℕ) → take n (take n xs ++ ys) ≡ take n (xs ++ ys)
take_cut n xs ys = elim (cases_lt n (length xs)) [
  | inl long ↦
      let cut : length (take n xs) ≡ n = length-take-le n xs (omega arith) in
      let within : n ≤ length xs = omega arith in
      take_at (take n xs) ys n cut ∙ sym (take-append-le n xs ys within)
  | inr short ↦ ap (λ front. take n (front ++ ys)) (take_all n xs short)
]

-- a piece is empty, or a line, of which something is kept
open_cases : (piece : List ℕ) → (piece ≡ []) ⊎ ((unended piece ≡ piece ∷ []) × (take 513 piece ≡ [] → ⊥))
open_cases [] = inl refl
open_cases (b ∷ piece) = inr (refl, λ none. cc)

-- where bytes come later, further lines end
pub first_further : (bytes more : List ℕ) (done ahead : List Saying) → AreFirst (SaidFirst Says (ended_lines bytes)) done ahead → AreFirst (SaidFirst Says (ended_lines (bytes ++ more))) done ahead
first_further bytes more done ahead is =
    subst (λ ls. AreFirst (SaidFirst Says ls) done ahead) (sym (ended_lines-append bytes more)) (first_more Says (ended_lines bytes) (ended_from (open_line bytes) more) done ahead is)

module _ (waiting : ℕ) (bytes : List ℕ) {s : Stand} {t : Running} {held held' : Option (List ℕ)} {line text : List ℕ} (run : Served waiting bytes s t held held' line text) where
  abbrev ended : List (List ℕ)
  ended = ended_lines bytes

  abbrev piece : List ℕ
  piece = open_line bytes

  -- bytes without a line feed are added to the line, as far as it is kept
  pub served_plain : (p line' : List ℕ) → IsPlain p → line' ≡ take 513 (line ++ p) → Served waiting (bytes ++ p) s t held held' line' text
  served_plain p line' plain kept = record {
    said = run.said;
    say = subst (λ ls. Say Says ls run.said) (sym (ended_plain bytes p plain)) run.say;
    gathers = run.gathers;
    line_is = kept ∙ ap (λ l. take 513 (l ++ p)) run.line_is ∙ take_cut 513 piece p ∙ sym (ap (take 513) (open_plain bytes p plain));
  }

  -- what was said so far is what some first lines say
  pub first_here : (lines others : List (List ℕ)) → lines ≡ ended ++ others → (done ahead : List Saying) → AreFirst (λ all. all ≡ run.said) done ahead → AreFirst (SaidFirst Says lines) done ahead
  first_here lines others is = first_said Says lines ended others run.said is run.say

  pub first_plain : (p : List ℕ) → IsPlain p → AreFirst (SaidFirst Says (ended_lines (bytes ++ p))) run.said []
  first_plain p plain = first_all (SaidFirst Says (ended_lines (bytes ++ p))) run.said (record { acted = ended; others = []; items_are = ended_plain bytes p plain ∙ sym (append-nil ended); say = run.say })

  -- the line ends
  ended_more : ended_lines (bytes ++ 10 ∷ []) ≡ ended ++ piece ∷ []
  ended_more = ended_lines-push bytes 10

  opened_more : open_line (bytes ++ 10 ∷ []) ≡ []
  opened_more = open_from-push [] bytes 10

  -- what the kept line says, the whole line says
  say_more : (last : Saying) → Says line last → Say Says (ended_lines (bytes ++ 10 ∷ [])) (run.said ++ last ∷ [])
  say_more last says =
      subst (λ ls. Say Says ls (run.said ++ last ∷ [])) (sym ended_more) (say-push Says ended run.said piece last run.say (says_whole piece last (subst (λ l. Says l last) run.line_is says)))

  pub served_line : (last : Saying) → Says line last → (t' : Running) (held'' : Option (List ℕ)) (line' text' : List ℕ) → line' ≡ []
      → Gathered waiting (run.said ++ last ∷ []) s t' held held'' text' → Served waiting (bytes ++ 10 ∷ []) s t' held held'' line' text'
  served_line last says t' held'' line' text' none gathers = record {
    said = run.said ++ last ∷ [];
    say = say_more last says;
    gathers = gathers;
    line_is = none ∙ sym (ap (take 513) opened_more);
  }

  pub first_line : (last : Saying) → Says line last → (lines others : List (List ℕ)) → lines ≡ ended_lines (bytes ++ 10 ∷ []) ++ others → (done ahead : List Saying) → AreFirst (λ all. all ≡ run.said ++ last ∷ []) done ahead → AreFirst (SaidFirst Says lines) done ahead
  first_line last says lines others is = first_said Says lines (ended_lines (bytes ++ 10 ∷ [])) others (run.said ++ last ∷ []) is (say_more last says)

  -- replies are written
  pub served_gone : (t' : Running) (held'' : Option (List ℕ)) (text' : List ℕ) → Gathered waiting run.said s t' held held'' text' → Served waiting bytes s t' held held'' line text'
  served_gone t' held'' text' gathers = record { said = run.said; say = run.say; gathers = gathers; line_is = run.line_is }

  -- it is as if a line feed had ended the last piece
  no_line : piece ≡ [] → line ≡ []
  no_line none = run.line_is ∙ ap (take 513) none

  pub last_ended : (line ≡ [] → ⊥) → lines_of bytes ≡ ended_lines (bytes ++ 10 ∷ [])
  last_ended some = elim (open_cases piece) [
    | inl empty ↦ absurd (some (no_line empty))
    | inr last ↦ lines_of-from bytes ∙ ap (λ p. ended ++ p) last.0 ∙ sym ended_more
  ]

  -- where there is none
  pub none_last : line ≡ [] → lines_of bytes ≡ ended
  none_last none = elim (open_cases piece) [
    | inl empty ↦ lines_of-from bytes ∙ ap (λ p. ended ++ unended p) empty ∙ append-nil ended
    | inr last ↦ absurd (last.1 (sym run.line_is ∙ none))
  ]

-- all lines are answered
pub all_served : (waiting : ℕ) (bytes : List ℕ) (s : Stand) (t : Running) (held held' : Option (List ℕ)) (line text : List ℕ) (lines : List (List ℕ)) → lines ≡ ended_lines bytes → t.kept ≡ t.held → text ≡ []
    → Served waiting bytes s t held held' line text → (written : List ℕ) × Appends held held' written × Answers (Say Says lines) s (stand t.kept t.steps) written
all_served waiting bytes s t held held' line text lines is all none run =
    let gathered = all_gathered waiting run.said s run.gathers all none in
    (run.gathers.written, run.gathers.wrote, record { said = run.said; whole = subst (λ ls. Say Says ls run.said) (sym is) run.say; text = gathered.0; moved = gathered.1 })

-- nothing is left where no more than nothing is
pub none_more : (text : List ℕ) → length text ≤ 0 → text ≡ []
none_more [] few = refl
none_more (b ∷ text) few = absurd (omega (arith, few))
