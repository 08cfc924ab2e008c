-- A journal of version 1 that is not long has room for its commands in version 2.
use Rattle.std.proofs.Common.{◌≡◌, ℕ, ◌+◌, ◌*◌, ◌^◌, ◌≤◌, List, [], ◌∷◌, length, refl, ap, ◌∙◌, arith, length-append}
use Rattle.serv_journal.specs.declared.format.Version.TheVariants.{One, Two}
use Rattle.serv_journal.specs.Format.{Form, AreLines, base, body, records}
use Rattle.serv_journal.proofs.FormatLemmas.{length_of_body}
use Rattle.serv_journal.proofs.ScanLemmas.{records_least}
use Rattle.serv_engine.specs.Histories.{lines_of_history}
use Rattle.serv_engine.specs.Opening.{IsTooLong}
use Rattle.serv_texts.specs.Journal.{journal_limit}

-- a record of version 2 has four bytes more
longer : (n m : ℕ) (lines : List (List ℕ)) → length (records Two m lines) ≡ length (records One n lines) + 4 * length lines
longer n m [] = refl
longer n m (line ∷ lines) =
    omega (
      arith,
      longer (n + 1) (m + 1) lines,
      length_of_body One n line,
      length_of_body Two m line,
      length-append (body One n line) (records One (n + 1) lines),
      length-append (body Two m line) (records Two (m + 1) lines),
    )

-- and one of version 1 at least four
twice : (lines : List (List ℕ)) → AreLines lines → length (records Two 1 lines) ≤ 2 * length (records One 1 lines)
twice lines fit = omega (arith, longer 1 1 lines, records_least One 1 lines fit)

base_least : (form : Form) (lines : List (List ℕ)) → form.version ≡ One → length (records One 1 lines) ≤ length (base form lines)
unfolding base
base_least form lines old = omega (arith, ap (λ v. length (records v 1 lines)) old, length-append form.front (records form.version 1 lines))

pub never_too_long : (s : List ℕ) (bytes : ℕ) → length s ≤ 2 ^ 26 → IsTooLong journal_limit bytes s → ⊥
never_too_long s bytes short it =
    let lines = lines_of_history it.history in
    let room = twice lines it.read.fit in
    let least = base_least it.form lines it.old in
    let file : length s ≡ length (base it.form lines) + length (it.commit ∷ it.rest) =
    ap length it.read.is ∙ length-append (base it.form lines) (it.commit ∷ it.rest) in
    let some : length (it.commit ∷ it.rest) ≡ length it.rest + 1 = omega arith in
    absurd (omega (arith, short, room, least, file, some, it.size_is, it.past))
