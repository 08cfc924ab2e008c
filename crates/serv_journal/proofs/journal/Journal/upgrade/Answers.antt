use Rattle.std.proofs.Common.{◌≡◌, ℕ, ◌+◌, List, length, refl, sym, ap, ◌∙◌, arith}
use Rattle.serv_disk.proofs.Moments.{weaker}
use Rattle.serv_journal.specs.declared.format.Version.TheVariants.{One, Two}
use Rattle.serv_journal.specs.Format.{base, records}
use Rattle.serv_journal.specs.States.{JournalState}
use Rattle.serv_journal.specs.Reading.{lines_in}
use Rattle.serv_journal.proofs.ScanLemmas.{length_lines_in, records_least}
use Rattle.serv_journal.proofs.UpgradeLemmas.{rewritten_whole, rewritten_two, stands_upgraded}
use Rattle.serv_journal.proofs.journal.Journal.upgrade.Goals as goal

pub invariant_of-self : goal.invariant_of-self
invariant_of-self g c =
    let least = records_least Two 1 (lines_in c.args.frames.now) c.requires.lines in
    (c.self.invariant.0, omega (arith, least, c.self.invariant.1, c.in-Some.ensures.0, c.len.ensures, length_lines_in c.args.frames.now), tt)

pub returns-in-Ok-clause-moments : goal.returns-in-Ok-clause-moments
returns-in-Ok-clause-moments g c = λ form stands each.
    let lines : List (List ℕ) = lines_in c.args.frames.now in
    let one : form.version ≡ One = sym stands.version ∙ c.requires.version in
    let size = ap (λ (j : JournalState). j.size) c.self.view_is in
    let long : length (base form lines) + 1 ≡ c.self.inside.size = omega (arith, size, stands.size) in
    weaker _ _ _ _ _ (c.write_upgrade.ensures.moments (base form lines) long each) (λ x h. rewritten_whole form lines x stands.is_form one stands.fit h)

pub returns-in-Err-clause-moments : goal.returns-in-Err-clause-moments
returns-in-Err-clause-moments g c = λ form stands each.
    let lines : List (List ℕ) = lines_in c.args.frames.now in
    let one : form.version ≡ One = sym stands.version ∙ c.requires.version in
    let size = ap (λ (j : JournalState). j.size) c.self.view_is in
    let long : length (base form lines) + 1 ≡ c.self.inside.size = omega (arith, size, stands.size) in
    weaker _ _ _ _ _ (c.write_upgrade.ensures.moments (base form lines) long each) (λ x h. rewritten_whole form lines x stands.is_form one stands.fit h)

pub returns-in-Ok-clause-upgraded : goal.returns-in-Ok-clause-upgraded
returns-in-Ok-clause-upgraded g c = λ form stands.
    let lines : List (List ℕ) = lines_in c.args.frames.now in
    let one : form.version ≡ One = sym stands.version ∙ c.requires.version in
    let size = ap (λ (j : JournalState). j.size) c.self.view_is in
    stands_upgraded form lines c.args.self.now _ stands one refl (c.len.ensures ∙ sym (length_lines_in c.args.frames.now))
    (c.in-Some.ensures.0 ∙ ap (λ n. n + 9 + length (records Two 1 lines)) size)

pub returns-in-Ok-clause-durable : goal.returns-in-Ok-clause-durable
returns-in-Ok-clause-durable g c = λ form stands each x h.
    let lines : List (List ℕ) = lines_in c.args.frames.now in
    let size = ap (λ (j : JournalState). j.size) c.self.view_is in
    let long : length (base form lines) + 1 ≡ c.self.inside.size = omega (arith, size, stands.size) in
    rewritten_two form lines x (c.in-Ok.ensures.durable (base form lines) long each x h)
