use Rattle.std.proofs.Common.{◌≡◌, ◌<◌, rules, length, drop, arith, sym, ◌∙◌}
use Rattle.std.proofs.lemmas.List.{length-drop}
use Rattle.std.proofs.lemmas.Slice.Eq.{slice_eq-Decides}
use Rattle.std.proofs.lemmas.Bool.Decides.{Decides-eqb}
use Rattle.serv_journal.proofs.ByteLemmas.{taken_starts, starts_take}
use Rattle.serv_journal.proofs.ReadingLemmas.{too_few, part_shown}
use Rattle.serv_journal.proofs.window.Window.has_text.Goals as goal

pub returns-then-size-place-lt8-clause-text : goal.returns-then-size-place-lt8-clause-text
returns-then-size-place-lt8-clause-text g c = λ s is.
    let few : length (drop c.args.place s) < length c.args.text.now =
    omega (arith, length-drop c.args.place s, (c.requires.shows s is).size, c.told-text, c.size.ensures, c.if-size-place-lt8.true) in
    ((λ t. absurd (let e : ⊥ = cc in e)), (λ starts. absurd (too_few c.args.text.now (drop c.args.place s) few starts)))

pub returns-clause-text : goal.returns-clause-text
returns-clause-text g c = λ s is.
    let shown = c.bring.ensures.reading.shows s (c.bring.ensures.reading.stays.told ∙ is) in
    let bytes = c.part.ensures.bytes ∙ part_shown c.bring.new.self.bytes s 8 c.bring.new.self.at c.args.place shown.bytes c.in_ok-bring.ensures.from c.in_ok-bring.ensures.to in
    let text : c.as_slice.result.now ≡ c.args.text.now = search rules in
    let decides = slice_eq-Decides Decides-eqb c.part.result.now c.as_slice.result.now c.eq.result c.eq.ensures in (
      (λ t. taken_starts c.args.text.now (drop c.args.place s) 8 (sym bytes ∙ (decides.0 t ∙ text))),
      (λ starts. decides.1 (bytes ∙ (starts_take c.args.text.now (drop c.args.place s) 8 c.told-text starts ∙ sym text))),
    )
