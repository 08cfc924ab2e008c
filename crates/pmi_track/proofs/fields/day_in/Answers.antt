use Rattle.std.proofs.Common.{rules, ◌≡◌, ◌≢◌, ℕ, IfSome, IfNone}
use Rattle.svc_base.specs.Calendar.{IsReadDay}
use Rattle.svc_base.specs.Text.{text_of_day}
use Rattle.pmi_track.proofs.RowLemmas.{day_read}
use Rattle.pmi_track.proofs.fields.day_in.Goals as goal

pub returns : goal.returns
returns c =
    let text = c.args.text.now in
    let read : IfSome c.ok.result (λ d. text ≡ text_of_day d) = search rules in
    let range : IfSome c.ok.result IsReadDay = search rules in
    let none : IfNone c.ok.result ((d : ℕ) → IsReadDay d → text ≢ text_of_day d) = search rules in
    day_read c.ok.result text read range none
