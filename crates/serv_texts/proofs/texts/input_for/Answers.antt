use Rattle.std.proofs.Common.{◌∙◌, sym, subst, arith}
use Rattle.serv_words.specs.Asked.{reads_input}
use Rattle.serv_texts.specs.Texts.{IsInput}
use Rattle.serv_texts.proofs.TextLemmas.{nothing_read, ok_map}
use Rattle.serv_texts.proofs.texts.input_for.Goals as goal

pub returns-then-reads_input-clause-input : goal.returns-then-reads_input-clause-input
returns-then-reads_input-clause-input g c =
    let reads = sym c.reads_input.ensures ∙ c.if-reads_input.true in
    ok_map c.read_all.result (λ v is. (is.0, subst (λ b. IsInput b v.items (g.S.Source.left c.read_all.new.src)) (sym reads) (is.1, is.2))) c.read_all.ensures.whole

pub returns-then-reads_input-clause-few : goal.returns-then-reads_input-clause-few
returns-then-reads_input-clause-few g c = ok_map c.read_all.result (λ v is. omega (arith, is.2)) c.read_all.ensures.whole

pub returns-else-reads_input-clause-input : goal.returns-else-reads_input-clause-input
returns-else-reads_input-clause-input g c =
    nothing_read (reads_input c.args.text.now) c.new.result.items (g.S.Source.left c.args.src.now) (sym c.reads_input.ensures ∙ c.if-reads_input.false) c.new.ensures.items
