use Rattle.std.proofs.Common.{◌≡◌, ℕ, ◌+◌, ◌≤◌, List, arith, sym, subst}
use Rattle.serv_texts.specs.Texts.{IsTextOf, text_bound}
use Rattle.serv_texts.proofs.TextLemmas.{writes_none, writes_unread, writes_whole}
use Rattle.serv_texts.proofs.texts.write_by.Goals as goal

pub returns-in-Ok-text_by-clause-writes : goal.returns-in-Ok-text_by-clause-writes
returns-in-Ok-text_by-clause-writes g c =
    let h = c.args.engine.now.history in
    let x = c.args.text.now in
    let read = c.in-Ok.ensures.input in
    let same : c.deref.result.now ≡ c.in-Ok.input.items = c.deref.ensures.value in
    writes_whole c.write_text.result x h c.in-Ok.input.items _ _ _ _ read.0 c.deref-in-Ok-text_by.result.now _ _ read.1
    (subst (λ (input : List ℕ). IsTextOf x h input c.deref-in-Ok-text_by.result.now) same (subst (IsTextOf x h c.deref.result.now) (sym c.deref-in-Ok-text_by.ensures.value) c.in-Ok-text_by.ensures.text))
    c.write_text.ensures.writes
    (subst (λ (input : List ℕ). c.text_by.new.steps ≤ c.args.steps.now + text_bound x h input) same c.text_by.ensures.steps)

pub returns-in-Ok-clause-writes : goal.returns-in-Ok-clause-writes
returns-in-Ok-clause-writes g c =
    let h = c.args.engine.now.history in
    let x = c.args.text.now in
    let read = c.in-Ok.ensures.input in
    writes_none c.in-Err-text_by.status x h c.in-Ok.input.items _ _ _ _ read.0 _ read.1 c.in-Err-text_by.ensures.lacking
    (subst (λ (input : List ℕ). c.text_by.new.steps ≤ c.args.steps.now + text_bound x h input) c.deref.ensures.value c.text_by.ensures.steps)

pub returns-clause-writes : goal.returns-clause-writes
returns-clause-writes g c =
    let unread = c.in-Err.ensures.unread in
    writes_unread c.in-Err.status c.args.text.now c.args.engine.now.history unread.0 _ _ _ _ unread.1 _ c.in-Err.ensures.reads unread.2 (omega arith)
