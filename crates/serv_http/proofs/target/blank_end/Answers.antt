use Rattle.std.proofs.Common.{◌≡◌, ◌≢◌, ℕ, zero, suc, ◌+◌, ◌++◌, List, drop, arith}
use Rattle.httparse.specs.Grammar.{LineEnd, print_blank}
use Rattle.httparse.proofs.ReadLemmas.{blank_more}
use Rattle.serv_http.specs.Words.{IsLineEndAt}
use Rattle.serv_http.proofs.target.blank_end.Goals as goal

abbrev more-blank : (buf : List ℕ) (at n : ℕ) → n ≢ 0 → (ends : List LineEnd) × (buf ≡ print_blank ends ++ drop at buf)
    → IsLineEndAt buf at n → (ends : List LineEnd) × (buf ≡ print_blank ends ++ drop (at + n) buf)
more-blank buf at zero some before here = absurd (some (omega arith))
more-blank buf at (suc n) some before here =
    (_, blank_more before.0 here.0 buf (drop at buf) (drop (at + suc n) buf) before.1 here.1)

pub loop-at-preserved : goal.loop-at-preserved
loop-at-preserved c = record {
  within = c.line_end_len-len.ensures.within;
  blank = more-blank c.args.buf.now c.loop-at.at c.line_end_len-len.result c.if-len-eq0.false
      c.loop-at.invariant.blank c.line_end_len-len.ensures.value;
}
