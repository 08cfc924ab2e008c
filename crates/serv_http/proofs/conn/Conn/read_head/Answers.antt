use Rattle.std.proofs.Common.{◌≡◌, ◌+◌, ◌∙◌, ℕ, take, sym, ap, arith}
use Rattle.serv_http.proofs.StepLemmas.{filled-refused, filled-long, filled-waits, filled-whole, heading-length}
use Rattle.serv_http.proofs.conn.Conn.read_head.Goals as goal

pub returns-in-Refused : goal.returns-in-Refused
returns-in-Refused c = λ s x g.
    let old = c.args.self.now in
    let front = c.front-front.ensures ∙ ap (λ (n : ℕ). take (n + c.fill-count.result) c.fill-count.new.self.head) c.fill-count.ensures.filled
    ∙ c.fill-count.ensures.head s x.text in
    filled-refused s c.args.piece.now c.front-front.result.now old c.fill-count.new.self c.fault.new.self c.fill-count.result c.fault.result
    (record {
      heading = x;
      size = heading-length old s old.head_room old.filled_in x.text;
      small = old.filled_in;
      added = c.fill-count.ensures.count;
      front_is = front;
    })
    c.in-Refused.ensures c.fault.ensures.value c.fault.ensures.over c.fault.ensures.filled

pub returns-in-TooLong : goal.returns-in-TooLong
returns-in-TooLong c = λ s x g.
    let old = c.args.self.now in
    let front = c.front-front.ensures ∙ ap (λ (n : ℕ). take (n + c.fill-count.result) c.fill-count.new.self.head) c.fill-count.ensures.filled
    ∙ c.fill-count.ensures.head s x.text in
    filled-long s c.args.piece.now c.front-front.result.now old c.fill-count.new.self c.fault-in-TooLong.new.self c.fill-count.result c.fault-in-TooLong.result
    (record {
      heading = x;
      size = heading-length old s old.head_room old.filled_in x.text;
      small = old.filled_in;
      added = c.fill-count.ensures.count;
      front_is = front;
    })
    c.in-TooLong.ensures c.fault-in-TooLong.ensures.value c.fault-in-TooLong.ensures.over c.fault-in-TooLong.ensures.filled

pub returns-in-Waits : goal.returns-in-Waits
returns-in-Waits c = λ s x g.
    let old = c.args.self.now in
    let count : ℕ = c.fill-count.result in
    let same : c.fill-count.new.self.filled ≡ old.filled = c.fill-count.ensures.filled in
    let front = c.front-front.ensures ∙ ap (λ (n : ℕ). take (n + count) c.fill-count.new.self.head) same
    ∙ c.fill-count.ensures.head s x.text in
    filled-waits s c.args.piece.now c.front-front.result.now old c.fill-count.new.self c.wait.new.self count c.wait.result
    (record {
      heading = x;
      size = heading-length old s old.head_room old.filled_in x.text;
      small = old.filled_in;
      added = c.fill-count.ensures.count;
      front_is = front;
    })
    c.in-Waits.ensures.0 c.in-Waits.ensures.1 c.wait.ensures.value (c.wait.ensures.stage ∙ c.fill-count.ensures.stage ∙ g)
    (λ l. c.wait.ensures.filled (omega (arith, same, l)) ∙ ap (λ (n : ℕ). n + count) same)
    (c.front-front.ensures ∙ ap (λ (n : ℕ). take (n + count) c.fill-count.new.self.head) same
    ∙ ap (take (old.filled + count)) (sym c.wait.ensures.head))

pub returns-in-Whole : goal.returns-in-Whole
returns-in-Whole c = λ s x g.
    let old = c.args.self.now in
    let front = c.front-front.ensures ∙ ap (λ (n : ℕ). take (n + c.fill-count.result) c.fill-count.new.self.head) c.fill-count.ensures.filled
    ∙ c.fill-count.ensures.head s x.text in
    let whole = filled-whole s c.args.piece.now c.front-front.result.now old c.fill-count.new.self c.fill-count.result c.in-Whole.len c.saturating_sub.result c.in-Whole.plan
    (record {
      heading = x;
      size = heading-length old s old.head_room old.filled_in x.text;
      small = old.filled_in;
      added = c.fill-count.ensures.count;
      front_is = front;
    })
    c.in-Whole.ensures (omega (arith, c.saturating_sub.ensures, c.fill-count.ensures.filled)) in
    c.begin.ensures s c.args.piece.now whole.head whole.whole whole.planned whole.fits
