use Rattle.std.proofs.Common.{◌≡◌, ◌<◌, ◌∷◌, [], ◌++◌, length, take, vec_len, rules, arith, refl, sym, ap, ◌∙◌}
use Rattle.std.proofs.lemmas.List.{length-take}
use Rattle.svc_world.specs.Reports.{lines_of}
use Rattle.svc_loan.specs.Loans.{held_in}
use Rattle.svc_core.proofs.ReportedLemmas.{lines_none, lines_most, lines_more, held_length}
use Rattle.svc_core.proofs.reporting.fill_lines.Goals as goal

pub loop-i-init : goal.loop-i-init
loop-i-init g c = record {
  lines = c.clear.ensures.items ∙ sym (lines_none c.args.seals.now.reporting.pending c.args.month);
  capacity = c.clear.ensures.capacity;
  end = c.len-i-end.ensures;
  same = refl;
}

pub add_line-requires-clause-room : goal.add_line-requires-clause-room
add_line-requires-clause-room g c =
    let inv = c.loop-i.invariant in
    let ks = c.args.loans.now.loans in
    let pending = c.args.seals.now.reporting.pending in
    let len : vec_len c.loop-i.lines ≡ length c.loop-i.lines.items = search rules in
    let lines = ap length inv.lines in
    let most = lines_most pending c.args.month (held_in (take c.loop-i.i ks)) in
    let held = held_length (take c.loop-i.i ks) in
    let taken = length-take c.loop-i.i ks in
    let lt : c.loop-i.i < length ks = (let t = c.loop-i-test.true in let e = inv.end in omega arith) in
    let capacity = inv.capacity in
    let room = c.requires.room in
    omega (arith, len, lines, most, held, taken, lt, capacity, room)

pub loop-i-preserved : goal.loop-i-preserved
loop-i-preserved g c =
    let inv = c.loop-i.invariant in
    let ks = c.args.loans.now.loans in
    let pending = c.args.seals.now.reporting.pending in
    let lt : c.loop-i.i < length ks = (let t = c.loop-i-test.true in let e = inv.end in omega arith) in
    let k = c.at.result.now in
    record {
      lines = c.add_line.ensures.lines
          ∙ ap (λ xs. xs ++ lines_of pending c.args.month (k.held ∷ [])) inv.lines
          ∙ sym (lines_more pending c.args.month ks c.loop-i.i k lt c.at.ensures);
      capacity = c.add_line.ensures.capacity ∙ inv.capacity;
      end = inv.end;
      same = refl;
    }
