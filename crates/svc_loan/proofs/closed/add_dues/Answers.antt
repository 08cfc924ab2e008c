use Rattle.std.proofs.Common.{◌≡◌, ◌+◌, ◌-◌, ◌∷◌, ◌++◌, [], map, arith, ap, ◌∙◌}
use Rattle.std.specs.List.{range_with_len}
use Rattle.svc_world.specs.LoanDues.{due_in}
use Rattle.svc_loan.proofs.ClosedLemmas.{dues_more}
use Rattle.svc_loan.proofs.closed.add_dues.Goals as goal

pub loop-months-preserved : goal.loop-months-preserved
loop-months-preserved g c =
    let a = g.B.LoanBooks.account c.args.books.now in
    let types = c.args.types.now.changes in
    let olds = c.args.dues.now.items in
    let m = c.args.month in
    let k = c.loop-months.months in
    let b = c.month_of-boarded.result in
    let i = c.loop-months.invariant in
    let least = i.least in
    let left = i.left in
    let count = i.count in
    let test = c.loop-months-test.true in
    let next = c.add_months-next.ensures in
    let len = c.push_reserved.ensures.len in
    let more : b + k - m + 1 ≡ b + (k + 1) - m = omega arith in
    record {
      first = i.first;
      least = omega arith;
      left = omega arith;
      dues = c.push_reserved.ensures.items
          ∙ ap (λ xs. xs ++ c.due_after.result ∷ []) i.dues
          ∙ ap (λ x. (olds ++ map (due_in a types) (range_with_len m (b + k - m))) ++ x ∷ []) c.due_after.ensures
          ∙ dues_more a types m (b + k - m) c.add_months-next.result olds (omega arith)
          ∙ ap (λ n. olds ++ map (due_in a types) (range_with_len m n)) more;
      count = omega arith;
      capacity = search;
    }
