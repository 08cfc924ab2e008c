use Rattle.std.proofs.Common.{arith, ap, ◌∙◌}
use Rattle.std.specs.List.{filter}
use Rattle.svc_world.specs.Custody.{rows_in}
use Rattle.servicing_transfer.specs.RowSums.{with_rows, or_none, kept_sums}
use Rattle.std.specs.Prelude.{nat_eq}
use Rattle.std.specs.Map.{lookup}
use Rattle.servicing_transfer.proofs.SumLemmas.{up_to, sums_more, sums_last, sums_first}
use Rattle.servicing_transfer.proofs.row_sums.row_sums.Goals as goal

pub loop-done-preserved : goal.loop-done-preserved
loop-done-preserved g c =
    let rows = rows_in c.args.core.now.history in
    let n = c.loop-done.done in
    record {
      sums = λ id.
          c.in_ok-add_rows.ensures id
          ∙ ap (with_rows id c.rows.result.now) (c.loop-done.invariant.sums id)
          ∙ ap (λ rs. with_rows id rs (kept_sums id (filter (up_to n) rows))) c.rows.ensures
          ∙ sums_more id n rows;
    }

pub loop-done-init : goal.loop-done-init
loop-done-init g c = record {
  sums = λ id. ap (λ es. or_none (lookup (nat_eq id) es)) c.new-sums.ensures.empty ∙ sums_first id c.args.core.now.history;
}

pub returns : goal.returns
returns g c = λ id.
    let past = c.loop-done-test.false in
    let end = c.loop-done.auto.done-end in
    let count = c.count-done-end.ensures.value in
    c.loop-done.invariant.sums id ∙ sums_last id c.loop-done.done c.args.core.now.history (omega (arith, past, end, count))
