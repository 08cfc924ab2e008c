use Rattle.std.proofs.Common.{sym, [], arith}
use Rattle.std.proofs.lemmas.Int.{ints}
use Rattle.std.proofs.lemmas.List.Sorted.{IsNonDecreasingBy-short}
use Rattle.custodial_book.specs.declared.part.Account.TheVariants.{T, P}
use Rattle.custodial_book.specs.declared.row.Row.{Row}
use Rattle.custodial_book.proofs.RowLemmas.{balance_none}
use Rattle.custodial_book.proofs.book.Book.new.Goals as goal

pub invariant_of-result : goal.invariant_of-result
invariant_of-result c = rw c.new.ensures.items record {
  rising = IsNonDecreasingBy-short (λ (row : Row). row.number) [] (omega arith);
  t_is = sym (balance_none T);
  p_is = sym (balance_none P);
  t_bound = (omega (arith, ints), omega (arith, ints));
  p_bound = (omega (arith, ints), omega (arith, ints));
}
