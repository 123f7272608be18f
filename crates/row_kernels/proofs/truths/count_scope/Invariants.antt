use Rattle.std.proofs.Common.{◌≡◌, ◌+◌, ◌%◌, ◌^◌, length}
use Rattle.std.specs.List.{list_all}
use Rattle.std.specs.Prelude.{true}
use Rattle.predicates.specs.Truths.{is_bound}
use Rattle.dml_ops.specs.Changes.{passes}
use Rattle.row_kernels.specs.Scopes.{count_where}
use Rattle.row_kernels.proofs.truths.count_scope.Given as goal

abbrev pub invariant-loop-row : goal.invariant-loop-row
invariant-loop-row l = record {
  counted : (l.count + count_where (passes l.scope) l.row-iterator) % 2 ^ 64 ≡ count_where (passes l.scope) l.rows % 2 ^ 64;
  bound : list_all (λ r. is_bound (length r) l.scope) l.row-iterator ≡ true;
}
