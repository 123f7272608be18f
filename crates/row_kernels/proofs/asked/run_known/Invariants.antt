use Rattle.std.proofs.Common.{◌≡◌, ◌*◌, ◌%◌, ◌^◌, true}
use Rattle.predicates.specs.Truths.{is_bound}
use Rattle.row_kernels.specs.Files.{match_count}
use Rattle.row_kernels.specs.Scopes.{file_scope}
use Rattle.row_kernels.proofs.asked.run_known.Given as goal

abbrev pub invariant-loop : goal.invariant-loop
invariant-loop l = record {
  scope : l.scope ≡ file_scope;
  bound : is_bound 2 l.scope ≡ true;
  counted : l.count ≡ l.counter * match_count file_scope l.files % 2 ^ 64;
}
