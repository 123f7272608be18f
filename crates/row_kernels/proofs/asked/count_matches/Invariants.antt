use Rattle.std.proofs.Common.{◌≡◌, ◌+◌, ◌%◌, ◌^◌, length, drop}
use Rattle.std.specs.List.{list_all}
use Rattle.std.specs.Prelude.{true}
use Rattle.predicates.specs.Truths.{is_bound}
use Rattle.row_kernels.specs.Files.{may}
use Rattle.row_kernels.specs.Scopes.{count_where}
use Rattle.row_kernels.proofs.asked.count_matches.Given as goal

abbrev pub invariant-loop-file : goal.invariant-loop-file
invariant-loop-file l = record {
  counted : (l.count + count_where (may l.scope) (drop l.file-index l.facts)) % 2 ^ 64 ≡ count_where (may l.scope) l.facts % 2 ^ 64;
  bound : list_all (λ f. is_bound (length f) l.scope) (drop l.file-index l.facts) ≡ true;
}
