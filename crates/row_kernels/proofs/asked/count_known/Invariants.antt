use Rattle.std.proofs.Common.{◌≡◌, ◌+◌, ◌%◌, ◌^◌, drop, map}
use Rattle.row_kernels.specs.Files.{may, facts_by}
use Rattle.row_kernels.specs.Scopes.{count_where}
use Rattle.row_kernels.proofs.asked.count_known.Given as goal

abbrev pub invariant-loop-text : goal.invariant-loop-text
invariant-loop-text l =
    (l.count + count_where (may l.scope) (drop l.text-index (map facts_by l.texts))) % 2 ^ 64 ≡ count_where (may l.scope) (map facts_by l.texts) % 2 ^ 64
