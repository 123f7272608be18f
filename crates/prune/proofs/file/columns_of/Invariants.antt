-- The facts so far, before those of the columns that are left, are those of all.
use Rattle.std.proofs.Common.{◌≡◌, ◌++◌, drop}
use Rattle.file_stats.specs.Columns.{each_from}
use Rattle.prune.specs.Known.{column_facts, facts_of}
use Rattle.prune.proofs.file.columns_of.Given as goal

abbrev pub invariant-loop-i : goal.invariant-loop-i
invariant-loop-i l =
    l.columns.items ++ each_from (λ k c. column_facts l.schema l.values l.stats k) l.i (drop l.i l.schema.columns)
    ≡ facts_of l.schema l.values l.stats
