use Rattle.std.proofs.Common.{◌≡◌, ◌++◌, drop}
use Rattle.std.specs.List.{filter_map}
use Rattle.workbench.specs.Parquet.{column_of}
use Rattle.workbench.proofs.parquet.columns_of.Given as goal

abbrev pub invariant-loop-element : goal.invariant-loop-element
invariant-loop-element l = l.columns.items ++ filter_map column_of (drop l.element-index l.elements) ≡ filter_map column_of l.elements
