use Rattle.std.proofs.Common.{◌≡◌, ◌++◌, drop}
use Rattle.std.specs.List.{flat_map}
use Rattle.parquet_pages.specs.Written.{plain_text}
use Rattle.parquet_pages.proofs.plain.append_in_line.Given as goal

abbrev pub invariant-loop-value : goal.invariant-loop-value
invariant-loop-value l = l.out.items ++ flat_map plain_text (drop l.value-index l.values) ≡ l.initial.out.items ++ flat_map plain_text l.values
