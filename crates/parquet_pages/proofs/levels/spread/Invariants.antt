use Rattle.std.proofs.Common.{◌≡◌, ◌++◌, drop}
use Rattle.std.specs.Vec.Iter.{into_iter_items}
use Rattle.parquet_pages.specs.Levels.{spread}
use Rattle.parquet_pages.proofs.levels.spread.Given as goal

abbrev pub invariant-loop-level : goal.invariant-loop-level
invariant-loop-level l = l.spread.items ++ spread (drop l.level-index l.levels) (into_iter_items l.rest) ≡ spread l.levels l.fn.values.items
