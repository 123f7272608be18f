use Rattle.std.proofs.Common.{◌≡◌, ◌+◌, ◌≤◌, drop}
use Rattle.parquet_pages.specs.Levels.{there}
use Rattle.parquet_pages.proofs.levels.there.Given as goal

abbrev pub invariant-loop-level : goal.invariant-loop-level
invariant-loop-level l = record { counted : l.count + there (drop l.level-index l.levels) ≡ there l.levels; few : l.count ≤ l.level-index }
