use Rattle.std.proofs.Common.{◌≡◌, ◌++◌, map}
use Rattle.std.specs.Vec.Iter.{into_iter_items}
use Rattle.parquet_plain.proofs.rows.queues.Given as goal

-- the columns so far, before those that are left, are all
abbrev pub invariant-loop-column : goal.invariant-loop-column
invariant-loop-column l = map (λ c. c.items) l.queues.items ++ into_iter_items l.column-iterator ≡ l.fn.columns.items
