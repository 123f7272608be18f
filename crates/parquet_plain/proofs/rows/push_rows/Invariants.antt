use Rattle.std.proofs.Common.{◌≡◌, ◌++◌, ◌-◌, map}
use Rattle.parquet_plain.specs.Reading.{row_by_row}
use Rattle.parquet_plain.proofs.rows.push_rows.Given as goal

-- the rows so far, before those of what is left, are all
abbrev pub invariant-loop-row : goal.invariant-loop-row
invariant-loop-row l = l.rows ++ row_by_row (l.count - l._row) (map (λ c. c.items) l.columns) ≡ l.fn.rows ++ row_by_row l.count (map (λ c. c.items) l.fn.columns)
