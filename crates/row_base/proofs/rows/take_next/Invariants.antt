use Rattle.std.proofs.Common.{◌≡◌, ◌++◌, ◌+◌, ◌≤◌, take, drop, map, length}
use Rattle.std.specs.Prelude.{vec_len, vec_capacity}
use Rattle.row_base.specs.Columns.{head_or_null}
use Rattle.row_base.proofs.rows.take_next.Given as goal

-- the values of the columns so far are taken, and there is room for the others
abbrev pub invariant-loop-column : goal.invariant-loop-column
invariant-loop-column l = record {
  values : l.values.items ≡ l.fn.values.items ++ map (λ c. head_or_null c.items) (take l.column-index l.fn.columns);
  rest : map (λ c. c.items) (take l.column-index l.columns) ≡ map (λ c. drop 1 c.items) (take l.column-index l.fn.columns);
  same : drop l.column-index l.columns ≡ drop l.column-index l.fn.columns;
  room : vec_len l.values + length l.columns ≤ vec_capacity l.values + l.column-index;
}
