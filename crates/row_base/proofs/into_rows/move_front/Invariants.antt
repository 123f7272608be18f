use Rattle.std.proofs.Common.{◌≡◌, ◌++◌, ◌+◌, ◌≤◌, take, drop}
use Rattle.std.specs.Prelude.{vec_len, vec_capacity}
use Rattle.row_base.proofs.into_rows.move_front.Given as goal

-- the front is moved, and there is room for what is to come
abbrev pub invariant-loop : goal.invariant-loop
invariant-loop l = record {
  row : l.row.items ≡ l.fn.row.items ++ take l.counter l.fn.rest.items;
  rest : l.rest.items ≡ drop l.counter l.fn.rest.items;
  room : vec_len l.row + l.count ≤ vec_capacity l.row + l.counter;
}
