use Rattle.std.proofs.Common.{◌≡◌, ◌++◌, ◌+◌, ◌≤◌, take, map, length}
use Rattle.std.specs.Prelude.{vec_len, vec_capacity}
use Rattle.row_base.proofs.rows.append_ends.Given as goal

-- what was there, and the front of what is to be put; there is room for the rest
abbrev pub invariant-loop-end : goal.invariant-loop-end
invariant-loop-end l = record {
  items : l.ends.items ≡ l.fn.ends.items ++ map (λ e. l.by + e) (take l.end-index l.more);
  room : vec_len l.ends + length l.more ≤ vec_capacity l.ends + l.end-index;
}
