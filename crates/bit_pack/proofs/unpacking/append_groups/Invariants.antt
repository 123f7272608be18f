use Rattle.std.proofs.Common.{◌≡◌, ◌+◌, ◌*◌, ◌++◌}
use Rattle.std.specs.Prelude.{vec_len, vec_capacity}
use Rattle.bit_pack.specs.Numbers.{number_in, fields}
use Rattle.bit_pack.proofs.unpacking.append_groups.Given as goal

abbrev pub invariant-loop-group : goal.invariant-loop-group
invariant-loop-group g l = record {
  items : l.out.items ≡ l.fn.out.items ++ fields g.row.W (number_in l.bytes) 0 (8 * l.group);
  len : vec_len l.out ≡ vec_len l.fn.out + 8 * l.group;
  capacity : vec_capacity l.out ≡ vec_capacity l.fn.out;
}
