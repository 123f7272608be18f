use Rattle.std.proofs.Common.{◌≡◌, ◌+◌, ◌*◌, ◌++◌, take}
use Rattle.std.specs.Prelude.{vec_len, vec_capacity}
use Rattle.bit_pack.specs.Numbers.{packed_number, bytes_of}
use Rattle.bit_pack.proofs.packing.pack_groups.Given as goal

abbrev pub invariant-loop-group : goal.invariant-loop-group
invariant-loop-group g l = record {
  items : l.out.items ≡ l.fn.out.items ++ bytes_of (l.group * g.row.W) (packed_number g.row.W (take (8 * l.group) l.values));
  len : vec_len l.out ≡ vec_len l.fn.out + l.group * g.row.W;
  capacity : vec_capacity l.out ≡ vec_capacity l.fn.out;
}
