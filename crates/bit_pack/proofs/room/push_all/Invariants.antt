use Rattle.std.proofs.Common.{◌≡◌, ◌+◌, ◌++◌, take}
use Rattle.std.specs.Prelude.{vec_len, vec_capacity}
use Rattle.bit_pack.proofs.room.push_all.Given as goal

abbrev pub invariant-loop-item : goal.invariant-loop-item
invariant-loop-item g l = record {
  items : l.out.items ≡ l.fn.out.items ++ take l.item-index l.items;
  len : vec_len l.out ≡ vec_len l.fn.out + l.item-index;
  capacity : vec_capacity l.out ≡ vec_capacity l.fn.out;
}
