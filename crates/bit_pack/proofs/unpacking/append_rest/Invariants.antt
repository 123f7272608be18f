use Rattle.std.proofs.Common.{◌≡◌, ◌+◌, ◌-◌, ◌++◌}
use Rattle.std.specs.Prelude.{vec_len, vec_capacity}
use Rattle.bit_pack.specs.Numbers.{number_in, fields}
use Rattle.bit_pack.proofs.unpacking.append_rest.Given as goal

abbrev pub invariant-loop-place : goal.invariant-loop-place
invariant-loop-place l = record {
  items : l.out.items ≡ l.fn.out.items ++ fields l.width (number_in l.bytes) l.first (l.place - l.first);
  len : vec_len l.out ≡ vec_len l.fn.out + (l.place - l.first);
  capacity : vec_capacity l.out ≡ vec_capacity l.fn.out;
}
