use Rattle.std.proofs.Common.{◌≡◌, ℕ, ◌<◌, ◌*◌, ◌^◌, ◌++◌, length, take}
use Rattle.thrift_compact.specs.Writing.{varint_of}
use Rattle.thrift_compact.proofs.appender.push_varint.Given as goal

-- what is written and the varint of what is left are the whole
abbrev pub invariant-loop-rest : goal.invariant-loop-rest
invariant-loop-rest l = record {
  whole : (most : ℕ) × (0 < most) × (l.rest < 2 ^ (7 * most)) × (l.out.items ++ varint_of most l.rest ≡ l.fn.out.items ++ varint_of 10 l.number);
  kept : take (length l.fn.out.items) l.out.items ≡ l.fn.out.items;
}

abbrev pub decreases-loop-rest : goal.decreases-loop-rest
decreases-loop-rest l = l.rest
