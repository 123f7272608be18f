use Rattle.std.proofs.Common.{◌≡◌, ◌+◌, ◌-◌, ◌*◌, ◌^◌, ◌<◌, ◌≤◌, length, drop}
use Rattle.thrift_compact.specs.Varints.{varint}
use Rattle.thrift_compact.proofs.VarintLemmas.{after}
use Rattle.thrift_compact.proofs.parts.read_varint.Given as goal

abbrev pub invariant-loop-i : goal.invariant-loop-i
invariant-loop-i l = record {
  seen : l.at + l.i ≤ length l.bytes;
  below : l.number < 2 ^ (7 * l.i);
  means : after l.i l.number (varint (10 - l.i) (drop (l.at + l.i) l.bytes)) ≡ varint 10 (drop l.at l.bytes);
}
