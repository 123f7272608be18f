use Rattle.std.proofs.Common.{◌≡◌, ℕ, ◌<◌, ◌≤◌, length, get_or, take}
use Rattle.bit_pack.specs.Hybrid.{varint_number}
use Rattle.bit_pack.proofs.hybrid.read_header.Given as goal

abbrev pub invariant-loop-i : goal.invariant-loop-i
invariant-loop-i l = record {
  seen : l.i ≤ length l.bytes;
  goes_on : (k : ℕ) → k < l.i → 128 ≤ get_or l.bytes k 0;
  means : l.number ≡ varint_number (take l.i l.bytes);
}
