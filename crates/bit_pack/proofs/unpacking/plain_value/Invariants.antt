use Rattle.std.proofs.Common.{◌≡◌, ◌*◌, ◌/◌, ◌%◌, ◌^◌}
use Rattle.bit_pack.specs.Numbers.{number_in}
use Rattle.bit_pack.proofs.unpacking.plain_value.Given as goal

abbrev pub invariant-loop-bit : goal.invariant-loop-bit
invariant-loop-bit l = l.value ≡ number_in l.bytes / 2 ^ (l.place * l.width) % 2 ^ l.bit
