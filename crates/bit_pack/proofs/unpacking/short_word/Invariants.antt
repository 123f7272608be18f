use Rattle.std.proofs.Common.{◌≡◌, take}
use Rattle.bit_pack.specs.Numbers.{number_in}
use Rattle.bit_pack.proofs.unpacking.short_word.Given as goal

abbrev pub invariant-loop-i : goal.invariant-loop-i
invariant-loop-i l = l.word ≡ number_in (take l.i l.bytes)
