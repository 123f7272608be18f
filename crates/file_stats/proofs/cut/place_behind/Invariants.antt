use Rattle.std.proofs.Common.{◌≡◌, ◌++◌, take, drop}
use Rattle.std.specs.Fmt.{take_chars}
use Rattle.file_stats.proofs.cut.place_behind.Given as goal

-- the bytes so far, and the characters that are left of the rest
abbrev pub invariant-loop-i : goal.invariant-loop-i
invariant-loop-i l = take l.i l.bytes ++ take_chars l.left (drop l.i l.bytes) ≡ take_chars l.count l.bytes
