-- The bytes so far are written.
use Rattle.std.proofs.Common.{◌≡◌, ◌++◌, take}
use Rattle.std.specs.List.{flat_map}
use Rattle.reply_texts.specs.Literals.{escaped}
use Rattle.reply_texts.proofs.literal.push_each_escaped.Given as goal

abbrev pub invariant-loop-b : goal.invariant-loop-b
invariant-loop-b l = l.out ≡ l.initial.out ++ flat_map escaped (take l.b-index l.text)
