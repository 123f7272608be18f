-- what was copied is the front of what is to be copied
use Rattle.std.proofs.Common.{◌≡◌, take}
use Rattle.json_lines.proofs.copy.ItemsTryCopy.try_copy.Given as goal

abbrev pub invariant-loop-item : goal.invariant-loop-item
invariant-loop-item g l = l.items.items ≡ take l.item-index l.self
