use Rattle.std.proofs.Common.{◌≡◌, take}
use Rattle.row_base.proofs.text.copy_texts.Given as goal

-- what was copied is the front of what is to be copied
abbrev pub invariant-loop-text : goal.invariant-loop-text
invariant-loop-text l = l.copies.items ≡ take l.text-index l.texts
