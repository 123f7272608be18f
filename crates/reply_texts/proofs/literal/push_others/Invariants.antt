-- The data so far are written, each behind a comma.
use Rattle.std.proofs.Common.{◌≡◌, ◌++◌, take}
use Rattle.std.specs.List.{flat_map}
use Rattle.reply_texts.specs.Literals.{behind_comma}
use Rattle.reply_texts.proofs.literal.push_others.Given as goal

abbrev pub invariant-loop-datum : goal.invariant-loop-datum
invariant-loop-datum l = l.out ≡ l.initial.out ++ flat_map behind_comma (take l.datum-index l.others)
