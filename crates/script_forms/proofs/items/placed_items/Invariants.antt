use Rattle.std.proofs.Common.{length}
use Rattle.script_forms.proofs.ItemLines.{Led}
use Rattle.script_forms.proofs.items.placed_items.Given as goal

abbrev pub invariant-loop-rest : goal.invariant-loop-rest
invariant-loop-rest l = Led l.sessions l.line l.all.items l.rest

abbrev pub decreases-loop-rest : goal.decreases-loop-rest
decreases-loop-rest l = length l.rest
