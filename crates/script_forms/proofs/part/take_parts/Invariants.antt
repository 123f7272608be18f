-- What was read so far completes what is read.
use Rattle.std.proofs.Common.{length, map}
use Rattle.script_grammar.specs.Shape.{read}
use Rattle.script_grammar.proofs.Loop.{Led}
use Rattle.script_forms.proofs.part.take_parts.Given as goal

abbrev pub invariant-loop-tail : goal.invariant-loop-tail
invariant-loop-tail g l = Led (read g.P.Part.shape) l.tokens (map g.P.Part.value l.all.items) l.rest

abbrev pub decreases-loop-tail : goal.decreases-loop-tail
decreases-loop-tail g l = length l.rest
