use Rattle.std.proofs.Common.{length}
use Rattle.script_tokens.proofs.Lines.{Led}
use Rattle.script_tokens.proofs.line.tokens_of.Given as goal

abbrev pub invariant-loop-rest : goal.invariant-loop-rest
invariant-loop-rest l = Led l.line l.value l.all.items l.rest

abbrev pub decreases-loop-rest : goal.decreases-loop-rest
decreases-loop-rest l = length l.rest
