use Rattle.std.proofs.Common.{length}
use Rattle.script_grammar.specs.Shape.{read}
use Rattle.script_text.specs.Lines.{column}
use Rattle.script_grammar.proofs.Loop.{Led}
use Rattle.script_text.proofs.line.columns.Given as goal

abbrev pub invariant-loop-tail : goal.invariant-loop-tail
invariant-loop-tail l = Led (read column) l.tokens l.all.items l.rest

abbrev pub decreases-loop-tail : goal.decreases-loop-tail
decreases-loop-tail l = length l.rest
