use Rattle.std.proofs.Common.{length}
use Rattle.script_grammar.specs.Shape.{read}
use Rattle.script_grammar.specs.Shape.{a_datum}
use Rattle.script_grammar.proofs.Loop.{Led}
use Rattle.script_forms.proofs.line.literals.Given as goal

abbrev pub invariant-loop-tail : goal.invariant-loop-tail
invariant-loop-tail l = Led (read a_datum) l.tokens l.all.items l.rest

abbrev pub decreases-loop-tail : goal.decreases-loop-tail
decreases-loop-tail l = length l.rest
