use Rattle.std.proofs.Common.{◌≡◌, length, []}
use Rattle.script_grammar.specs.Shape.{read}
use Rattle.script_forms.specs.Lines.{row}
use Rattle.script_grammar.proofs.Loop.{Led}
use Rattle.script_forms.proofs.line.rows.Given as goal

abbrev pub invariant-loop-tail : goal.invariant-loop-tail
invariant-loop-tail l = record { led : Led (read row) l.tokens l.all l.rest; empty : l.data.items ≡ [] }

abbrev pub decreases-loop-tail : goal.decreases-loop-tail
decreases-loop-tail l = length l.rest
