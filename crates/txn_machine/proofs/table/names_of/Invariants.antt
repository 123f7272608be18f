use Rattle.std.proofs.Common.{◌≡◌, ◌++◌, drop}
use Rattle.statement_calls.specs.Answered.{names_of}
use Rattle.txn_machine.proofs.table.names_of.Given as goal

abbrev pub invariant-loop-column : goal.invariant-loop-column
invariant-loop-column l = l.names.items ++ names_of (drop l.column-index l.columns) ≡ names_of l.columns
