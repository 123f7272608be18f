use Rattle.txn_machine.specs.Txn.{IsReady}
use Rattle.statement_tests.proofs.statements.turns.Given as goal

abbrev pub invariant-turns : goal.invariant-turns
invariant-turns l = IsReady l.txn
