use Rattle.std.proofs.Common.{◌≡◌, drop}
use Rattle.txn_machine.specs.Plain.{rows_in}
use Rattle.txn_machine.proofs.plain.rows_under.Given as goal

abbrev pub invariant-loop-file : goal.invariant-loop-file
invariant-loop-file l = rows_in (drop l.file-index l.files) l.path ≡ rows_in l.files l.path
