use Rattle.std.proofs.Common.{◌≡◌, ◌++◌}
use Rattle.std.specs.List.{flat_map}
use Rattle.txn_machine.specs.Plain.{rows_in}
use Rattle.txn_machine.proofs.plain.rows_of_paths.Given as goal

abbrev pub invariant-loop-path : goal.invariant-loop-path
invariant-loop-path l = l.rows ++ flat_map (rows_in l.files) l.path-iterator.rest.items ≡ flat_map (rows_in l.files) l.fn.paths.items
