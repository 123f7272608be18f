-- The rows that are left decide.
use Rattle.std.proofs.Common.{◌≡◌, drop}
use Rattle.merge_op.specs.Found.{rows_beside}
use Rattle.merge_op.specs.Merges.{any_changed}
use Rattle.merge_op.proofs.outcome.any_changed.Given as goal

abbrev pub invariant-loop-beside : goal.invariant-loop-beside
invariant-loop-beside l = any_changed l.op (rows_beside (drop l.beside-index l.matches)) ≡ any_changed l.op (rows_beside l.matches)
