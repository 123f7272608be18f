-- The rest after what was seen gives what the whole gives.
use Rattle.std.proofs.Common.{◌≡◌, [], take, drop}
use Rattle.row_base.specs.Schema.{first_after, repeats_name}
use Rattle.statement_checks.proofs.table.check_names.Given as goal

abbrev pub invariant-loop-i : goal.invariant-loop-i
invariant-loop-i l = first_after repeats_name (take l.i l.columns) (drop l.i l.columns) ≡ first_after repeats_name [] l.columns
