-- The rows that are left fit where all do.
use Rattle.std.proofs.Common.{◌≡◌}
use Rattle.script_text.specs.Places.{fit_table}
use Rattle.script_text.proofs.entry.fit_table.Given as goal

abbrev pub invariant-loop-row : goal.invariant-loop-row
invariant-loop-row l = fit_table l.script l.row-iterator ≡ fit_table l.script l.rows
