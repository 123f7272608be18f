-- The rows that are left are short where all are.
use Rattle.std.proofs.Common.{◌≡◌}
use Rattle.std.specs.List.{list_all}
use Rattle.script_forms.specs.Limits.{is_short_datum}
use Rattle.script_forms.proofs.limits.are_rows_short.Given as goal

abbrev pub invariant-loop-row : goal.invariant-loop-row
invariant-loop-row l = list_all (λ r. list_all is_short_datum r) l.row-iterator ≡ list_all (λ r. list_all is_short_datum r) l.rows
