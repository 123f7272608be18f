use Rattle.std.proofs.Common.{sym, ◌∙◌}
use Rattle.dml_ops.proofs.Widths.{rows_bound}
use Rattle.change_tests.proofs.changes_of_files.change.Goals as goal

pub change_file-requires : goal.change_file-requires
change_file-requires c = rows_bound 2 c.args.op.now c.in_ok-rows.rows (sym c.are_wide.ensures ∙ c.if-are_wide.true) c.requires
