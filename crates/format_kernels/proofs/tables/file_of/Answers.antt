use Rattle.std.proofs.Common.{◌≡◌, ◌∙◌, List, length, ap, arith}
use Rattle.row_base.specs.declared.row.Datum.{Datum}
use Rattle.format_kernels.proofs.Rows.{length-rows_of, rows_here}
use Rattle.format_kernels.proofs.tables.file_of.Goals as goal

pub write_file-requires-clause-few : goal.write_file-requires-clause-few
write_file-requires-clause-few c =
    let long : length c.in_ok-rows.rows ≡ c.args.count = ap (λ (rows : List (List Datum)). length rows) c.in_ok-rows.ensures ∙ length-rows_of c.args.table c.args.count in
    omega (arith, long)

pub write_file-requires-clause-fits : goal.write_file-requires-clause-fits
write_file-requires-clause-fits c = rows_here c.args.table c.args.count c.in_ok-schema.schema c.in_ok-rows.rows c.in_ok-schema.ensures c.in_ok-rows.ensures
