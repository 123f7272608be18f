use Rattle.std.proofs.Common.{◌∙◌, ap, List, length}
use Rattle.std.specs.List.{list_all}
use Rattle.row_base.specs.declared.row.ScannedFile.{ScannedFile}
use Rattle.op_types.specs.Bound.{is_merge_bound}
use Rattle.merge_op.proofs.Widths.{files_bound, source_keyed}
use Rattle.merge_op.proofs.merge.merge_files.Goals as goal

pub merge_scanned-requires-clause-bound : goal.merge_scanned-requires-clause-bound
merge_scanned-requires-clause-bound c =
    ap (λ (fs : List ScannedFile). list_all (λ f. list_all (λ r. is_merge_bound (length r) c.args.op.now) f.rows) fs) c.as_slice.ensures.value
    ∙ files_bound (length c.args.schema.now.columns) c.args.op.now c.args.files.items c.requires.op c.requires.rows

pub merge_scanned-requires-clause-source : goal.merge_scanned-requires-clause-source
merge_scanned-requires-clause-source c = source_keyed (length c.args.schema.now.columns) c.args.op.now c.requires.op
