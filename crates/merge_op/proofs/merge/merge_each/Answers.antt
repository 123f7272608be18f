use Rattle.std.proofs.Common.{◌+◌, drop, length, ap, ◌∙◌}
use Rattle.std.specs.List.{list_all, list_any}
use Rattle.op_types.specs.Bound.{is_merge_bound}
use Rattle.merge_op.specs.Found.{has_key, rows_beside}
use Rattle.merge_op.specs.Merges.{is_ambiguous, is_touched, merge_step}
use Rattle.merge_op.proofs.Keyings.{still_keyed}
use Rattle.merge_op.proofs.Least.{file_step, rows_are}
use Rattle.merge_op.proofs.FileSteps.{at_file, later_files, removed_step, rows_file, least_file, met_file}
use Rattle.merge_op.proofs.merge.merge_each.Goals as goal

pub loop-file-preserved : goal.loop-file-preserved
loop-file-preserved c =
    let l = c.loop-file in
    let op = c.args.op.now in
    let file = c.file-item.result in
    let rest = drop (l.file-index + 1) c.args.files.now in
    let at = at_file c.args.files.now l.file-index file c.loop-file-test.true c.file-item.is in
    let came = c.in_ok-merge_file.ensures in
    let t = is_touched op in
    let f = merge_step c.args.schema.now op in
    record {
      ambiguous = file_step (is_ambiguous op) file _ rest _ _ _ at (rows_are (is_ambiguous op) _ file.rows _ _ (ap rows_beside c.as_slice-matches.ensures.value ∙ c.in_ok-found.ensures.rows) c.least_of-ambiguous.ensures) l.invariant.ambiguous;
      removed = removed_step t file _ rest at _ _ _ came.removed l.invariant.removed;
      rows = rows_file t file _ rest at f _ _ _ came.rows l.invariant.rows;
      least = least_file t file _ rest at f _ _ _ came.least l.invariant.least;
      met = λ q. met_file (has_key op.keys q) file _ rest _ _ _ at (c.in_ok-found.ensures.met q) (l.invariant.met q);
      keyed = still_keyed op.keys op.source l.keyed c.match_rows.new.keyed (λ q. list_any (has_key op.keys q) file.rows) c.in_ok-found.ensures.met l.invariant.keyed;
      bound = later_files (λ f. list_all (λ r. is_merge_bound (length r) op) f.rows) file _ rest at l.invariant.bound;
    }
