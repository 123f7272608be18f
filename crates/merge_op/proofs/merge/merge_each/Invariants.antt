-- What came of the files so far, before what comes of those that are left, is what comes of all; those left are bound, and
-- once their keys are met too, all are.
use Rattle.std.proofs.Common.{◌≡◌, ◌++◌, List, drop, map, length, true}
use Rattle.std.specs.BTreeMap.{get}
use Rattle.std.specs.Prelude.{filter, option_map}
use Rattle.std.specs.List.{list_all, list_any}
use Rattle.row_base.specs.RowOrder.{row_cmp}
use Rattle.row_base.specs.declared.row.Datum.{Datum}
use Rattle.op_types.specs.Bound.{is_merge_bound}
use Rattle.dml_ops.specs.Outcomes.{rows_of, least_of, lesser, lesser_by}
use Rattle.merge_op.specs.Found.{IsKeyed, has_key, met_by}
use Rattle.merge_op.specs.Merges.{itself, least_where, is_ambiguous, merge_step, is_touched, rows_in}
use Rattle.merge_op.proofs.merge.merge_each.Given as goal

abbrev pub invariant-loop-file : goal.invariant-loop-file
invariant-loop-file l = record {
  ambiguous : lesser_by itself (option_map (λ r. r.now) l.ambiguous) (least_where (is_ambiguous l.op) (rows_in (drop l.file-index l.files))) ≡ least_where (is_ambiguous l.op) (rows_in l.files);
  removed : l.removed.items ++ map (λ f. f.path) (filter (is_touched l.op) (drop l.file-index l.files)) ≡ map (λ f. f.path) (filter (is_touched l.op) l.files);
  rows : l.gathered.rows ++ rows_of (merge_step l.schema l.op) (rows_in (filter (is_touched l.op) (drop l.file-index l.files))) ≡ rows_of (merge_step l.schema l.op) (rows_in (filter (is_touched l.op) l.files));
  least : lesser l.gathered.least (least_of (merge_step l.schema l.op) (rows_in (filter (is_touched l.op) (drop l.file-index l.files)))) ≡ least_of (merge_step l.schema l.op) (rows_in (filter (is_touched l.op) l.files));
  met : (q : List Datum) → met_by (list_any (has_key l.op.keys q) (rows_in (drop l.file-index l.files))) (get row_cmp l.keyed q) ≡ met_by (list_any (has_key l.op.keys q) (rows_in l.files)) (get row_cmp l.fn.keyed q);
  keyed : IsKeyed l.op.keys l.op.source l.keyed;
  bound : list_all (λ f. list_all (λ r. is_merge_bound (length r) l.op) f.rows) (drop l.file-index l.files) ≡ true;
}
